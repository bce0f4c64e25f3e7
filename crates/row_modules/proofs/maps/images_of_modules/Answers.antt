use Rattle.row_modules.proofs.Images.{image_in, image_out, image_within}
use Rattle.row_modules.proofs.maps.images_of_modules.Goals as goal

pub returns : goal.returns
returns g c = record {
  spanned = λ n m f l rows w. (image_out n m f l g.P.RowSet.member rows w, image_in n m f l g.P.RowSet.member rows w);
  within = λ n m f l. image_within n m f l g.P.RowSet.member g.Q.RowSet.member;
}
