use Rattle.row_modules.proofs.Images.{products_span, products_within}
use Rattle.row_modules.proofs.maps.products_of_modules.Goals as goal

pub returns : goal.returns
returns g c = record {
  spanned = λ n m k f b. products_span n m k f b g.P.RowSet.member g.Q.RowSet.member;
  within = λ n m k f b. products_within n m k f b g.P.RowSet.member g.Q.RowSet.member g.R.RowSet.member g.S.RowSet.member;
}
