use Rattle.std.proofs.Common.{rules, ◌≡◌, ◌/◌, sym, subst, arith}
use Rattle.word_rows.specs.Rows.{IsRow}
use Rattle.row_images.specs.Images.{images_of, AreImages}
use Rattle.row_images.proofs.Imaging.{are_images}
use Rattle.row_images.proofs.rows.images.Goals as goal

pub returns-clause-exact : goal.returns-clause-exact
returns-clause-exact g c constant =
    let k = g.row.N / 17 in let assigns = c.args.assigns.now in let v = c.args.row.now in
    let whole = c.requires.whole in let some = c.known.ensures.some in
    let listed : c.if-constant-ne0.images ≡ images_of k assigns v = search rules in
    subst (AreImages k assigns v) (sym listed) (are_images k (omega arith) assigns v c.requires.placed (subst (λ n. IsRow n v) whole c.known.ensures.row) constant)
