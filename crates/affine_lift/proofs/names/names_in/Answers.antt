use Rattle.std.proofs.Common.{◌≡◌, length, ap, arith}
use Rattle.std.proofs.lemmas.List.Splits.{length-slice_split}
use Rattle.std.proofs.lemmas.Slice.Zip.{AllZip-long}
use Rattle.numeral_read.specs.Lists.{is_comma}
use Rattle.affine_lift.specs.Tracking.{NamesBy}
use Rattle.affine_lift.proofs.ItemsNamed.{length-texts}
use Rattle.affine_lift.proofs.names.names_in.Goals as goal
use Rattle.affine_lift.proofs.names.names_in.Goals.{After-drop-items-2}

-- there is a name for each item
each : (c : After-drop-items-2) → length c.in_ok-names.names ≡ length c.in_ok-items.items.items
each c =
    let zip = AllZip-long (NamesBy c.args.width c.as_slice-symbols.result.now) _ c.in_ok-names.names c.in_ok-names.ensures.names.named in
    let texts = length-texts c.deref.result.now in
    let same = ap length c.deref.ensures.value in
    omega arith

pub returns-clause-some : goal.returns-clause-some
returns-clause-some c =
    let names = each c in
    let parts = length-slice_split is_comma c.args.text.now in
    let items = ap length c.in_ok-items.ensures in
    let texts = length-texts c.in_ok-items.items.items in
    omega arith

pub returns-clause-few : goal.returns-clause-few
returns-clause-few c =
    let names = each c in
    omega (arith, names, c.if-len-gt16.false, c.len.ensures, c.in_ok-items.items.ok)
