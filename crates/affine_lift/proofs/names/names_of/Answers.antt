use Rattle.std.proofs.lemmas.List.Elements.{All-push}
use Rattle.affine_lift.specs.Tracking.{item, IsNameBy, scope_by}
use Rattle.affine_lift.proofs.ItemsNamed.{names_more, refused_at}
use Rattle.affine_lift.proofs.names.names_of.Goals as goal

pub returns-in-Err-clause-names : goal.returns-in-Err-clause-names
returns-in-Err-clause-names c =
    let scope = scope_by c.args.width c.args.symbols.now c.args.procedures.now in
    item (refused_at scope c.args.items.now c.loop-i.i _ c.loop-i.names c.in-Err.refusal c.loop-i-test.true
    c.loop-i.invariant.names (rw c.as_slice.ensures at c.in-Err.ensures.name))

pub loop-i-preserved : goal.loop-i-preserved
loop-i-preserved c =
    let scope = scope_by c.args.width c.args.symbols.now c.args.procedures.now in
    record {
      names = rw c.in_ok-push-in-Ok.ensures.ok (names_more scope c.args.items.now c.loop-i.i _ c.loop-i.names c.in-Ok.name
          c.loop-i-test.true c.loop-i.invariant.names (rw c.as_slice.ensures at c.in-Ok.ensures.name));
      allowed = rw c.in_ok-push-in-Ok.ensures.ok
          (All-push (IsNameBy c.args.width) c.loop-i.names c.in-Ok.name c.loop-i.invariant.allowed c.in-Ok.ensures.allowed);
    }
