use Rattle.std.proofs.Common.{set, ap, subst, ◌*◌, ◌+◌, ◌∙◌}
use Rattle.refute_path.specs.Tags.{IsSlotBy}
use Rattle.refute_path.proofs.Gaining.{opened_none, opened_some}
use Rattle.refute_path.proofs.openings.opening.Goals as goal

pub returns-in-None : goal.returns-in-None
returns-in-None c = rw c.in-None.is (opened_none c.args.registers c.args.slots c.extend_call-map.result c.identity.result c.extend_call-map.ensures.linear c.identity.ensures)

pub returns-in-Some : goal.returns-in-Some
returns-in-Some c =
    rw c.in-Some.is
    (opened_some c.args.registers c.args.slots c.in-Some.k c.requires.apart (subst (IsSlotBy c.args.slots) c.in-Some.is c.requires.slot) c.extend_call-map.result c.with.result c.add_scaled.new.self
    (opened_none c.args.registers c.args.slots c.extend_call-map.result c.identity.result c.extend_call-map.ensures.linear c.identity.ensures)
    (c.with.ensures ∙ ap (λ z. set z (17 * c.in-Some.k + 16) 1) c.zero.ensures) c.add_scaled.ensures)
