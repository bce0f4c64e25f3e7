use Rattle.std.proofs.Common.{refl, sym, ◌∙◌}
use Rattle.refute_path.specs.EntryArenas.{IsJust, IsStartAt}
use Rattle.refute_path.proofs.Pushing.{on_ok}
use Rattle.refute_path.proofs.Admitting.{admits_less}
use Rattle.refute_path.proofs.Entered.{start_is, start_only, register_below_16}
use Rattle.refute_path.proofs.starts.start_with.Goals as goal

pub start_state-state-requires : goal.start_state-state-requires
start_state-state-requires g c = register_below_16 c.args.program.now.registers c.args.raised c.requires.register

pub offer_entry-requires-clause-proc : goal.offer_entry-requires-clause-proc
offer_entry-requires-clause-proc g c = c.requires.formed.start

pub offer_entry-requires-clause-came : goal.offer_entry-requires-clause-came
offer_entry-requires-clause-came g c = record { there = refl; is = start_is c.args.program.now c.args.raised c.start_state-state.result c.requires.register c.start_state-state.ensures }

pub returns : goal.returns
returns g c =
    let p = c.args.program.now in let items = c.args.items.now in on_ok c.offer_entry.result
    (admits_less p items c.args.entries.now c.args.bases.now.items c.offer_entry.new.entries c.offer_entry.new.bases.items (IsJust p.start c.start_state-state.result) (IsStartAt p c.args.raised)
    (λ q s h. (h.0, start_only p c.args.raised s h.1 ∙ sym c.start_state-state.ensures))) c.offer_entry.ensures
