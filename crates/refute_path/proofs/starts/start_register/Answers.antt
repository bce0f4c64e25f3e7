use Rattle.std.proofs.Common.{Some, sym, ◌∙◌}
use Rattle.std.proofs.lemmas.Bool.{false≢true}
use Rattle.refute_path.specs.EntryArenas.{IsStartAt}
use Rattle.refute_path.proofs.Admitting.{admits_none}
use Rattle.refute_path.proofs.starts.start_register.Goals as goal

pub returns-then-not-has : goal.returns-then-not-has
returns-then-not-has g c =
    let p = c.args.program.now in let items = c.args.items.now in admits_none p items c.args.entries.now c.args.bases.now.items (IsStartAt p (Some c.args.k)) c.requires.arena
    (λ q s (there, start). false≢true (sym c.if-not-has.true ∙ c.has.ensures ∙ start.0))

pub start_with-requires-clause-register : goal.start_with-requires-clause-register
start_with-requires-clause-register g c = (c.requires.below, sym c.has.ensures ∙ c.if-not-has.false)
