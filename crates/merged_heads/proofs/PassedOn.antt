-- An edge from a parent that assigns nothing passes the states on as they are.
use Rattle.std.proofs.Common.{◌≡◌, ℕ, ◌<◌, ◌↔◌, List, [], sym, ◌∙◌}
use Rattle.map_modules.proofs.Lemmas.{apply-identity}
use Rattle.affine_prog.specs.declared.Program.{Program}
use Rattle.affine_prog.specs.Programs.{IsWellFormed}
use Rattle.affine_prog.specs.Spans.{IsStateAt}
use Rattle.merged_heads.specs.declared.Merging.{Merging}
use Rattle.merged_heads.specs.Merges.{IsParent, IsMergedTable}
use Rattle.merged_heads.proofs.Along.{no_choice, open_row}
use Rattle.merged_heads.proofs.Pushed.{merged_comes, merged_goes}

pub passed_on : (program : Program) (table : Merging) → IsWellFormed program → IsMergedTable program table → (u v : ℕ) → v < program.nodes → IsParent program table v u []
    → (state : List ℕ) → (IsStateAt program v state ↔ IsStateAt program u state)
passed_on program table w m u v below p state = (
  λ at.
      let c = merged_comes program table w m u v [] below p at.start state at.path in
      let same : state ≡ c.before = c.state ∙ apply-identity c.before (open_row program at.start u c.before c.path) in
      record { start = at.start; is_start = at.is_start; path = rw same c.path },
  λ at. record {
    start = at.start;
    is_start = at.is_start;
    path = merged_goes program table w m u v [] p at.start state
        (record { words = []; before = state; choice = no_choice; path = at.path; state = sym (apply-identity state (open_row program at.start u state at.path)) });
  },
)
