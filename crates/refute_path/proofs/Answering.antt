-- What the found pair, or that there is none, answers.
use Rattle.std.proofs.Common.{◌≡◌, ℕ, List, Bool, true, false, refl, ap, sym, subst}
use Rattle.std.proofs.lemmas.Bool.{false≢true}
use Rattle.word_rows.specs.Rows.{IsRow}
use Rattle.row_modules.specs.Positions.{with_constant, IsZeroOutside}
use Rattle.affine_prog.specs.declared.Program.{Program}
use Rattle.affine_prog.specs.Programs.{owner_of, visible_in, IsWellFormed}
use Rattle.affine_prog.specs.Relations.{Holds as HoldsAt}
use Rattle.refute_path.specs.declared.derivations.Break.{Break}
use Rattle.refute_path.specs.declared.answer.Refuted.{Refuted}
use Rattle.refute_path.specs.declared.answer.Refuted.TheVariants.{Holds, Broken}
use Rattle.refute_path.specs.declared.Placed.{Placed}
use Rattle.refute_path.specs.declared.Entry.{Entry}
use Rattle.refute_path.specs.Tags.{AreMade, IsClosed}
use Rattle.refute_path.specs.Entries.{AreCame, IsClosedOver, Vanishing, Breaks}
use Rattle.refute_path.specs.Writing.{IsBreakAt}
use Rattle.refute_path.specs.Derivations.{IsBreak}
use Rattle.refute_path.specs.Answers.{IsAnswer}
use Rattle.refute_path.proofs.Derived.{break_is_broken}
use Rattle.refute_path.proofs.Deciding.{vanishing_holds}

abbrev breaks : Refuted → Bool
breaks Holds = false
breaks (Broken b) = true

pub holds_answered : (program : Program) (u : ℕ) (a : List ℕ) → HoldsAt program u a → IsAnswer program u a Holds
holds_answered program u a h = record { refuted = h; exact = (λ e. h, λ e. refl) }

pub break_answered : (program : Program) (u : ℕ) (a : List ℕ) (b : Break) → IsBreak program u a b → IsAnswer program u a (Broken b)
break_answered program u a b broken = record {
  refuted = broken;
  exact = (
    λ e. absurd (false≢true (sym (ap breaks e))),
    λ h.
        let found = break_is_broken program u a b broken in
        absurd (found.not_zero (h.zero found.reached.start found.state found.reached.is_start found.reached.path)),
  );
}

-- the found pair, where lists are read more than once
pub none_answered : (program : Program) → IsWellFormed program → (items first second : List Placed) (entries read : List Entry) (node proc : ℕ) (row : List ℕ)
    → first ≡ items → second ≡ items → read ≡ entries → proc ≡ owner_of program node → AreMade program items → IsClosed program items
    → AreCame program first entries → IsClosedOver program first entries → IsRow 17 row → IsZeroOutside (with_constant (visible_in program (owner_of program node))) row
    → Vanishing second read node proc row → IsAnswer program node row Holds
none_answered program formed items first second entries read node proc row a b c d made closed came over is_row hidden none =
    holds_answered program node row
    (vanishing_holds program items entries formed made (subst (λ l. AreCame program l entries) a came) closed (subst (λ l. IsClosedOver program l entries) a over) node row is_row hidden
    (subst (λ l. Vanishing l entries node (owner_of program node) row) b (subst (λ l. Vanishing second l node (owner_of program node) row) c (subst (λ q. Vanishing second read node q row) d none))))

pub pair_answered : (program : Program) (items searched written : List Placed) (entries read told : List Entry) (node proc : ℕ) (row : List ℕ) (pair : ℕ × ℕ) (b : Break)
    → searched ≡ items → written ≡ items → read ≡ entries → told ≡ entries → proc ≡ owner_of program node
    → Breaks searched read node proc row pair → IsBreakAt program written told row pair b → IsAnswer program node row (Broken b)
pair_answered program items searched written entries read told node proc row pair b s w r t o breaks at =
    break_answered program node row b
    (subst (λ l. IsBreakAt program items l row pair b) t (subst (λ l. IsBreakAt program l told row pair b) w at) node
    (subst (λ l. Breaks l entries node (owner_of program node) row pair) s (subst (λ l. Breaks searched l node (owner_of program node) row pair) r (subst (λ q. Breaks searched read node q row pair) o breaks))))
