-- Order, names and bases behind lines are those of the place where they bring the reader.
use Rattle.std.proofs.Common.{◌≡◌, ℕ, true, List, [], ◌∷◌, refl, sym, subst, ap, ◌∙◌}
use Rattle.report_text.specs.declared.names.Name.{Name}
use Rattle.report_lines.specs.Lines.{Line, Proc, Cert, At, NoRows, Unreached, Rel, is_relation}
use Rattle.report_lines.specs.Relations.{AreKnown as AreKnownTerms}
use Rattle.report_read.specs.declared.draft.Draft.{Draft}
use Rattle.report_read.specs.Drafts.{IsOrderedAt, entry_at}
use Rattle.report_read.specs.Drafts.{AreKnown as AreKnownBy}
use Rattle.report_read.specs.Judging.{AreRowsFine, AreRowsWrong}
use Rattle.wrong_lines.specs.Lines.{AreNamesKnown, AreNotReduced, AreReduced, AreRows, IsInOrder, may_follow, point_number, last_procedure}
use Rattle.wrong_lines.proofs.Places.{judged_at, place_behind}

pub in_order : (b : Draft) (past : List Line) (rows : List (List ℕ)) (line : Line) → may_follow b.version past line ≡ true
    → IsOrderedAt b (judged_at past rows line) line → IsInOrder b.version b.tracked.names past line
in_order b [] rows (Proc entry) may h = λ e. absurd cc
in_order b (NoRows ∷ past) rows (Proc entry) may h = λ e. h
in_order b (Unreached ∷ past) rows (Proc entry) may h = λ e. h
in_order b (Rel terms c ∷ past) rows (Proc entry) may h = λ e. h
in_order b (line ∷ past) rows (Proc entry) may h = λ e. absurd cc
in_order b (Proc last ∷ past) rows (Cert name word) may h = h
in_order b (Cert last certified ∷ past) rows (Cert name word) may h = h
in_order b past rows (Cert name word) may h = absurd cc
in_order b (Proc last ∷ past) rows (At address) may h = (λ e. h, λ e. absurd cc)
in_order b (Cert last certified ∷ past) rows (At address) may h = (λ e. h, λ e. absurd cc)
in_order b (NoRows ∷ past) rows (At address) may h = (λ e. absurd cc, λ e. h)
in_order b (Unreached ∷ past) rows (At address) may h = (λ e. absurd cc, λ e. h)
in_order b (Rel terms c ∷ past) rows (At address) may h = (λ e. absurd cc, λ e. h)
in_order b past rows (At address) may h = absurd cc
in_order b (At address ∷ past) rows (Rel terms c) may h = h
in_order b (Rel last constant ∷ past) rows (Rel terms c) may h = h
in_order b past rows (Rel terms c) may h = absurd cc
in_order b past rows line may h = tt

pub ordered_there : (b : Draft) (past : List Line) (rows : List (List ℕ)) (line : Line) → may_follow b.version past line ≡ true
    → IsInOrder b.version b.tracked.names past line → IsOrderedAt b (judged_at past rows line) line
ordered_there b (NoRows ∷ past) rows (Proc entry) may h = h refl
ordered_there b (Unreached ∷ past) rows (Proc entry) may h = h refl
ordered_there b (Rel terms c ∷ past) rows (Proc entry) may h = h refl
ordered_there b [] rows (Proc entry) may h = tt
ordered_there b (line ∷ past) rows (Proc entry) may h = tt
ordered_there b (Proc last ∷ past) rows (Cert name word) may h = h
ordered_there b (Cert last certified ∷ past) rows (Cert name word) may h = h
ordered_there b past rows (Cert name word) may h = absurd cc
ordered_there b (Proc last ∷ past) rows (At address) may h = h.0 refl
ordered_there b (Cert last certified ∷ past) rows (At address) may h = h.0 refl
ordered_there b (NoRows ∷ past) rows (At address) may h = h.1 refl
ordered_there b (Unreached ∷ past) rows (At address) may h = h.1 refl
ordered_there b (Rel terms c ∷ past) rows (At address) may h = h.1 refl
ordered_there b past rows (At address) may h = absurd cc
ordered_there b (At address ∷ past) rows (Rel terms c) may h = h
ordered_there b (Rel last constant ∷ past) rows (Rel terms c) may h = h
ordered_there b past rows (Rel terms c) may h = absurd cc
ordered_there b [] rows line may h = tt
ordered_there b (last ∷ past) rows line may h = tt

-- where a relation may stand, the place is in the procedure of the line that came last
pub entry_there : (version : ℕ) (past : List Line) (rows : List (List ℕ)) (line : Line) → is_relation line ≡ true
    → may_follow version past line ≡ true → entry_at (place_behind past rows) ≡ last_procedure past
entry_there version (At address ∷ past) rows (Rel terms c) e may = refl
entry_there version (Rel last constant ∷ past) rows (Rel terms c) e may = refl
entry_there version past rows (Rel terms c) e may = absurd cc
entry_there version past rows line e may = absurd cc

pub known_over : (b : Draft) (past : List Line) (rows : List (List ℕ)) (line : Line) → b.place ≡ judged_at past rows line
    → may_follow b.version past line ≡ true → AreKnownBy b line → AreNamesKnown b.tracked.names past line
known_over b past rows (Rel terms c) e may h =
    subst (λ (p : ℕ). AreKnownTerms b.tracked.names p terms) (ap entry_at e ∙ entry_there b.version past rows (Rel terms c) refl may) h
known_over b past rows (Cert name word) e may h = h
known_over b past rows line e may h = tt

pub known_there : (b : Draft) (past : List Line) (rows : List (List ℕ)) (line : Line) → b.place ≡ judged_at past rows line
    → may_follow b.version past line ≡ true → AreNamesKnown b.tracked.names past line → AreKnownBy b line
known_there b past rows (Rel terms c) e may h =
    subst (λ (p : ℕ). AreKnownTerms b.tracked.names p terms) (sym (ap entry_at e ∙ entry_there b.version past rows (Rel terms c) refl may)) h
known_there b past rows (Cert name word) e may h = h
known_there b past rows line e may h = tt

pub reduced_over : (names : List Name) (past : List Line) (rows : List (List ℕ)) → AreRows names past rows
    → AreRowsFine (place_behind past rows) → AreReduced names past
reduced_over names (Rel terms c ∷ past) rows are fine = λ e. (rows, are, fine)
reduced_over names [] rows are fine = λ e. absurd cc
reduced_over names (line ∷ past) rows are fine = λ e. absurd cc

pub wrong_over : (names : List Name) (past : List Line) (rows : List (List ℕ)) (n : ℕ) → AreRows names past rows
    → AreRowsWrong (place_behind past rows) n → (n ≡ point_number past) × AreNotReduced names past
wrong_over names (Rel terms c ∷ past) rows n are wrong = (wrong.0, (refl, (rows, are, wrong.1)))
wrong_over names [] rows n are wrong = absurd wrong
wrong_over names (line ∷ past) rows n are wrong = absurd wrong
