-- A line that is right brings the reader to the place behind it.
use Rattle.std.proofs.Common.{◌≡◌, ℕ, true, List, [], ◌∷◌, ◌++◌, refl, ap}
use Rattle.report_text.specs.declared.names.Name.{Name}
use Rattle.report_lines.specs.Lines.{Line, Proc, Cert, At, NoRows, Unreached, Rel, End}
use Rattle.report_read.specs.declared.draft.Draft.{Draft}
use Rattle.report_read.specs.declared.draft.Place.{Place}
use Rattle.report_read.specs.Drafts.{BecomesAt}
use Rattle.wrong_lines.specs.Lines.{AreRows, may_follow, line_number}
use Rattle.wrong_lines.proofs.Places.{judged_at, place_behind}

-- rows that stand last with what a line adds
pub record Goes (names : List Name) (past : List Line) (line : Line) (place : Place) : Type 0 where
  pub rows : List (List ℕ)
  pub are : AreRows names (line ∷ past) rows
  pub place_is : place ≡ place_behind (line ∷ past) rows

abbrev place_of : Draft → Place
place_of d = d.place

pub goes : (b : Draft) (past : List Line) (rows : List (List ℕ)) (line : Line) (next : Draft) → AreRows b.tracked.names past rows
    → may_follow b.version past line ≡ true → BecomesAt (line_number past) b (judged_at past rows line) line next
    → Goes b.tracked.names past line next.place
goes b past rows (Proc entry) next are may h = record { rows = []; are = refl; place_is = ap place_of h }
goes b (Proc last ∷ past) rows (Cert name word) next are may h = record { rows = []; are = refl; place_is = ap place_of h.4 }
goes b (Cert last certified ∷ past) rows (Cert name word) next are may h = record { rows = []; are = refl; place_is = ap place_of h.4 }
goes b past rows (Cert name word) next are may h = absurd cc
goes b (Proc last ∷ past) rows (At address) next are may h = record { rows = []; are = refl; place_is = ap place_of h }
goes b (Cert last certified ∷ past) rows (At address) next are may h = record { rows = []; are = refl; place_is = ap place_of h }
goes b (NoRows ∷ past) rows (At address) next are may h = record { rows = []; are = refl; place_is = ap place_of h }
goes b (Unreached ∷ past) rows (At address) next are may h = record { rows = []; are = refl; place_is = ap place_of h }
goes b (Rel terms c ∷ past) rows (At address) next are may h = record { rows = []; are = refl; place_is = ap place_of h }
goes b past rows (At address) next are may h = absurd cc
goes b (At address ∷ past) rows NoRows next are may h = record { rows = []; are = refl; place_is = ap place_of h }
goes b past rows NoRows next are may h = absurd cc
goes b (At address ∷ past) rows Unreached next are may h = record { rows = []; are = refl; place_is = ap place_of h }
goes b past rows Unreached next are may h = absurd cc
goes b (At address ∷ past) rows (Rel terms c) next are may h =
    record { rows = h.0 ∷ []; are = ([], h.0, refl, h.1, refl); place_is = ap place_of h.2 }
goes b (Rel last constant ∷ past) rows (Rel terms c) next are may h =
    record { rows = rows ++ h.0 ∷ []; are = (rows, h.0, are, h.1, refl); place_is = ap place_of h.2 }
goes b past rows (Rel terms c) next are may h = absurd cc
goes b past rows End next are may h = record { rows = []; are = refl; place_is = ap place_of h }
