-- What is told of each name, one at a time.
use Rattle.std.proofs.Common.{◌≡◌, ℕ, zero, suc, ◌<◌, List, [], ◌∷◌, ◌++◌, length, drop, get_or, refl, arith}
use Rattle.report_text.specs.declared.names.Name.{Name}
use Rattle.refute_text.specs.Text.{each_text}

-- from position i on, the name there comes first
pub each_text-drop : (text : Name → ℕ → List ℕ) (names : List Name) (words : List ℕ) (i : ℕ) (d : Name) → i < length names → i < length words →
    each_text text (drop i names) (drop i words) ≡ text (get_or names i d) (get_or words i 0) ++ each_text text (drop (suc i) names) (drop (suc i) words)
each_text-drop text [] words i d below within = absurd (omega arith)
each_text-drop text (n ∷ names) [] i d below within = absurd (omega arith)
each_text-drop text (n ∷ names) (w ∷ words) zero d below within = refl
each_text-drop text (n ∷ names) (w ∷ words) (suc i) d below within = each_text-drop text names words i d (omega arith) (omega arith)
