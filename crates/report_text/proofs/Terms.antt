-- The terms of a row, a word at a time.
use Rattle.std.proofs.Common.{◌≡◌, ℕ, zero, suc, ◌<◌, ◌==◌, Bool, ◌&&◌, List, [], ◌∷◌, ◌++◌, ◌∙◌, length, drop, get_or, refl, sym, arith}
use Rattle.report_text.specs.declared.names.Name.{Name}
use Rattle.report_text.specs.Text.{word_text, terms_text}

terms_text-no_words : (leads : Bool) (names : List Name) → terms_text leads names [] ≡ []
terms_text-no_words leads [] = refl
terms_text-no_words leads (name ∷ names) = refl

-- from position i on, the word there comes first
pub terms_text-drop : (leads : Bool) (names : List Name) (row : List ℕ) (i : ℕ) (d : Name) → i < length names →
    terms_text leads (drop i names) (drop i row) ≡ word_text leads (get_or names i d) (get_or row i 0) ++ terms_text (leads && (get_or row i 0 == 0)) (drop (suc i) names) (drop (suc i) row)
terms_text-drop leads [] row i d below = absurd (omega arith)
terms_text-drop leads (n ∷ names) [] zero d below = sym (terms_text-no_words _ names)
terms_text-drop leads (n ∷ names) [] (suc i) d below = terms_text-no_words _ _ ∙ sym (terms_text-no_words _ _)
terms_text-drop leads (n ∷ names) (w ∷ row) zero d below = refl
terms_text-drop leads (n ∷ names) (w ∷ row) (suc i) d below = terms_text-drop leads names row i d (omega arith)
