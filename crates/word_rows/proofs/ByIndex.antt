-- Rows that are given word by word.
use Rattle.std.proofs.Common.{◌≡◌, ◌≢◌, ℕ, ◌+◌, ◌*◌, ◌<◌, List, length, get_or, sym, ◌∙◌}
use Rattle.std.specs.Prelude.{Option, None, Some, IfSome}
use Rattle.std.proofs.lemmas.Grind.{same_number_lists}
use Rattle.word_rows.specs.Words.{word}
use Rattle.word_rows.specs.Rows.{words_of, plus, times, lead}
use Rattle.word_rows.proofs.Laws.{length-wrapped_plus, length-wrapped_times, get_or-wrapped_plus, get_or-wrapped_times, lead_from_index}

-- the list whose words are the wrapped sums
pub plus_from_index : (c : ℕ) (xs ys zs : List ℕ) → length xs ≡ length ys → length zs ≡ length xs
    → ((k : ℕ) → k < length zs → get_or zs k 0 ≡ word (get_or xs k 0 + c * get_or ys k 0))
    → zs ≡ words_of (plus c xs ys)
plus_from_index c xs ys zs same long each =
    same_number_lists _ _ (long ∙ sym (length-wrapped_plus c xs ys same))
    (λ k h. each k h ∙ sym (get_or-wrapped_plus c xs ys k same))

-- the list whose words are the wrapped multiples
pub times_from_index : (c : ℕ) (xs zs : List ℕ) → length zs ≡ length xs
    → ((k : ℕ) → k < length zs → get_or zs k 0 ≡ word (c * get_or xs k 0)) → zs ≡ words_of (times c xs)
times_from_index c xs zs long each =
    same_number_lists _ _ (long ∙ sym (length-wrapped_times c xs)) (λ k h. each k h ∙ sym (get_or-wrapped_times c xs k))

-- a first position whose word isn't 0 is the lead
pub lead_from_search : (xs : List ℕ) (r : Option ℕ) → IfSome r (λ k. k < length xs)
    → IfSome r (λ k. get_or xs k 0 ≢ 0) → IfSome r (λ k. (i : ℕ) → i < k → get_or xs i 0 ≡ 0)
    → IfSome r (λ k. k ≡ lead xs)
lead_from_search xs None within here before = within
lead_from_search xs (Some k) within here before = sym (lead_from_index xs k within here before)
