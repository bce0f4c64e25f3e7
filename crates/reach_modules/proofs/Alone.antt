-- Words alone in a row.
use Rattle.std.proofs.Common.{◌≡◌, ℕ, ◌<◌, List, set, get_or, slice_index, replicate, ap, sym, subst, ◌∙◌}
use Rattle.std.proofs.lemmas.List.{get_or-set_same, get_or-set_other, set-get_or}
use Rattle.word_rows.specs.Words.{word}
use Rattle.word_rows.specs.Rows.{IsRow}
use Rattle.word_rows.proofs.Laws.{get_or-words_of, get_or-zeros, IsRow-zeros, IsRow-set}
use Rattle.reach_modules.specs.Made.{alone}

pub own_word : (v : List ℕ) (k : ℕ) → IsRow 17 v → word (slice_index v k) ≡ slice_index v k
own_word v k row = sym (get_or-words_of v k) ∙ ap (λ ys. get_or ys k 0) row.words

pub alone_is_row : (k w : ℕ) → word w ≡ w → IsRow 17 (alone k w)
alone_is_row k w e = subst (λ x. IsRow 17 (set (replicate 17 0) k x)) e (IsRow-set 17 k w (replicate 17 0) (IsRow-zeros 17))

pub alone_at : (k w : ℕ) → k < 17 → slice_index (alone k w) k ≡ w
alone_at k w below = get_or-set_same (replicate 17 0) k w 0 below

pub alone_elsewhere : (k w i : ℕ) → (i ≡ k → ⊥) → slice_index (alone k w) i ≡ 0
alone_elsewhere k w i ne = get_or-set_other (replicate 17 0) k i w 0 ne ∙ get_or-zeros 17 i

pub zeros_alone : (k : ℕ) → alone k 0 ≡ replicate 17 0
zeros_alone k = ap (set (replicate 17 0) k) (sym (get_or-zeros 17 k)) ∙ set-get_or (replicate 17 0) k 0
