-- The words of a module's members at one position.
use Rattle.std.proofs.Common.{◌≡◌, ℕ, ◌+◌, ◌*◌, ◌<◌, ◌≤◌, List, All, Contains, get_or, slice_index, replicate, ap, ap₂, sym, ◌∙◌, arith}
use Rattle.std.proofs.lemmas.List.Elements.{All-contains}
use Rattle.word_rows.specs.Words.{word}
use Rattle.word_rows.specs.Rows.{words_of, plus, times, lead, IsRow}
use Rattle.word_rows.proofs.Laws.{get_or-words_of, get_or-plus, get_or-times, get_or-zeros, get_or_before_lead, lead-after, IsRow-zeros, IsRow-plus, words_of-plus_first, words_of-plus_factor, plus-plus_same, plus-zero, words_of-times, times-plus, plus-plus_comm, plus-zeros_first}
use Rattle.row_modules.specs.Modules.{AreRows, IsCombination, IsModule}
use Rattle.row_modules.proofs.Laws.{module_least}

pub index_of_sum : (n c : ℕ) (v w : List ℕ) (k : ℕ) → IsRow n v → IsRow n w → slice_index (words_of (plus c v w)) k ≡ word (slice_index v k + c * slice_index w k)
index_of_sum n c v w k p q = get_or-words_of (plus c v w) k ∙ ap word (get_or-plus c v w k (p.width ∙ sym q.width))

pub index_of_multiple : (c : ℕ) (v : List ℕ) (k : ℕ) → slice_index (words_of (times c v)) k ≡ word (c * slice_index v k)
index_of_multiple c v k = get_or-words_of (times c v) k ∙ ap word (get_or-times c v k)

pub index_of_word : (n : ℕ) (v : List ℕ) (k : ℕ) → IsRow n v → slice_index v k ≡ word (slice_index v k)
index_of_word n v k p = ap (λ (x : List ℕ). get_or x k 0) (sym p.words) ∙ get_or-words_of v k

-- what was added is taken back
pub take_back : (n c d : ℕ) (v w : List ℕ) → IsRow n v → IsRow n w → word (c + d) ≡ 0 → words_of (plus c (words_of (plus d v w)) w) ≡ v
take_back n c d v w p q z =
    words_of-plus_first c (plus d v w) w ∙ ap words_of (plus-plus_same c d v w) ∙ sym (words_of-plus_factor (c + d) v w)
    ∙ ap (λ (x : ℕ). words_of (plus x v w)) z ∙ ap words_of (plus-zero v w (p.width ∙ sym q.width)) ∙ p.words

zeros_at : (n k : ℕ) → IsModule n (λ v. IsRow n v × (slice_index v k ≡ 0))
zeros_at n k = record {
  rows = λ v p. p.0;
  zero_row = (IsRow-zeros n, get_or-zeros n k);
  sum = λ c v w p q. (
    IsRow-plus n c v w p.0 q.0,
    index_of_sum n c v w k p.0 q.0 ∙ ap₂ (λ (x y : ℕ). word (x + c * y)) p.1 q.1 ∙ ap word (let z : 0 + c * 0 ≡ 0 = omega arith in z),
  );
}

-- where the generators are 0 at a position, so is their module
pub zero_at : (n k : ℕ) (P : List ℕ → Type 0) → AreRows n P → ((v : List ℕ) → P v → slice_index v k ≡ 0) → (v : List ℕ) → IsCombination n P v → slice_index v k ≡ 0
zero_at n k P rows z v m = (module_least n (λ x. IsRow n x × (slice_index x k ≡ 0)) (zeros_at n k) P (λ x p. (rows x p, z x p)) v m).1

-- rows whose leads are later are 0 up to the position
pub zero_to : (l : ℕ) (rows : List (List ℕ)) → All (λ r. l < lead r) rows → (k : ℕ) → k ≤ l → (v : List ℕ) → Contains rows v → slice_index v k ≡ 0
zero_to l rows later k le v h = get_or_before_lead v k (let b : l < lead v = All-contains (λ r. l < lead r) rows v later h in omega arith)

pub lead_above : (n l : ℕ) (v : List ℕ) → IsRow n v → l < n → ((k : ℕ) → k ≤ l → slice_index v k ≡ 0) → l < lead v
lead_above n l v row below zeros =
    let w = row.width in let h = lead-after v (l + 1) (omega arith) (λ k b. zeros k (omega arith)) in omega arith

-- k times a sum, less k times its first part
pub multiple_less : (n c k m : ℕ) (next own : List ℕ) → IsRow n next → IsRow n own → word (c + k) ≡ 0 → words_of (plus c (words_of (times k (words_of (plus m next own)))) next) ≡ words_of (times (k * m) own)
multiple_less n c k m next own p q z =
    let inner : words_of (times k (words_of (plus m next own))) ≡ words_of (plus (k * m) (times k next) own) = words_of-times k (plus m next own) ∙ ap words_of (times-plus k m next own) in
    let none : words_of (plus c (times k next) next) ≡ replicate n 0 =
    ap (λ (x : List ℕ). words_of (plus c x next)) (sym (plus-zeros_first k n next p.width)) ∙ ap words_of (plus-plus_same c k (replicate n 0) next) ∙ sym (words_of-plus_factor (c + k) (replicate n 0) next)
    ∙ ap (λ (x : ℕ). words_of (plus x (replicate n 0) next)) z ∙ ap words_of (plus-zero (replicate n 0) next ((IsRow-zeros n).width ∙ sym p.width)) ∙ (IsRow-zeros n).words in
    ap (λ (x : List ℕ). words_of (plus c x next)) inner ∙ words_of-plus_first c (plus (k * m) (times k next) own) next ∙ ap words_of (plus-plus_comm c (k * m) (times k next) own next)
    ∙ sym (words_of-plus_first (k * m) (plus c (times k next) next) own) ∙ ap (λ (x : List ℕ). words_of (plus (k * m) x own)) none ∙ ap words_of (plus-zeros_first (k * m) n own q.width)
