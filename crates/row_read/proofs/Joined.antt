-- Texts with a space between each two, cut behind one of them.
use Rattle.std.proofs.Common.{◌≡◌, ℕ, ◌+◌, ◌<◌, List, [], ◌∷◌, ◌++◌, append_assoc, length, take, drop, get_or, length-drop, refl, sym, ap, ◌∙◌, arith}
use Rattle.std.specs.List.{join_with_byte}
use Rattle.std.proofs.lemmas.List.{take_more, at_drop_more}

-- a text that is cut at a space is two
pub join_cut : (texts : List (List ℕ)) (word behind : List ℕ) → join_with_byte 32 (texts ++ (word ++ 32 ∷ behind) ∷ []) ≡ join_with_byte 32 (texts ++ word ∷ behind ∷ [])
join_cut [] word behind = refl
join_cut (x ∷ []) word behind = refl
join_cut (x ∷ y ∷ texts) word behind = ap (λ t. x ++ 32 ∷ t) (join_cut (y ∷ texts) word behind)

-- the last text stands behind the others and a space
pub join_last : (texts : List (List ℕ)) (word behind : List ℕ) → join_with_byte 32 (texts ++ word ∷ behind ∷ []) ≡ join_with_byte 32 (texts ++ word ∷ []) ++ 32 ∷ behind
join_last [] word behind = refl
join_last (x ∷ []) word behind = sym (append_assoc x (32 ∷ word) (32 ∷ behind))
join_last (x ∷ y ∷ texts) word behind =
    ap (λ t. x ++ 32 ∷ t) (join_last (y ∷ texts) word behind)
    ∙ sym (append_assoc x (32 ∷ join_with_byte 32 ((y ∷ texts) ++ word ∷ [])) (32 ∷ behind))

abbrev head_of : List (List ℕ) → List ℕ
head_of [] = []
head_of (word ∷ words) = word

-- the next of some words is taken
pub record IsNext (words : List (List ℕ)) (k : ℕ) (word : List ℕ) (more : List (List ℕ)) : Type 0 where
  pub within : k < length words
  pub taken : take (k + 1) words ≡ take k words ++ word ∷ []
  pub left : drop (k + 1) words ≡ more

pub take_next : (words : List (List ℕ)) (k : ℕ) (word : List ℕ) (more : List (List ℕ)) → drop k words ≡ word ∷ more → IsNext words k word more
take_next words k word more e =
    let lt : k < length words = omega (arith, length-drop k words, ap (λ (ws : List (List ℕ)). length ws) e) in
    let both : get_or words k [] ∷ drop (k + 1) words ≡ word ∷ more = sym (at_drop_more (λ (ws : List (List ℕ)). ws) words k [] lt) ∙ e in
    record {
      within = lt;
      taken = take_more words k [] lt ∙ ap (λ (w : List ℕ). take k words ++ w ∷ []) (ap head_of both);
      left = ap (drop 1) both;
    }
