-- The rows with marks, one after another.
use Rattle.std.proofs.Common.{◌≡◌, ℕ, ◌<◌, ◌+◌, inl, inr, List, [], ◌∷◌, Contains, length, take, get_or, sym, subst, ◌⊎◌}
use Rattle.std.proofs.lemmas.List.Elements.{Contains-append_left, Contains-append_right, Contains-append_cases}
use Rattle.lead_basis.specs.Marks.{IsUnmarked}
use Rattle.row_engine.specs.Turns.{AreChanged, IsKept}
use Rattle.row_engine.proofs.Members.{first_in, only_in, earlier_taken, now_taken, earlier_or_now}

pub changed_none : (marks : List ℕ) → AreChanged [] marks []
changed_none marks = record { all = λ v h. inl h; only = λ v h. h }

pub changed_more : (rows : List (List ℕ)) (marks : List ℕ) (i : ℕ) (x : List ℕ) (old new : List (List ℕ)) → i < length rows → x ≡ get_or rows i x
    → AreChanged (take i rows) marks old → IsKept x marks old new → AreChanged (take (i + 1) rows) marks new
changed_more rows marks i x old new below is so_far (inl kept) = record {
  all = λ v h. elim (earlier_or_now rows i x below is v h) [
    | inl k ↦ subst (λ y. Contains y v ⊎ IsUnmarked marks v) (sym kept.1) (so_far.all v k)
    | inr e ↦ inr (rw e kept.0)
  ];
  only = λ v h. earlier_taken rows i x below is v (so_far.only v (subst (λ y. Contains y v) kept.1 h));
}
changed_more rows marks i x old new below is so_far (inr e) = record {
  all = λ v h. elim (earlier_or_now rows i x below is v h) [
    | inl k ↦ elim (so_far.all v k) [ inl l ↦ inl (rw e (Contains-append_left old (x ∷ []) v l)) | inr l ↦ inr l ]
    | inr same ↦ inl (rw (e, same) (Contains-append_right old (x ∷ []) x (first_in x [])))
  ];
  only = λ v h. elim (Contains-append_cases old (x ∷ []) v (subst (λ y. Contains y v) e h)) [
    | inl k ↦ earlier_taken rows i x below is v (so_far.only v k)
    | inr k ↦ let same = only_in x v k in rw same (now_taken rows i x below is)
  ];
}
