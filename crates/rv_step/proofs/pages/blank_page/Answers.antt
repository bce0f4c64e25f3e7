use Rattle.std.proofs.Common.{◌≡◌, ℕ, ◌<◌, ◌≤◌, replicate, get_or, arith, inl, inr, ◌⊎◌, ap, ◌∙◌}
use Rattle.std.proofs.lemmas.List.{get_or-replicate, get_or_past, length-replicate}
use Rattle.rv_step.proofs.pages.blank_page.Goals as goal

zeros : (n k : ℕ) → get_or {A = ℕ} (replicate n 0) k 0 ≡ 0
zeros n k =
    let inside_or_past : (k < n) ⊎ (n ≤ k) = grind arith in
    elim inside_or_past [
      | inl inside ↦ get_or-replicate {A = ℕ} n k 0 0 inside
      | inr past ↦ get_or_past {X = ℕ} (replicate n 0) k 0 (simp length-replicate past)
    ]

pub returns : goal.returns
returns c k = ap (λ (bytes : _). get_or bytes k 0) c.in_ok-new.ensures.ok ∙ zeros 4096 k
