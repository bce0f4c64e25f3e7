-- A byte belongs to an instruction that begins close below it, or to none.
use Rattle.std.proofs.Common.{◌≡◌, ℕ, ◌+◌, ◌^◌, ◌<◌, ◌≤◌, Bool, true, false, ◌||◌, List, length, take, drop, get_or, All, sym, subst, ap, ◌∙◌, refl, arith}
use Rattle.std.specs.List.{list_any}
use Rattle.std.proofs.lemmas.Bool.{le-ltb}
use Rattle.std.proofs.lemmas.List.{get_or-drop, get_or-take, length-drop, length-take-le, take-append-drop}
use Rattle.std.proofs.lemmas.List.Folds.{list_any-append, list_any_none}
use Rattle.rv_step.specs.Effects.{distance}
use Rattle.run_watch.specs.declared.places.CodeAt.{CodeAt}
use Rattle.run_watch.specs.Judges.{holds_code}
use Rattle.run_watch.proofs.NearestCode.{Parts}

or_none : (a b : Bool) → b ≡ false → a || b ≡ a
or_none true b e = refl
or_none false b e = e

-- an instruction that begins above the byte has it only if addresses go round
above : (b a n : ℕ) → b < 2 ^ 64 → n ≤ b → b < a → n ≤ distance a b
above b a n fits room over = omega (arith, fits, room, over)

far_below : (b a n : ℕ) → b < 2 ^ 64 → a + n ≤ b → n ≤ distance a b
far_below b a n fits far = omega (arith, fits, far)

module _ (b longest : ℕ) (fits : b < 2 ^ 64) where
  has_not : (a : CodeAt) → a.length ≤ longest → longest ≤ distance a.address b → holds_code b a ≡ false
  has_not a short far = le-ltb _ _ (omega (arith, short, far))

  pub low_only : (code : List CodeAt) (n : ℕ) → All (λ a. a.length ≤ longest) code → longest ≤ b → Parts code b n
      → list_any (holds_code b) (take n code) ≡ list_any (holds_code b) code
  low_only code n short room parts =
      sym (ap (list_any (holds_code b)) (sym (take-append-drop n code))
      ∙ list_any-append (holds_code b) (take n code) (drop n code)
      ∙ or_none _ _ (list_any_none (holds_code b) (drop n code) (λ k d within.
      let inside : n + k < length code = omega (arith, length-drop n code, within) in
      let far = above b (get_or code (n + k) d).address longest fits room (parts.1 (n + k) d (omega arith) inside) in
      subst (λ x. holds_code b x ≡ false) (sym (get_or-drop n code k d))
      (has_not (get_or code (n + k) d) (short (n + k) d inside) far))))

  pub close_only : (code : List CodeAt) (below n : ℕ) → All (λ a. a.length ≤ longest) code → below + longest ≡ b → n ≤ length code
      → Parts code below n → list_any (holds_code b) (drop n code) ≡ list_any (holds_code b) code
  close_only code below n short is room parts =
      sym (ap (list_any (holds_code b)) (sym (take-append-drop n code))
      ∙ list_any-append (holds_code b) (take n code) (drop n code)
      ∙ ap (λ v. v || list_any (holds_code b) (drop n code)) (list_any_none (holds_code b) (take n code) (λ k d within.
      let low : k < n = omega (arith, length-take-le n code room, within) in
      let inside : k < length code = omega (arith, low, room) in
      let under = parts.0 k d (omega arith) low in
      let far = far_below b (get_or code k d).address longest fits (omega (arith, under, is)) in
      subst (λ x. holds_code b x ≡ false) (sym (get_or-take n code k d low)) (has_not (get_or code k d) (short k d inside) far))))
