-- Words below 2^32 in texts.
use Rattle.std.proofs.Common.{◌≡◌, ◌∙◌, ℕ, ◌+◌, ◌-◌, ◌<◌, ◌^◌, Bool, true, false, cond, codes, refl, ap, arith}
use Rattle.std.specs.Prelude.{nat_le}
use Rattle.std.proofs.Math.Nat.{mod-eq_of_lt}
use Rattle.std.proofs.lemmas.Bool.{le-leb, leb-true, leb-false, lt-leb}
use Rattle.word_rows.specs.Words.{word}
use Rattle.report_text.specs.Text.{magnitude, sign}
use Rattle.narrow_words.specs.Text.{widened, narrow_magnitude, narrow_sign}
use Rattle.narrow_words.specs.Laws.{NarrowWordsAreSigned}

module _ (w : ℕ) (small : w < 2 ^ 32) where
  wrapped : word (w + (2 ^ 64 - 2 ^ 32)) ≡ w + (2 ^ 64 - 2 ^ 32)
  wrapped = mod-eq_of_lt (omega (arith, small))

  up : nat_le w (2 ^ 31) ≡ true → nat_le w (2 ^ 63) ≡ true
  up e = let below = leb-true w (2 ^ 31) e in le-leb w (2 ^ 63) (omega (arith, below))

  down : nat_le w (2 ^ 31) ≡ false → nat_le (w + (2 ^ 64 - 2 ^ 32)) (2 ^ 63) ≡ false
  down e = let above = leb-false w (2 ^ 31) e in lt-leb (w + (2 ^ 64 - 2 ^ 32)) (2 ^ 63) (omega (arith, above))

  one_magnitude : magnitude (widened w) ≡ narrow_magnitude w
  one_magnitude = by (nat_le w (2 ^ 31)) refl
    where
      by : (b : Bool) → nat_le w (2 ^ 31) ≡ b → magnitude (cond b w (word (w + (2 ^ 64 - 2 ^ 32)))) ≡ cond b w (2 ^ 32 - w)
      by true e = ap (λ (b : Bool). cond b w (2 ^ 64 - w)) (up e)
      by false e =
          ap magnitude wrapped
          ∙ ap (λ (b : Bool). cond b (w + (2 ^ 64 - 2 ^ 32)) (2 ^ 64 - (w + (2 ^ 64 - 2 ^ 32)))) (down e)
          ∙ omega (arith, small)

  one_sign : sign (widened w) ≡ narrow_sign w
  one_sign = by (nat_le w (2 ^ 31)) refl
    where
      by : (b : Bool) → nat_le w (2 ^ 31) ≡ b → sign (cond b w (word (w + (2 ^ 64 - 2 ^ 32)))) ≡ cond b (codes "+") (codes "-")
      by true e = ap (λ (b : Bool). cond b (codes "+") (codes "-")) (up e)
      by false e = ap sign wrapped ∙ ap (λ (b : Bool). cond b (codes "+") (codes "-")) (down e)

pub narrow_words_signed : NarrowWordsAreSigned
narrow_words_signed = record { magnitudes = one_magnitude; signs = one_sign }
