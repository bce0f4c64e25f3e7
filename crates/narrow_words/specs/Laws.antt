-- Laws on narrow words.
--
--   NarrowWordsAreSigned   a word below 2^32 is written, through the word that sign-extends it, with its own sign and magnitude
use Rattle.std.specs.Prelude.{◌≡◌, ℕ, ◌<◌, ◌^◌}
use Rattle.report_text.specs.Text.{magnitude, sign}
use Rattle.narrow_words.specs.Text.{widened, narrow_magnitude, narrow_sign}

pub record NarrowWordsAreSigned : Type 0 where
  pub magnitudes : (w : ℕ) → w < 2 ^ 32 → magnitude (widened w) ≡ narrow_magnitude w
  pub signs : (w : ℕ) → w < 2 ^ 32 → sign (widened w) ≡ narrow_sign w
