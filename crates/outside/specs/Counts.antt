-- Counts of faults. A count stays at 2^64 - 1 once it is there.
--
--   top                  2^64 - 1
--   HasRisen old new     the count rose: the new one is above the old one, or stands at the top
--   NeverFalls old new   the new count is no less than the old one, and an old count at the top stays
--   one_more n           the count after one more fault
use Rattle.std.specs.Prelude.{◌≡◌, ℕ, ◌+◌, ◌-◌, ◌^◌, ◌<◌, ◌≤◌, ◌⊎◌, min}

abbrev pub top : ℕ
top = 2 ^ 64 - 1

abbrev pub HasRisen : ℕ → ℕ → Type 0
HasRisen old new = (old < new) ⊎ (new ≡ top)

pub record NeverFalls (old new : ℕ) : Type 0 where
  pub least : old ≤ new
  pub stays_at_top : old ≡ top → new ≡ top

abbrev pub one_more : ℕ → ℕ
one_more n = min (n + 1) top
