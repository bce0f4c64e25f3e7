-- Fewer of the lowest bytes of a number.
use Rattle.std.proofs.Common.{◌≡◌, ℕ, zero, suc, ◌≤◌, ◌∷◌, take, refl, ap, arith}
use Rattle.byteorder.specs.Endian.{little_bytes}
use Rattle.std.specs.Int.{byte_at, bytes_low_first}

pub fewer_bytes : (i k w n : ℕ) → w ≤ k → take w (bytes_low_first i k n) ≡ bytes_low_first i w n
fewer_bytes i k zero n le = refl
fewer_bytes i zero (suc w) n le = absurd (omega arith)
fewer_bytes i (suc k) (suc w) n le = ap (λ bytes. byte_at i n ∷ bytes) (fewer_bytes (suc i) k w n (omega arith))

pub first_bytes : (w n : ℕ) → w ≤ 8 → take w (little_bytes 8 n) ≡ little_bytes w n
first_bytes w n le = fewer_bytes 0 8 w n le
