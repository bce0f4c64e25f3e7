-- What it says of an address that a segment holds it.
use Rattle.std.proofs.Common.{◌≡◌, ℕ, ◌+◌, ◌<◌, ◌≤◌, true, arith}
use Rattle.std.proofs.lemmas.Grind.{common_steps}
use Rattle.elf_image.specs.Segments.{holds, holds_code, shares_address}
use Rattle.elf_image.specs.declared.segment.Segment.{Segment}

pub held : (s : Segment) (a : ℕ) → holds s a ≡ true → (s.address ≤ a) × (a < s.address + s.size)
held s a holds_it = grind (arith, common_steps)

-- where the segment holds code, it holds the four bytes
pub code_held : (s : Segment) (a b : ℕ) → holds_code s a ≡ true → a ≤ b → b < a + 4 → holds s b ≡ true
code_held s a b holds_it low high = grind (arith, common_steps)

pub code_ends : (s : Segment) (a : ℕ) → holds_code s a ≡ true → a + 4 ≤ s.address + s.size
code_ends s a holds_it = grind (arith, common_steps)

-- an address of two segments is shared
pub both_hold : (s t : Segment) (a : ℕ) → holds s a ≡ true → holds t a ≡ true → shares_address s t ≡ true
both_hold s t a first second = grind (arith, common_steps)
