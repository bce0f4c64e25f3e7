-- The unit of a file, by the first byte of its flags.
use Rattle.std.proofs.Common.{◌≡◌, ℕ, ◌+◌, ◌*◌, ◌%◌, ◌==◌, not, List, bit_and, get_or, drop, if◌then◌else◌, sym, ap, ◌∙◌, arith}
use Rattle.std.proofs.lemmas.List.{get_or-drop}
use Rattle.std.proofs.lemmas.Nat.{and_mask}
use Rattle.elf_image.specs.Fields.{e_flags, has_bit, little_at, unit_of}

lowest_bit : (b m : ℕ) → bit_and (b + 256 * m) 1 ≡ bit_and b 1
lowest_bit b m =
    let same : (b + 256 * m) % 2 ≡ b % 2 = omega arith in
    and_mask (b + 256 * m) 1 ∙ same ∙ sym (and_mask b 1)

first_flags : (bytes : List ℕ) → bit_and (e_flags bytes) 1 ≡ bit_and (get_or bytes 48 0) 1
unfolding little_at
first_flags bytes =
    lowest_bit (get_or (drop 48 bytes) 0 0) _ ∙ ap (λ b. bit_and b 1) (get_or-drop 48 bytes 0 0)

pub unit_by_first : (bytes : List ℕ) → unit_of bytes ≡ (if has_bit 0x1 (get_or bytes 48 0) then 2 else 4)
unit_by_first bytes = ap (λ n. if not (n == 0) then 2 else 4) (first_flags bytes)
