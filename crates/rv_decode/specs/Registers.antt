-- The integer registers' names of the RISC-V ELF psABI ("Integer Register Convention").
--
--   register_names       the names in the order of the registers, `s0` for x8
--   register_numbers     `x0` to `x31`
--   name_of_register r   the name of register r
--   number_of_register r `x` and the number r
--   is_name_byte b       b is a lower-case letter or a digit
--   is_spelling text r   text is the name of register r, or its number, or `fp` for x8
--   register_of text     the register that text is a spelling of
use Rattle.std.specs.Prelude.{ℕ, Bool, ◌||◌, ◌&&◌, ◌==◌, List, [], ◌∷◌, Option, codes, slice_index_or, nat_le, find}
use Rattle.std.specs.List.{range_with_len}
use Rattle.std.specs.Str.{bytes_eq}

abbrev pub register_names : List (List ℕ)
register_names =
    codes "zero" ∷ codes "ra" ∷ codes "sp" ∷ codes "gp" ∷ codes "tp" ∷ codes "t0" ∷ codes "t1"
    ∷ codes "t2" ∷ codes "s0" ∷ codes "s1" ∷ codes "a0" ∷ codes "a1" ∷ codes "a2" ∷ codes "a3"
    ∷ codes "a4" ∷ codes "a5" ∷ codes "a6" ∷ codes "a7" ∷ codes "s2" ∷ codes "s3" ∷ codes "s4"
    ∷ codes "s5" ∷ codes "s6" ∷ codes "s7" ∷ codes "s8" ∷ codes "s9" ∷ codes "s10" ∷ codes "s11"
    ∷ codes "t3" ∷ codes "t4" ∷ codes "t5" ∷ codes "t6" ∷ []

abbrev pub register_numbers : List (List ℕ)
register_numbers =
    codes "x0" ∷ codes "x1" ∷ codes "x2" ∷ codes "x3" ∷ codes "x4" ∷ codes "x5" ∷ codes "x6"
    ∷ codes "x7" ∷ codes "x8" ∷ codes "x9" ∷ codes "x10" ∷ codes "x11" ∷ codes "x12" ∷ codes "x13"
    ∷ codes "x14" ∷ codes "x15" ∷ codes "x16" ∷ codes "x17" ∷ codes "x18" ∷ codes "x19"
    ∷ codes "x20" ∷ codes "x21" ∷ codes "x22" ∷ codes "x23" ∷ codes "x24" ∷ codes "x25"
    ∷ codes "x26" ∷ codes "x27" ∷ codes "x28" ∷ codes "x29" ∷ codes "x30" ∷ codes "x31" ∷ []

unfoldable pub name_of_register : ℕ → List ℕ
name_of_register r = slice_index_or register_names r []

unfoldable pub number_of_register : ℕ → List ℕ
number_of_register r = slice_index_or register_numbers r []

abbrev pub is_name_byte : ℕ → Bool
is_name_byte b = (nat_le 97 b && nat_le b 122) || (nat_le 48 b && nat_le b 57)

abbrev pub is_spelling : List ℕ → ℕ → Bool
is_spelling text r = bytes_eq text (name_of_register r) || bytes_eq text (number_of_register r)
    || (r == 8 && bytes_eq text (codes "fp"))

unfoldable pub register_of : List ℕ → Option ℕ
register_of text = find (is_spelling text) (range_with_len 0 32)
