-- The names of registers are plain, and are read as the registers that they name.
use Rattle.std.proofs.Common.{◌≡◌, ℕ, ◌<◌, ◌+◌, ◌==◌, suc, zero, Bool, true, false, List, Option, Some, None, refl, arith}
use Rattle.std.specs.Prelude.{find}
use Rattle.std.specs.List.{AllPass, list_all, range_with_len}
use Rattle.std.proofs.lemmas.List.Folds.{list_all_at}
use Rattle.std.proofs.lemmas.List.FromFn.{get_or-range_with_len, length-range_with_len}
use Rattle.std.proofs.lemmas.List.Sums.{AllPass-from_list_all}
use Rattle.rv_decode.specs.Registers.{is_name_byte, is_spelling, name_of_register, number_of_register, register_of}

-- a test that holds along the numbers below n holds of each
holds_below : (p : ℕ → Bool) (n r : ℕ) → list_all p (range_with_len 0 n) ≡ true → r < n → p r ≡ true
holds_below p n r all small = grind
    (arith, list_all_at p (range_with_len 0 n) r 0, get_or-range_with_len 0 n r 0, length-range_with_len 0 n)

is_read_as : ℕ → Option ℕ → Bool
is_read_as r None = false
is_read_as r (Some s) = s == r

read_as : (r : ℕ) (o : Option ℕ) → is_read_as r o ≡ true → o ≡ Some r
unfolding is_read_as
read_as r None same = cc
read_as r (Some s) same = grind arith

all_are_read : list_all (λ r. is_read_as r (register_of (name_of_register r))) (range_with_len 0 32) ≡ true
unfolding register_of name_of_register number_of_register is_read_as
all_are_read = refl

pub register_of-name : (r : ℕ) → r < 32 → register_of (name_of_register r) ≡ Some r
register_of-name r small =
    read_as r _ (holds_below (λ s. is_read_as s (register_of (name_of_register s))) 32 r all_are_read small)

all_are_plain : list_all (λ r. list_all is_name_byte (name_of_register r)) (range_with_len 0 32) ≡ true
unfolding name_of_register
all_are_plain = refl

pub name_is_plain : (r : ℕ) → r < 32 → AllPass is_name_byte (name_of_register r)
name_is_plain r small = AllPass-from_list_all is_name_byte _
    (holds_below (λ s. list_all is_name_byte (name_of_register s)) 32 r all_are_plain small)

found_in_range : (p : ℕ → Bool) (a n r : ℕ) → find p (range_with_len a n) ≡ Some r → r < a + n
found_in_range p a zero r found = absurd (cc)
found_in_range p a (suc n) r found = grind (arith, found_in_range p (a + 1) n r)

pub register_of-range : (text : List ℕ) (r : ℕ) → register_of text ≡ Some r → r < 32
unfolding register_of
register_of-range text r found = found_in_range (is_spelling text) 0 32 r found
