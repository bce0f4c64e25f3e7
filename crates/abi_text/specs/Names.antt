-- Names in the text for people.
--
--   label symbols p            the name of the first symbol with this value, or the address where there is none
--   blanks                     32 blanks
--   padding width n            as many as a text of length n needs to be as wide; at most 32
--   padded width text          it, with them behind it
--   wider width n              the greater of the two, 32 at most
--   widest symbols width routines
--                              as wide as the longest label of these routines, this width at least and 32 at most
--   is_next r q                the saved registers r and q follow one another, as s1 and s2 do
--   close last begun            the end of a run of registers, where one is begun
--   turned last begun r         what the register r adds behind the last one
--   runs last begun registers   registers, each behind a blank; of those that follow one another the first and the last, as ` s1-s11`
use Rattle.std.specs.Prelude.{ℕ, ◌+◌, ◌-◌, ◌==◌, nat_lt, nat_le, ◌&&◌, ◌||◌, Bool, true, false, List, [], ◌∷◌, ◌++◌, codes, length, take, if◌then◌else◌}
use Rattle.elf_image.specs.declared.symbol.Symbol.{Symbol}
use Rattle.number_text.specs.Numerals.{hex}
use Rattle.abi_routines.specs.declared.finding.Routine.{Routine}
use Rattle.abi_lines.specs.Lines.{register_text}

abbrev pub label : List Symbol → ℕ → List ℕ
label [] p = hex p
label (symbol ∷ rest) p = if symbol.value == p then symbol.name else label rest p

abbrev pub blanks : List ℕ
blanks = codes "                                "

abbrev pub padding : ℕ → ℕ → List ℕ
padding width n = if nat_lt n width then take (width - n) blanks else []

abbrev pub padded : ℕ → List ℕ → List ℕ
padded width text = text ++ padding width (length text)

abbrev pub wider : ℕ → ℕ → ℕ
wider width n = if nat_lt width n then (if nat_lt n 32 then n else 32) else width

abbrev pub widest : List Symbol → ℕ → List Routine → ℕ
widest symbols width [] = width
widest symbols width (routine ∷ rest) = widest symbols (wider width (length (label symbols routine.procedure))) rest

abbrev pub is_next : ℕ → ℕ → Bool
is_next r q = r == 8 && q == 9 || (r == 9 && q == 18 || (nat_le 18 r && nat_lt r 27 && q == r + 1))

abbrev pub close : ℕ → Bool → List ℕ
close last true = codes "-" ++ register_text last
close last false = []

abbrev pub turned : ℕ → Bool → ℕ → List ℕ
turned last begun r = if is_next last r then [] else close last begun ++ codes " " ++ register_text r

abbrev pub runs : ℕ → Bool → List ℕ → List ℕ
runs last begun [] = close last begun
runs last begun (r ∷ rest) = turned last begun r ++ runs r (is_next last r) rest
