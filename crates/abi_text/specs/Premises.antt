-- What the text for people tells of premises.
--
--   one_text, many_text premise    what is assumed at one point, and at several
--   sentence premise count         the one or the other
--   addresses n assumed            the addresses of the premise of this number
--   are_told why count             they are told where there are at most four, or where all are asked for
--   premise_line why premise assumed
--                                  a line with the count, none where it is 0
--   each_line why premises assumed
--                                  the lines of some premises
--   premise_lines why assumed      those of all, in the order of `number_of`
use Rattle.std.specs.Prelude.{ℕ, ◌==◌, nat_lt, ◌||◌, Bool, true, false, List, [], ◌∷◌, ◌++◌, codes, if◌then◌else◌}
use Rattle.number_text.specs.Numerals.{dec, hex}
use Rattle.abi_premises.specs.declared.premises.Premise.{Premise}
use Rattle.abi_premises.specs.declared.premises.Premise.TheVariants.{Stores, Globals, Ecalls, Opaques, Foreigns, Tails, Tables, NoReturn, Stack, Above, Partial, Exits}
use Rattle.abi_premises.specs.declared.premises.Assumption.{Assumption}
use Rattle.abi_lines.specs.Lines.{nl, number_of, counted}

abbrev pub one_text : Premise → List ℕ
one_text Stores = codes "store at an address that isn't known: it spares saved words"
one_text Globals = codes "store at a fixed address: it spares saved words"
one_text Ecalls = codes "call of the environment: it spares saved words"
one_text Opaques = codes "store by an opaque instruction: it spares saved words"
one_text Foreigns = codes "call of code that isn't in sight: it comes back and keeps the convention"
one_text Tails = codes "tail call of code that isn't in sight: it goes home and keeps the convention"
one_text Tables = codes "jump by a table: it goes to a target that is taken for it"
one_text NoReturn = codes "call that is taken not to return"
one_text Stack = codes "call with sp set by the program itself: its stack is free"
one_text Above = codes "call with sp above its word of the entry: its stack is free"
one_text Partial = codes "point that isn't followed: what is behind it keeps the convention"
one_text Exits = codes "return by another word in ra: nothing is told from there on"

abbrev pub many_text : Premise → List ℕ
many_text Stores = codes "stores at addresses that aren't known: they spare saved words"
many_text Globals = codes "stores at fixed addresses: they spare saved words"
many_text Ecalls = codes "calls of the environment: they spare saved words"
many_text Opaques = codes "stores by opaque instructions: they spare saved words"
many_text Foreigns = codes "calls of code that isn't in sight: they come back and keep the convention"
many_text Tails = codes "tail calls of code that isn't in sight: they go home and keep the convention"
many_text Tables = codes "jumps by tables: they go to targets that are taken for them"
many_text NoReturn = codes "calls that are taken not to return"
many_text Stack = codes "calls with sp set by the program itself: their stack is free"
many_text Above = codes "calls with sp above its word of the entry: their stack is free"
many_text Partial = codes "points that aren't followed: what is behind them keeps the convention"
many_text Exits = codes "returns by another word in ra: nothing is told from there on"

abbrev pub sentence : Premise → ℕ → List ℕ
sentence premise count = if count == 1 then one_text premise else many_text premise

abbrev pub address_if : Bool → ℕ → List ℕ
address_if true a = codes " " ++ hex a
address_if false a = []

abbrev pub addresses : ℕ → List Assumption → List ℕ
addresses n [] = []
addresses n (one ∷ rest) = address_if (number_of one.premise == n) one.address ++ addresses n rest

abbrev pub are_told : Bool → ℕ → Bool
are_told why count = why || nat_lt count 5

abbrev pub told_addresses : Bool → ℕ → List Assumption → List ℕ
told_addresses true n assumed = codes " " ++ addresses n assumed
told_addresses false n assumed = []

abbrev pub counted_line : Bool → Premise → ℕ → List Assumption → List ℕ
counted_line why premise count assumed =
    if count == 0 then []
    else codes "  " ++ dec count ++ codes " " ++ sentence premise count ++ told_addresses (are_told why count) (number_of premise) assumed ++ nl

abbrev pub premise_line : Bool → Premise → List Assumption → List ℕ
premise_line why premise assumed = counted_line why premise (counted (number_of premise) 0 assumed) assumed

abbrev pub each_line : Bool → List Premise → List Assumption → List ℕ
each_line why [] assumed = []
each_line why (premise ∷ rest) assumed = premise_line why premise assumed ++ each_line why rest assumed

abbrev pub all_premises : List Premise
all_premises =
    Stores ∷ Globals ∷ Ecalls ∷ Opaques ∷ Foreigns ∷ Tails ∷ Tables ∷ NoReturn ∷ Stack ∷ Above ∷ Partial ∷ Exits ∷ []

unfoldable pub premise_lines : Bool → List Assumption → List ℕ
premise_lines why assumed = each_line why all_premises assumed
