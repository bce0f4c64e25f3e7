-- Where a word is no address, it names a symbol or nothing.
use Rattle.std.proofs.Common.{◌≡◌, ℕ, List, Option, None, Some, sym, ◌∙◌}
use Rattle.std.specs.Prelude.{MatchOption}
use Rattle.elf_image.specs.declared.symbol.Symbol.{Symbol}
use Rattle.numeral_read.specs.Reading.{IsAddress}
use Rattle.affine_lift.specs.Tracking.{IsPlace, address, symbol, value_of}

pub place_named : (symbols : List Symbol) (text : List ℕ) (o : Option ℕ) → ((p : ℕ) → IsAddress text p → ⊥) → o ≡ value_of symbols text
    → MatchOption o ((p : ℕ) → IsPlace symbols text p → ⊥) (IsPlace symbols text)
place_named symbols text (Some p) no_address is = symbol no_address (sym is)
place_named symbols text None no_address is = λ p place. never p place
  where
    never : (p : ℕ) → IsPlace symbols text p → ⊥
    never p (address of) = no_address p of
    never p (symbol none e) = let bad : None ≡ Some p = is ∙ e in cc
