-- An item sets one register to one word, or none.
use Rattle.std.proofs.Common.{◌≡◌, ◌≢◌, ◌∙◌, ℕ, List, ◌∷◌, ◌++◌, Some, sym, ap, subst}
use Rattle.rv_decode.specs.Registers.{register_of}
use Rattle.start_registers.specs.Settings.{HasNoEquals, IsWordText, Sets}
use Rattle.start_registers.proofs.Cuts.{one_cut}
use Rattle.start_registers.proofs.NamesClean.{name_has_none}
use Rattle.start_registers.proofs.WordTexts.{one_word}

module _ (item name numeral : List ℕ) (split : item ≡ name ++ 61 ∷ numeral) (first : HasNoEquals name) where
  cut : (r w : ℕ) (is : Sets item r w) → (name ≡ is.name) × (numeral ≡ is.numeral)
  cut r w is =
      one_cut name numeral is.name is.numeral first (name_has_none is.name r is.register) (sym split ∙ is.item_is)

  pub no_register : ((r : ℕ) → register_of name ≡ Some r → r ≢ 0 → ⊥) → (r w : ℕ) → Sets item r w → ⊥
  no_register none r w is = none r (ap register_of (cut r w is).0 ∙ is.register) is.not_zero

  pub no_word : ((w : ℕ) → IsWordText numeral w → ⊥) → (r w : ℕ) → Sets item r w → ⊥
  no_word none r w is = none w (subst (λ (t : List ℕ). IsWordText t w) (sym (cut r w is).1) is.word)

pub one_setting : (item : List ℕ) (q r v w : ℕ) → Sets item q v → Sets item r w → (q ≡ r) × (v ≡ w)
one_setting item q r v w a b =
    let same = cut item a.name a.numeral a.item_is (name_has_none a.name q a.register) r w b in
    let both : Some q ≡ Some r = sym a.register ∙ ap register_of same.0 ∙ b.register in
    let registers : q ≡ r = cc in
    (registers, one_word b.numeral v w (subst (λ (t : List ℕ). IsWordText t v) same.1 a.word) b.word)
