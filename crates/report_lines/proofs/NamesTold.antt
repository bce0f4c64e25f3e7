-- A name's text tells the name.
use Rattle.std.proofs.Common.{◌≡◌, ◌≢◌, ℕ, ◌<◌, ◌≤◌, ◌^◌, true, false, eqb, List, [], ◌∷◌, ◌++◌, length, drop, codes, Option, Some, None, append_assoc, refl, sym, subst, ap, ◌∙◌, arith}
use Rattle.std.proofs.lemmas.Bool.{ne_eqb}
use Rattle.std.proofs.lemmas.List.{length-append}
use Rattle.std.proofs.lemmas.List.Elements.{All-append, All-from_recursion, All-weaker}
use Rattle.std.specs.Char.{digit_value}
use Rattle.number_text.specs.Numerals.{dec, hex}
use Rattle.std.specs.Fmt.{digits}
use Rattle.std.specs.Str.Parse.{digits_value}
use Rattle.std.proofs.lemmas.Fmt.{decimal_injective, digits_is_IsNumeral}
use Rattle.rv_decode.specs.Registers.{is_name_byte, name_of_register, number_of_register, register_of}
use Rattle.rv_decode.proofs.RegisterNames.{register_of-name, name_is_plain}
use Rattle.report_text.specs.declared.names.Name.{Name}
use Rattle.report_text.specs.declared.names.Name.TheVariants.{Register, Slot}
use Rattle.report_text.specs.Names.{IsName, IsAllowedBelow}
use Rattle.report_text.specs.Text.{name_text}
use Rattle.report_lines.specs.Parts.{HasNo}
use Rattle.report_lines.specs.NameTexts.{IsAddressed}
use Rattle.report_lines.proofs.Cuts.{one_cut, no_cut}
use Rattle.report_lines.proofs.Digits.{dec_has_no, hex_has_no}

-- a register's name has letters and digits alone
pub register_has_no : (byte r : ℕ) → is_name_byte byte ≡ false → r < 32 → HasNo byte (name_of_register r)
register_has_no byte r other small =
    All-weaker (λ b. is_name_byte b ≡ true) (λ b. eqb b byte ≡ false)
    (λ b plain. ne_eqb b byte (λ e. let k : is_name_byte byte ≡ true = subst (λ (x : ℕ). is_name_byte x ≡ true) e plain in let f : true ≡ false = sym k ∙ other in absurd cc))
    (name_of_register r) (name_is_plain r small)

-- a slot's text by its colon
pub slot_by_colon : (p n : ℕ) → hex p ++ codes ":-" ++ dec n ≡ hex p ++ 58 ∷ 45 ∷ dec n
slot_by_colon p n = append_assoc (hex p) (codes ":-") (dec n)

pub slot_is : (text front behind : List ℕ) (p n : ℕ) → text ≡ front ++ 58 ∷ behind → HasNo 58 front → p < 2 ^ 64
    → text ≡ hex p ++ codes ":-" ++ dec n → (front ≡ hex p) × (behind ≡ 45 ∷ dec n)
slot_is text front behind p n is clean small e =
    one_cut 58 front behind (hex p) (45 ∷ dec n) clean (hex_has_no 58 p (omega arith) refl refl small) (sym is ∙ e ∙ slot_by_colon p n)

pub no_slot : (text : List ℕ) (p n : ℕ) → HasNo 58 text → p < 2 ^ 64 → text ≢ hex p ++ codes ":-" ++ dec n
no_slot text p n clean small e =
    no_cut 58 text (hex p) (45 ∷ dec n) clean (hex_has_no 58 p (omega arith) refl refl small) (e ∙ slot_by_colon p n)

pub hex_injective : (p q : ℕ) → p < 2 ^ 64 → q < 2 ^ 64 → hex p ≡ hex q → p ≡ q
hex_injective p q small also e =
    let wide : 2 ^ 64 ≤ 16 ^ 64 = omega arith in
    let value : (n : ℕ) → n < 2 ^ 64 → digits_value 16 (digits 16 false n) ≡ n = λ n s. (digits_is_IsNumeral 16 false (omega arith) (omega arith) n (omega arith)).1 in
    sym (value p small) ∙ ap (λ (ds : List ℕ). digits_value 16 (drop 2 ds)) e ∙ value q also

pub one_slot : (p n q m : ℕ) → p < 2 ^ 64 → q < 2 ^ 64 → n < 2 ^ 64 → m < 2 ^ 64
    → hex p ++ codes ":-" ++ dec n ≡ hex q ++ codes ":-" ++ dec m → (p ≡ q) × (n ≡ m)
one_slot p n q m p_small q_small n_small m_small e =
    let k = slot_is (hex p ++ codes ":-" ++ dec n) (hex p) (45 ∷ dec n) q m (slot_by_colon p n) (hex_has_no 58 p (omega arith) refl refl p_small) q_small e in
    (hex_injective p q p_small q_small k.0, decimal_injective n m n_small m_small (ap (drop 1) k.1))

some_of : Option ℕ → ℕ
some_of None = 0
some_of (Some r) = r

pub one_register : (r s : ℕ) → r < 32 → s < 32 → name_of_register r ≡ name_of_register s → r ≡ s
unfolding some_of
one_register r s small also e = ap some_of (sym (register_of-name r small) ∙ ap register_of e ∙ register_of-name s also)

pub register_is_no_slot : (r p n : ℕ) → r < 32 → p < 2 ^ 64 → name_of_register r ≢ hex p ++ codes ":-" ++ dec n
register_is_no_slot r p n small p_small e = no_slot (name_of_register r) p n (register_has_no 58 r refl small) p_small e

pub one_name : (a b : Name) → IsName a → IsAddressed a → IsName b → IsAddressed b → name_text a ≡ name_text b → a ≡ b
one_name (Register r) (Register s) p u q v e = ap Register (one_register r s p.1 q.1 e)
one_name (Register r) (Slot p' n) p u q v e = absurd (register_is_no_slot r p' n p.1 v e)
one_name (Slot p' n) (Register s) p u q v e = absurd (register_is_no_slot s p' n q.1 u (sym e))
one_name (Slot p' n) (Slot q' m) p u q v e =
    let k = one_slot p' n q' m u v (omega (arith, p.most)) (omega (arith, q.most)) e in (λ i. Slot (k.0 i) (k.1 i))

-- no name is a slot's text with another number below
pub no_name : (text : List ℕ) (p n : ℕ) → p < 2 ^ 64 → n < 2 ^ 64 → text ≡ hex p ++ codes ":-" ++ dec n → (IsAllowedBelow n → ⊥)
    → (name : Name) → IsName name → IsAddressed name → text ≢ name_text name
no_name text p n p_small n_small is wrong (Register r) fits addressed e = register_is_no_slot r p n fits.1 p_small (sym e ∙ is)
no_name text p n p_small n_small is wrong (Slot q m) fits addressed e =
    let k = one_slot p n q m p_small addressed n_small (omega (arith, fits.most)) (sym is ∙ e) in
    wrong (subst IsAllowedBelow (sym k.1) fits)

-- what a name's text has not
pub name_has_no : (byte : ℕ) (name : Name) → is_name_byte byte ≡ false → 16 ≤ digit_value byte → eqb 48 byte ≡ false → eqb 120 byte ≡ false → eqb 58 byte ≡ false → eqb 45 byte ≡ false
    → IsName name → IsAddressed name → HasNo byte (name_text name)
name_has_no byte (Register r) plain digit no_zero no_x no_colon no_minus allowed addressed = register_has_no byte r plain allowed.1
name_has_no byte (Slot p n) plain digit no_zero no_x no_colon no_minus allowed addressed =
    All-append (λ b. eqb b byte ≡ false) (hex p ++ codes ":-") (dec n)
    (All-append (λ b. eqb b byte ≡ false) (hex p) (codes ":-") (hex_has_no byte p digit no_zero no_x addressed)
    (All-from_recursion (λ b. eqb b byte ≡ false) (codes ":-") (no_colon, (no_minus, tt))))
    (dec_has_no byte n (omega arith) (omega (arith, allowed.most)))

no_register : register_of [] ≡ None
unfolding register_of name_of_register number_of_register
no_register = refl

pub some_register : (r : ℕ) → r < 32 → 0 < length (name_of_register r)
some_register r small = by (name_of_register r) refl
  where
    by : (text : List ℕ) → name_of_register r ≡ text → 0 < length text
    by [] e = let k : Some r ≡ None = sym (register_of-name r small) ∙ ap register_of e ∙ no_register in absurd cc
    by (b ∷ text) e = omega arith

pub some_name : (name : Name) → IsName name → 0 < length (name_text name)
some_name (Register r) allowed = some_register r allowed.1
some_name (Slot p n) allowed = omega (arith, length-append (hex p ++ codes ":-") (dec n), length-append (hex p) (codes ":-"))
