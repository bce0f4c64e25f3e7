-- Texts are cut in one way at a byte of a kind.
use Rattle.std.proofs.Common.{◌≡◌, ◌≢◌, ℕ, ◌<◌, ◌+◌, ◌-◌, Bool, false, eqb, List, [], ◌∷◌, ◌++◌, length, get_or, take, drop, length-drop, All, refl, sym, subst, ap, ◌∙◌, arith}
use Rattle.std.specs.List.{position_or_len}
use Rattle.std.proofs.lemmas.List.{take_all, get_or-take, length-take, append_cancel_left, take-append-drop}
use Rattle.std.proofs.Math.Seq.{take-append_seam}
use Rattle.std.proofs.lemmas.List.Elements.{All-tail}
use Rattle.std.proofs.lemmas.List.Sums.{fails_before_first, passes_at_first, split_at_first}
use Rattle.std.proofs.lemmas.List.Splits.{slice_split_at, slice_split_none, length-slice_split}
use Rattle.std.proofs.lemmas.Bool.{eqb-true, eq-eqb}
use Rattle.std.proofs.Common.{true}
use Rattle.std.specs.Cmp.Lexicographic.{pointwise}
use Rattle.std.proofs.lemmas.Slice.Eq.{slice_eq-Decides}
use Rattle.std.proofs.lemmas.Bool.Decides.{Decides-eqb}
use Rattle.report_lines.specs.Parts.{HasNo, parts_of}

-- cut at the first such byte
pub cut_first : (byte : ℕ) (text : List ℕ) (at : ℕ) → at ≡ position_or_len (λ b. eqb b byte) text → at < length text
    → (text ≡ take at text ++ byte ∷ take (length text - (at + 1)) (drop (at + 1) text)) × HasNo byte (take at text)
cut_first byte text at is some =
    let p : ℕ → Bool = λ b. eqb b byte in
    let lt : position_or_len p text < length text = omega arith in
    let rest : take (length text - (at + 1)) (drop (at + 1) text) ≡ drop (at + 1) text = take_all _ _ (omega (arith, length-drop (at + 1) text)) in
    let there : get_or text (position_or_len p text) 0 ≡ byte = eqb-true _ byte (passes_at_first p text 0 lt) in
    let whole : text ≡ take at text ++ byte ∷ drop (at + 1) text =
    rw is (split_at_first p text 0 lt ∙ ap (λ (b : ℕ). take (position_or_len p text) text ++ b ∷ drop (position_or_len p text + 1) text) there) in (
      whole ∙ ap (λ (xs : List ℕ). take at text ++ byte ∷ xs) (sym rest),
      λ k d l. let below : k < at = omega (arith, length-take at text) in rw (get_or-take at text k d below) (fails_before_first p text k d (omega arith)),
    )

pub parts_cut : (byte : ℕ) (front behind : List ℕ) → HasNo byte front → parts_of byte (front ++ byte ∷ behind) ≡ front ∷ parts_of byte behind
parts_cut byte front behind clean = slice_split_at (λ c. eqb c byte) front byte behind clean (eq-eqb byte byte refl)

pub one_part : (byte : ℕ) (text : List ℕ) → HasNo byte text → parts_of byte text ≡ text ∷ []
one_part byte text clean = slice_split_none (λ c. eqb c byte) text clean

pub some_part : (byte : ℕ) (text : List ℕ) → 0 < length (parts_of byte text)
some_part byte text = omega (arith, length-slice_split (λ b. eqb b byte) text)

abbrev head_part : List (List ℕ) → List ℕ
head_part [] = []
head_part (x ∷ xs) = x

pub one_cut : (byte : ℕ) (x y v w : List ℕ) → HasNo byte x → HasNo byte v → x ++ byte ∷ y ≡ v ++ byte ∷ w → (x ≡ v) × (y ≡ w)
one_cut byte x y v w p q e =
    let front : x ≡ v = ap head_part (sym (parts_cut byte x y p) ∙ ap (parts_of byte) e ∙ parts_cut byte v w q) in
    let back : x ++ byte ∷ y ≡ x ++ byte ∷ w = e ∙ ap (λ (a : List ℕ). a ++ byte ∷ w) (sym front) in
    (front, ap (drop 1) (append_cancel_left x (byte ∷ y) (byte ∷ w) back))

pub no_cut : (byte : ℕ) (text x y : List ℕ) → HasNo byte text → HasNo byte x → text ≢ x ++ byte ∷ y
no_cut byte text x y p q e =
    let p1 = ap (λ (ps : List (List ℕ)). length ps) (sym (one_part byte text p) ∙ ap (parts_of byte) e ∙ parts_cut byte x y q) in
    omega (arith, p1, some_part byte y)

pub all_behind : (P : ℕ → Type 0) (xs ys : List ℕ) → All P (xs ++ ys) → All P ys
all_behind P [] ys h = h
all_behind P (x ∷ xs) ys h = all_behind P xs ys (All-tail P x (xs ++ ys) h)

-- what follows a byte of another kind
pub behind_has_no : (byte at : ℕ) (text front behind : List ℕ) → text ≡ front ++ at ∷ behind → HasNo byte text → HasNo byte behind
behind_has_no byte at text front behind is clean =
    All-tail (λ b. eqb b byte ≡ false) at behind
    (all_behind (λ b. eqb b byte ≡ false) front (at ∷ behind) (subst (HasNo byte) is clean))

-- a text with a given front
pub prefix_is : (prefix text : List ℕ) (r : Bool) → r ≡ pointwise (λ a b. eqb a b) (take (length prefix) text) prefix → r ≡ true
    → text ≡ prefix ++ take (length text - length prefix) (drop (length prefix) text)
prefix_is prefix text r is yes' =
    let same : take (length prefix) text ≡ prefix = (slice_eq-Decides Decides-eqb (take (length prefix) text) prefix r is).0 yes' in
    let rest : take (length text - length prefix) (drop (length prefix) text) ≡ drop (length prefix) text = take_all _ _ (omega (arith, length-drop (length prefix) text)) in
    sym (take-append-drop (length prefix) text) ∙ (λ i. same i ++ sym rest i)

pub no_prefix : (prefix text : List ℕ) (r : Bool) → r ≡ pointwise (λ a b. eqb a b) (take (length prefix) text) prefix → r ≡ false
    → (rest : List ℕ) → text ≢ prefix ++ rest
no_prefix prefix text r is wrong rest e =
    let t : r ≡ true = (slice_eq-Decides Decides-eqb (take (length prefix) text) prefix r is).1
    (ap (take (length prefix)) e ∙ take-append_seam prefix rest) in
    let f : true ≡ false = sym t ∙ wrong in absurd cc
