-- What the parts of a row's line tell.
use Rattle.std.proofs.Common.{◌≡◌, ◌≢◌, ℕ, ◌+◌, ◌<◌, ◌≤◌, List, [], ◌∷◌, ◌++◌, codes, map, Some, None, append_assoc, append-nil, refl, sym, subst, ap, ◌∙◌, arith, inl, inr}
use Rattle.std.specs.Prelude.{◌⊎◌}
use Rattle.std.proofs.lemmas.Fmt.{decimal_injective}
use Rattle.number_text.specs.Numerals.{dec, hex}
use Rattle.report_lines.specs.Parts.{HasNo}
use Rattle.report_lines.proofs.Cuts.{one_cut}
use Rattle.report_lines.proofs.Digits.{dec_has_no}
use Rattle.report_lines.proofs.NamesTold.{hex_injective}
use Rattle.proof_text.specs.declared.rows.WordAt.{WordAt}
use Rattle.proof_lines.specs.Words.{AreItems, IsItem, IsWordReading, item_text}

by_colon : (item : WordAt) → item_text item ≡ dec item.position ++ 58 ∷ hex item.word
by_colon item = append_assoc (dec item.position) (codes ":") (hex item.word)

-- the colon parts an item's text
pub item_is : (least width : ℕ) (item : WordAt) (text front behind : List ℕ) → width ≤ 512 → IsItem least width item → text ≡ front ++ 58 ∷ behind → HasNo 58 front
    → text ≡ item_text item → (front ≡ dec item.position) × (behind ≡ hex item.word)
item_is least width item text front behind wide fits is clean e =
    one_cut 58 front behind (dec item.position) (hex item.word) clean (dec_has_no 58 item.position (omega arith) (omega (arith, fits.within, wide))) (sym is ∙ e ∙ by_colon item)

pub same_item : (a b : WordAt) → a.position ≡ b.position → a.word ≡ b.word → a ≡ b
same_item a b p w = λ i. record { position = p i; word = w i }

pub one_item : (least more width : ℕ) (a b : WordAt) → width ≤ 512 → IsItem least width a → IsItem more width b → item_text a ≡ item_text b → a ≡ b
one_item least more width a b wide p q e =
    let k = item_is more width b (item_text a) (dec a.position) (hex a.word) wide q (by_colon a) (dec_has_no 58 a.position (omega arith) (omega (arith, p.within, wide))) e in
    same_item a b (decimal_injective a.position b.position (omega (arith, p.within, wide)) (omega (arith, q.within, wide)) k.0) (hex_injective a.word b.word p.small q.small k.1)

-- what isn't within bounds is no item
pub not_within : (least width : ℕ) (item : WordAt) (position word : ℕ) → IsItem least width item → position ≡ item.position → word ≡ item.word
    → (position < least) ⊎ (((least ≤ position) × (width ≤ position)) ⊎ ((least ≤ position) × (position < width) × (word ≡ 0))) → ⊥
not_within least width item position word fits p w (inl low) = omega (arith, fits.least_is, p, low)
not_within least width item position word fits p w (inr (inl high)) = omega (arith, fits.within, p, high.1)
not_within least width item position word fits p w (inr (inr none)) = omega (arith, fits.some, w, none.2)

-- the least position behind items
abbrev pub behind_items : ℕ → List WordAt → ℕ
behind_items least [] = least
behind_items least (item ∷ items) = behind_items (item.position + 1) items

-- the words are those of the first parts, and the rest is left
pub record AreFirst (width : ℕ) (parts : List (List ℕ)) (words : List WordAt) (least : ℕ) (rest : List (List ℕ)) : Type 0 where
  pub fit : AreItems 0 width words
  pub least_is : least ≡ behind_items 0 words
  pub parts_are : parts ≡ map item_text words ++ rest

items_more : (least width : ℕ) (words : List WordAt) (word : WordAt) → AreItems least width words → IsItem (behind_items least words) width word
    → AreItems least width (words ++ word ∷ [])
items_more least width [] word fit one = (one, tt)
items_more least width (w ∷ words) word fit one = (fit.0, items_more (w.position + 1) width words word fit.1 one)

least_more : (least : ℕ) (words : List WordAt) (word : WordAt) → word.position + 1 ≡ behind_items least (words ++ word ∷ [])
least_more least [] word = refl
least_more least (w ∷ words) word = least_more (w.position + 1) words word

texts_more : (words : List WordAt) (word : WordAt) (part : List ℕ) (rest : List (List ℕ)) → part ≡ item_text word
    → map item_text words ++ part ∷ rest ≡ map item_text (words ++ word ∷ []) ++ rest
texts_more [] word part rest e = ap (λ (p : List ℕ). p ∷ rest) e
texts_more (w ∷ words) word part rest e = ap (λ (ps : List (List ℕ)). item_text w ∷ ps) (texts_more words word part rest e)

pub one_more : (width : ℕ) (parts rest : List (List ℕ)) (words : List WordAt) (least : ℕ) (part : List ℕ) (word : WordAt)
    → AreFirst width parts words least (part ∷ rest) → IsWordReading least width part (Some word)
    → AreFirst width parts (words ++ word ∷ []) (word.position + 1) rest
one_more width parts rest words least part word first read = record {
  fit = items_more 0 width words word first.fit (subst (λ (l : ℕ). IsItem l width word) first.least_is read.0);
  least_is = least_more 0 words word;
  parts_are = first.parts_are ∙ texts_more words word part rest read.1;
}

-- where a part is no item's behind the words, the parts are no items'
stuck : (least width : ℕ) (words items : List WordAt) (part : List ℕ) (rest : List (List ℕ)) → width ≤ 512 → AreItems least width words
    → ((item : WordAt) → IsItem (behind_items least words) width item → part ≢ item_text item) → AreItems least width items
    → map item_text words ++ part ∷ rest ≢ map item_text items
stuck least width [] [] part rest wide fit none items_fit e = absurd cc
stuck least width [] (item ∷ items) part rest wide fit none items_fit e = none item items_fit.0 (let h : part ≡ item_text item = cc in h)
stuck least width (w ∷ words) [] part rest wide fit none items_fit e = absurd cc
stuck least width (w ∷ words) (item ∷ items) part rest wide fit none items_fit e =
    let h : item_text w ≡ item_text item = cc in
    let t : map item_text words ++ part ∷ rest ≡ map item_text items = cc in
    let same : w ≡ item = one_item least least width w item wide fit.0 items_fit.0 h in
    stuck (w.position + 1) width words items part rest wide fit.1 none (subst (λ (x : WordAt). AreItems (x.position + 1) width items) (sym same) items_fit.1) t

pub none_more : (width : ℕ) (parts rest : List (List ℕ)) (words : List WordAt) (least : ℕ) (part : List ℕ) → width ≤ 512
    → AreFirst width parts words least (part ∷ rest) → IsWordReading least width part None
    → (items : List WordAt) → AreItems 0 width items → parts ≢ map item_text items
none_more width parts rest words least part wide first none items fit e =
    stuck 0 width words items part rest wide first.fit (subst (λ (l : ℕ). (item : WordAt) → IsItem l width item → part ≢ item_text item) first.least_is none) fit
    (sym first.parts_are ∙ e)

pub all_read : {width least : ℕ} {parts : List (List ℕ)} {words : List WordAt} → AreFirst width parts words least []
    → AreItems 0 width words × (parts ≡ map item_text words)
all_read first = (first.fit, first.parts_are ∙ append-nil _)
