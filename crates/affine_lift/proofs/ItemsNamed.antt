-- Items that are read one after the other.
use Rattle.std.proofs.Common.{◌≡◌, ◌≢◌, ◌∙◌, ℕ, zero, suc, ◌+◌, ◌<◌, List, [], ◌∷◌, ◌++◌, length, take, drop, get_or, Contains, refl, sym, ap, Bor, arith}
use Rattle.std.specs.List.{AllZip}
use Rattle.std.proofs.Math.Seq.{drop-cons}
use Rattle.std.proofs.lemmas.List.{take_more, take-append-drop, get_or-map, length-take}
use Rattle.std.proofs.lemmas.List.Elements.{All-push}
use Rattle.std.proofs.lemmas.List.Quantifiers.{all_pairs_push}
use Rattle.report_text.specs.declared.names.Name.{Name}
use Rattle.numeral_read.specs.Lists.{texts_of}
use Rattle.affine_lift.specs.Tracking.{AreNames, Breaks, IsFurther, IsIn, IsItemRefusal, NamesBy, Scope}
use Rattle.refusals.specs.declared.track.TrackRefusal.{TrackRefusal}

text_at : (items : List (Bor (List ℕ))) (i : ℕ) (d : Bor (List ℕ)) → i < length items → get_or (texts_of items) i [] ≡ (get_or items i d).now
text_at items i d below = get_or-map (λ item. item.now) items i d [] below

pub length-texts : (items : List (Bor (List ℕ))) → length (texts_of items) ≡ length items
length-texts [] = refl
length-texts (item ∷ items) = ap suc (length-texts items)

all_zip_push : {X Y : Type 0} (R : X → Y → Type 0) (xs : List X) (ys : List Y) (x : X) (y : Y) → AllZip R xs ys → R x y
    → AllZip R (xs ++ x ∷ []) (ys ++ y ∷ [])
all_zip_push R [] [] x y all here = (here, tt)
all_zip_push R [] (b ∷ ys) x y all here = absurd all
all_zip_push R (a ∷ xs) [] x y all here = absurd all
all_zip_push R (a ∷ xs) (b ∷ ys) x y all here = (all.0, all_zip_push R xs ys x y all.1 here)

-- what isn't contained is at no place
at_no_place : (names : List Name) (name : Name) → (Contains names name → ⊥) → (k : ℕ) (e : Name) → k < length names → get_or names k e ≢ name
at_no_place names name absent k e below is = absent (k, below, get_or_same names k name e below ∙ is)
  where
    get_or_same : (xs : List Name) (j : ℕ) (a b : Name) → j < length xs → get_or xs j a ≡ get_or xs j b
    get_or_same [] j a b under = absurd (omega arith)
    get_or_same (x ∷ xs) zero a b under = refl
    get_or_same (x ∷ xs) (suc j) a b under = get_or_same xs j a b (omega arith)

names_push : (scope : Scope) (items : List (List ℕ)) (names : List Name) (item : List ℕ) (name : Name) → AreNames scope items names
    → IsFurther scope names item name → AreNames scope (items ++ item ∷ []) (names ++ name ∷ [])
names_push scope items names item name are further = record {
  named = all_zip_push (NamesBy scope.width scope.symbols) items names item name are.named further.named;
  within = All-push (IsIn scope.procedures) names name are.within further.within;
  apart = all_pairs_push (λ a b. a ≢ b) names name are.apart (at_no_place names name further.other);
}

pub names_more : (scope : Scope) (items : List (Bor (List ℕ))) (i : ℕ) (d : Bor (List ℕ)) (names : List Name) (name : Name) → i < length items
    → AreNames scope (take i (texts_of items)) names → IsFurther scope names (get_or items i d).now name
    → AreNames scope (take (i + 1) (texts_of items)) (names ++ name ∷ [])
names_more scope items i d names name below are further =
    let within : i < length (texts_of items) = omega (arith, length-texts items) in
    rw (take_more (texts_of items) i [] within, text_at items i d below)
    (names_push scope (take i (texts_of items)) names (get_or items i d).now name are further)

-- the item at place i breaks a rule, behind those before it
pub refused_at : (scope : Scope) (items : List (Bor (List ℕ))) (i : ℕ) (d : Bor (List ℕ)) (names : List Name) (refusal : TrackRefusal)
    → i < length items → AreNames scope (take i (texts_of items)) names
    → Breaks scope names (get_or items i d).now (i + 1) refusal → IsItemRefusal scope (texts_of items) refusal
refused_at scope items i d names refusal below are breaks =
    let within : i < length (texts_of items) = omega (arith, length-texts items) in
    let taken : length (take i (texts_of items)) ≡ i = omega (arith, length-take i (texts_of items), length-texts items) in
    record {
      front = take i (texts_of items);
      names = names;
      item = (get_or items i d).now;
      rest = drop (suc i) (texts_of items);
      split = sym (take-append-drop i (texts_of items)) ∙ ap (λ xs. take i (texts_of items) ++ xs) (drop-cons (texts_of items) i [] within)
          ∙ ap (λ (x : List ℕ). take i (texts_of items) ++ x ∷ drop (suc i) (texts_of items)) (text_at items i d below);
      names_are = are;
      breaks = rw taken breaks;
    }
