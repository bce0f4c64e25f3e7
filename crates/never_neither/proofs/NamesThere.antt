-- A list is read as names, or is refused.
use Rattle.std.proofs.Common.{◌≡◌, ◌≢◌, ◌∙◌, ℕ, ◌+◌, List, [], ◌∷◌, ◌++◌, length, append-nil, Contains, inl, inr, refl, sym, subst, arith}
use Rattle.std.specs.List.{AllZip}
use Rattle.std.proofs.lemmas.Bool.{cases_lt}
use Rattle.std.proofs.lemmas.List.{append_assoc}
use Rattle.std.proofs.lemmas.List.Elements.{All-contains_itself, All-nil, All-push, All-weaker}
use Rattle.std.proofs.lemmas.List.Quantifiers.{all_pairs_push}
use Rattle.numeral_read.specs.Lists.{items_of}
use Rattle.report_text.specs.declared.names.Name.{Name}
use Rattle.affine_lift.specs.Tracking.{AreNames, Breaks, HasName, IsFurther, IsIn, IsItemRefusal, IsTracked, IsTrackRefusal, NamesBy, Scope, bad_item, bad_slot, empty, no_such_procedure, repeated, too_many, unknown_name}
use Rattle.refusals.specs.declared.track.TrackRefusal.{TrackRefusal}
use Rattle.refusals.specs.declared.track.TrackRefusal.TheVariants.{Empty, TooMany, UnknownName, BadSlot, NoSuchProcedure, Repeated, Memory}
use Rattle.never_neither.proofs.Deciding.{decide}

zip_push : {X Y : Type 0} (R : X → Y → Type 0) (xs : List X) (ys : List Y) (x : X) (y : Y) → AllZip R xs ys → R x y
    → AllZip R (xs ++ x ∷ []) (ys ++ y ∷ [])
zip_push R [] [] x y all here = (here, tt)
zip_push R [] (b ∷ ys) x y all here = absurd all
zip_push R (a ∷ xs) [] x y all here = absurd all
zip_push R (a ∷ xs) (b ∷ ys) x y all here = (all.0, zip_push R xs ys x y all.1 here)

names_push : (scope : Scope) (items : List (List ℕ)) (names : List Name) (item : List ℕ) (name : Name) → AreNames scope items names
    → IsFurther scope names item name → AreNames scope (items ++ item ∷ []) (names ++ name ∷ [])
names_push scope items names item name are further = record {
  named = zip_push (NamesBy scope.width scope.symbols) items names item name are.named further.named;
  within = All-push (IsIn scope.procedures) names name are.within further.within;
  apart = all_pairs_push (λ a b. a ≢ b) names name are.apart (All-weaker (Contains names) (λ n. n ≢ name)
      (λ n there is. further.other (subst (Contains names) is there)) names (All-contains_itself names));
}

-- an item is a further name, or breaks a rule
further_or_broken : (scope : Scope) (names : List Name) (item : List ℕ) (place : ℕ)
    → ((refusal : TrackRefusal) → refusal ≢ Memory → Breaks scope names item place refusal → ⊥)
    → ((name : Name) → IsFurther scope names item name → ⊥) → ⊥
further_or_broken scope names item place whole none =
    decide (HasName scope.symbols item) (λ has. elim has [
      | inr unknown ↦ whole (UnknownName place) (λ e. cc) (unknown_name unknown refl)
      | inl some ↦ decide ((name : Name) × NamesBy scope.width scope.symbols item name) (λ named. elim named [
        | inr bad ↦ whole (BadSlot place) (λ e. cc) (bad_slot some (λ name is. bad (name, is)) refl)
        | inl (name, is) ↦ decide (IsIn scope.procedures name) (λ within. elim within [
          | inr out ↦ whole (NoSuchProcedure place) (λ e. cc) (no_such_procedure name is out refl)
          | inl there ↦ decide (Contains names name) (λ again. elim again [
            | inl twice ↦ whole (Repeated place) (λ e. cc) (repeated name is there twice refl)
            | inr other ↦ none name (record { named = is; within = there; other = other })
          ])
        ])
      ])
    ])

module _ (scope : Scope) (items : List (List ℕ)) (whole : (refusal : TrackRefusal) → refusal ≢ Memory → IsItemRefusal scope items refusal → ⊥)
    (none : (names : List Name) → AreNames scope items names → ⊥) where
  read : (front rest : List (List ℕ)) (names : List Name) → items ≡ front ++ rest → AreNames scope front names → ⊥
  read front [] names split are =
      none names (subst (λ (xs : List (List ℕ)). AreNames scope xs names) (sym (split ∙ append-nil front)) are)
  read front (item ∷ rest) names split are =
      further_or_broken scope names item (length front + 1)
      (λ refusal away breaks. whole refusal away (record {
        front = front;
        names = names;
        item = item;
        rest = rest;
        split = split;
        names_are = are;
        breaks = breaks;
      }))
      (λ name further. read (front ++ item ∷ []) rest (names ++ name ∷ []) (split ∙ sym (append_assoc front (item ∷ []) rest))
      (names_push scope front names item name are further))

pub list_read : (scope : Scope) (text : List ℕ) → ((refusal : TrackRefusal) → refusal ≢ Memory → IsTrackRefusal scope text refusal → ⊥)
    → ((names : List Name) → IsTracked scope text names → ⊥) → ⊥
list_read scope text whole none =
    decide (text ≡ []) (λ d. elim d [
      | inl is ↦ whole Empty (λ e. cc) (empty is refl)
      | inr some ↦ elim (cases_lt 16 (length (items_of text))) [
        | inl many ↦ whole (TooMany 16) (λ e. cc) (too_many some many refl)
        | inr few ↦ read scope (items_of text) (λ refusal away is. whole refusal away (bad_item some few is))
            (λ names are. none names (record { some = some; few = few; names_are = are })) [] (items_of text) [] refl
            (record { named = tt; within = All-nil (IsIn scope.procedures); apart = λ i j d less within. absurd (omega (arith, within)) })
      ]
    ])
