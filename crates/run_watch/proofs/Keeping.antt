-- Tests of live slots, one after the other.
use Rattle.std.proofs.Common.{◌≡◌, ℕ, ◌+◌, ◌<◌, Bool, true, false, ◌||◌, List, [], ◌∷◌, length, drop, get_or, filter_map, Option, None, Some, sym, ◌∙◌, ap, refl}
use Rattle.std.specs.List.{list_any, cons_option}
use Rattle.std.specs.Option.{option_map_or}
use Rattle.std.proofs.lemmas.List.{drop_more}
use Rattle.std.proofs.lemmas.List.Folds.{list_any-append}
use Rattle.report_text.specs.declared.names.Name.{Name}
use Rattle.run_watch.specs.declared.activation.Activation.{Activation}
use Rattle.run_watch.specs.declared.places.SlotAt.{SlotAt}
use Rattle.run_watch.specs.Activations.{slots_of, slots_from}

pub any_made : {A B : Type 0} (p : B → Bool) (f : A → Option B) (xs : List A)
    → list_any (λ x. option_map_or p (f x) false) xs ≡ list_any p (filter_map f xs)
any_made p f [] = refl
any_made p f (x ∷ xs) =
    elim (f x) as (λ o. (option_map_or p o false || list_any (λ x. option_map_or p (f x) false) xs) ≡ list_any p (cons_option o (filter_map f xs))) [
      | None ↦ any_made p f xs
      | Some y ↦ ap (λ b. p y || b) (any_made p f xs)
    ]

-- an activation, for lists that have one at each place asked for
abbrev pub blank : Activation
blank = record { procedure = 0; entry_sp = 0; return_to = None; saved = []; relied = 0 }

-- the first of some activations settles the answer, or leaves it to the others
pub first_keeps : (p : SlotAt → Bool) (names : List Name) (activations : List Activation) (i : ℕ) → i < length activations
    → list_any p (slots_of names (i + 1) (get_or activations i blank)) ≡ true
    → list_any p (slots_from names (i + 1) (drop i activations)) ≡ true
first_keeps p names activations i within keeps =
    ap (λ left. list_any p (slots_from names (i + 1) left)) (drop_more activations i blank within)
    ∙ list_any-append p (slots_of names (i + 1) (get_or activations i blank)) (slots_from names (i + 1 + 1) (drop (i + 1) activations))
    ∙ ap (λ b. b || list_any p (slots_from names (i + 1 + 1) (drop (i + 1) activations))) keeps

pub others_keep : (p : SlotAt → Bool) (names : List Name) (activations : List Activation) (i : ℕ) → i < length activations
    → list_any p (slots_of names (i + 1) (get_or activations i blank)) ≡ false
    → list_any p (slots_from names (i + 1 + 1) (drop (i + 1) activations)) ≡ list_any p (slots_from names (i + 1) (drop i activations))
others_keep p names activations i within keeps =
    sym (ap (λ left. list_any p (slots_from names (i + 1) left)) (drop_more activations i blank within)
    ∙ list_any-append p (slots_of names (i + 1) (get_or activations i blank)) (slots_from names (i + 1 + 1) (drop (i + 1) activations))
    ∙ ap (λ b. b || list_any p (slots_from names (i + 1 + 1) (drop (i + 1) activations))) keeps)
