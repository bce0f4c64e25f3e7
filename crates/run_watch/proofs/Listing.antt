-- The live slots, listed one after the other.
use Rattle.std.proofs.Common.{◌≡◌, ℕ, ◌+◌, ◌<◌, ◌≤◌, List, [], ◌∷◌, ◌++◌, length, drop, get_or, filter_map, Option, None, Some, sym, ◌∙◌, ap, append_assoc}
use Rattle.std.specs.List.{cons_option, enumerate_from}
use Rattle.std.proofs.lemmas.List.{append-nil, drop_all, drop_more}
use Rattle.report_text.specs.declared.names.Name.{Name}
use Rattle.run_watch.specs.declared.activation.Activation.{Activation}
use Rattle.run_watch.specs.declared.places.SlotAt.{SlotAt}
use Rattle.run_watch.specs.Activations.{slot_in, slots_of, slots_from}
use Rattle.run_watch.proofs.Keeping.{blank}

behind : (slots rest : List SlotAt) (o : Option SlotAt) → (slots ++ cons_option o []) ++ rest ≡ slots ++ cons_option o rest
behind slots rest None = append_assoc slots [] rest
behind slots rest (Some slot) = append_assoc slots (slot ∷ []) rest

-- the slots that are listed and those of the names to come are all
module _ (names : List Name) (depth : ℕ) (a : Activation) (slots all : List SlotAt) (i : ℕ) where
  abbrev to_come : List Name → ℕ → List SlotAt
  to_come left k = filter_map (slot_in depth a) (enumerate_from k left)

  pub one_name_more : (now : List SlotAt) (d : Name) → i < length names → now ≡ slots ++ cons_option (slot_in depth a (i, get_or names i d)) []
      → slots ++ to_come (drop i names) i ≡ all → now ++ to_come (drop (i + 1) names) (i + 1) ≡ all
  one_name_more now d within is so_far =
      let rest = to_come (drop (i + 1) names) (i + 1) in
      ap (λ (xs : List SlotAt). xs ++ rest) is ∙ behind slots rest (slot_in depth a (i, get_or names i d))
      ∙ ap (λ (left : List Name). slots ++ to_come left i) (sym (drop_more names i d within)) ∙ so_far

  pub no_name_left : length names ≤ i → slots ++ to_come (drop i names) i ≡ all → slots ≡ all
  no_name_left over so_far =
      sym (append-nil slots) ∙ ap (λ (left : List Name). slots ++ to_come left i) (sym (drop_all i names over)) ∙ so_far

-- and so with those of the activations to come
module _ (names : List Name) (activations : List Activation) (slots all : List SlotAt) (i : ℕ) where
  pub one_activation_more : (now : List SlotAt) → i < length activations → now ≡ slots ++ slots_of names (i + 1) (get_or activations i blank)
      → slots ++ slots_from names (i + 1) (drop i activations) ≡ all → now ++ slots_from names (i + 1 + 1) (drop (i + 1) activations) ≡ all
  one_activation_more now within is so_far =
      let rest = slots_from names (i + 1 + 1) (drop (i + 1) activations) in
      ap (λ (xs : List SlotAt). xs ++ rest) is ∙ append_assoc slots (slots_of names (i + 1) (get_or activations i blank)) rest
      ∙ ap (λ (left : List Activation). slots ++ slots_from names (i + 1) left) (sym (drop_more activations i blank within)) ∙ so_far

  pub no_activation_left : length activations ≤ i → slots ++ slots_from names (i + 1) (drop i activations) ≡ all → slots ≡ all
  no_activation_left over so_far =
      sym (append-nil slots) ∙ ap (λ (left : List Activation). slots ++ slots_from names (i + 1) left) (sym (drop_all i activations over)) ∙ so_far
