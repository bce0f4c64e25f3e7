-- The slots that a call leaves, one slot on.
use Rattle.std.proofs.Common.{◌≡◌, ℕ, ◌+◌, ◌<◌, ◌^◌, nat_le, ◌&&◌, Bool, true, false, List, [], ◌∷◌, ◌++◌, drop, get_or, length, sym, ap, ◌∙◌}
use Rattle.std.specs.Prelude.{if◌then◌else◌}
use Rattle.std.proofs.lemmas.List.{at_drop_more, append_assoc}
use Rattle.entry_values.specs.declared.states.Slot.{Slot}
use Rattle.entry_tables.specs.Tables.{not_below}

pub kept_step : (k : ℕ) (slots : List Slot) (i : ℕ) (d : Slot) (after behind total : List Slot) → i < length slots
    → behind ≡ (if nat_le (2 ^ 63) k && nat_le k (get_or slots i d).offset then after ++ get_or slots i d ∷ [] else after)
    → after ++ not_below k (drop i slots) ≡ total → behind ++ not_below k (drop (i + 1) slots) ≡ total
kept_step k slots i d after behind total within is so =
    let here : after ++ not_below k (get_or slots i d ∷ drop (i + 1) slots) ≡ total = sym (at_drop_more (λ (xs : List Slot). after ++ not_below k xs) slots i d within) ∙ so in
    ap (λ (xs : List Slot). xs ++ not_below k (drop (i + 1) slots)) is ∙ by (nat_le (2 ^ 63) k && nat_le k (get_or slots i d).offset) here
  where
    by : (b : Bool) → after ++ (if b then get_or slots i d ∷ not_below k (drop (i + 1) slots) else not_below k (drop (i + 1) slots)) ≡ total
        → (if b then after ++ get_or slots i d ∷ [] else after) ++ not_below k (drop (i + 1) slots) ≡ total
    by true e = append_assoc after (get_or slots i d ∷ []) (not_below k (drop (i + 1) slots)) ∙ e
    by false e = e
