-- The slots of activations, from the first on.
use Rattle.std.proofs.Common.{◌≡◌, ℕ, ◌+◌, ◌<◌, List, [], ◌∷◌, ◌++◌, length, Contains, inl, inr, ap, sym, ◌∙◌, arith, append_assoc}
use Rattle.std.proofs.lemmas.List.{append-nil}
use Rattle.std.proofs.lemmas.List.Elements.{Contains-append_cases}
use Rattle.report_text.specs.declared.names.Name.{Name}
use Rattle.run_watch.specs.Activations.{slot_address, slots_from, slots_of}
use Rattle.run_watch.specs.declared.activation.Activation.{Activation as Watched}
use Rattle.run_watch.specs.declared.places.SlotAt.{SlotAt}
use Rattle.std.proofs.Common.{◌^◌}
use Rattle.run_verdicts.proofs.Listed.{is_listed}

module _ (names : List Name) where
  pub slots_from-append : (depth : ℕ) (seen : List Watched) (w : Watched)
      → slots_from names depth (seen ++ w ∷ []) ≡ slots_from names depth seen ++ slots_of names (depth + length seen) w
  slots_from-append depth [] w =
      append-nil (slots_of names depth w) ∙ ap (λ (d : ℕ). slots_of names d w) (let e : depth ≡ depth + 0 = omega arith in e)
  slots_from-append depth (v ∷ seen) w =
      ap (λ (slots : List SlotAt). slots_of names depth v ++ slots) (slots_from-append (depth + 1) seen w)
      ∙ sym (append_assoc (slots_of names depth v) (slots_from names (depth + 1) seen)
      (slots_of names (depth + 1 + length seen) w))
      ∙ ap (λ (d : ℕ). (slots_of names depth v ++ slots_from names (depth + 1) seen) ++ slots_of names d w)
      (let e : depth + 1 + length seen ≡ depth + length (v ∷ seen) = omega arith in e)

  pub depth_below : (depth : ℕ) (seen : List Watched) (slot : SlotAt) → Contains (slots_from names depth seen) slot
      → slot.depth < depth + length seen
  depth_below depth [] slot there = absurd (omega (arith, there.1))
  depth_below depth (v ∷ seen) slot there =
      elim (Contains-append_cases (slots_of names depth v) (slots_from names (depth + 1) seen) slot there) [
        | inl here ↦
            let (k, below, at, is) = is_listed names depth v slot here in let d : slot.depth ≡ depth = ap
            (λ (s : SlotAt). s.depth) is in omega arith
        | inr later ↦ let less = depth_below (depth + 1) seen slot later in omega (arith, less)
      ]

pub slots_small : (names : List Name) (depth : ℕ) (seen : List Watched) (slot : SlotAt)
    → Contains (slots_from names depth seen) slot
    → slot.address < 2 ^ 64
slots_small names depth [] slot there = absurd (omega (arith, there.1))
slots_small names depth (w ∷ seen) slot there =
    elim (Contains-append_cases (slots_of names depth w) (slots_from names (depth + 1) seen) slot there) [
      | inl here ↦
          let (k, below, at, is) = is_listed names depth w slot here in
          let address : slot.address ≡ slot_address w below = ap (λ (s : SlotAt). s.address) is in omega (arith, address)
      | inr later ↦ slots_small names (depth + 1) seen slot later
    ]
