-- The bytes that the record of a store tells as changed are those that the store changes.
use Rattle.std.proofs.Common.{◌≡◌, ◌≢◌, ◌↔◌, ℕ, ◌+◌, ◌*◌, ◌/◌, ◌%◌, ◌^◌, ◌<◌, ◌≤◌, nat_lt, ◌==◌, Bool, true, false, not, filter, Contains, inl, inr, ap, sym, ◌∙◌, arith, subst, if◌then◌else◌}
use Rattle.std.proofs.lemmas.Bool.{and_from, and_parts, cases_lt, eq-eqb, le-ltb, lt-ltb, ltb-true, ne_eqb, not_from_false}
use Rattle.std.proofs.lemmas.List.FromFn.{get_or-range_with_len}
use Rattle.elf_image.specs.Fetches.{read}
use Rattle.rv_instr.specs.declared.StoreOp.{StoreOp}
use Rattle.rv_instr.specs.declared.StoreOp.TheVariants.{Sb, Sh, Sw, Sd}
use Rattle.flow_points.proofs.Cited.{Contains-map, from_map}
use Rattle.rv_step.specs.Effects.{distance, stored}
use Rattle.rv_step.specs.Harts.{Hart, IsHart}
use Rattle.rv_step.specs.Records.{stored_at}
use Rattle.rv_step.specs.Steps.{store_width}
use Rattle.run_paths.specs.Activations.{behind}
use Rattle.run_watch.specs.Judges.{byte, changed_bytes, is_changed, places}
use Rattle.run_watch.specs.Slots.{byte_at}
use Rattle.run_verdicts.proofs.Bytes.{byte_read}
use Rattle.run_verdicts.proofs.Passing.{passed, passing}

abbrev pub Differ : Hart → Hart → ℕ → Type 0
Differ m n b = (b < 2 ^ 64) × (n.memory b ≢ m.memory b)

place_there : (k : ℕ) → k < 8 → Contains places k
place_there k below = (k, below, get_or-range_with_len 0 8 k k below ∙ (let e : 0 + k ≡ k = omega arith in e))

most_bytes : (op : StoreOp) → store_width op ≤ 8
most_bytes Sb = omega arith
most_bytes Sh = omega arith
most_bytes Sw = omega arith
most_bytes Sd = omega arith

-- a store
module _ (op : StoreOp) (a value : ℕ) (m n : Hart) (small : a < 2 ^ 64) (hart_m : IsHart m) (hart_n : IsHart n)
    (memory : (b : ℕ) → b < 2 ^ 64 → n.memory b ≡ stored (store_width op) a value m.memory b) where
  before : (k : ℕ) → k < store_width op → byte k (read (store_width op) m.memory a) ≡ m.memory (behind a k)
  before k below = byte_read (store_width op) m.memory a k small below hart_m.bytes

  after : (k : ℕ) → k < store_width op → byte k (read (store_width op) n.memory a) ≡ n.memory (behind a k)
  after k below = byte_read (store_width op) n.memory a k small below hart_n.bytes

  told_differs : (k : ℕ) → is_changed (stored_at op a m n) k ≡ true → Differ m n (byte_at a k)
  told_differs k changed =
      let parts = and_parts (nat_lt k (store_width op))
      (not (byte k (read (store_width op) m.memory a) == byte k (read (store_width op) n.memory a))) changed in
      let below = ltb-true k (store_width op) parts.0 in (
        omega arith,
        λ same.
            let equal : byte k (read (store_width op) m.memory a) ≡ byte k (read (store_width op) n.memory a) = before k below
            ∙ sym same ∙ sym (after k below) in
            let clash : true ≡ false = sym parts.1 ∙ ap not (eq-eqb _ _ equal) in cc,
      )

  differs_told : (b : ℕ) → Differ m n b → (k : ℕ) × (byte_at a k ≡ b) × (k < 8) × (is_changed (stored_at op a m n) k ≡ true)
  differs_told b differs =
      let k = distance a b in
      let there : behind a k ≡ b = omega (arith, small, differs.0) in
      let w = store_width op in
      elim (cases_lt k w) [
        | inl below ↦ (
          k,
          there,
          (let most = most_bytes op in omega arith),
          and_from (nat_lt k w) (not (byte k (read w m.memory a) == byte k (read w n.memory a))) (lt-ltb k w below)
              (not_from_false (byte k (read w m.memory a) == byte k (read w n.memory a)) (ne_eqb _ _ (λ equal. differs.1
              (ap n.memory (sym there) ∙ sym (after k below) ∙ sym equal ∙ before k below ∙ ap m.memory there)))),
        )
        | inr past ↦ absurd (differs.1 (memory b differs.0
            ∙ ap (λ (t : Bool). if t then value / 2 ^ (8 * distance a b) % 2 ^ 8 else m.memory b) (le-ltb k w past)))
      ]

  pub store_tells : (b : ℕ) → Contains (changed_bytes (stored_at op a m n)) b ↔ Differ m n b
  store_tells b = (
    λ there.
        let from = from_map (byte_at a) (filter (is_changed (stored_at op a m n)) places) b there in
        let passes = passed (is_changed (stored_at op a m n)) places from.0 from.1 in
        subst (Differ m n) from.2 (told_differs from.0 passes.1),
    λ differs.
        let at = differs_told b differs in
        subst (λ (c : ℕ). Contains (changed_bytes (stored_at op a m n)) c) at.1
        (Contains-map (byte_at a) (filter (is_changed (stored_at op a m n)) places) at.0
        (passing (is_changed (stored_at op a m n)) places at.0 (place_there at.0 at.2) at.3)),
  )
