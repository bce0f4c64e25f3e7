-- Products that calls offer, callee by callee and caller by caller.
use Rattle.std.proofs.Common.{◌≡◌, ℕ, ◌<◌, ◌+◌, ◌⊎◌, inl, inr, List, Contains, length, map, take, get_or, ap, sym, subst, ◌∙◌}
use Rattle.row_modules.specs.Modules.{AreRows}
use Rattle.map_modules.specs.Matrices.{product, linear_extension}
use Rattle.map_modules.proofs.Lemmas.{IsRow-matrix}
use Rattle.affine_prog.specs.declared.Assign.{Assign}
use Rattle.row_images.specs.Images.{images_of}
use Rattle.row_engine.specs.Growth.{Offered}
use Rattle.call_summaries.specs.Offers.{Called, Returned}
use Rattle.row_engine.proofs.Members.{map_in, map_out, taken_in, now_taken, earlier_or_now}

-- a loop over callees
module _ (registers slots to : ℕ) (callees images : List (List ℕ)) (i : ℕ) (x extended : List ℕ) (below : i < length callees) (is : x ≡ get_or callees i x)
    (extended_is : extended ≡ linear_extension registers slots x) where
  pub called_less : (u : ℕ) (m : List ℕ) → Offered 289 to (map (λ y. product extended y) images) u m → Called registers slots to callees images u m
  called_less u m h =
      let o = map_out (λ y. product extended y) images m h.2 in
      record {
        there = h.0;
        callee = x;
        image = o.0;
        of_callees = taken_in callees (i + 1) x (now_taken callees i x below is);
        of_images = o.1;
        is = o.2 ∙ ap (λ e. product e o.0) extended_is;
      }

  pub called_either : (u : ℕ) (m : List ℕ) → Called registers slots to (take (i + 1) callees) images u m
      → Called registers slots to (take i callees) images u m ⊎ Offered 289 to (map (λ y. product extended y) images) u m
  called_either u m h = elim (earlier_or_now callees i x below is h.callee h.of_callees) [
    | inl k ↦ inl (record { there = h.there; callee = h.callee; image = h.image; of_callees = k; of_images = h.of_images; is = h.is })
    | inr e ↦
        let f : m ≡ product extended h.image = h.is ∙ ap (λ n. product (linear_extension registers slots n) h.image) e ∙ ap (λ n. product n h.image) (sym extended_is) in
        inr (h.there, rw f (IsRow-matrix _), rw f (map_in (λ y. product extended y) images h.image h.of_images))
  ]

pub called_rows : (registers slots to : ℕ) (callees images : List (List ℕ)) (u : ℕ) → AreRows 289 (Called registers slots to callees images u)
called_rows registers slots to callees images u m h = let e = h.is in rw e (IsRow-matrix _)

-- a loop over callers
module _ (before : List Assign) (extended : List ℕ) (to : ℕ) (callers images : List (List ℕ)) (i : ℕ) (x : List ℕ) (below : i < length callers) (is : x ≡ get_or callers i x)
    (images_are : images ≡ images_of 17 before x) where
  pub returned_less : (u : ℕ) (m : List ℕ) → Offered 289 to (map (λ y. product extended y) images) u m → Returned before extended to callers u m
  returned_less u m h =
      let o = map_out (λ y. product extended y) images m h.2 in
      record {
        there = h.0;
        caller = x;
        image = o.0;
        of_callers = taken_in callers (i + 1) x (now_taken callers i x below is);
        of_images = subst (λ l. Contains l o.0) images_are o.1;
        is = o.2;
      }

  pub returned_either : (u : ℕ) (m : List ℕ) → Returned before extended to (take (i + 1) callers) u m
      → Returned before extended to (take i callers) u m ⊎ Offered 289 to (map (λ y. product extended y) images) u m
  returned_either u m h = elim (earlier_or_now callers i x below is h.caller h.of_callers) [
    | inl k ↦ inl (record { there = h.there; caller = h.caller; image = h.image; of_callers = k; of_images = h.of_images; is = h.is })
    | inr e ↦
        let f = h.is in
        let k : Contains images h.image = subst (λ l. Contains l h.image) (ap (images_of 17 before) e ∙ sym images_are) h.of_images in
        inr (h.there, rw f (IsRow-matrix _), rw f (map_in (λ y. product extended y) images h.image k))
  ]

pub returned_rows : (before : List Assign) (extended : List ℕ) (to : ℕ) (callers : List (List ℕ)) (u : ℕ) → AreRows 289 (Returned before extended to callers u)
returned_rows before extended to callers u m h = let e = h.is in rw e (IsRow-matrix _)
