-- What has been passed on, as a search goes on.
use Rattle.std.proofs.Common.{◌≡◌, ℕ, ◌+◌, ◌*◌, ◌<◌, ℤ, List, [], ◌∷◌, ◌++◌, length, replicate, All, Contains, Option, None, Some, slice_get, refl, sym, ap, subst, ◌∙◌, arith, inl, inr}
use Rattle.std.proofs.lemmas.Bool.{cases_eq, cases_lt}
use Rattle.std.proofs.lemmas.List.{get_or-replicate, length-replicate}
use Rattle.std.proofs.Math.ListN.{get_or-eq_default}
use Rattle.std.proofs.lemmas.List.Elements.{All-weaker, Contains-push_cases}
use Rattle.flow_points.specs.PointLists.{FlowPoints, HasCode}
use Rattle.flow_points.specs.declared.code_points.CodePoint.{CodePoint}
use Rattle.frame_offsets.specs.Frames.{goes_on, source_of}
use Rattle.frame_offsets.specs.Tables.{Knows, KnowsRow, PassesOn, known_at, passed, passed_from}
use Rattle.frame_offsets.specs.Searches.{Grows, OthersPassOn, Visits}
use Rattle.frame_offsets.specs.declared.known.Known.{Known}
use Rattle.frame_offsets.specs.declared.known.Known.TheVariants.{Unmet}
use Rattle.frame_offsets.proofs.Growing.{knows_after}
use Rattle.frame_offsets.proofs.Knowing.{knows_unmet}
use Rattle.frame_offsets.proofs.Registers.{source_within}
use Rattle.frame_offsets.proofs.Walking.{well_formed}

passed_same : (source : Option (ℕ × ℤ)) (old new : ℕ → Known) → ((q : ℕ) → q < 32 → new q ≡ old q)
    → ((s : ℕ × ℤ) → source ≡ Some s → s.0 < 32) → passed source new ≡ passed source old
passed_same None old new same within = ap (λ (k : Known). passed None (λ _. k)) (same 0 (omega arith))
passed_same (Some s) old new same within = ap (λ (k : Known). passed (Some s) (λ _. k)) (same s.0 (within s refl))

passed_unmet : (source : Option (ℕ × ℤ)) → passed source (λ _. Unmet) ≡ Unmet
passed_unmet None = refl
passed_unmet (Some s) = refl

module _ (points : FlowPoints) (has : HasCode points) (old new : List Known) (listed changed : List ℕ)
    (grows : Grows points.points old listed new changed) where
  -- a point that isn't on the list leaves what it left
  still_passed : (j : ℕ) (c : CodePoint) → slice_get points.points j ≡ Some c → (Contains changed j → ⊥)
      → All (λ to. KnowsRow points.points new to (passed_from old j c)) (goes_on c.point.proc_entry c.flow) → PassesOn points.points new j c
  still_passed j c at none all =
      All-weaker (λ to. KnowsRow points.points new to (passed_from old j c)) (λ to. KnowsRow points.points new to (passed_from new j c))
      (λ to knows k d there is r lt.
      subst (Knows (known_at new k r))
      (sym (passed_same (source_of c.instr c.flow r) (known_at old j) (known_at new j) (λ q below. grows.kept j q below none)
      (λ s e. source_within c.instr c.flow r s (well_formed points j c has at) lt e)))
      (knows k d there is r lt))
      (goes_on c.point.proc_entry c.flow) all

  passed_after : (j : ℕ) (c : CodePoint) → slice_get points.points j ≡ Some c → (Contains changed j → ⊥) → PassesOn points.points old j c
      → PassesOn points.points new j c
  passed_after j c at none all =
      still_passed j c at none
      (All-weaker (λ to. KnowsRow points.points old to (passed_from old j c)) (λ to. KnowsRow points.points new to (passed_from old j c))
      (λ to. knows_after points.points old new listed changed to (passed_from old j c) grows) (goes_on c.point.proc_entry c.flow) all)

  pub others_after : OthersPassOn points.points old listed → OthersPassOn points.points new changed
  others_after others j c at none = passed_after j c at none (others j c at (λ there. none (grows.stay j there)))

pub others_visited : (points : FlowPoints) (old new : List Known) (listed rest changed : List ℕ) (i : ℕ) → HasCode points
    → OthersPassOn points.points old listed → listed ≡ rest ++ i ∷ [] → Visits points.points i old rest new changed
    → OthersPassOn points.points new changed
others_visited points old new listed rest changed i has others is visits j c at none =
    elim (cases_eq j i) [
      | inl same ↦
          still_passed points has old new rest changed visits.grows j c at none
          (subst (λ (k : ℕ). All (λ to. KnowsRow points.points new to (passed_from old k c)) (goes_on c.point.proc_entry c.flow)) (sym same)
          (visits.passed_on c (subst (λ (k : ℕ). slice_get points.points k ≡ Some c) same at)))
      | inr other ↦
          passed_after points has old new rest changed visits.grows j c at none
          (others j c at (λ there. elim (Contains-push_cases rest i j (subst (λ (l : List ℕ). Contains l j) is there)) [
            | inl before ↦ none (visits.grows.stay j before)
            | inr last ↦ other (sym last)
          ]))
    ]

-- at first nothing is known, and no point leaves anything
pub others_unmet : (points : List CodePoint) (table : List Known) → table ≡ replicate (32 * length points) Unmet → OthersPassOn points table []
others_unmet points table is j c at none =
    λ n d below k e there here r lt.
    subst (Knows (known_at table k r)) (sym (ap (passed (source_of c.instr c.flow r)) all_unmet ∙ passed_unmet (source_of c.instr c.flow r)))
    (knows_unmet (known_at table k r))
  where
    unmet : (q : ℕ) → known_at table j q ≡ Unmet
    unmet q =
        ap (λ (t : List Known). known_at t j q) is
        ∙ elim (cases_lt (32 * j + q) (32 * length points)) [
          | inl h ↦ get_or-replicate (32 * length points) (32 * j + q) Unmet Unmet h
          | inr h ↦ get_or-eq_default (replicate (32 * length points) Unmet) Unmet (omega (arith, length-replicate (32 * length points) Unmet))
        ]

    all_unmet : known_at table j ≡ (λ _. Unmet)
    all_unmet = λ k q. unmet q k
