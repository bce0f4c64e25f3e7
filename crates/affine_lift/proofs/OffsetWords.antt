-- Offsets are words.
use Rattle.std.proofs.Common.{◌≡◌, ℕ, ◌<◌, ◌^◌, ℤ, List, length, slice_get, Option, None, Some, option_map, inl, inr, refl, arith}
use Rattle.std.specs.Int.{cast_signed, cast_unsigned, w64}
use Rattle.std.proofs.lemmas.Int.{of_z-to_z}
use Rattle.std.proofs.lemmas.Option.{slice_get_cases}
use Rattle.flow_points.specs.PointLists.{FlowPoints, HasCode}
use Rattle.flow_points.specs.declared.code_points.CodePoint.{CodePoint}
use Rattle.flow_points.proofs.Lists.{item_there}
use Rattle.frame_offsets.specs.Frames.{AreOffsetsOf, FrameWalk, IsOffset, offset_at}
use Rattle.frame_offsets.proofs.EachWalked.{has_walk}
use Rattle.frame_offsets.proofs.Walking.{after_word}

pub point_at : {X : Type 0} (points : List X) (i : ℕ) → i < length points → (c : X) × (slice_get points i ≡ Some c)
point_at points i below =
    elim (slice_get_cases points i).1 [
      | inl found ↦ (found.0, found.2)
      | inr past ↦ absurd (let long = past.0 in omega arith)
    ]

pub offset_is_word : (points : FlowPoints) (offsets : List (Option ℕ)) (i r o : ℕ) → HasCode points → AreOffsetsOf points offsets
    → i < length points.points → r < 32 → offset_at offsets i r ≡ Some o → o < 2 ^ 64
offset_is_word points offsets i r o has are below small is =
    let found = point_at points.points i below in
    let walk = has_walk points found.0 has (item_there points.points i found.0 found.1) in
    by (offset_at offsets i r) found.0 is (are.exact i found.0 r found.1 small) walk.0 walk.1
  where
    by : (x : Option ℕ) (c : CodePoint) → x ≡ Some o → IsOffset points.points c r x → (walk : List CodePoint)
        → FrameWalk points.points c.point.proc_entry walk c → o < 2 ^ 64
    by None c e is walk walked = cc
    by (Some n) c e is walk walked =
        let same : n ≡ o = cc in
        rw (← same) (after_word walk r n (is walk walked))

pub told_back : (x : Option ℕ) (z : ℤ) → ((o : ℕ) → x ≡ Some o → o < 2 ^ 64) → Some z ≡ option_map (cast_signed w64) x
    → Some (cast_unsigned w64 (cast_signed w64 (cast_unsigned w64 z))) ≡ x
told_back None z words e = cc
told_back (Some o) z words e =
    let small = words o refl in
    let same : z ≡ cast_signed w64 o = cc in
    let once : cast_unsigned w64 (cast_signed w64 o) ≡ o = of_z-to_z w64 o small in
    rw (same, once, once) refl
