-- The code of the entries of a search.
use Rattle.std.proofs.Common.{◌≡◌, ℕ, ◌+◌, List, [], ◌∷◌, ◌++◌, take, append-nil, slice_get, Some, Result, Ok, Err, All, refl, sym, ap, subst, ◌∙◌}
use Rattle.std.specs.List.{cons_option}
use Rattle.std.specs.Map.{keys_of}
use Rattle.std.specs.Result.{result_ok}
use Rattle.std.proofs.lemmas.List.{take_more}
use Rattle.std.proofs.lemmas.Option.{get_or_from_slice_get, slice_get_within}
use Rattle.std.proofs.lemmas.List.Elements.{All-head, All-tail, All-cons, All-nil, filter_map-append}
use Rattle.flow_points.specs.Flows.{Fetches, IsCode}
use Rattle.flow_points.specs.Causes.{codes_of}
use Rattle.flow_points.specs.PointLists.{places_of}
use Rattle.flow_points.specs.declared.code_points.Point.{Point}
use Rattle.flow_points.specs.declared.code_points.CodePoint.{CodePoint}
use Rattle.flow_points.specs.declared.code_points.Site.{Site}
use Rattle.refusals.specs.declared.flow.FlowRefusal.{FlowRefusal}

-- one entry more, with code and without
codes_more : (entries : List (Point × Site)) (i : ℕ) (e : Point × Site) → slice_get entries i ≡ Some e
    → codes_of (take (i + 1) entries) ≡ codes_of (take i entries) ++ codes_of (e ∷ [])
codes_more entries i e at =
    let more = take_more entries i e (slice_get_within entries i e at)
    ∙ ap (λ (d : Point × Site). take i entries ++ d ∷ []) (get_or_from_slice_get entries i e e at) in
    ap codes_of more ∙ filter_map-append (λ (d : Point × Site). result_ok d.1.code) (take i entries) (e ∷ [])

pub code_more : (entries : List (Point × Site)) (i : ℕ) (e : Point × Site) (c : CodePoint) (points : List CodePoint)
    → slice_get entries i ≡ Some e → e.1.code ≡ Ok c → points ≡ codes_of (take i entries)
    → points ++ c ∷ [] ≡ codes_of (take (i + 1) entries)
code_more entries i e c points at is so_far =
    (λ j. so_far j ++ c ∷ [])
    ∙ sym (codes_more entries i e at ∙ ap (λ (r : Result CodePoint FlowRefusal). codes_of (take i entries) ++ cons_option (result_ok r) []) is)

pub no_code_more : (entries : List (Point × Site)) (i : ℕ) (e : Point × Site) (cause : FlowRefusal)
    → slice_get entries i ≡ Some e → e.1.code ≡ Err cause → codes_of (take i entries) ≡ codes_of (take (i + 1) entries)
no_code_more entries i e cause at is =
    sym (codes_more entries i e at
    ∙ ap (λ (r : Result CodePoint FlowRefusal). codes_of (take i entries) ++ cons_option (result_ok r) []) is
    ∙ append-nil (codes_of (take i entries)))

-- an entry with code
pub record IsGood (fetches : Fetches) (e : Point × Site) : Type 0 where
  pub code : CodePoint
  pub is : e.1.code ≡ Ok code
  pub place : code.point ≡ e.0
  pub good : IsCode fetches code

module _ (fetches : Fetches) where
  code_first : (e : Point × Site) (es : List (Point × Site)) (good : IsGood fetches e) → codes_of (e ∷ es) ≡ good.code ∷ codes_of es
  code_first e es good = ap (λ (r : Result CodePoint FlowRefusal). cons_option (result_ok r) (codes_of es)) good.is

  pub codes_places : (es : List (Point × Site)) → All (IsGood fetches) es → places_of (codes_of es) ≡ keys_of es
  codes_places [] all = refl
  codes_places (e ∷ es) all =
      let good = All-head (IsGood fetches) e es all in
      ap places_of (code_first e es good)
      ∙ (λ i. good.place i ∷ codes_places es (All-tail (IsGood fetches) e es all) i)

  pub codes_good : (es : List (Point × Site)) → All (IsGood fetches) es → All (IsCode fetches) (codes_of es)
  codes_good [] all = All-nil (IsCode fetches)
  codes_good (e ∷ es) all =
      let good = All-head (IsGood fetches) e es all in
      subst (All (IsCode fetches)) (sym (code_first e es good))
      (All-cons (IsCode fetches) good.code (codes_of es) good.good (codes_good es (All-tail (IsGood fetches) e es all)))
