-- What verdicts have found, and what they have not.
use Rattle.std.proofs.Common.{◌≡◌, ℕ, zero, suc, ◌<◌, List, [], ◌∷◌, ◌++◌, take, slice_get, Option, None, Some, option_map, refl, ap, sym, ◌∙◌, arith}
use Rattle.rv_step.specs.declared.records.StepRec.{StepRec}
use Rattle.run_watch.specs.Judges.{detail_of, found_at, judge}
use Rattle.run_watch.specs.Runs.{Sight, verdict}
use Rattle.run_watch.specs.declared.context.Found.{Found}

-- a finding stays
pub found_stays : (kind : ℕ) (f : Found) (seen : List Sight) → verdict kind (Some f) seen ≡ Some f
found_stays kind f [] = refl
found_stays kind f (s ∷ seen) = found_stays kind f seen

-- nothing is found: at no record
first_quiet : (kind : ℕ) (told : StepRec) (detail : Option ℕ) (rest : List Sight)
    → verdict kind (option_map (found_at told) detail) rest ≡ None
    → (detail ≡ None) × (verdict kind None rest ≡ None)
first_quiet kind told None rest none = (refl, none)
first_quiet kind told (Some d) rest none =
    let clash : Some (found_at told d) ≡ None = sym (found_stays kind (found_at told d) rest) ∙ none in cc

pub all_quiet : (kind : ℕ) (seen : List Sight) → verdict kind None seen ≡ None → (i : ℕ) (s : Sight) → slice_get seen i ≡ Some s
    → detail_of kind s.moment s.told ≡ None
all_quiet kind [] none i s at = cc
all_quiet kind (t ∷ seen) none zero s at =
    let same : t ≡ s = cc in
    ap (λ (u : Sight). detail_of kind u.moment u.told) (sym same)
    ∙ (first_quiet kind t.told (detail_of kind t.moment t.told) seen none).0
all_quiet kind (t ∷ seen) none (suc i) s at =
    all_quiet kind seen (first_quiet kind t.told (detail_of kind t.moment t.told) seen none).1 i s at

-- nothing is found, since there is nothing at any record
pub quiet_all : (kind : ℕ) (seen : List Sight)
    → ((i : ℕ) (s : Sight) → slice_get seen i ≡ Some s → detail_of kind s.moment s.told ≡ None)
    → verdict kind None seen ≡ None
quiet_all kind [] none = refl
quiet_all kind (t ∷ seen) none =
    ap (λ (o : Option ℕ). verdict kind (option_map (found_at t.told) o) seen) (none 0 t refl)
    ∙ quiet_all kind seen (λ i s at. none (suc i) s at)

pub nth_taken : {X : Type 0} (xs : List X) (k i : ℕ) → i < k → slice_get (take k xs) i ≡ slice_get xs i
nth_taken xs zero i below = absurd (omega (arith, below))
nth_taken [] (suc k) i below = refl
nth_taken (x ∷ xs) (suc k) zero below = refl
nth_taken (x ∷ xs) (suc k) (suc i) below = nth_taken xs k i (omega (arith, below))

-- where a finding comes from
pub record IsFoundAt (kind : ℕ) (seen : List Sight) (f : Found) : Type 0 where
  pub i : ℕ
  pub s : Sight
  pub at : slice_get seen i ≡ Some s
  pub detail : ℕ
  pub is : detail_of kind s.moment s.told ≡ Some detail
  pub found : f ≡ found_at s.told detail

pub found_where : (kind : ℕ) (seen : List Sight) (f : Found) → verdict kind None seen ≡ Some f → IsFoundAt kind seen f
found_where kind [] f is = cc
found_where kind (s ∷ seen) f is = by (detail_of kind s.moment s.told) refl is (found_where kind seen f)
  where
    by : (o : Option ℕ) → detail_of kind s.moment s.told ≡ o → verdict kind (option_map (found_at s.told) o) seen ≡ Some f
        → (verdict kind None seen ≡ Some f → IsFoundAt kind seen f) → IsFoundAt kind (s ∷ seen) f
    by None none found later =
        let rest = later found in
        record { i = suc rest.i; s = rest.s; at = rest.at; detail = rest.detail; is = rest.is; found = rest.found }
    by (Some d) some found later =
        let both : Some (found_at s.told d) ≡ Some f = sym (found_stays kind (found_at s.told d) seen) ∙ found in
        record { i = 0; s = s; at = refl; detail = d; is = some; found = (let same : f ≡ found_at s.told d = cc in same) }

pub found_in_all : (kind i : ℕ) (seen : List Sight) (state : Option Found) (f : Found)
    → verdict kind state (take i seen) ≡ Some f
    → verdict kind state seen ≡ Some f
found_in_all kind zero seen state f is = ap (λ (o : Option Found). verdict kind o seen) is ∙ found_stays kind f seen
found_in_all kind (suc i) [] state f is = is
found_in_all kind (suc i) (s ∷ seen) state f is = found_in_all kind i seen (judge kind state s.moment s.told) f is

-- a record more, at which nothing is found
pub verdict_behind : (kind : ℕ) (seen : List Sight) (s : Sight) (state : Option Found) → detail_of kind s.moment s.told ≡ None
    → verdict kind state (seen ++ s ∷ []) ≡ verdict kind state seen
verdict_behind kind [] s None none = ap (option_map (found_at s.told)) none
verdict_behind kind [] s (Some f) none = refl
verdict_behind kind (t ∷ seen) s state none = verdict_behind kind seen s (judge kind state t.moment t.told) none
