-- Walks of a procedure, and sources.
use Rattle.std.proofs.Common.{◌≡◌, ℕ, ◌+◌, ◌%◌, ◌^◌, ◌<◌, ℤ, Bool, true, false, eqb, List, [], ◌∷◌, Contains, All, Option, None, Some, option_map, IsSomeAnd, IfSome, slice_get, get_or, if◌then◌else◌, refl, sym, ap, subst, inl, inr, arith}
use Rattle.std.specs.Int.{cast_unsigned, w64}
use Rattle.std.proofs.lemmas.List.Elements.{All-contains, All-nil}
use Rattle.std.proofs.lemmas.Bool.{cases_lt}
use Rattle.std.proofs.lemmas.Option.{get_or_from_slice_get, slice_get_within}
use Rattle.rv_decode.specs.Instructions.{IsWellFormed}
use Rattle.flow_points.specs.Flows.{plus}
use Rattle.flow_points.specs.Walks.{point}
use Rattle.flow_points.specs.PointLists.{FlowPoints, HasCode, IsBefore}
use Rattle.flow_points.specs.declared.code_points.Point.{Point}
use Rattle.flow_points.specs.declared.code_points.Flow.{Flow}
use Rattle.flow_points.specs.declared.code_points.Flow.TheVariants.{Next, Jump, Branch, Call, Return, Halt}
use Rattle.flow_points.specs.declared.code_points.CodePoint.{CodePoint}
use Rattle.flow_points.proofs.PointLaws.{in_range}
use Rattle.flow_points.proofs.Cited.{all_one, all_two, item_there}
use Rattle.frame_offsets.specs.Frames.{FrameWalk, at_entry, begin, goes_on, moved, offsets_after, onward, source_of}

pub get_some : {X : Type 0} (o : Option X) (P : X → Type 0) → IsSomeAnd o P → (x : X) × (o ≡ Some x) × P x
get_some None P h = absurd h
get_some (Some x) P h = (x, refl, h)

below : (a : ℕ) → a % 2 ^ 64 < 2 ^ 64
below a = omega arith

moved_word : (source : Option (ℕ × ℤ)) (offsets : ℕ → Option ℕ) (n : ℕ) → moved source offsets ≡ Some n → n < 2 ^ 64
moved_word None offsets n e = cc
moved_word (Some source) offsets n e = by (offsets source.0) e
  where
    by : (o : Option ℕ) → option_map (λ m. plus m source.1) o ≡ Some n → n < 2 ^ 64
    by None d = cc
    by (Some m) d =
        let same : plus m source.1 ≡ n = cc in
        subst (λ (k : ℕ). k < 2 ^ 64) same (below (m + cast_unsigned w64 source.1))

entry_word : (r n : ℕ) → at_entry r ≡ Some n → n < 2 ^ 64
entry_word r n e = by (eqb r 2) e
  where
    by : (t : Bool) → (if t then Some 0 else None) ≡ Some n → n < 2 ^ 64
    by true d = let zero : 0 ≡ n = cc in omega arith
    by false d = cc

-- offsets are words
pub after_word : (walk : List CodePoint) (r n : ℕ) → offsets_after walk r ≡ Some n → n < 2 ^ 64
after_word [] r n e = entry_word r n e
after_word (c ∷ earlier) r n e = moved_word (source_of c.instr c.flow r) (offsets_after earlier) n e

pub plus_apart : (m n : ℕ) (z : ℤ) → m < 2 ^ 64 → n < 2 ^ 64 → plus m z ≡ plus n z → m ≡ n
plus_apart m n z h k e = apart (cast_unsigned w64 z) e
  where
    apart : (a : ℕ) → (m + a) % 2 ^ 64 ≡ (n + a) % 2 ^ 64 → m ≡ n
    apart a d = omega arith

pub goes_proc : (p : ℕ) (flow : Flow) (q : Point) → Contains (goes_on p flow) q → q.proc_entry ≡ p
goes_proc p flow q h = All-contains (λ (x : Point). x.proc_entry ≡ p) (goes_on p flow) q (all flow) h
  where
    all : (f : Flow) → All (λ (x : Point). x.proc_entry ≡ p) (goes_on p f)
    all (Next n) = all_one (λ (x : Point). x.proc_entry ≡ p) (point p n) refl
    all (Jump t) = all_one (λ (x : Point). x.proc_entry ≡ p) (point p t) refl
    all (Branch n t) = all_two (λ (x : Point). x.proc_entry ≡ p) (point p n) (point p t) refl refl
    all (Call t n) = all_one (λ (x : Point). x.proc_entry ≡ p) (point p n) refl
    all Return = All-nil (λ (x : Point). x.proc_entry ≡ p)
    all Halt = All-nil (λ (x : Point). x.proc_entry ≡ p)

-- a walk, one point further
pub extended : (points : List CodePoint) (walk : List CodePoint) (c d : CodePoint) → FrameWalk points c.point.proc_entry walk c
    → Contains points d → Contains (goes_on c.point.proc_entry c.flow) d.point → FrameWalk points d.point.proc_entry (c ∷ walk) d
extended points walk c d walked at goes =
    subst (λ (p : ℕ). FrameWalk points p (c ∷ walk) d) (sym (goes_proc c.point.proc_entry c.flow d.point goes))
    (onward (c ∷ walk) walk c d walked refl at goes)

pub walk_there : (points : List CodePoint) (p : ℕ) (walk : List CodePoint) (c : CodePoint) → FrameWalk points p walk c → Contains points c
walk_there points p walk c (begin w d e at is) = at
walk_there points p walk c (onward w earlier from to before e at goes) = at

pub walk_proc : (points : List CodePoint) (p : ℕ) (walk : List CodePoint) (c : CodePoint) → FrameWalk points p walk c → c.point.proc_entry ≡ p
walk_proc points p walk c (begin w d e at is) = ap (λ (q : Point). q.proc_entry) is
walk_proc points p walk c (onward w earlier from to before e at goes) = goes_proc p from.flow to.point goes

pub well_formed : (points : FlowPoints) (i : ℕ) (c : CodePoint) → HasCode points → slice_get points.points i ≡ Some c → IsWellFormed c.instr
well_formed points i c has e =
    All-contains (λ d. IsWellFormed d.instr) points.points c (in_range points has) (item_there points.points i c e)

pub at_some : {X : Type 0} (o : Option X) (x : X) (P : X → Type 0) → o ≡ Some x → IsSomeAnd o P → P x
at_some {X = X} o x P e h = subst (λ (p : Option X). IsSomeAnd p P) e h

pub if_some : {X : Type 0} (o : Option X) (x : X) (P : X → Type 0) → o ≡ Some x → IfSome o P → P x
if_some {X = X} o x P e h = subst (λ (p : Option X). IfSome p P) e h

-- a point has one number
pub same_place : (points : FlowPoints) (i j : ℕ) (c d : CodePoint) → HasCode points → slice_get points.points i ≡ Some c
    → slice_get points.points j ≡ Some d → c.point ≡ d.point → i ≡ j
same_place points i j c d has at other e =
    elim (cases_lt i j) [
      | inl h ↦ absurd (not_before c.point d.point e (before i j c d at other h))
      | inr h ↦ elim (cases_lt j i) [
        | inl k ↦ absurd (not_before d.point c.point (sym e) (before j i d c other at k))
        | inr k ↦ omega arith
      ]
    ]
  where
    not_before : (p q : Point) → p ≡ q → IsBefore p q → ⊥
    not_before p q same (inl lt) = let x = ap (λ (r : Point). r.proc_entry) same in omega arith
    not_before p q same (inr lt) = let x = ap (λ (r : Point). r.address) same in omega (arith, lt.1)

    before : (a b : ℕ) (x y : CodePoint) → slice_get points.points a ≡ Some x → slice_get points.points b ≡ Some y → a < b → IsBefore x.point y.point
    before a b x y f g lt =
        let within = slice_get_within points.points b y g in
        let pair = has.are.ascending a b x lt within in
        subst (λ (p : CodePoint). IsBefore p.point y.point) (get_or_from_slice_get points.points a x x f)
        (subst (λ (p : CodePoint). IsBefore (get_or points.points a x).point p.point) (get_or_from_slice_get points.points b y x g) pair)
