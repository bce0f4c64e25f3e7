-- The instructions of points, one point after the other.
use Rattle.std.proofs.Common.{◌≡◌, ◌⊎◌, ℕ, ◌+◌, ◌<◌, List, [], ◌∷◌, ◌++◌, length, map, get_or, take, Contains, Option, None, Some, slice_get, sym, subst, ◌∙◌, ap, inl, inr, arith}
use Rattle.std.proofs.lemmas.List.{map-append, take_more}
use Rattle.std.proofs.lemmas.List.Elements.{All-push, All-contains, All-contains_itself, All-take, Contains-push, Contains-append_left}
use Rattle.std.proofs.lemmas.Option.{get_or_from_slice_get, slice_get_within}
use Rattle.elf_image.specs.declared.fetched.Fetched.{Fetched}
use Rattle.flow_points.specs.PointLists.{FlowPoints, HasCode}
use Rattle.flow_points.specs.Flows.{IsCode}
use Rattle.flow_points.specs.declared.code_points.CodePoint.{CodePoint}
use Rattle.flow_points.proofs.Cited.{from_map, item_there}
use Rattle.run_watch.specs.declared.places.CodeAt.{CodeAt}
use Rattle.run_watch.specs.Runs.{AreInstructionsOf, instruction_of, IsPut}

abbrev length_in : Option Fetched → ℕ
length_in None = 0
length_in (Some at) = at.length

Contains-take : {X : Type 0} (i : ℕ) (xs : List X) (x : X) → Contains (take i xs) x → Contains xs x
Contains-take i xs x h = All-contains (λ y. Contains xs y) (take i xs) x (All-take (λ y. Contains xs y) i xs (All-contains_itself xs)) h

-- points at one address have instructions of one length
one_length : (points : FlowPoints) → HasCode points → (p c : CodePoint) → Contains points.points p → Contains points.points c
    → p.point.address ≡ c.point.address → p.length ≡ c.length
one_length points has p c p_in c_in e =
    let p_code : IsCode has.fetches p = All-contains (IsCode has.fetches) points.points p has.are.code p_in in
    let c_code : IsCode has.fetches c = All-contains (IsCode has.fetches) points.points c has.are.code c_in in
    let same : Some (record { word = p.word; length = p.length }) ≡ Some (record { word = c.word; length = c.length }) =
    sym p_code.instr.fetched ∙ ap has.fetches.at e ∙ c_code.instr.fetched in
    ap (λ (o : Option Fetched). length_in o) same

gathered : (points : List CodePoint) (c : CodePoint) (code now : List CodeAt)
    → ((p : CodePoint) → Contains points p → p.point.address ≡ c.point.address → p.length ≡ c.length)
    → AreInstructionsOf points code → IsPut code (instruction_of c) now → AreInstructionsOf (points ++ c ∷ []) now
gathered points c code now same old put =
    let further : (b : CodeAt) → Contains (map instruction_of points) b → Contains (map instruction_of (points ++ c ∷ [])) b =
    λ b h. subst (λ xs. Contains xs b) (sym (map-append instruction_of points (c ∷ [])))
    (Contains-append_left (map instruction_of points) (instruction_of c ∷ []) b h) in
    let itself : Contains (map instruction_of (points ++ c ∷ [])) (instruction_of c) =
    subst (λ xs. Contains xs (instruction_of c)) (sym (map-append instruction_of points (c ∷ [])))
    (Contains-push (map instruction_of points) (instruction_of c)) in
    record {
      all = All-push (λ p. Contains now (instruction_of p)) points c
          (λ k d within. All-contains (λ b. Contains now b) code (instruction_of (get_or points k d)) put.kept (old.all k d within))
          (elim (All-contains (λ b. Contains code b ⊎ (b ≡ instruction_of c)) now put.there put.only put.among) [
            | inr e ↦ subst (λ b. Contains now b) e put.among
            | inl h ↦
                let from = from_map instruction_of points put.there (All-contains (λ b. Contains (map instruction_of points) b) code put.there old.only h) in
                let address : from.0.point.address ≡ c.point.address = ap (λ (b : CodeAt). b.address) from.2 ∙ put.its_address in
                subst (λ b. Contains now b)
                (sym from.2 ∙ (λ i. record { address = address i; length = same from.0 from.1 address i })) put.among
          ]);
      only = λ k d within. elim (put.only k d within) [
        | inl h ↦ further (get_or now k d) (All-contains (λ b. Contains (map instruction_of points) b) code (get_or now k d) old.only h)
        | inr e ↦ subst (λ b. Contains (map instruction_of (points ++ c ∷ [])) b) (sym e) itself
      ];
      ascending = put.ascending;
    }

-- those of one point more
pub one_more : (points : FlowPoints) (i : ℕ) (c : CodePoint) (code now : List CodeAt) → HasCode points
    → slice_get points.points i ≡ Some c → AreInstructionsOf (take i points.points) code → IsPut code (instruction_of c) now
    → AreInstructionsOf (take (i + 1) points.points) now
one_more points i c code now has is old put =
    let within : i < length points.points = slice_get_within points.points i c is in
    subst (λ ps. AreInstructionsOf ps now)
    (sym (take_more points.points i c within ∙ ap (λ p. take i points.points ++ p ∷ []) (get_or_from_slice_get points.points i c c is)))
    (gathered (take i points.points) c code now
    (λ p h. one_length points has p c (Contains-take i points.points p h) (item_there points.points i c is)) old put)

pub none_yet : AreInstructionsOf [] []
none_yet = record { all = λ k d within. absurd (omega arith); only = λ k d within. absurd (omega arith); ascending = λ p q d lt within. absurd (omega arith) }
