-- Findings and routines, one more.
use Rattle.std.proofs.Common.{◌≡◌, ℕ, zero, suc, ◌+◌, ◌<◌, List, [], ◌∷◌, ◌++◌, map, drop, get_or, length, refl, sym, ap, subst, ◌∙◌}
use Rattle.std.proofs.lemmas.List.{at_drop_more, append_assoc}
use Rattle.elf_image.specs.declared.image.Image.{Image}
use Rattle.entry_tables.proofs.Ordering.{some_same}
use Rattle.entry_tables.specs.declared.rows.Rows.{Rows}
use Rattle.entry_tables.specs.declared.rows.Told.{Told}
use Rattle.entry_tables.specs.Tables.{Table}
use Rattle.abi_verdicts.specs.declared.ways.End.{End}
use Rattle.abi_routines.specs.declared.finding.Finding.{Finding}
use Rattle.abi_routines.specs.declared.finding.Routine.{Routine}
use Rattle.abi_routines.specs.Findings.{IsFinding, AreFindings, place_of, asked, IsRoutine, AreRoutines}

pub found_all : (t : Table) (ends : List End) (ending : List ℕ) (xs ys : List Finding) → AreFindings t ends ending xs → AreFindings t ends ending ys → AreFindings t ends ending (xs ++ ys)
found_all t ends ending [] ys those these i f is = these i f is
found_all t ends ending (x ∷ xs) ys those these zero f is = those zero f is
found_all t ends ending (x ∷ xs) ys those these (suc i) f is = found_all t ends ending xs ys (λ j g e. those (suc j) g e) these i f is

pub found_one : (t : Table) (ends : List End) (ending : List ℕ) (one : Finding) → IsFinding t ends ending one → AreFindings t ends ending (one ∷ [])
found_one t ends ending one is zero f e = subst (IsFinding t ends ending) (some_same e) is
found_one t ends ending one is (suc i) f e = cc

pub map_both : (xs ys : List Finding) → map place_of (xs ++ ys) ≡ map place_of xs ++ map place_of ys
map_both [] ys = refl
map_both (x ∷ xs) ys = ap (λ (rest : List (ℕ × ℕ)). place_of x ∷ rest) (map_both xs ys)

-- one register more
pub asked_more : (p : ℕ) (registers : List ℕ) (i d : ℕ) (found behind : List Finding) (one : Finding) (total : List (ℕ × ℕ)) → i < length registers
    → behind ≡ found ++ one ∷ [] → place_of one ≡ (p, get_or registers i d) → map place_of found ++ asked p (drop i registers) ≡ total
    → map place_of behind ++ asked p (drop (i + 1) registers) ≡ total
asked_more p registers i d found behind one total within is at so =
    let rest : List (ℕ × ℕ) = asked p (drop (i + 1) registers) in
    ap (λ (xs : List Finding). map place_of xs ++ rest) is ∙ ap (λ (xs : List (ℕ × ℕ)). xs ++ rest) (map_both found (one ∷ []))
    ∙ append_assoc (map place_of found) (place_of one ∷ []) rest
    ∙ ap (λ (q : ℕ × ℕ). map place_of found ++ q ∷ rest) at
    ∙ sym (at_drop_more (λ (xs : List ℕ). map place_of found ++ asked p xs) registers i d within) ∙ so

pub routines_more : (image : Image) (rows : Rows) (ends : List End) (ending registers : List ℕ) (all : List Routine) (one : Routine) → AreRoutines image rows ends ending registers all
    → IsRoutine image rows ends ending registers one → AreRoutines image rows ends ending registers (all ++ one ∷ [])
routines_more image rows ends ending registers [] one those this zero r e = subst (IsRoutine image rows ends ending registers) (some_same e) this
routines_more image rows ends ending registers [] one those this (suc i) r e = cc
routines_more image rows ends ending registers (x ∷ all) one those this zero r e = those zero r e
routines_more image rows ends ending registers (x ∷ all) one those this (suc i) r e = routines_more image rows ends ending registers all one (λ j q is. those (suc j) q is) this i r e

procedures_both : (xs : List Routine) (y : Routine) → map (λ (r : Routine). r.procedure) (xs ++ y ∷ []) ≡ map (λ (r : Routine). r.procedure) xs ++ y.procedure ∷ []
procedures_both [] y = refl
procedures_both (x ∷ xs) y = ap (λ (rest : List ℕ). x.procedure ∷ rest) (procedures_both xs y)

-- one procedure more
told_there : (procedures : List Told) (i : ℕ) (d : Told) (all behind : List Routine) (one : Routine) (total : List ℕ) → i < length procedures
    → behind ≡ all ++ one ∷ [] → one.procedure ≡ (get_or procedures i d).procedure
    → map (λ (r : Routine). r.procedure) all ++ map (λ (k : Told). k.procedure) (drop i procedures) ≡ total
    → map (λ (r : Routine). r.procedure) behind ++ map (λ (k : Told). k.procedure) (drop (i + 1) procedures) ≡ total
told_there procedures i d all behind one total within is at so =
    let rest : List ℕ = map (λ (k : Told). k.procedure) (drop (i + 1) procedures) in
    let front : List ℕ = map (λ (r : Routine). r.procedure) all in
    ap (λ (xs : List Routine). map (λ (r : Routine). r.procedure) xs ++ rest) is ∙ ap (λ (xs : List ℕ). xs ++ rest) (procedures_both all one)
    ∙ append_assoc front (one.procedure ∷ []) rest
    ∙ ap (λ (p : ℕ). front ++ p ∷ rest) at
    ∙ sym (at_drop_more (λ (xs : List Told). front ++ map (λ (k : Told). k.procedure) xs) procedures i d within) ∙ so

pub told_more : (procedures read : List Told) → read ≡ procedures → (i : ℕ) (d : Told) (all behind : List Routine) (one : Routine) (total : List ℕ) → i < length read
    → behind ≡ all ++ one ∷ [] → one.procedure ≡ (get_or read i d).procedure
    → map (λ (r : Routine). r.procedure) all ++ map (λ (k : Told). k.procedure) (drop i procedures) ≡ total
    → map (λ (r : Routine). r.procedure) behind ++ map (λ (k : Told). k.procedure) (drop (i + 1) procedures) ≡ total
told_more procedures read same i d all behind one total within is at so =
    told_there procedures i d all behind one total (subst (λ (xs : List Told). i < length xs) same within) is
    (subst (λ (xs : List Told). one.procedure ≡ (get_or xs i d).procedure) same at) so
