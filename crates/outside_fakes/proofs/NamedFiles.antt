-- A list of files in which the count of the first file of a name changes.
use Rattle.std.proofs.Common.{◌≡◌, ◌≢◌, ◌⊎◌, ◌≤◌, ℕ, true, false, List, length, Some, None, cond, nat_lt, get_or, set, arith, inl, inr, refl, sym, ap, ◌∙◌, slice_get, position, bytes_eq, string_bytes}
use Rattle.std.proofs.lemmas.List.Folds.{find-set, find_past, find_at}
use Rattle.std.proofs.lemmas.Bool.Decides.{nat_tests}
use Rattle.std.proofs.lemmas.List.Quantifiers.{position-Some}
use Rattle.std.proofs.lemmas.Option.{cond_some, slice_get-get_or, slice_get_past}
use Rattle.std.proofs.lemmas.Slice.Eq.{bytes_eq-Decides}
use Rattle.std.specs.List.{position_or_len}
use Rattle.outside.specs.Counts.{NeverFalls, one_more, top}
use Rattle.outside_fakes.specs.Named.{contents_named, faults_named, is_named, first_named}
use Rattle.outside_fakes.specs.declared.mem_file.MemFile.{MemFile}

cases_text : (xs ys : List ℕ) → ((bytes_eq xs ys ≡ true) × (xs ≡ ys)) ⊎ ((bytes_eq xs ys ≡ false) × (xs ≢ ys))
cases_text xs ys =
    elim (bytes_eq xs ys)
    as (λ b. (b ≡ true → xs ≡ ys) × (xs ≡ ys → b ≡ true) → ((b ≡ true) × (xs ≡ ys)) ⊎ ((b ≡ false) × (xs ≢ ys)))
    [ true ↦ λ h. inl (refl, h.0 refl) | false ↦ λ h. inr (refl, λ e. let f : false ≡ true = h.1 e in cc) ]
    (bytes_eq-Decides xs ys)

-- the first file of the name had one count and has another, and the first files of other names stay
pub record Recounted (old new : List MemFile) (name : List ℕ) (file : MemFile) (n : ℕ) : Type 0 where
  pub was : first_named old name ≡ Some file
  pub now : first_named new name ≡ Some (record file { faults = n })
  pub others : (other : List ℕ) → other ≢ name → first_named new other ≡ first_named old other

-- what `position` says of the first file
pub absent : (files : List MemFile) (name : List ℕ) → position (is_named name) files ≡ None → first_named files name ≡ None
absent files name place =
    find_at (is_named name) files ∙ slice_get_past files _ (past (position_or_len (is_named name) files) (length files) place)
  where
    past : (i n : ℕ) → cond (nat_lt i n) (Some i) None ≡ None → n ≤ i
    past i n e = grind (arith, nat_tests)

pub present : (files : List MemFile) (name : List ℕ) (i : ℕ) (file : MemFile) →
    position (is_named name) files ≡ Some i → file ≡ get_or files i file → first_named files name ≡ Some file
present files name i file place at =
    find_at (is_named name) files
    ∙ ap (slice_get files) (cond_some _ _ _ place).1
    ∙ slice_get-get_or files i file (position-Some (is_named name) files i file place).0
    ∙ ap Some (sym at)

pub recounted : (files : List MemFile) (name : List ℕ) (i : ℕ) (file counted : MemFile) (n : ℕ) →
    position (is_named name) files ≡ Some i → file ≡ get_or files i file → counted ≡ record file { faults = n } →
    Recounted files (set files i counted) name file n
recounted files name i file counted n place at change = rw change (
    let found = position-Some (is_named name) files i file place in
    let named : is_named name file ≡ true = rw (← at) at found.1 in
    let called : string_bytes file.name ≡ name = (bytes_eq-Decides _ _).0 named in
    record {
      was = present files name i file place at;
      now = find-set (is_named name) files i (record file { faults = n }) (sym (cond_some _ _ _ place).1) found.0 named;
      others = λ other different.
          let unnamed : is_named other file ≡ false = elim (cases_text (string_bytes file.name) other) [
            | inl same ↦ absurd (different (sym same.1 ∙ called))
            | inr differs ↦ differs.0
          ] in
          find_past (is_named other) files i (record file { faults = n }) file (rw (← at) unnamed) unnamed;
    })

-- what a call that counts one more fault of a name does to contents and counts
pub record CountsOne (old new : List MemFile) (name : List ℕ) (n : ℕ) : Type 0 where
  pub contents_stay : (other : List ℕ) → contents_named new other ≡ contents_named old other
  pub counted : faults_named new n name ≡ one_more (faults_named old n name)
  pub never_fall : (other : List ℕ) → NeverFalls (faults_named old n other) (faults_named new n other)
  pub others_stay : (other : List ℕ) → other ≢ name → faults_named new n other ≡ faults_named old n other

pub counts_one : (old new : List MemFile) (name : List ℕ) (file : MemFile) (n : ℕ) → file.faults ≤ top →
    Recounted old new name file (one_more file.faults) → CountsOne old new name n
counts_one old new name file n fits change = record {
  contents_stay = λ other. elim (cases_text other name) [
    | inl same ↦ rw (same.1, change.was, change.now) refl
    | inr differs ↦ rw (change.others other differs.1) refl
  ];
  counted = rw (change.was, change.now) refl;
  never_fall = λ other. elim (cases_text other name) [
    | inl same ↦ rw (same.1, change.was, change.now) (record { least = omega arith; stays_at_top = λ e. omega arith })
    | inr differs ↦ rw (change.others other differs.1) (record { least = omega arith; stays_at_top = λ e. e })
  ];
  others_stay = λ other differs. rw (change.others other differs) refl;
}
