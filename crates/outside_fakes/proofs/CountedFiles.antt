-- A list of files with one more fault in the first file of a name.
use Rattle.std.proofs.Common.{◌≡◌, ◌+◌, ◌<◌, ℕ, zero, suc, Bool, true, false, not, List, [], ◌∷◌, length, Some, None, cond, get_or, set, arith, refl, sym, ap, position}
use Rattle.std.proofs.lemmas.List.Quantifiers.{position-Some}
use Rattle.std.proofs.lemmas.Option.{cond_some}
use Rattle.std.specs.List.{position_or_len}
use Rattle.outside.specs.Counts.{one_more}
use Rattle.outside_fakes.specs.Named.{is_named, first_named, counted_named}
use Rattle.outside_fakes.specs.declared.mem_file.MemFile.{MemFile}

pub counts_none : (files : List MemFile) (name : List ℕ) → first_named files name ≡ None → counted_named files name ≡ files
counts_none [] name none = refl
counts_none (f ∷ fs) name none = by (is_named name f) none (counts_none fs name)
  where
    by : (b : Bool) → cond b (Some f) (first_named fs name) ≡ None → (first_named fs name ≡ None → counted_named fs name ≡ fs) →
        cond b (record f { faults = one_more f.faults } ∷ fs) (f ∷ counted_named fs name) ≡ f ∷ fs
    by true e rest = absurd (let no : ⊥ = cc in no)
    by false e rest = ap (λ gs. f ∷ gs) (rest e)

counts_at : (files : List MemFile) (name : List ℕ) (i : ℕ) (file : MemFile) → i ≡ position_or_len (is_named name) files → i < length files →
    file ≡ get_or files i file → set files i (record file { faults = one_more file.faults }) ≡ counted_named files name
counts_at [] name i file place within at = absurd (omega arith)
counts_at (f ∷ fs) name zero file place within at = by (is_named name f) place
  where
    by : (b : Bool) → 0 ≡ cond (not b) (1 + position_or_len (is_named name) fs) 0 →
        record file { faults = one_more file.faults } ∷ fs ≡ cond b (record f { faults = one_more f.faults } ∷ fs) (f ∷ counted_named fs name)
    by true e = ap (λ (g : MemFile). record g { faults = one_more g.faults } ∷ fs) at
    by false e = absurd (omega arith)
counts_at (f ∷ fs) name (suc i) file place within at = by (is_named name f) place (λ k. counts_at fs name i file k (omega arith) at)
  where
    by : (b : Bool) → suc i ≡ cond (not b) (1 + position_or_len (is_named name) fs) 0 →
        (i ≡ position_or_len (is_named name) fs → set fs i (record file { faults = one_more file.faults }) ≡ counted_named fs name) →
        f ∷ set fs i (record file { faults = one_more file.faults }) ≡ cond b (record f { faults = one_more f.faults } ∷ fs) (f ∷ counted_named fs name)
    by true e rest = absurd (omega arith)
    by false e rest = ap (λ gs. f ∷ gs) (rest (omega arith))

pub counts_first : (files : List MemFile) (name : List ℕ) (i : ℕ) (file counted : MemFile) → position (is_named name) files ≡ Some i →
    file ≡ get_or files i file → counted ≡ record file { faults = one_more file.faults } → set files i counted ≡ counted_named files name
counts_first files name i file counted place at change = rw change
    (counts_at files name i file (sym (cond_some _ _ _ place).1) (position-Some (is_named name) files i file place).0 at)
