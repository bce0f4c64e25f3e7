-- The address behind an instruction that is fetched is even.
use Rattle.std.proofs.Common.{◌≡◌, ◌⊎◌, inl, inr, ℕ, ◌+◌, ◌%◌, ◌^◌, Bool, true, false, not, List, None, Some, refl, ap, sym, ◌∙◌, arith, subst, ◌==◌, ◌&&◌}
use Rattle.std.specs.Prelude.{if◌then◌else◌}
use Rattle.std.specs.List.{list_any}
use Rattle.std.proofs.lemmas.Bool.{eqb-true}
use Rattle.elf_image.specs.Fetches.{fetch, fetch_length, read}
use Rattle.elf_image.specs.Ranges.{is_in}
use Rattle.elf_image.specs.declared.fetched.Fetched.{Fetched}
use Rattle.elf_image.specs.declared.range.Range.{Range}
use Rattle.rv_step.specs.Harts.{Hart, IsHart, fetched}
use Rattle.rv_step.specs.Steps.{even}
use Rattle.entry_runs.proofs.Leaving.{both}

abbrev fetched_as : ℕ → ℕ → Fetched
fetched_as word length = record { word = word; length = length }

parts : (t : Bool) (w l : ℕ) (at : Fetched) → (if t then Some (fetched_as w l) else None) ≡ Some at → (t ≡ true) × (l ≡ at.length)
parts true w l at e =
    let same : fetched_as w l ≡ at = cc in
    (refl, ap (λ (f : Fetched). f.length) same)
parts false w l at e = cc

two_or_four : (t : Bool) → (if t then 2 else 4) % 2 ≡ 0
two_or_four true = refl
two_or_four false = refl

fetched_even : (unit : ℕ) (code : List Range) (memory : ℕ → ℕ) (a : ℕ) (at : Fetched) → fetch unit code memory a ≡ Some at
    → (a % unit ≡ 0) × (at.length % 2 ≡ 0)
unfolding fetch
fetched_even unit code memory a at e =
    let l = fetch_length unit (memory a) in
    let p = parts (a % unit == 0 && list_any (is_in a l) code) (read l memory a) l at e in (
      eqb-true (a % unit) 0 (both (a % unit == 0) (list_any (is_in a l) code) p.0).0,
      subst (λ (k : ℕ). k % 2 ≡ 0) p.1 (two_or_four (unit == 2 && not (memory a % 4 == 3))),
    )

even_place : (a unit : ℕ) → (unit ≡ 2) ⊎ (unit ≡ 4) → a % unit ≡ 0 → a % 2 ≡ 0
even_place a unit (inl two) e = let f : a % 2 ≡ 0 = ap (λ (u : ℕ). a % u) (sym two) ∙ e in f
even_place a unit (inr four) e = let f : a % 4 ≡ 0 = ap (λ (u : ℕ). a % u) (sym four) ∙ e in omega arith

pub even_behind : (m : Hart) (at : Fetched) → IsHart m → fetched m ≡ Some at → even ((m.pc + at.length) % 2 ^ 64) ≡ (m.pc + at.length) % 2 ^ 64
even_behind m at hart e =
    let f = fetched_even m.unit m.code m.memory m.pc at e in
    let p = even_place m.pc m.unit hart.units f.0 in
    let l = f.1 in
    omega arith
