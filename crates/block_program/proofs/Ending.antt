-- The table of entries and exits, procedure by procedure.
use Rattle.std.proofs.Common.{◌≡◌, ℕ, ◌+◌, ◌<◌, ◌↔◌, inl, inr, List, length, get_or, Bool, true, false, set, ap, sym, subst, ◌∙◌, arith}
use Rattle.std.proofs.lemmas.Bool.{cases_eq}
use Rattle.std.proofs.lemmas.List.{length-set, get_or-set_same, get_or-set_other, get_or_default}
use Rattle.affine_prog.specs.declared.Program.{Program}
use Rattle.affine_prog.specs.Programs.{entry_of, exit_of}
use Rattle.block_program.specs.Ends.{AreEnds}
use Rattle.block_program.specs.InnerNodes.{IsEnd}

pub ends_push : (program : Program) (k : ℕ) (table : List Bool) (entry exit : ℕ) → entry ≡ entry_of program k → exit ≡ exit_of program k → entry < program.nodes → exit < program.nodes
    → AreEnds program k table → AreEnds program (k + 1) (set (set table entry true) exit true)
ends_push program k table entry exit at_entry at_exit in_entry in_exit t = record {
  long = length-set (set table entry true) exit true ∙ length-set table entry true ∙ t.long;
  at = λ v below. elim (cases_eq v exit) [
    | inl e ↦ (
      λ h. record { proc = k; within = omega arith; either = inr (sym at_exit ∙ sym e) },
      λ h. subst (λ (i : ℕ). get_or (set (set table entry true) exit true) i false ≡ true) (sym e) (get_or-set_same (set table entry true) exit true false (let l = length-set table entry true in let m = t.long in omega arith)),
    )
    | inr no_exit ↦
        let past = get_or-set_other (set table entry true) exit v true false no_exit in
        elim (cases_eq v entry) [
          | inl e ↦ (
            λ h. record { proc = k; within = omega arith; either = inl (sym at_entry ∙ sym e) },
            λ h. past ∙ subst (λ (i : ℕ). get_or (set table entry true) i false ≡ true) (sym e) (get_or-set_same table entry true false (let m = t.long in omega arith)),
          )
          | inr no_entry ↦
              let old = past ∙ get_or-set_other table entry v true false no_entry in (
                λ h. let r = (t.at v below).0 (sym old ∙ h) in record { proc = r.proc; within = let b = r.within in omega arith; either = r.either },
                λ h. old ∙ (t.at v below).1 (record {
                  proc = h.proc;
                  within = elim (cases_eq h.proc k) [
                    | inl same ↦ elim h.either [
                      | inl a ↦ absurd (no_entry (sym a ∙ ap (entry_of program) same ∙ sym at_entry))
                      | inr a ↦ absurd (no_exit (sym a ∙ ap (exit_of program) same ∙ sym at_exit))
                    ]
                    | inr other ↦ let b = h.within in omega (arith, other)
                  ];
                  either = h.either;
                }),
              )
        ]
  ];
}

pub end_told : (program : Program) (table : List Bool) → AreEnds program (length program.procs) table → (v : ℕ) (b : Bool) → v < program.nodes → b ≡ get_or table v b → (b ≡ true) ↔ IsEnd program v
end_told program table t v b below is =
    let same : b ≡ get_or table v false = is ∙ get_or_default table v b false (let l = t.long in omega arith) in (
      λ h. let r = (t.at v below).0 (sym same ∙ h) in record { proc = r.proc; within = r.within; either = r.either },
      λ h. same ∙ (t.at v below).1 (record { proc = h.proc; within = h.within; either = h.either }),
    )
