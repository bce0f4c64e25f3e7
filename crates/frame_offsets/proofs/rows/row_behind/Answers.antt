use Rattle.std.proofs.Common.{◌≡◌, ◌<◌, ℕ, ℤ, Option, set, length-set, get_or-set_same, get_or-set_other, ap, subst, ◌∙◌, inl, inr, arith}
use Rattle.std.proofs.lemmas.Bool.{cases_lt}
use Rattle.frame_offsets.specs.Tables.{at_row, known_at, passed, passed_from}
use Rattle.frame_offsets.specs.declared.known.Known.TheVariants.{Unmet}
use Rattle.frame_offsets.proofs.rows.row_behind.Goals as goal

pub loop-register-preserved : goal.loop-register-preserved
loop-register-preserved c =
    let row = c.loop-register.row in
    let n = c.loop-register.register in
    let x = c.passed.result in
    let table = c.args.table.now in
    let i = c.args.i in
    let inv = c.loop-register.invariant in
    let lt : c.loop-register.register < 32 = c.loop-register-test.true in
    let here : c.passed.result ≡ passed_from c.args.table.now c.args.i c.args.code.now c.loop-register.register =
    c.passed.ensures ∙ ap (λ (s : Option (ℕ × ℤ)). passed s (known_at table i)) c.source_of.ensures.source in
    record {
      size = length-set row n x ∙ inv.size;
      passed = λ r below. elim (cases_lt r n) [
        | inl h ↦ get_or-set_other row n r x Unmet (λ e. omega arith) ∙ inv.passed r h
        | inr h ↦
            let same : c.loop-register.register ≡ r = omega arith in
            subst (λ (k : ℕ). at_row (set row n x) k ≡ passed_from table i c.args.code.now k) same
            (get_or-set_same row n x Unmet (omega (arith, inv.size)) ∙ here)
      ];
    }
