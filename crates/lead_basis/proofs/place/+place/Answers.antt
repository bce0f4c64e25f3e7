use Rattle.std.proofs.Common.{rules, ◌≡◌, ◌≢◌, ◌<◌, ◌≤◌, ◌%◌, length, drop, slice_index, All, ℕ, List, ap, sym, subst, refl, ◌∙◌, arith, add-one}
use Rattle.std.proofs.lemmas.Bool.{false≢true}
use Rattle.std.proofs.lemmas.List.Elements.{at_read}
use Rattle.word_rows.specs.Rows.{lead, pivot}
use Rattle.lead_basis.specs.Remainders.{TakesMultiple}
use Rattle.lead_basis.specs.Inserts.{HasLead, LacksLead}
use Rattle.lead_basis.proofs.Preceding.{precedes, closing_is_row, closing_later}
use Rattle.lead_basis.proofs.Smaller.{exchanged_later}
use Rattle.lead_basis.proofs.Places.{basis_after, exchanges, adds_from_passed, adds_from_refused, adds_from_exchanged, adds_from_kept, adds_from_new}
use Rattle.lead_basis.proofs.Reached.{basis_reached, adds_from_reached, meets, left_leads_later, adds_from_any_err, adds_from_zero}
use Rattle.lead_basis.proofs.Writing.{set_cases, insert_cases, writes_own}
use Rattle.lead_basis.proofs.place.+place.Goals as goal

pub add-place-requires : goal.add-place-requires
add-place-requires g t c κs within =
    let x = precedes g.row.N (drop c.args.at c.args.rows.now.items) c.args.row.now c.normal-own.result c.closing.result c.requires.basis c.known.ensures.row c.normal-own.ensures c.requires.some c.requires.later c.closing.ensures in
    let later = closing_later x in
    let w = c.known.ensures.row.width in let v = (closing_is_row x).width in let some = c.requires.some in
    (omega arith, (search rules, (within, (search rules, (c.requires.within, c.requires.basis)))))

pub add-returns-in_err-place-clause-adds : goal.add-returns-in_err-place-clause-adds
add-returns-in_err-place-clause-adds g t c =
    let x = precedes g.row.N (drop c.args.at c.args.rows.now.items) c.args.row.now c.normal-own.result c.closing.result c.requires.basis c.known.ensures.row c.normal-own.ensures c.requires.some c.requires.later c.closing.ensures in
    let inside : c.args.at ≤ length c.args.rows.now.items = let h = c.requires.within in let ok = c.args.rows.now.ok in omega arith in
    adds_from_any_err g.row.N c.args.at c.args.rows.now.items c.args.row.now c.place.new.rows.items c.from_residual.result c.args.steps.now c.place.new.steps c.from_residual.ensures.0
    (λ e. adds_from_kept g.row.N c.args.at c.args.rows.now.items inside c.args.row.now c.normal-own.result c.closing.result x c.place.new.rows.items c.place.result e c.args.steps.now c.place.new.steps c.place.ensures.adds)

pub add-returns-in-Ok-clause-adds : goal.add-returns-in-Ok-clause-adds
add-returns-in-Ok-clause-adds g t c =
    let x = precedes g.row.N (drop c.args.at c.args.rows.now.items) c.args.row.now c.normal-own.result c.closing.result c.requires.basis c.known.ensures.row c.normal-own.ensures c.requires.some c.requires.later c.closing.ensures in
    let inside : c.args.at ≤ length c.args.rows.now.items = let h = c.requires.within in let ok = c.args.rows.now.ok in omega arith in
    let items = c.in-Ok.ensures.items in let ticked = c.tick.ensures in
    rw (items, ticked) (adds_from_new g.row.N c.args.at c.args.rows.now.items inside c.args.row.now c.normal-own.result c.closing.result x c.place.new.rows.items c.in_ok-place.field-0 c.args.steps.now c.place.new.steps c.in_ok-place.ensures.adds)

pub add-returns-in-Err-clause-adds : goal.add-returns-in-Err-clause-adds
add-returns-in-Err-clause-adds g t c =
    let x = precedes g.row.N (drop c.args.at c.args.rows.now.items) c.args.row.now c.normal-own.result c.closing.result c.requires.basis c.known.ensures.row c.normal-own.ensures c.requires.some c.requires.later c.closing.ensures in
    let inside : c.args.at ≤ length c.args.rows.now.items = let h = c.requires.within in let ok = c.args.rows.now.ok in omega arith in
    let items = c.in-Err.ensures.items in
    rw items (adds_from_kept g.row.N c.args.at c.args.rows.now.items inside c.args.row.now c.normal-own.result c.closing.result x c.place.new.rows.items c.place.result (record {}) c.args.steps.now c.place.new.steps c.place.ensures.adds)

pub exchange-normal-own-requires : goal.exchange-normal-own-requires
exchange-normal-own-requires g t c =
    let below : c.args.at < length c.args.rows.now.items = let h = c.requires.within in let ok = c.args.rows.now.ok in omega arith in
    let b = basis_after g.row.N c.args.rows.now.items c.args.at c.args.row.now below c.requires.basis in
    let w = b.0.within in let e = c.requires.same_lead c.args.row.now in (search rules, omega arith)

pub exchange-place-requires : goal.exchange-place-requires
exchange-place-requires g t c κs within =
    let below : c.args.at < length c.args.rows.now.items = let h = c.requires.within in let ok = c.args.rows.now.ok in omega arith in
    let x = exchanges g.row.N c.args.at c.args.rows.now.items below c.requires.basis c.args.row.now c.index.result.now c.normal-own.result c.take_multiple.new.row c.known.ensures.row c.index.ensures c.normal-own.ensures
    (c.requires.same_lead c.index.result.now) (c.requires.left_over c.index.result.now) c.take_multiple.ensures in
    let later = exchanged_later x in
    let same = c.requires.same_lead c.index.result.now in
    let v = x.takes.is_row.width in let u = c.known.ensures.row.width in let w = x.leads.within in
    (omega arith, (search rules, (within, (search rules, (let h = c.requires.within in omega arith, rw add-one x.basis)))))

pub exchange-returns-in_err-place-clause-adds : goal.exchange-returns-in_err-place-clause-adds
exchange-returns-in_err-place-clause-adds g t c =
    let below : c.args.at < length c.args.rows.now.items = let h = c.requires.within in let ok = c.args.rows.now.ok in omega arith in
    let x = exchanges g.row.N c.args.at c.args.rows.now.items below c.requires.basis c.args.row.now c.index.result.now c.normal-own.result c.take_multiple.new.row c.known.ensures.row c.index.ensures c.normal-own.ensures
    (c.requires.same_lead c.index.result.now) (c.requires.left_over c.index.result.now) c.take_multiple.ensures in
    adds_from_any_err g.row.N c.args.at c.args.rows.now.items c.args.row.now c.place.new.rows.items c.from_residual.result c.args.steps.now c.place.new.steps c.from_residual.ensures.0
    (λ e. adds_from_refused g.row.N c.args.at c.args.rows.now.items below c.args.row.now c.index.result.now c.normal-own.result c.take_multiple.new.row x c.place.new.rows.items e c.args.steps.now c.place.new.steps (rw add-one at c.in_err-place.ensures.adds))

pub exchange-returns-clause-adds : goal.exchange-returns-clause-adds
exchange-returns-clause-adds g t c =
    let below : c.args.at < length c.args.rows.now.items = let h = c.requires.within in let ok = c.args.rows.now.ok in omega arith in
    let x = exchanges g.row.N c.args.at c.args.rows.now.items below c.requires.basis c.args.row.now c.index.result.now c.normal-own.result c.take_multiple.new.row c.known.ensures.row c.index.ensures c.normal-own.ensures
    (c.requires.same_lead c.index.result.now) (c.requires.left_over c.index.result.now) c.take_multiple.ensures in
    let ticked = c.tick.ensures in
    rw ticked (adds_from_exchanged g.row.N c.args.at c.args.rows.now.items below c.args.row.now c.index.result.now c.normal-own.result c.take_multiple.new.row x c.place.new.rows.items c.in_ok-place.field-0 c.args.steps.now c.place.new.steps (rw add-one at c.in_ok-place.ensures.adds))

pub place-returns-in_default-clause-adds : goal.place-returns-in_default-clause-adds
place-returns-in_default-clause-adds g t c =
    let zero = c.lead.ensures.zero.0 (rw c.in_default.is refl) in
    rw zero (adds_from_zero g.row.N c.args.from c.args.rows.now.items c.args.steps.now c.requires.basis)

pub place-add-requires : goal.place-add-requires
place-add-requires g t c κs within =
    let lacks = subst (λ (x : List (List ℕ)). LacksLead x c.args.from c.in-Some.lead c.in-Err.at) c.deref.ensures.value c.in-Err.ensures in
    let basis = basis_reached g.row.N c.args.from c.in-Err.at c.args.rows.now.items lacks.reached.start lacks.reached.end c.requires.basis in
    let is_lead = c.in-Some.ensures.first in let inside = c.in-Some.ensures.within in let end = lacks.reached.end in let ok = c.args.rows.now.ok in
    let later = subst (λ (k : ℕ). All (λ r. k < lead r) (drop c.in-Err.at c.args.rows.now.items)) is_lead lacks.later in
    (omega arith, (search rules, (within, (search rules, (omega arith, (basis, (omega arith, later)))))))

pub place-returns-in-Err-clause-adds : goal.place-returns-in-Err-clause-adds
place-returns-in-Err-clause-adds g t c =
    let lacks = subst (λ (x : List (List ℕ)). LacksLead x c.args.from c.in-Some.lead c.in-Err.at) c.deref.ensures.value c.in-Err.ensures in
    adds_from_reached g.row.N c.args.from c.in-Err.at c.in-Some.lead c.args.rows.now.items c.args.row.now c.add.new.rows.items c.add.result c.args.steps.now c.add.new.steps
    lacks.reached c.in-Some.ensures.first c.requires.basis c.known.ensures.row c.add.ensures.adds

pub place-place-requires : goal.place-place-requires
place-place-requires g t c κs within =
    let has = subst (λ (x : List (List ℕ)). HasLead x c.args.from c.in-Some.lead c.in-Ok.at) c.deref.ensures.value c.in-Ok.ensures in
    let is_lead = c.in-Some.ensures.first in let inside = c.in-Some.ensures.within in
    let m = meets g.row.N c.args.from c.in-Ok.at c.in-Some.lead c.args.rows.now.items c.args.row.now c.index-then-divides.result.now has is_lead c.requires.basis c.index-then-divides.ensures in
    let takes = c.take_multiple.ensures m.first.within in
    let later = left_leads_later g.row.N c.in-Ok.at c.args.rows.now.items c.args.row.now c.index-then-divides.result.now c.index.result.now c.take_multiple.new.row m (omega arith) takes c.index-then-divides.ensures c.index.ensures (c.divides.ensures.0 c.if-divides.true) in
    let v = takes.is_row.width in let u = c.known.ensures.row.width in let below = m.below in let ok = c.args.rows.now.ok in
    (omega arith, (search rules, (within, (search rules, (omega arith, rw add-one m.rest)))))

pub place-returns-then-divides-clause-adds : goal.place-returns-then-divides-clause-adds
place-returns-then-divides-clause-adds g t c =
    let has = subst (λ (x : List (List ℕ)). HasLead x c.args.from c.in-Some.lead c.in-Ok.at) c.deref.ensures.value c.in-Ok.ensures in
    let is_lead = c.in-Some.ensures.first in let inside = c.in-Some.ensures.within in
    let m = meets g.row.N c.args.from c.in-Ok.at c.in-Some.lead c.args.rows.now.items c.args.row.now c.index-then-divides.result.now has is_lead c.requires.basis c.index-then-divides.ensures in
    let takes = c.take_multiple.ensures m.first.within in
    let later = left_leads_later g.row.N c.in-Ok.at c.args.rows.now.items c.args.row.now c.index-then-divides.result.now c.index.result.now c.take_multiple.new.row m (omega arith) takes c.index-then-divides.ensures c.index.ensures (c.divides.ensures.0 c.if-divides.true) in
    let same = m.same_lead in let is = ap lead c.index-then-divides.ensures in
    adds_from_reached g.row.N c.args.from c.in-Ok.at c.in-Some.lead c.args.rows.now.items c.args.row.now c.place.new.rows.items c.place.result c.args.steps.now c.place.new.steps
    has.reached is_lead c.requires.basis c.known.ensures.row
    (adds_from_passed g.row.N c.in-Ok.at c.args.rows.now.items c.args.row.now m.below m.basis c.known.ensures.row c.index-then-divides.result.now c.take_multiple.new.row c.place.new.rows.items c.place.result c.args.steps.now c.place.new.steps
    (subst (λ (x : List ℕ). TakesMultiple g.row.N x c.args.row.now c.take_multiple.new.row) c.index-then-divides.ensures takes) (omega arith) (rw add-one at c.place.ensures.adds))

pub place-exchange-requires : goal.place-exchange-requires
place-exchange-requires g t c κs within =
    let has = subst (λ (x : List (List ℕ)). HasLead x c.args.from c.in-Some.lead c.in-Ok.at) c.deref.ensures.value c.in-Ok.ensures in
    let is_lead = c.in-Some.ensures.first in let inside = c.in-Some.ensures.within in
    let m = meets g.row.N c.args.from c.in-Ok.at c.in-Some.lead c.args.rows.now.items c.args.row.now c.index.result.now has is_lead c.requires.basis c.index.ensures in
    let left : slice_index c.args.row.now (lead c.args.row.now) % pivot c.index.result.now ≢ 0 = λ z.
    absurd (false≢true (sym c.if-divides.false ∙ c.divides.ensures.1 (ap (λ (k : ℕ). slice_index c.args.row.now k % pivot c.index.result.now) m.same_lead ∙ z))) in
    let below = m.below in let ok = c.args.rows.now.ok in (
      omega arith,
      (
        search rules,
        (
          within,
          (
            search rules,
            (
              omega arith,
              (
                m.basis,
                (
                  at_read c.args.rows.now.items (λ r. lead r ≡ lead c.args.row.now) c.in-Ok.at c.index.result.now m.below c.index.ensures m.same_lead,
                  at_read c.args.rows.now.items (λ r. slice_index c.args.row.now (lead c.args.row.now) % pivot r ≢ 0) c.in-Ok.at c.index.result.now m.below c.index.ensures left,
                ),
              ),
            ),
          ),
        ),
      ),
    )

pub place-returns-else-divides-clause-adds : goal.place-returns-else-divides-clause-adds
place-returns-else-divides-clause-adds g t c =
    let has = subst (λ (x : List (List ℕ)). HasLead x c.args.from c.in-Some.lead c.in-Ok.at) c.deref.ensures.value c.in-Ok.ensures in
    adds_from_reached g.row.N c.args.from c.in-Ok.at c.in-Some.lead c.args.rows.now.items c.args.row.now c.exchange.new.rows.items c.exchange.result c.args.steps.now c.exchange.new.steps
    has.reached c.in-Some.ensures.first c.requires.basis c.known.ensures.row c.exchange.ensures.adds

pub add-returns-in-Ok-clause-writes : goal.add-returns-in-Ok-clause-writes
add-returns-in-Ok-clause-writes g t c =
    let items = c.in-Ok.ensures.items in
    writes_own g.row.N c.args.rows.now.items c.place.new.rows.items c.insert.new.self.items c.args.row.now c.normal-own.result c.args.marks.now c.place.new.marks c.mark.new.marks c.place.result
    c.place.ensures.writes c.mark.ensures c.requires.some c.normal-own.ensures.same_lead
    (λ r h. insert_cases c.place.new.rows.items c.args.at c.normal-own.result r (rw items at h))

pub exchange-returns-clause-writes : goal.exchange-returns-clause-writes
exchange-returns-clause-writes g t c =
    let below : c.args.at < length c.args.rows.now.items = let h = c.requires.within in let ok = c.args.rows.now.ok in omega arith in
    let b = basis_after g.row.N c.args.rows.now.items c.args.at c.args.row.now below c.requires.basis in
    let w = b.0.within in let e = c.requires.same_lead c.args.row.now in
    writes_own g.row.N c.args.rows.now.items c.place.new.rows.items _ c.args.row.now c.normal-own.result c.args.marks.now c.place.new.marks c.mark.new.marks c.place.result
    c.place.ensures.writes c.mark.ensures (omega arith) c.normal-own.ensures.same_lead (set_cases c.place.new.rows.items c.args.at c.normal-own.result)
