use Rattle.std.proofs.Common.{◌≡◌, ℕ, suc, ◌+◌, ◌-◌, List, length, take, drop, ap, subst, ◌∙◌, arith, add-one, take_all, length-drop, length-set}
use Rattle.lead_basis.specs.Remainders.{IsRemainder}
use Rattle.lead_basis.proofs.Reducing.{reduces_more}
use Rattle.lead_basis.proofs.reduce.reduce.Goals as goal

-- the slice from a place on
rest_of : (xs : List (List ℕ)) (k : ℕ) → take (length xs - k) (drop k xs) ≡ drop k xs
rest_of xs k = let e = length-drop k xs in take_all (length xs - k) (drop k xs) (omega arith)

pub loop-i-preserved : goal.loop-i-preserved
loop-i-preserved g c =
    let some = c.loop-i-test.true in
    let up : suc (c.loop-i.i - 1) ≡ c.loop-i.i = omega arith in
    let rest : take (length c.deref.result.now - (c.loop-i.i - 1 + 1)) (drop (c.loop-i.i - 1 + 1) c.deref.result.now) ≡ drop (suc (c.loop-i.i - 1)) c.loop-i.rows.items =
    rest_of c.deref.result.now (c.loop-i.i - 1 + 1) ∙ ap (λ (x : List (List ℕ)). drop (c.loop-i.i - 1 + 1) x) c.deref.ensures.value ∙ ap (λ (k : ℕ). drop k c.loop-i.rows.items) (add-one (c.loop-i.i - 1)) in
    let left = subst (λ (x : List (List ℕ)). IsRemainder g.row.N x c.index.result.now c.take_multiples.new.row) rest c.take_multiples.ensures in
    let within = c.loop-i.invariant.within in
    let more = reduces_more g.row.N (c.loop-i.i - 1) c.args.rows.now.items c.loop-i.rows.items c.index.result.now c.take_multiples.new.row (omega arith) c.requires c.index.ensures
    (rw up c.loop-i.invariant.front) (rw up c.loop-i.invariant.done) left in
    let size = length-set c.loop-i.rows.items (c.loop-i.i - 1) c.take_multiples.new.row in
    record { within = omega arith; front = more.0; done = more.1 }
