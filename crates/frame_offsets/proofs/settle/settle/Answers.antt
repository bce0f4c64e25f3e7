use Rattle.std.proofs.Common.{◌≡◌, ◌<◌, ℕ, List, [], length, Some, false, true, sym, subst, inl, inr, arith}
use Rattle.std.proofs.lemmas.Bool.{cases_lt, true≢false}
use Rattle.std.proofs.lemmas.List.{nil_from_length}
use Rattle.std.proofs.lemmas.List.Elements.{All-pop}
use Rattle.frame_offsets.specs.Searches.{Grows, IsUnderWay}
use Rattle.frame_offsets.proofs.Opening.{begun, finished, gone_on}
use Rattle.frame_offsets.proofs.settle.settle.Goals as goal

pub loop-i-init : goal.loop-i-init
loop-i-init c =
    let none : c.new-changed.result.keys ≡ [] = nil_from_length c.new-changed.result.keys c.new-changed.ensures.len in
    begun c.args.points.now c.known.ensures c.args.table.now c.open_all.new.table c.open_all.new.changed.keys c.requires
    (subst (λ (l : List ℕ). Grows c.args.points.now.points c.args.table.now l c.open_all.new.table c.open_all.new.changed.keys) none
    c.in_ok-open_all.ensures.grows) c.in_ok-open_all.ensures.opened

pub visit-requires-clause-number : goal.visit-requires-clause-number
visit-requires-clause-number c =
    (All-pop (λ k. k < length c.args.points.now.points) _ _ (Some c.in-Some.i) c.in-Some.ensures.keys c.loop-i.invariant.search.numbers).1

pub visit-requires-clause-search : goal.visit-requires-clause-search
visit-requires-clause-search c =
    record {
      justified = c.loop-i.invariant.search.justified;
      numbers = (All-pop (λ k. k < length c.args.points.now.points) _ _ (Some c.in-Some.i) c.in-Some.ensures.keys
          c.loop-i.invariant.search.numbers).0;
    }

pub loop-i-preserved : goal.loop-i-preserved
loop-i-preserved c =
    gone_on c.args.points.now c.known.ensures c.loop-i.table c.visit.new.table c.loop-i.changed.keys c.pop.new.self.keys c.visit.new.changed.keys
    c.in-Some.i c.loop-i.invariant c.in-Some.ensures.keys c.in_ok-visit.ensures

-- a number that isn't more than 0
zero_from_not : (n : ℕ) → (0 < n → false ≡ true) → n ≡ 0
zero_from_not n never =
    elim (cases_lt 0 n) [
      | inl more ↦ absurd (true≢false (sym (never more)))
      | inr none ↦ omega arith
    ]

pub returns : goal.returns
returns c =
    let none = nil_from_length c.loop-i.changed.keys (zero_from_not (length c.loop-i.changed.keys) c.in_default.ensures.found.1) in
    finished c.args.points.now c.loop-i.table (subst (IsUnderWay c.args.points.now c.loop-i.table) none c.loop-i.invariant)
