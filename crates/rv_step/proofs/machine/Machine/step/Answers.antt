use Rattle.std.proofs.Common.{Err, OnOk, Ok, ap, sym, ◌∙◌, subst, refl, Result}
use Rattle.rv_step.specs.Harts.{Hart, IsSame}
use Rattle.rv_step.specs.Machines.{hart_of}
use Rattle.rv_step.specs.Steps.{IsAt, Step}
use Rattle.rv_step.specs.Records.{StopsAt}
use Rattle.rv_step.specs.Records.StopsWith.{illegal}
use Rattle.rv_step.proofs.OneStep.{one_step, only_illegal, own_goes_on, own_there, stops_there}
use Rattle.rv_step.proofs.machine.Machine.step.Goals as goal

pub returns-in_default-decode_with_length-clause-stops : goal.returns-in_default-decode_with_length-clause-stops
returns-in_default-decode_with_length-clause-stops c why stops =
    let fetches = sym c.fetch.ensures ∙ c.in-Some.is in
    ap Err (sym (only_illegal (hart_of c.args.self.now) c.in-Some.at fetches
    (λ instr means. c.in_default-decode_with_length.not-Some instr (c.decode_with_length.ensures.only instr means)) why stops))

pub returns-in_default-decode_with_length-clause-stopped : goal.returns-in_default-decode_with_length-clause-stopped
returns-in_default-decode_with_length-clause-stopped c other =
    illegal c.in-Some.at (sym c.fetch.ensures ∙ c.in-Some.is)
    (λ instr means. c.in_default-decode_with_length.not-Some instr (c.decode_with_length.ensures.only instr means)) refl

pub returns-in-Some-stop_at-clause-stopped : goal.returns-in-Some-stop_at-clause-stopped
returns-in-Some-stop_at-clause-stopped c other =
    let m = hart_of c.args.self.now in
    let instr = c.in-Some-decode_with_length.instr in
    let is_at : IsAt m c.in-Some.at instr = record { fetches = sym c.fetch.ensures ∙ c.in-Some.is; means = c.in-Some-decode_with_length.ensures.found } in
    stops_there m c.in-Some.at instr is_at c.in-Some-stop_at.why (subst (StopsAt m instr) c.in-Some-stop_at.is c.stop_at.ensures)

only_one : {T E : Type 0} (result : Result T E) (m n : Hart) → OnOk result (Step m n)
    → ((p : Hart) → Step m n → Step m p → IsSame n p) → OnOk result ((p : Hart) → Step m p → IsSame n p)
only_one (Ok v) m n step once = λ p other. once p step other
only_one (Err e) m n step once = tt

pub returns-clause-only : goal.returns-clause-only
returns-clause-only c =
    let m = hart_of c.args.self.now in
    let instr = c.in-Some-decode_with_length.instr in
    let is_at : IsAt m c.in-Some.at instr = record { fetches = sym c.fetch.ensures ∙ c.in-Some.is; means = c.in-Some-decode_with_length.ensures.found } in
    let own = own_there m instr (subst (StopsAt m instr) c.in_default-stop_at.is c.stop_at.ensures) in
    only_one c.make.result m (hart_of c.make.new.self) c.make.ensures.stepped (λ p. one_step m (hart_of c.make.new.self) p c.in-Some.at instr is_at own)

pub returns-clause-stops : goal.returns-clause-stops
returns-clause-stops c why stops =
    let m = hart_of c.args.self.now in
    let instr = c.in-Some-decode_with_length.instr in
    let is_at : IsAt m c.in-Some.at instr = record { fetches = sym c.fetch.ensures ∙ c.in-Some.is; means = c.in-Some-decode_with_length.ensures.found } in
    let own = own_there m instr (subst (StopsAt m instr) c.in_default-stop_at.is c.stop_at.ensures) in
    absurd (own_goes_on m c.in-Some.at instr is_at own why stops)
