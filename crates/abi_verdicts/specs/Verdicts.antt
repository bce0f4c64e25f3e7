-- What is told of a register of a procedure.
--
--   Why, Cause               why nothing is told, and the address of what makes it so
--   lost_why r kind          why, where a value was lost in this way
--   value_cause r here v     the cause at a return at `here`, where r has the value v: none, if it is its own. A value that is
--                            known and isn't its own is one that no walk shows
--   end_cause r here v way   the cause at an end
--   own_cause                it, where the end is one of p
--   first_cause              the first one of the ends of p
--   is_whole p ends          no end of p leaves, and none is followed no further
--   is_kept                  what the summary promises of a register: ra goes home at each return
--   verdict_of t ends ending p r walk
--                            the verdict, first kept, then never, then clobbered, by what the walk shows, then unknown.
--                            `ending` are the procedures with an end
use Rattle.std.specs.Prelude.{ℕ, ◌==◌, not, ◌&&◌, ◌||◌, Bool, true, false, List, [], ◌∷◌, get_or, Option, None, Some, if◌then◌else◌}
use Rattle.entry_values.specs.declared.values.Kind.{Kind}
use Rattle.entry_values.specs.declared.values.Kind.TheVariants.{Computed, Callee}
use Rattle.entry_values.specs.declared.values.Value.{Value}
use Rattle.entry_values.specs.declared.values.Value.TheVariants.{Is, Any}
use Rattle.entry_values.specs.Values.{unknown}
use Rattle.entry_tables.specs.Tables.{Table, Summary}
use Rattle.abi_verdicts.specs.declared.ways.Way.{Way}
use Rattle.abi_verdicts.specs.declared.ways.Way.TheVariants.{Home, Out, Away, Jump, NoWord, Limit, Into}
use Rattle.abi_verdicts.specs.declared.ways.End.{End}
use Rattle.abi_verdicts.specs.declared.faults.Fault.{Fault}
use Rattle.abi_verdicts.specs.declared.verdicts.Why.{Why}
use Rattle.abi_verdicts.specs.declared.verdicts.Cause.{Cause}
use Rattle.abi_verdicts.specs.declared.verdicts.Verdict.{Verdict}
use Rattle.abi_verdicts.specs.declared.verdicts.Why.TheVariants.{AtJump, AtNoWord, AtLimit, Leaves, Called, BehindCall, Met, LostSp}
use Rattle.abi_verdicts.specs.declared.verdicts.Verdict.TheVariants.{Kept, Never, Clobbered, Unknown}
use Rattle.abi_verdicts.specs.Ends.{is_live, has_end}
use Rattle.abi_verdicts.specs.Faults.{fault_of}

abbrev pub cause : ℕ → Why → Cause
cause a why = record { address = a; why = why }

abbrev pub lost_why : ℕ → Kind → Why
lost_why r Callee = BehindCall
lost_why r Computed = if r == 2 then LostSp else Met
lost_why r kind = Met

abbrev pub value_cause : ℕ → ℕ → Value → Option Cause
value_cause r here (Is b k) = if b == r && k == 0 then None else Some (cause here Met)
value_cause r here (Any a kind) = Some (cause a (lost_why r kind))

abbrev pub returned_cause : ℕ → ℕ → Value → Option Cause
returned_cause r here v = if r == 1 then None else value_cause r here v

abbrev pub end_cause : ℕ → ℕ → Value → Way → Option Cause
end_cause r here v Home = returned_cause r here v
end_cause r here v Out = returned_cause r here v
end_cause r here v Away = Some (cause here Leaves)
end_cause r here v Jump = Some (cause here AtJump)
end_cause r here v NoWord = Some (cause here AtNoWord)
end_cause r here v Limit = Some (cause here AtLimit)
end_cause r here v (Into q) = Some (cause here (Called q))

abbrev pub own_cause : List ℕ → ℕ → ℕ → End → Option Cause
own_cause ending p r end = if is_live ending p end then end_cause r end.address (get_or end.values r unknown) end.way else None

abbrev pub or_else : Option Cause → Option Cause → Option Cause
or_else (Some c) d = Some c
or_else None d = d

abbrev pub first_cause : List ℕ → ℕ → ℕ → List End → Option Cause
first_cause ending p r [] = None
first_cause ending p r (end ∷ rest) = or_else (own_cause ending p r end) (first_cause ending p r rest)

abbrev pub cause_of : ℕ → Option Cause → Cause
cause_of p (Some c) = c
cause_of p None = cause p Met

abbrev pub goes_on : Way → Bool
goes_on Home = true
goes_on Out = true
goes_on (Into q) = true
goes_on way = false

abbrev pub is_whole : ℕ → List End → Bool
is_whole p [] = true
is_whole p (end ∷ rest) = if end.procedure == p && not (goes_on end.way) then false else is_whole p rest

abbrev pub is_kept : Summary → ℕ → ℕ → List End → Bool
is_kept k p r ends = k.returns && (r == 1 || k.keeps r) && is_whole p ends

abbrev pub by_fault : Option Fault → Cause → Verdict
by_fault (Some fault) c = Clobbered fault
by_fault None c = Unknown c

abbrev pub verdict_of : Table → List End → List ℕ → ℕ → ℕ → List ℕ → Verdict
verdict_of t ends ending p r walk =
    if is_kept (t.summary p) p r ends then Kept
    else if has_end ending p ends then by_fault (fault_of t p r walk) (cause_of p (first_cause ending p r ends)) else Never
