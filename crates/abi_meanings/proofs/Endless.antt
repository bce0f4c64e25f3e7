-- No frame ends of a procedure that has no end in its table.
use Rattle.std.proofs.Common.{◌≡◌, ℕ, zero, suc, ◌==◌, ◌&&◌, Bool, true, false, List, [], ◌∷◌, ◌++◌, slice_get, Option, None, Some, is_some, option_map, refl, sym, ap, subst, ◌∙◌, arith}
use Rattle.std.specs.Prelude.{option_to_list, if◌then◌else◌}
use Rattle.elf_image.specs.declared.image.Image.{Image}
use Rattle.elf_image.specs.Images.{code_at}
use Rattle.rv_step.specs.Harts.{Hart}
use Rattle.entry_values.specs.declared.states.State.{State}
use Rattle.entry_values.specs.declared.flow.Flow.{Flow}
use Rattle.entry_values.specs.declared.flow.Flow.TheVariants.{On, ByTable, CallTo, Foreign, Past, Return, TailOut, Leave, Stuck, Halt}
use Rattle.entry_tables.specs.declared.rows.Line.{Line}
use Rattle.entry_tables.specs.declared.rows.Point.{Point}
use Rattle.entry_tables.specs.declared.rows.Rows.{Rows}
use Rattle.entry_tables.specs.Tables.{IsSettled, Reads, flow_by, flow_of}
use Rattle.entry_tables.specs.Settling.{table_of, point_at, line_of, is_marked, opaque_at, guess_at, point_flow}
use Rattle.entry_tables.proofs.Ordering.{some_same, point_found}
use Rattle.entry_runs.specs.Frames.{Frame}
use Rattle.entry_runs.specs.Theorems.{IsDescribed, LastIsDescribed, Ends}
use Rattle.entry_runs.proofs.Running.{described}
use Rattle.abi_verdicts.specs.declared.ways.Way.{Way}
use Rattle.abi_verdicts.specs.declared.ways.Way.TheVariants.{Home, Out}
use Rattle.abi_verdicts.specs.declared.ways.End.{End}
use Rattle.abi_verdicts.specs.declared.faults.Fault.{Fault}
use Rattle.abi_verdicts.specs.declared.verdicts.Cause.{Cause}
use Rattle.abi_verdicts.specs.declared.verdicts.Verdict.TheVariants.{Kept, Never}
use Rattle.abi_verdicts.specs.Ends.{stuck_way, way_of, end_at, end_of, ends_in, lives, is_live, has_end}
use Rattle.abi_verdicts.specs.Faults.{fault_of}
use Rattle.abi_verdicts.specs.Verdicts.{verdict_of, by_fault, is_kept, cause_of, first_cause}
use Rattle.abi_meanings.specs.Meanings.{EndsIn}

same_number : (n : ℕ) → (n == n) ≡ true
same_number n = search arith

-- an end of its own, which needs no other procedure
record OwnWay (rows : Rows) (point : Point) (flow : Flow) : Type 0 where
  pub way : Way
  pub is : way_of rows point flow ≡ Some way
  pub lives : (ending : List ℕ) → lives ending way ≡ true

stuck_lives : (marked : Bool) (line : Option Line) (ending : List ℕ) → lives ending (stuck_way marked line) ≡ true
stuck_lives true line ending = refl
stuck_lives false (Some line) ending = refl
stuck_lives false None ending = refl

own_way : (rows : Rows) (point : Point) (flow : Flow) → Ends flow → OwnWay rows point flow
own_way rows point Return e = record { way = Home; is = refl; lives = λ ending. refl }
own_way rows point TailOut e = record { way = Out; is = refl; lives = λ ending. refl }
own_way rows point Stuck e = record { way = stuck_way point.marked point.line; is = refl; lives = stuck_lives point.marked point.line }
own_way rows point (On targets u) e = absurd e
own_way rows point (ByTable targets) e = absurd e
own_way rows point (CallTo q next) e = absurd e
own_way rows point (Foreign next) e = absurd e
own_way rows point (Past row next u) e = absurd e
own_way rows point Leave e = absurd e
own_way rows point Halt e = absurd e

has_later : (ending : List ℕ) (p : ℕ) (some : List End) (rest : List End) → has_end ending p rest ≡ true → has_end ending p (some ++ rest) ≡ true
has_later ending p [] rest e = e
has_later ending p (x ∷ some) rest e = by (is_live ending p x) (has_later ending p some rest e)
  where
    by : (t : Bool) → has_end ending p (some ++ rest) ≡ true → (if t then true else has_end ending p (some ++ rest)) ≡ true
    by true e = refl
    by false e = e

-- a point with an end is an end of its procedure
has_there : (image : Image) (rows : Rows) (ending : List ℕ) (points : List Point) (i : ℕ) (point : Point) → slice_get points i ≡ Some point
    → OwnWay rows point (point_flow image rows.guesses point) → has_end ending point.procedure (ends_in image rows points) ≡ true
has_there image rows ending [] i point is own = cc
has_there image rows ending (x ∷ rest) zero point is own =
    let same : x ≡ point = some_same is in
    let end : end_of image rows x ≡ Some (end_at point own.way) =
    ap (λ (q : Point). end_of image rows q) same ∙ ap (λ (w : Option Way). option_map (end_at point) w) own.is in
    let live : is_live ending point.procedure (end_at point own.way) ≡ true =
    ap (λ (t : Bool). t && lives ending own.way) (same_number point.procedure) ∙ own.lives ending in
    ap (λ (o : Option End). has_end ending point.procedure (option_to_list o ++ ends_in image rows rest)) end
    ∙ ap (λ (t : Bool). if t then true else has_end ending point.procedure (ends_in image rows rest)) live
has_there image rows ending (x ∷ rest) (suc i) point is own =
    has_later ending point.procedure (option_to_list (end_of image rows x)) (ends_in image rows rest) (has_there image rows ending rest i point is own)

never_by : (k : Bool) (has : Bool) (fault : Option Fault) (cause : Cause) → (if k then Kept else if has then by_fault fault cause else Never) ≡ Never → has ≡ true → ⊥
never_by true has fault cause e there = cc
never_by false true None cause e there = cc
never_by false true (Some f) cause e there = cc
never_by false false fault cause e there = cc

record OfState (o : Option Point) (s : State) : Type 0 where
  pub point : Point
  pub is : o ≡ Some point

of_state : (o : Option Point) (s : State) → option_map (λ (q : Point). q.state) o ≡ Some s → OfState o s
of_state None s e = cc
of_state (Some point) s e = record { point = point; is = refl }

-- the flow of an address of a procedure is that of the point there
flow_found : (image : Image) (rows : Rows) (p a : ℕ) (point : Point) → point_at rows.points p a ≡ Some point → point.address ≡ a
    → flow_of (table_of image rows) p a ≡ point_flow image rows.guesses point
flow_found image rows p a point is at =
    ap (λ (o : Option Point). flow_by (option_map (λ (c : Point). c.state) o) (is_marked o) (line_of o) (opaque_at image a) (is_some (code_at image a))
    (guess_at rows.guesses a) a) is
    ∙ ap (λ (b : ℕ). flow_by (Some point.state) point.marked point.line (opaque_at image b) (is_some (code_at image b)) (guess_at rows.guesses b) b) (sym at)

pub none_ends : (image : Image) (rows : Rows) (ending : List ℕ) (p r : ℕ) (walk : List ℕ) → IsSettled (table_of image rows) → Reads (code_at image) (table_of image rows)
    → verdict_of (table_of image rows) (ends_in image rows rows.points) ending p r walk ≡ Never
    → (run : ℕ → Hart) (i : ℕ) (f : Frame) → EndsIn (table_of image rows) (code_at image) p run i f → ⊥
none_ends image rows ending p r walk settled reads told run i f e =
    let t = table_of image rows in
    let last : LastIsDescribed t (run i) f =
    (subst (IsDescribed t (run i)) e.frames (described t (code_at image) e.from run e.n settled reads e.has e.is_run e.keeps i (let w = e.within in omega arith))).0 in
    let there : option_map (λ (q : Point). q.state) (point_at rows.points f.procedure f.at) ≡ Some last.state = ap (t.row f.procedure) last.at ∙ last.is in
    let got = of_state (point_at rows.points f.procedure f.at) last.state there in
    let found = point_found rows.points f.procedure f.at got.point got.is in
    let ends : Ends (point_flow image rows.guesses got.point) = subst Ends (flow_found image rows f.procedure f.at got.point got.is found.address) e.ends in
    let has = has_there image rows ending rows.points found.i got.point found.is (own_way rows got.point (point_flow image rows.guesses got.point) ends) in
    never_by (is_kept (t.summary p) p r (ends_in image rows rows.points)) (has_end ending p (ends_in image rows rows.points)) (fault_of t p r walk)
    (cause_of p (first_cause ending p r (ends_in image rows rows.points))) told
    (subst (λ (q : ℕ). has_end ending q (ends_in image rows rows.points) ≡ true) (found.procedure ∙ e.procedure) has)
