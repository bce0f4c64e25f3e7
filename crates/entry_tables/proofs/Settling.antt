-- A table whose rows were checked is settled, and its lines are those of the image.
use Rattle.std.proofs.Common.{◌≡◌, ℕ, List, [], ◌∷◌, map, length, slice_get, Contains, Option, None, Some, is_some, refl, sym, ap, subst, ◌∙◌}
use Rattle.std.specs.Prelude.{option_map}
use Rattle.elf_image.specs.Images.{code_at}
use Rattle.elf_image.specs.declared.image.Image.{Image}
use Rattle.entry_values.specs.declared.states.State.{State}
use Rattle.entry_values.specs.declared.flow.Flow.{Flow}
use Rattle.entry_values.specs.declared.flow.Flow.TheVariants.{On, ByTable, CallTo, Foreign, Past, Return, TailOut, Leave, Stuck, Halt}
use Rattle.entry_values.specs.Values.{FitsWord}
use Rattle.entry_values.specs.States.{value_at, start}
use Rattle.entry_tables.specs.declared.rows.Line.{Line}
use Rattle.entry_tables.specs.declared.rows.Told.{Told}
use Rattle.entry_tables.specs.declared.rows.Point.{Point}
use Rattle.entry_tables.specs.declared.rows.Rows.{Rows}
use Rattle.entry_tables.specs.Tables.{Summary, Table, flow_by, flow_of, returned, EachOf, HasRow, KeepsRegisters, KeepsConvention, IsClosed, IsSettled, Reads}
use Rattle.entry_tables.specs.Settling.{told, guess_at, opaque_at, IsLineAt, point_at, line_of, is_marked, summary_of, table_of, HasPoint, HasTold, IsClosedIn, point_flow, IsChecked}
use Rattle.entry_tables.proofs.Reading.{line_there}
use Rattle.entry_tables.proofs.Finding.{mapped, from_map}
use Rattle.entry_tables.proofs.Ordering.{some_same, first_point, first_told, point_found}

-- a point with a state, or with a line
record FromPoint {X : Type 0} (f : Point → X) (o : Option Point) (x : X) : Type 0 where
  pub point : Point
  pub is : o ≡ Some point
  pub gives : f point ≡ x

of_state : (o : Option Point) (s : State) → option_map (λ (q : Point). q.state) o ≡ Some s → FromPoint (λ q. q.state) o s
of_state None s e = cc
of_state (Some q) s e = record { point = q; is = refl; gives = some_same e }

of_line : (o : Option Point) (l : Line) → line_of o ≡ Some l → FromPoint (λ q. q.line) o (Some l)
of_line None l e = cc
of_line (Some q) l e = record { point = q; is = refl; gives = e }

module _ (image : Image) (rows : Rows) (checked : IsChecked image rows) where
  abbrev t : Table
  t = table_of image rows

  point_there : (i : ℕ) (q : Point) → slice_get rows.points i ≡ Some q → point_at rows.points q.procedure q.address ≡ Some q
  point_there i q is = first_point rows.points checked.ascend i q is

  row_there : (p b : ℕ) (u : State) → HasPoint rows.points p b u → HasRow t p b u
  row_there p b u h =
      let there : t.row h.point.procedure h.point.address ≡ Some h.point.state = ap (option_map (λ (q : Point). q.state)) (point_there h.i h.point h.is) in
      record {
        state = h.point.state;
        is = subst (λ (c : ℕ). t.row p c ≡ Some h.point.state) h.address (subst (λ (q : ℕ). t.row q h.point.address ≡ Some h.point.state) h.procedure there);
        less = h.less;
      }

  each_there : (targets : List ℕ) (p : ℕ) (u : State) → EachOf targets (λ b. HasPoint rows.points p b u) → EachOf targets (λ b. HasRow t p b u)
  each_there [] p u h = tt
  each_there (b ∷ rest) p u h = (row_there p b u h.0, each_there rest p u h.1)

  summary_there : (q : ℕ) (k : Told) → HasTold rows.procedures q k → t.summary q ≡ told k
  summary_there q k h = subst (λ (c : ℕ). t.summary c ≡ told k) h.procedure (ap summary_of (first_told rows.procedures checked.ascend_told h.i k h.is))

  procedure_there : (q : ℕ) (k : Told) → HasTold rows.procedures q k → Contains t.procedures q
  procedure_there q k h =
      subst (λ (c : ℕ). Contains (map (λ (j : Told). j.procedure) rows.procedures) c) h.procedure (mapped (λ (j : Told). j.procedure) rows.procedures h.i k h.is)

  closed_there : (k : Told) (p a : ℕ) (s : State) (f : Flow) → HasTold rows.procedures p k → IsClosedIn rows k p a s f → IsClosed t p a s f
  closed_there k p a s (On targets u) own h = each_there targets p u h
  closed_there k p a s (ByTable targets) own h = each_there targets p s h
  closed_there k p a s (CallTo q next) own h =
      let same = summary_there q h.0 h.1 in (
        procedure_there q h.0 h.1,
        λ returns out.
            subst (λ (m : Summary). HasRow t p next (returned m s a next)) (sym same)
            (row_there p next _ (h.2 (sym (ap (λ (m : Summary). m.returns) same) ∙ returns) out)),
      )
  closed_there k p a s (Past row next u) own h = row_there p next u h
  closed_there k p a s (Foreign next) own h = row_there p next _ h
  closed_there k p a s Return own h = subst (λ (m : Summary). KeepsRegisters m s) (sym (summary_there p k own)) h
  closed_there k p a s TailOut own h = subst (λ (m : Summary). KeepsConvention m × KeepsRegisters m s) (sym (summary_there p k own)) h
  closed_there k p a s Leave own h = tt
  closed_there k p a s Stuck own h = subst KeepsConvention (sym (summary_there p k own)) h
  closed_there k p a s Halt own h = tt

  -- the flow at a point
  flow_there : (i : ℕ) (q : Point) → slice_get rows.points i ≡ Some q → flow_of t q.procedure q.address ≡ point_flow image rows.guesses q
  flow_there i q is =
      ap (λ (o : Option Point). flow_by (option_map (λ (c : Point). c.state) o) (is_marked o) (line_of o) (opaque_at image q.address) (is_some (code_at image q.address))
      (guess_at rows.guesses q.address) q.address) (point_there i q is)

  point_closed : (i : ℕ) (q : Point) → slice_get rows.points i ≡ Some q → IsClosed t q.procedure q.address q.state (flow_of t q.procedure q.address)
  point_closed i q is =
      let c = checked.points i q is in
      subst (IsClosed t q.procedure q.address q.state) (sym (flow_there i q is)) (closed_there c.own q.procedure q.address q.state _ c.has_own c.closed)

  entry_there : (p : ℕ) → Contains t.procedures p → HasRow t p p start
  entry_there p has =
      let found = from_map (λ (j : Told). j.procedure) rows.procedures p has in
      row_there p p start (subst (λ (q : ℕ). HasPoint rows.points q q start) found.gives (checked.entries found.i found.x found.is))

  -- what holds of each point holds of each row
  each_row : (P : ℕ → ℕ → State → Type 0) → ((i : ℕ) (q : Point) → slice_get rows.points i ≡ Some q → P q.procedure q.address q.state)
      → (p a : ℕ) (s : State) → t.row p a ≡ Some s → P p a s
  each_row P holds p a s e =
      let o = of_state (point_at rows.points p a) s e in
      let f = point_found rows.points p a o.point o.is in
      subst (P p a) o.gives (subst (λ (b : ℕ). P p b o.point.state) f.address (subst (λ (q : ℕ). P q o.point.address o.point.state) f.procedure (holds f.i o.point f.is)))

  pub settled_there : IsSettled t
  settled_there = record {
    wide = λ p a s. each_row (λ q b u. length u.values ≡ 32) (λ i q is. (checked.points i q is).wide) p a s;
    words = λ p a s. each_row (λ q b u. (r : ℕ) → FitsWord (value_at u r)) (λ i q is. (checked.points i q is).words) p a s;
    entries = entry_there;
    closed = λ p a s. each_row (λ q b u. IsClosed t q b u (flow_of t q b)) point_closed p a s;
  }

  pub reads_there : Reads (code_at image) t
  reads_there = record {
    lines = λ p a line e at instr fetches means.
        let o = of_line (point_at rows.points p a) line e in
        let f = point_found rows.points p a o.point o.is in
        let is = subst (IsLineAt image a) o.gives (subst (λ (b : ℕ). IsLineAt image b o.point.line) f.address (checked.points f.i o.point f.is).is_line) in
        some_same (line_there image a (Some line) is at instr fetches means);
    rows = λ p a s e at instr fetches means.
        let o = of_state (point_at rows.points p a) s e in
        let f = point_found rows.points p a o.point o.is in
        let is = subst (λ (b : ℕ). IsLineAt image b o.point.line) f.address (checked.points f.i o.point f.is).is_line in
        ap line_of o.is ∙ line_there image a o.point.line is at instr fetches means;
  }
