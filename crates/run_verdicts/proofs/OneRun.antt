-- The run of an image is one.
use Rattle.std.proofs.Common.{◌≡◌, ℕ, ◌<◌, List, [], ◌∷◌, ◌++◌, length, Option, inl, inr, ap, sym, ◌∙◌, arith, subst}
use Rattle.std.proofs.lemmas.Bool.{cases_lt}
use Rattle.elf_image.specs.declared.image.Image.{Image}
use Rattle.flow_points.specs.PointLists.{ArePointsOf, FlowPoints, HasCode}
use Rattle.report_text.specs.declared.reports.Report.{Report}
use Rattle.run_paths.proofs.Lifted.{points_have_code}
use Rattle.run_watch.specs.Activations.{begun}
use Rattle.run_watch.specs.Runs.{Begins, Goes, IsRunOf, IsWatched, Reaches, Scene, Sight, Spot, here, onward, scene_of}
use Rattle.run_watch.specs.declared.places.CodeAt.{CodeAt}
use Rattle.run_watch.specs.declared.stops.RunStop.{RunStop}
use Rattle.run_verdicts.specs.One.{IsSameRun}
use Rattle.run_verdicts.proofs.Excluded.{flip}
use Rattle.run_verdicts.proofs.OneCode.{one_code_list}
use Rattle.run_verdicts.proofs.NoWay.{no_way}
use Rattle.run_verdicts.proofs.OneEnd.{one_end}
use Rattle.run_verdicts.proofs.OneMoment.{AreAlike}
use Rattle.run_verdicts.proofs.OneTurn.{one_way, same_stack}
use Rattle.run_verdicts.proofs.Pushed.{one_longer}

pub begin_alike : (image : Image) (regs : List ℕ) (a b : Spot) → Begins image regs a → Begins image regs b → AreAlike a b
begin_alike image regs a b h k =
    let registers = h.registers ∙ sym k.registers in
    record {
      hart = h.starts.hart;
      other_hart = k.starts.hart;
      machines = record {
        pc = h.starts.entry ∙ sym k.starts.entry;
        registers = registers;
        memory = λ address small. h.memory address ∙ sym (k.memory address);
        code = h.starts.code ∙ sym k.starts.code;
        unit = h.starts.unit ∙ sym k.starts.unit;
      };
      as_many = h.unmade ∙ sym k.unmade;
      stacks = same_stack a.stack b.stack (h.first ∙ sym k.first) (h.last ∙ ap (begun image.entry) registers ∙ sym k.last);
    }

-- a step of a way, at this place
record StepsAt (scene : Scene) (limit : ℕ) (a : Spot) (n : ℕ) : Type 0 where
  pub before : List Sight
  pub mid : Spot
  pub s : Sight
  pub next : Spot
  pub way : Reaches scene limit a before mid
  pub goes : Goes scene limit mid s next
  pub count : length before ≡ n

module _ (scene : Scene) (code : HasCode scene.points) (limit : ℕ) where
  cut : (a p : Spot) (seen : List Sight) (n : ℕ) → n < length seen → Reaches scene limit a seen p → StepsAt scene limit a n
  cut a p seen n low (here all spot none same) = let total = ap length none in absurd (omega (arith, low, total))
  cut a p seen n low (onward all before b spot s way g is) =
      elim (cases_lt n (length before)) [
        | inl former ↦ cut a b before n former way
        | inr past ↦
            let count = one_longer before s in
            let total = ap length is in
            let now : length before ≡ n = omega (arith, past, low, count, total) in
            record { before = before; mid = b; s = s; next = p; way = way; goes = g; count = now }
      ]

  together : (a b p q : Spot) (seen others : List Sight) → AreAlike a b → length seen ≡ length others
      → Reaches scene limit a seen p → Reaches scene limit b others q → (seen ≡ others) × AreAlike p q
  together a b p q seen others are count (here all spot none same) (here also place empty equal) =
      (none ∙ sym empty, subst (λ (u : Spot). AreAlike u q) (sym same) (subst (λ (u : Spot). AreAlike a u) (sym equal) are))
  together a b p q seen others are count (here all spot none same) (onward also before c place t way g is) =
      let longer = one_longer before t in
      let total = ap length is in
      let empty = ap length none in
      absurd (omega (arith, count, longer, total, empty))
  together a b p q seen others are count (onward all before c place t way g is) (here also spot none same) =
      let longer = one_longer before t in
      let total = ap length is in
      let empty = ap length none in
      absurd (omega (arith, count, longer, total, empty))
  together a b p q seen others are count (onward all before c place s way g is) (onward also former d spot t path h are_all) =
      let longer = one_longer before s in
      let total = ap length is in
      let more = one_longer former t in
      let whole = ap length are_all in
      let rest = together a b c d before former are (omega (arith, count, longer, total, more, whole)) way path in
      let one = one_way scene code limit c d rest.1 s t p q g h in (
        is ∙ ap (λ (ss : List Sight). ss ++ s ∷ []) rest.0 ∙ ap (λ (u : Sight). former ++ u ∷ []) one.0 ∙ sym are_all,
        one.1,
      )

  not_longer : (a b : Spot) (seen others : List Sight) (steps made : ℕ) (stop end : RunStop) → AreAlike a b
      → (h : IsWatched scene limit a seen steps stop) (k : IsWatched scene limit b others made end)
      → length h.before < length k.before → ⊥
  not_longer a b seen others steps made stop end are h k low =
      let at = cut b k.last k.before (length h.before) low k.reaches in
      let alike = together a b h.last at.mid h.before at.before are (sym at.count) h.reaches at.way in
      no_way scene code limit h.last at.mid alike.1 h.after steps stop at.s at.next h.ends at.goes

  pub one_watched : (a b : Spot) (seen others : List Sight) (steps made : ℕ) (stop end : RunStop) → AreAlike a b
      → IsWatched scene limit a seen steps stop → IsWatched scene limit b others made end
      → IsSameRun seen steps stop others made end
  one_watched a b seen others steps made stop end are h k =
      elim (cases_lt (length h.before) (length k.before)) [
        | inl low ↦ absurd (not_longer a b seen others steps made stop end are h k low)
        | inr past ↦ elim (cases_lt (length k.before) (length h.before)) [
          | inl low ↦ absurd (not_longer b a others seen made steps end stop (flip a b are) k h low)
          | inr also ↦
              let alike = together a b h.last k.last h.before k.before are (omega (arith, past, also)) h.reaches k.reaches in
              let ends = one_end scene code limit h.last k.last alike.1 h.after k.after steps made stop end h.ends k.ends in
              record {
                seen_alike =
                    h.all ∙ ap (λ (ss : List Sight). ss ++ h.after) alike.0
                    ∙ ap (λ (ss : List Sight). k.before ++ ss) ends.seen_alike ∙ sym k.all;
                as_many = ends.as_many;
                same_stop = ends.same_stop;
              }
        ]
      ]

module _ (image : Image) (points : FlowPoints) (offsets : List (Option ℕ)) (report : Report) (regs : List ℕ) (limit : ℕ)
    (seen others : List Sight) (steps made : ℕ) (stop end : RunStop) (are : ArePointsOf image points) where
  pub one_run : IsRunOf image points offsets report regs limit seen steps stop
      → IsRunOf image points offsets report regs limit others made end → IsSameRun seen steps stop others made end
  one_run h k =
      let same = one_code_list points.points h.code k.code h.instructions k.instructions in
      one_watched (scene_of points offsets report h.code) (points_have_code image points are) limit h.start k.start seen others
      steps made stop end
      (begin_alike image regs h.start k.start h.begins k.begins) h.watched
      (subst (λ (code : List CodeAt). IsWatched (scene_of points offsets report code) limit k.start others made end) (sym same)
      k.watched)
