-- An ECALL after which memory is the same keeps the rules of the discipline.
use Rattle.std.proofs.Common.{◌≡◌, ℕ, Bool, true, false, cond, List, [], ◌∷◌, find, Contains, Some, refl, ap, sym, ◌∙◌, arith}
use Rattle.std.proofs.lemmas.List.Elements.{Contains-append_right}
use Rattle.elf_image.specs.declared.image.Image.{Image}
use Rattle.rv_instr.specs.declared.Instr.TheVariants.{Ecall}
use Rattle.flow_points.specs.Flows.{flow_of, next}
use Rattle.flow_points.specs.Walks.{point}
use Rattle.flow_points.specs.declared.code_points.CodePoint.{CodePoint}
use Rattle.flow_points.specs.declared.code_points.Flow.TheVariants.{Next, Return}
use Rattle.flow_points.proofs.Cited.{same_flow}
use Rattle.affine_lift.specs.Lifting.{is_at}
use Rattle.rv_step.specs.Harts.{Hart}
use Rattle.run_paths.specs.Lifts.{Lift, IsLiftOf}
use Rattle.run_paths.specs.Activations.{Activation, point_of}
use Rattle.run_paths.specs.Discipline.{KeepsBytes, KeepsRules}
use Rattle.run_paths.proofs.Making.{flow_there}
use Rattle.run_verdicts.specs.Environment.{KeepsAllBytes}

-- what is found in a list stands there
here_or_behind : {X : Type 0} (t : Bool) (p : X → Bool) (y : X) (xs : List X) (x : X) → cond t (Some y) (find p xs) ≡ Some x
    → (find p xs ≡ Some x → Contains xs x) → Contains (y ∷ xs) x
here_or_behind true p y xs x is later = (0, omega arith, (let same : y ≡ x = cc in same))
here_or_behind false p y xs x is later = Contains-append_right (y ∷ []) xs x (later is)

found_there : {X : Type 0} (p : X → Bool) (xs : List X) (x : X) → find p xs ≡ Some x → Contains xs x
found_there p [] x is = cc
found_there p (y ∷ xs) x is = here_or_behind (p y) p y xs x is (found_there p xs x)

module _ (image : Image) (lift : Lift) (is : IsLiftOf image lift) (m n : Hart) (c : CodePoint) (ecall : c.instr ≡ Ecall)
    (same : KeepsAllBytes m n) where
  no_return : Contains lift.points.points c → c.flow ≡ Return → ⊥
  no_return there flow =
      let h = flow_there image lift.points is.points_are c there in
      let goes = same_flow c.flow (Next (next c.point.address c.length))
      (h.is ∙ ap (flow_of image.unit c.point.address (next c.point.address c.length) h.upper) ecall) in
      let clash : Next (next c.point.address c.length) ≡ Return = sym goes ∙ flow in cc

  bytes : (count address : ℕ) → KeepsBytes count m n address
  bytes count address k below = same _ (omega arith)

  pub keeps_rules : (activations : List Activation) → point_of lift m activations ≡ Some c → KeepsRules lift m n activations
  keeps_rules [] at = cc
  keeps_rules (last ∷ earlier) at =
      let there = found_there (is_at (point last.procedure m.pc)) lift.points.points c at in
      let never = no_return there in
      record {
        last = last;
        earlier = earlier;
        are = refl;
        at = c;
        is_at = at;
        slots = record { others = λ i a inside k address slot. bytes 8 address; own = λ k address slot absent. bytes 8 address };
        home = record { not_first = λ flow. absurd (never flow); home = λ flow site called. absurd (never flow) };
        code = λ d within. bytes d.length d.point.address;
        frame = record { stack = λ flow. absurd (never flow); relied = λ flow r relies. absurd (never flow) };
      }
