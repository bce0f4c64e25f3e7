-- The activations of a run are calls, one in the other.
--
--   AreCalls points s   each activation but the first was opened by a call at a point of the one before, and returns behind it
use Rattle.std.proofs.Common.{◌≡◌, ℕ, List, [], ◌∷◌, ◌++◌, Contains, Option, Some, ap, sym, ◌∙◌}
use Rattle.flow_points.specs.declared.code_points.CodePoint.{CodePoint}
use Rattle.flow_points.specs.declared.code_points.Flow.{Flow}
use Rattle.flow_points.specs.declared.code_points.Flow.TheVariants.{Next, Jump, Branch, Call, Return, Halt}
use Rattle.run_paths.proofs.Turning.{IsPlain}
use Rattle.run_watch.specs.Activations.{Stack, TurnsBy}
use Rattle.run_watch.specs.declared.activation.Activation.{Activation}
use Rattle.run_verdicts.proofs.Stacked.{never_empty, same_end}

pub data AreCalls (points : List CodePoint) : Stack → Type 0 where
  alone : (s : Stack) → s.earlier ≡ [] → AreCalls points s
  within : (s below : Stack) (from : CodePoint) (next : ℕ) → s.earlier ≡ below.earlier ++ below.last ∷ [] → Contains points from
      → from.point.proc_entry ≡ below.last.procedure → from.flow ≡ Call s.last.procedure next → s.last.return_to ≡ Some next
      → AreCalls points below → AreCalls points s

pub same_calls : (points : List CodePoint) (a b : Stack) → b.earlier ≡ a.earlier → b.last ≡ a.last → AreCalls points a
    → AreCalls points b
same_calls points a b earlier last (alone s none) = alone b (earlier ∙ none)
same_calls points a b earlier last (within s below from next is there owner flow back calls) =
    within b below from next (earlier ∙ is) there owner (flow ∙ ap (λ (l : Activation). Call l.procedure next) (sym last))
    (ap (λ (l : Activation). l.return_to) last ∙ back) calls

-- a step that neither calls nor returns leaves the activations
pub plain_stack : (flow : Flow) (i : ℕ) (offsets : List (Option ℕ)) (regs : List ℕ) (next : ℕ) (a b : Stack) → IsPlain flow
    → TurnsBy flow i offsets regs next a b → (b.earlier ≡ a.earlier) × (b.last ≡ a.last)
plain_stack (Next n) i offsets regs next a b plain turns = turns
plain_stack (Jump t) i offsets regs next a b plain turns = turns
plain_stack (Branch n t) i offsets regs next a b plain turns = turns
plain_stack (Call t n) i offsets regs next a b plain turns = absurd plain
plain_stack Return i offsets regs next a b plain turns = absurd plain
plain_stack Halt i offsets regs next a b plain turns = turns

-- where a return goes
pub record IsBack (points : List CodePoint) (next : ℕ) (b : Stack) : Type 0 where
  pub from : CodePoint
  pub target : ℕ
  pub there : Contains points from
  pub owner : from.point.proc_entry ≡ b.last.procedure
  pub flow : from.flow ≡ Call target next
  pub calls : AreCalls points b

pub goes_back : (points : List CodePoint) (next : ℕ) (a b : Stack) → a.last.return_to ≡ Some next
    → a.earlier ≡ b.earlier ++ b.last ∷ [] → AreCalls points a → IsBack points next b
goes_back points next a b home is (alone s none) = absurd (never_empty b.earlier b.last (sym is ∙ none))
goes_back points next a b home is (within s below from to more there owner flow back calls) =
    let same = same_end b.earlier below.earlier b.last below.last (sym is ∙ more) in
    let there_to : to ≡ next = (let both = sym back ∙ home in cc both) in
    record {
      from = from;
      target = a.last.procedure;
      there = there;
      owner = owner ∙ ap (λ (l : Activation). l.procedure) (sym same.last);
      flow = flow ∙ ap (Call a.last.procedure) there_to;
      calls = same_calls points below b same.before same.last calls;
    }
