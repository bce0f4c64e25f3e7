-- The activations that watches see, after a step.
use Rattle.std.proofs.Common.{◌≡◌, ℕ, List, [], ◌∷◌, ◌++◌, slice_get, slice_index, Option, Some, refl, ap, sym, ◌∙◌, subst}
use Rattle.flow_points.specs.declared.code_points.CodePoint.{CodePoint}
use Rattle.flow_points.specs.declared.code_points.Flow.{Flow}
use Rattle.flow_points.specs.declared.code_points.Flow.TheVariants.{Next, Jump, Branch, Call, Return, Halt}
use Rattle.frame_offsets.specs.Frames.{AreOffsets}
use Rattle.rv_step.specs.Harts.{Hart}
use Rattle.run_paths.specs.Lifts.{Lift}
use Rattle.run_paths.specs.Activations.{Activation, called as opened, turned_by}
use Rattle.run_watch.specs.Activations.{Stack, TurnsBy, called, relied_at, saved_words}
use Rattle.run_watch.specs.declared.activation.Activation.{Activation as Watched}
use Rattle.run_verdicts.specs.Seen.{AreSeen, IsSeen, IsStackSeen}
use Rattle.run_verdicts.proofs.Relying.{relied_seen}

-- the last item of a list, and those before it
pub record IsSameEnd (xs ys : List Watched) (x y : Watched) : Type 0 where
  pub before : xs ≡ ys
  pub last : x ≡ y

pub never_empty : (xs : List Watched) (x : Watched) → xs ++ x ∷ [] ≡ [] → ⊥
never_empty [] x e = cc
never_empty (w ∷ xs) x e = cc

pub same_end : (xs ys : List Watched) (x y : Watched) → xs ++ x ∷ [] ≡ ys ++ y ∷ [] → IsSameEnd xs ys x y
same_end [] [] x y e = record { before = refl; last = (let same : x ≡ y = cc in same) }
same_end [] (v ∷ ys) x y e = absurd (never_empty ys y (let tails : [] ≡ ys ++ y ∷ [] = cc in sym tails))
same_end (w ∷ xs) [] x y e = absurd (never_empty xs x (let tails : xs ++ x ∷ [] ≡ [] = cc in tails))
same_end (w ∷ xs) (v ∷ ys) x y e =
    let heads : w ≡ v = cc in
    let tails : xs ++ x ∷ [] ≡ ys ++ y ∷ [] = cc in
    let rest = same_end xs ys x y tails in
    record { before = ap (λ (u : Watched). u ∷ xs) heads ∙ ap (λ (us : List Watched). v ∷ us) rest.before; last = rest.last }

module _ (lift : Lift) (offsets : List (Option ℕ)) (are : AreOffsets lift.points.points offsets) (i : ℕ) (c : CodePoint)
    (at : slice_get lift.points.points i ≡ Some c) (m : Hart) (regs : List ℕ) (now : regs ≡ m.registers) where
  call_seen : (target next : ℕ) → IsSeen lift (opened c target next m) (called target next (relied_at offsets i) regs)
  call_seen target next = record {
    procedure = refl;
    entry_sp = ap (λ (words : List ℕ). slice_index words 2) now;
    return_to = refl;
    saved = ap saved_words now;
    relied = relied_seen lift offsets are i c at target next m;
  }

  stays : (last : Activation) (earlier : List Activation) (a b : Stack) → (b.earlier ≡ a.earlier) × (b.last ≡ a.last)
      → IsSeen lift last a.last → AreSeen lift earlier a.earlier → IsStackSeen lift (last ∷ earlier) b
  stays last earlier a b (below, top) seen more = record {
    last = last;
    earlier = earlier;
    are = refl;
    last_seen = subst (IsSeen lift last) (sym top) seen;
    earlier_seen = subst (AreSeen lift earlier) (sym below) more;
  }

  returns : (last : Activation) (earlier : List Activation) (a b : Stack) → a.earlier ≡ b.earlier ++ b.last ∷ []
      → AreSeen lift earlier a.earlier
      → IsStackSeen lift earlier b
  returns last [] a b is none = absurd (never_empty b.earlier b.last (sym is ∙ none))
  returns last (e ∷ earlier) a b is (before, w, snoc, seen_e, more) =
      let same = same_end before b.earlier w b.last (sym snoc ∙ is) in
      record {
        last = e;
        earlier = earlier;
        are = refl;
        last_seen = subst (IsSeen lift e) same.last seen_e;
        earlier_seen = subst (AreSeen lift earlier) same.before more;
      }

  turned_seen : (flow : Flow) (next : ℕ) (last : Activation) (earlier : List Activation) (a b : Stack)
      → TurnsBy flow i offsets regs next a b
      → IsSeen lift last a.last → AreSeen lift earlier a.earlier → IsStackSeen lift (turned_by c flow m (last ∷ earlier)) b
  turned_seen (Call target after) next last earlier a b (pushed, top) seen more = record {
    last = opened c target after m;
    earlier = last ∷ earlier;
    are = refl;
    last_seen = subst (IsSeen lift (opened c target after m)) (sym top) (call_seen target after);
    earlier_seen = (a.earlier, a.last, pushed, seen, more);
  }
  turned_seen Return next last earlier a b (home, popped) seen more = returns last earlier a b popped more
  turned_seen (Next n) next last earlier a b same seen more = stays last earlier a b same seen more
  turned_seen (Jump t) next last earlier a b same seen more = stays last earlier a b same seen more
  turned_seen (Branch n t) next last earlier a b same seen more = stays last earlier a b same seen more
  turned_seen Halt next last earlier a b same seen more = stays last earlier a b same seen more

  pub stack_turned : (flow : Flow) (next : ℕ) (activations : List Activation) (a b : Stack)
      → TurnsBy flow i offsets regs next a b
      → IsStackSeen lift activations a → IsStackSeen lift (turned_by c flow m activations) b
  stack_turned flow next activations a b turns seen =
      subst (λ (acts : List Activation). IsStackSeen lift (turned_by c flow m acts) b) (sym seen.are)
      (turned_seen flow next seen.last seen.earlier a b turns seen.last_seen seen.earlier_seen)
