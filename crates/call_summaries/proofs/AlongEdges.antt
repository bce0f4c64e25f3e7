-- A row that is pushed along edges, one after the other.
use Rattle.std.proofs.Common.{◌≡◌, ℕ, ◌<◌, ◌+◌, inl, inr, List, [], Contains, length, take, get_or, ap, sym, subst, ◌∙◌, arith}
use Rattle.std.proofs.lemmas.List.{get_or_default}
use Rattle.std.proofs.lemmas.List.Elements.{Contains-get_or}
use Rattle.row_modules.specs.Modules.{IsWithin}
use Rattle.affine_prog.specs.declared.Program.{Program}
use Rattle.affine_prog.specs.declared.Edge.{Edge}
use Rattle.affine_prog.specs.declared.Kind.{Kind}
use Rattle.affine_prog.specs.declared.Kind.TheVariants.{Do, Call}
use Rattle.affine_prog.specs.Programs.{edge}
use Rattle.row_images.specs.Images.{IsPrepared}
use Rattle.row_engine.specs.States.{State, rows_at}
use Rattle.row_engine.specs.Tables.{edge_at}
use Rattle.row_engine.proofs.Members.{nothing_in, taken_in, now_taken, earlier_or_now}
use Rattle.call_summaries.specs.Tables.{assigns_of, ArePrepared}
use Rattle.call_summaries.specs.Pushes.{ForwardBy, Forward, BackBy, Back, Along}

abbrev pub Inside : State → State → Type 0
Inside old new = (u : ℕ) → IsWithin 289 (Contains (rows_at old u)) (Contains (rows_at new u))

-- modules that only grow
forward_by : (program : Program) (u v : ℕ) (kind : Kind) (less old new more : State) (m : List ℕ) → Inside less old → Inside new more
    → ForwardBy program u v kind old new m → ForwardBy program u v kind less more m
forward_by program u v (Do assigns) less old new more m i j f = λ words choice. j v _ (f words choice)
forward_by program u v (Call q before) less old new more m i j f = λ words callee choice g. j v _ (f words callee choice (i _ callee g))

back_by : (program : Program) (u v : ℕ) (kind : Kind) (less old new more : State) (m : List ℕ) → Inside less old → Inside new more
    → BackBy program u v kind old new m → BackBy program u v kind less more m
back_by program u v (Do assigns) less old new more m i j f = tt
back_by program u v (Call q before) less old new more m i j f = λ words caller choice g. j v _ (f words caller choice (i u caller g))

abbrev pub IsMonotone : (Edge → State → State → Type 0) → Type 0
IsMonotone F = (e : Edge) (less old new more : State) → Inside less old → Inside new more → F e old new → F e less more

pub forward_is_monotone : (program : Program) (m : List ℕ) → IsMonotone (λ e old new. Forward program e old new m)
forward_is_monotone program m e less old new more i j f = forward_by program e.from e.to e.kind less old new more m i j f

pub back_is_monotone : (program : Program) (m : List ℕ) → IsMonotone (λ e old new. Back program e old new m)
back_is_monotone program m e less old new more i j f = back_by program e.from e.to e.kind less old new more m i j f

-- a loop over places of edges
pub along_none : (program : Program) (F : Edge → Type 0) → Along program F []
along_none program F k h = absurd (nothing_in k h)

pub along_more : (program : Program) (F : Edge → State → State → Type 0) → IsMonotone F → (places : List ℕ) (i k : ℕ) (old mid new : State) → i < length places → k ≡ get_or places i k → Inside old mid → Inside mid new
    → Along program (λ e. F e old mid) (take i places) → F (edge_at program k) mid new → Along program (λ e. F e old new) (take (i + 1) places)
along_more program F mono places i k old mid new below is earlier later first now j h = elim (earlier_or_now places i k below is j h) [
  | inl l ↦ mono (edge_at program j) old old mid new (λ u w x. x) later (first j l)
  | inr e ↦ rw e (mono (edge_at program k) old mid new new earlier (λ u w x. x) now)
]

-- the place that a loop is at, and the edge there
module _ (program : Program) (places : List ℕ) (i : ℕ) (below : i < length places) where
  abbrev pub place : ℕ
  place = get_or places i 0

  pub place_is : place ≡ get_or places i place
  place_is = get_or_default places i 0 place below

  pub place_in : Contains places place
  place_in = taken_in places (i + 1) place (now_taken places i place below place_is)

  module _ (within : place < length program.edges) (e : Edge) (edges : List Edge) (same : edges ≡ program.edges) (is : e ≡ get_or edges place e) where
    pub edge_here : e ≡ edge_at program place
    edge_here = is ∙ ap (λ (l : List Edge). get_or l place e) same ∙ get_or_default program.edges place e (edge 0 0 (Do [])) within

    pub edge_in : Contains program.edges e
    edge_in = subst (λ x. Contains program.edges x) (sym edge_here) (Contains-get_or program.edges place (edge 0 0 (Do [])) within)

    pub prepared_here : (prepared : List (List (List ℕ))) (item x : List (List ℕ)) → ArePrepared program (length program.edges) prepared → item ≡ get_or prepared place item → x ≡ item
        → IsPrepared (assigns_of e.kind) x
    prepared_here prepared item x p item_is x_is =
        let r : x ≡ get_or prepared place [] = x_is ∙ item_is ∙ get_or_default prepared place item [] (let n = p.each in omega arith) in
        rw (r, edge_here) (p.is place within)
