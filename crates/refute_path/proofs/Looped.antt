-- The loop over items, from openings to closed items.
use Rattle.std.proofs.Common.{◌≡◌, ℕ, zero, suc, inl, inr, refl, ◌<◌, ◌+◌, ◌≤◌, List, [], Contains, Option, None, Some, replicate, length, subst, arith}
use Rattle.std.proofs.lemmas.Option.{none-some}
use Rattle.std.proofs.lemmas.List.{length-replicate}
use Rattle.std.proofs.lemmas.List.Elements.{All-replicate}
use Rattle.row_modules.specs.Bases.{IsLeadingBasis}
use Rattle.row_modules.proofs.Laws.{spans_more}
use Rattle.affine_prog.specs.declared.Program.{Program}
use Rattle.affine_prog.specs.declared.Kind.TheVariants.{Do, Call}
use Rattle.affine_prog.specs.Programs.{edge, slots_of}
use Rattle.affine_prog.specs.Spans.{rows_at}
use Rattle.refute_path.specs.declared.Placed.{Placed}
use Rattle.refute_path.specs.Tags.{IsBelow, IsSlotBy, At, IsClosed}
use Rattle.refute_path.specs.Arenas.{measure, IsArena, IsPushed, Turns}
use Rattle.refute_path.specs.Gains.{Gains, IsOpeningBelow, IsAlongBelow}
use Rattle.std.proofs.lemmas.Option.{slice_get_within}
use Rattle.refute_path.proofs.Found.{in_got}
use Rattle.refute_path.proofs.Turning.{one_more, turn_ends, closed_at_end}
use Rattle.refute_path.proofs.Gaining.{still_within}

-- an item is pushed along each edge
pub turns_all : (program : Program) (items new : List Placed) (bases new_bases : List (List (List ℕ))) (n : ℕ) → Gains program items new bases new_bases (IsAlongBelow program items n (length program.edges))
    → Turns program items new n
turns_all program items new bases new_bases n g = record {
  steps = λ u v assigns raised m contains below i.
      let (e, along) = in_got program.edges (edge u v (Do assigns)) contains in
      g.taken v _ (
        e,
        slice_get_within program.edges e (edge u v (Do assigns)) along,
        inl (record { node = u; own = m; is_item = i; assigns = assigns; along = along; raised = raised; below = below; map = refl }),
      );
  forward = λ q u v assigns raised callee m contains below (j, less, there) i.
      let (e, along) = in_got program.edges (edge u v (Call q assigns)) contains in
      g.taken v _ (
        e,
        slice_get_within program.edges e (edge u v (Call q assigns)) along,
        inr (inl (j, less, record { node = u; own = m; is_caller = i; proc = q; exit = callee; is_callee = there; assigns = assigns; along = along; raised = raised; below = below; map = refl })),
      );
  back = λ q u v assigns raised callee m contains below there (j, less, i).
      let (e, along) = in_got program.edges (edge u v (Call q assigns)) contains in
      g.taken v _ (
        e,
        slice_get_within program.edges e (edge u v (Call q assigns)) along,
        inr (inr (j, less, record { node = u; own = m; is_caller = i; proc = q; exit = callee; is_callee = there; assigns = assigns; along = along; raised = raised; below = below; map = refl })),
      );
}

-- what the loop keeps
pub record IsGoing (program : Program) (items : List Placed) (bases : List (List (List ℕ))) (place : ℕ) : Type 0 where
  pub arena : IsArena program items bases
  pub pushed : IsPushed program items place
  pub within : place ≤ length items

no_item : (u : ℕ) (m : List ℕ) → At [] u m → ⊥
no_item u m (made, (k, below, is)) = absurd (omega arith)

pub empty_at : (n u : ℕ) → rows_at (replicate n []) u ≡ []
empty_at zero u = refl
empty_at (suc n) zero = refl
empty_at (suc n) (suc u) = empty_at n u

below_slots : (slots : ℕ) (raised : Option ℕ) → IsSlotBy slots raised → IsBelow 16 raised
below_slots slots None slot = tt
below_slots slots (Some k) slot = slot.0

pub empty_arena : (program : Program) (bases : List (List (List ℕ))) → bases ≡ replicate program.nodes [] → IsArena program [] bases
empty_arena program bases is = rw is (record {
  nodes = length-replicate program.nodes [];
  leading = All-replicate (IsLeadingBasis 289) program.nodes [] tt;
  made = λ k u m made at. absurd (none-some _ at);
  same = λ u. rw (empty_at program.nodes u) (record {
    there = spans_more 289 (Contains []) (At [] u) (λ x (k, below, is). absurd (omega arith));
    back = spans_more 289 (At [] u) (Contains []) (λ x h. absurd (no_item u x h));
  });
})

pub begins : (program : Program) (items new : List Placed) (bases new_bases : List (List (List ℕ))) → Gains program items new bases new_bases (IsOpeningBelow program (length program.procs))
    → IsGoing program new new_bases 0
begins program items new bases new_bases g = record {
  arena = g.extends.arena;
  pushed = record {
    openings = λ p raised within slot. g.taken _ _ (p, within, (raised, slot, below_slots (slots_of program p) raised slot, record { there = refl; is = refl }));
    steps = λ u v assigns raised m contains below (k, less, i). absurd (omega arith);
    calls = λ q u v assigns raised callee m contains below g (k, less, i). absurd (omega arith);
  };
  within = omega arith;
}

module _ (program : Program) (items new : List Placed) (bases new_bases : List (List (List ℕ))) (place : ℕ) (h : IsGoing program items bases place) (less : place < length items)
    (g : Gains program items new bases new_bases (IsAlongBelow program items place (length program.edges))) where
  pub goes_on : IsGoing program new new_bases (place + 1)
  goes_on = record {
    arena = g.extends.arena;
    pushed = one_more program items new bases new_bases place g.extends less h.pushed (turns_all program items new bases new_bases place g);
    within = let w = still_within program items bases new new_bases g.extends place less in omega arith;
  }

  pub goes_down : measure new_bases new (place + 1) < measure bases items place
  goes_down = turn_ends program items new bases new_bases place h.arena g.extends less

pub all_closed : (program : Program) (items : List Placed) (bases : List (List (List ℕ))) (place : ℕ) → IsGoing program items bases place → length items ≤ place → IsClosed program items
all_closed program items bases place h end = closed_at_end program items (subst (IsPushed program items) (let w = h.within in omega arith) h.pushed)
