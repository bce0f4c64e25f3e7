-- A node has one parent; so the states of a parent are no longer needed once the last node that follows it has its own.
use Rattle.std.proofs.Common.{◌≡◌, ◌∙◌, ℕ, ◌+◌, ◌<◌, ◌≤◌, inl, inr, List, [], ◌∷◌, ◌++◌, get_or, replicate, set, true, refl, ap, sym, subst, arith, ◌==◌}
use Rattle.std.specs.Prelude.{Option, None, Some, IsSome, slice_index_or}
use Rattle.std.specs.Option.{option_eq}
use Rattle.std.proofs.lemmas.Bool.{cases_eq, eqb-true, false≢true}
use Rattle.std.proofs.lemmas.List.{length_push, length-replicate, length-set, get_or_append_left, get_or_push, get_or-set_same, get_or-set_other}
use Rattle.affine_prog.specs.declared.Program.{Program}
use Rattle.affine_prog.specs.Spans.{rows_at}
use Rattle.merged_heads.specs.declared.Merging.{Merging}
use Rattle.merged_heads.proofs.Lemmas.{same_parent}
use Rattle.analyser_core.specs.States.{IsMerged, Follows, GoesOn, HasStates, AreKept, IsLastFrom, AreLast, DropsBefore}

module _ (program : Program) (merging : Merging) where
  one_before : (u w v : ℕ) → Follows program merging u v → Follows program merging w v → u ≡ w
  one_before u w v a b = (same_parent program merging v u w a.assigns b.assigns a.parent b.parent).0

  merged_follower : (u v : ℕ) → Follows program merging u v → IsMerged merging v
  merged_follower u v f = let p = f.parent in subst IsSome (sym p.entry) refl

  -- a node that follows is the last so far
  pub marks_more : (n u : ℕ) (last : List (Option ℕ)) → u < program.nodes → Follows program merging u n → AreLast program merging n last
      → AreLast program merging (n + 1) (set last u (Some n))
  marks_more n u last below follows t = record {
    long = length-set last u (Some n) ∙ t.long;
    from = λ w v v_below h. elim (cases_eq w u) [
      | inl same ↦
          let here : get_or (set last u (Some n)) w None ≡ Some n =
          subst (λ (i : ℕ). get_or (set last u (Some n)) i None ≡ Some n) (sym same) (get_or-set_same last u (Some n) None (let l = t.long in omega arith)) in
          subst (IsLastFrom v) (sym here) (omega (arith, v_below))
      | inr other ↦
          let stays = get_or-set_other last u w (Some n) None other in
          subst (IsLastFrom v) (sym stays) (t.from w v (elim (cases_eq v n) [
            | inl now ↦ absurd (other (one_before w u n (subst (Follows program merging w) now h) follows))
            | inr earlier ↦ omega (arith, earlier, v_below)
          ]) h)
    ];
  }

  pub marks_same : (n : ℕ) (last : List (Option ℕ)) → (IsMerged merging n → ⊥) → AreLast program merging n last → AreLast program merging (n + 1) last
  marks_same n last head t = record {
    long = t.long;
    from = λ u v v_below h. t.from u v (elim (cases_eq v n) [
      | inl now ↦ absurd (head (subst (IsMerged merging) now (merged_follower u v h)))
      | inr earlier ↦ omega (arith, earlier, v_below)
    ]) h;
  }

  pub drops_none : (n : ℕ) (kept : List (List (List ℕ))) → DropsBefore program merging n kept kept
  drops_none n kept = record { long = refl; same = λ v on. refl }

  pub drops_one : (n u : ℕ) (last : List (Option ℕ)) (kept : List (List (List ℕ))) → AreLast program merging program.nodes last → slice_index_or last u None ≡ Some n
      → DropsBefore program merging n kept (set kept u [])
  drops_one n u last kept t is_last = record {
    long = length-set kept u [];
    same = λ v on. get_or-set_other kept u v [] [] (λ e.
        let one : IsLastFrom on.next (Some n) =
        subst (IsLastFrom on.next) is_last (t.from u on.next on.node (subst (λ (i : ℕ). Follows program merging i on.next) e on.follows)) in
        let l = on.later in absurd (omega (arith, one, l)));
  }

  -- the node's own states are kept where a later one follows
  pub keeps_one : (n : ℕ) (kept dropped : List (List (List ℕ))) (states : List (List ℕ)) → AreKept program merging n kept → DropsBefore program merging n kept dropped
      → (IsMerged merging n → GoesOn program merging (n + 1) n → HasStates program n states) → AreKept program merging (n + 1) (dropped ++ states ∷ [])
  keeps_one n kept dropped states k d own =
      let long = d.long ∙ k.long in
      record {
        long = length_push dropped states ∙ ap (λ (m : ℕ). m + 1) long;
        exact = λ v below merged on. elim (cases_eq v n) [
          | inl e ↦ subst (λ (i : ℕ). HasStates program i (rows_at (dropped ++ states ∷ []) i)) (sym e)
              (subst (HasStates program n) (sym (get_or_push dropped states [] n long)) (own (subst (IsMerged merging) e merged) (subst (GoesOn program merging (n + 1)) e on)))
          | inr other ↦
              let before : v < n = omega (arith, other, below) in
              let later : GoesOn program merging n v = record { next = on.next; later = let l = on.later in omega arith; node = on.node; follows = on.follows } in
              subst (HasStates program v) (sym (get_or_append_left dropped (states ∷ []) [] v (omega (arith, before, long)) ∙ d.same v on)) (k.exact v before merged later)
        ];
      }

pub marks_all : (program : Program) (merging : Merging) (n : ℕ) (last : List (Option ℕ)) → program.nodes ≤ n → AreLast program merging n last → AreLast program merging program.nodes last
marks_all program merging n last past t = record { long = t.long; from = λ u v below h. t.from u v (omega (arith, below, past)) h }

pub marks_none : (program : Program) (merging : Merging) → AreLast program merging 0 (replicate program.nodes None)
marks_none program merging = record {
  long = length-replicate program.nodes None;
  from = λ u v below h. absurd (omega (arith, below));
}

-- a node that another follows has a last one
pub some_last : (v : ℕ) (o : Option ℕ) → IsLastFrom v o → IsSome o
some_last v None none = absurd none
some_last v (Some w) is = refl

-- two options that are equal by their test
pub equal_some : (o : Option ℕ) (n : ℕ) → option_eq (λ (a b : ℕ). a == b) o (Some n) ≡ true → o ≡ Some n
equal_some None n e = absurd (false≢true e)
equal_some (Some k) n e = ap Some (eqb-true k n e)
