-- A tally after one more edge.
use Rattle.std.proofs.Common.{◌≡◌, ℕ, ◌+◌, ◌<◌, ◌≤◌, inl, inr, Bool, true, false, List, [], ◌∷◌, ◌++◌, length, take, filter, get_or, set, replicate, cond, refl, ap, sym, subst, ◌∙◌, arith, ◌==◌}
use Rattle.std.proofs.lemmas.Bool.{cases_eq, eq-eqb, ne_eqb}
use Rattle.std.proofs.lemmas.List.{append-nil, length-append, length-replicate, get_or-replicate, length-take-le, take_more, take_all, length-set, get_or-set_same, get_or-set_other, get_or_append_left, get_or_push}
use Rattle.std.proofs.lemmas.List.Elements.{filter-append}
use Rattle.affine_prog.specs.declared.Edge.{Edge}
use Rattle.block_program.specs.declared.Tally.{Tally}
use Rattle.block_program.specs.declared.Tally.TheVariants.{Nothing, One, Many}
use Rattle.affine_prog.specs.declared.Program.{Program}
use Rattle.affine_prog.specs.Programs.{IsEdgeOf}
use Rattle.block_program.specs.declared.tallies.Side.{Side}
use Rattle.block_program.specs.declared.tallies.Side.TheVariants.{From, To}
use Rattle.block_program.specs.Tallies.{end_of, more_of, IsTally, AreTallies}

module _ (test : Edge → Bool) (xs : List Edge) (e : Edge) (k : ℕ) (long : length xs ≡ k) where
  more : (b : Bool) → test e ≡ b → filter test (xs ++ e ∷ []) ≡ filter test xs ++ cond b (e ∷ []) []
  more b is = filter-append test xs (e ∷ []) ∙ ap (λ (c : Bool). filter test xs ++ cond c (e ∷ []) []) is

  tells_same : (tally : Tally) → test e ≡ false → IsTally test xs tally → IsTally test (xs ++ e ∷ []) tally
  tells_same Nothing fails t = more false fails ∙ append-nil (filter test xs) ∙ t
  tells_same (One j) fails t =
      let l = length-append xs (e ∷ []) in
      (omega (arith, t.0), λ d. more false fails ∙ append-nil (filter test xs) ∙ t.1 d ∙ ap (λ (x : Edge). x ∷ []) (sym (get_or_append_left xs (e ∷ []) d j t.0)))
  tells_same Many fails t = let s = ap length (more false fails ∙ append-nil (filter test xs)) in omega (arith, t)

  tells_more : (tally : Tally) → test e ≡ true → IsTally test xs tally → IsTally test (xs ++ e ∷ []) (more_of tally k)
  tells_more Nothing passes t =
      let l = length-append xs (e ∷ []) in
      (omega (arith, long), λ d. more true passes ∙ ap (λ (ys : List Edge). ys ++ e ∷ []) t ∙ ap (λ (x : Edge). x ∷ []) (sym (get_or_push xs e d k long)))
  tells_more (One j) passes t =
      let s = ap length (more true passes) in
      let l = length-append (filter test xs) (e ∷ []) in
      let one = ap length (t.1 e) in omega arith
  tells_more Many passes t =
      let s = ap length (more true passes) in
      let l = length-append (filter test xs) (e ∷ []) in omega (arith, t)

module _ (node_of : Edge → ℕ) (n : ℕ) (edges : List Edge) (table : List Tally) where
  pub told_more : (k at : ℕ) (e : Edge) (new : Tally) → k < length edges → e ≡ get_or edges k e → at ≡ node_of e → at < n → new ≡ more_of (get_or table at Nothing) k
      → AreTallies node_of n (take k edges) table → AreTallies node_of n (take (k + 1) edges) (set table at new)
  told_more k at e new within here is below now t =
      let long : length (take k edges) ≡ k = length-take-le k edges (omega arith) in
      let more_edges : take (k + 1) edges ≡ take k edges ++ e ∷ [] = take_more edges k e within ∙ ap (λ (x : Edge). take k edges ++ x ∷ []) (sym here) in
      record {
        long = length-set table at new ∙ t.long;
        told = λ v inside.
            subst (λ (xs : List Edge). IsTally (λ x. node_of x == v) xs (get_or (set table at new) v Nothing)) (sym more_edges)
            (elim (cases_eq v at) [
              | inl e' ↦
                  subst (IsTally (λ x. node_of x == v) (take k edges ++ e ∷ []))
                  (sym (ap (λ (i : ℕ). get_or (set table at new) i Nothing) e' ∙ get_or-set_same table at new Nothing (let l = t.long in omega arith) ∙ now ∙ ap (λ (i : ℕ). more_of (get_or table i Nothing) k) (sym e')))
                  (tells_more (λ x. node_of x == v) (take k edges) e k long (get_or table v Nothing) (eq-eqb (node_of e) v (sym is ∙ sym e')) (t.told v inside))
              | inr other ↦
                  subst (IsTally (λ x. node_of x == v) (take k edges ++ e ∷ []))
                  (sym (get_or-set_other table at v new Nothing other))
                  (tells_same (λ x. node_of x == v) (take k edges) e k long (get_or table v Nothing) (ne_eqb (node_of e) v (λ same. other (sym same ∙ sym is))) (t.told v inside))
            ]);
      }

pub told_none : (node_of : Edge → ℕ) (n : ℕ) (edges : List Edge) → AreTallies node_of n (take 0 edges) (replicate n Nothing)
told_none node_of n edges = record {
  long = length-replicate n Nothing;
  told = λ v inside. subst (IsTally (λ x. node_of x == v) []) (sym (get_or-replicate n v Nothing Nothing inside)) refl;
}

pub told_all : (node_of : Edge → ℕ) (n : ℕ) (edges : List Edge) (table : List Tally) (k : ℕ) → length edges ≤ k → AreTallies node_of n (take k edges) table → AreTallies node_of n edges table
told_all node_of n edges table k past t = subst (λ (xs : List Edge). AreTallies node_of n xs table) (take_all k edges past) t

pub end_within : (program : Program) (e : Edge) (side : Side) → IsEdgeOf program e → end_of side e < program.nodes
end_within program e From formed = formed.from
end_within program e To formed = formed.to
