-- Nodes of one class have the same chains, from the same heads.
use Rattle.std.proofs.Common.{◌≡◌, ℕ, zero, suc, ◌+◌, ◌<◌, inl, inr, List, [], ◌++◌, Contains, get_or, refl, ap, sym, subst, ◌∙◌, arith}
use Rattle.std.specs.Prelude.{Option, None, Some, MatchOption, unwrap_or}
use Rattle.std.proofs.lemmas.List.{append-nil}
use Rattle.std.proofs.lemmas.List.Elements.{All-contains, Contains-get_or}
use Rattle.affine_prog.specs.declared.Program.{Program}
use Rattle.affine_prog.specs.declared.Edge.{Edge}
use Rattle.affine_prog.specs.declared.Kind.TheVariants.{Do}
use Rattle.affine_prog.specs.declared.Assign.{Assign}
use Rattle.affine_prog.specs.Programs.{edge, IsEdgeOf, IsWellFormed}
use Rattle.merged_heads.specs.declared.Merging.{Merging}
use Rattle.merged_heads.specs.Merges.{edge_number, class_of, assigns_of, IsParent, Carries, passes, assigns, IsParentEdge, IsMergedTable}
use Rattle.merged_heads.specs.Chains.{Chain, here, after}

pub none_some : (o : Option ℕ) (k : ℕ) → o ≡ None → o ≡ Some k → ⊥
none_some o k none some = subst (λ (x : Option ℕ). MatchOption x (Unit {0}) (λ n. ⊥)) (sym none ∙ some) tt

module _ (program : Program) (table : Merging) where
  -- a merged node has one parent
  pub same_parent : (v u u' : ℕ) (list list' : List Assign) → IsParent program table v u list → IsParent program table v u' list' → (u ≡ u') × (list ≡ list')
  same_parent v u u' list list' p q =
      let n : p.number ≡ q.number = ap (λ (o : Option ℕ). unwrap_or o 0) (sym p.entry ∙ q.entry) in
      let d = edge u v (Do list) in
      let e : edge u v (Do list) ≡ edge u' v (Do list') = sym (p.is d) ∙ ap (λ (k : ℕ). get_or program.edges k d) n ∙ q.is d in
      (ap (λ (x : Edge). x.from) e, ap (λ (x : Edge). assigns_of x.kind) e)

  pub parent_member : (v u : ℕ) (list : List Assign) → IsParent program table v u list → Contains program.edges (edge u v (Do list))
  parent_member v u list p = let d = edge u v (Do list) in subst (Contains program.edges) (p.is d) (Contains-get_or program.edges p.number d p.within)

  -- a chain to a merged node comes from its parent
  pub record FromParent (h u : ℕ) (list chain : List Assign) : Type 0 where
    pub rest : List Assign
    pub leads : Chain program table h u rest
    pub more : chain ≡ rest ++ list

  pub from_parent : (h v u : ℕ) (list chain : List Assign) → IsParent program table v u list → Chain program table h v chain → FromParent h u list chain
  from_parent h v u list chain p (here h' v' chain' head same none) =
      absurd (none_some (edge_number table v) p.number (subst (λ (x : ℕ). edge_number table x ≡ None) (sym same) head.not_merged) p.entry)
  from_parent h v u list chain p (after h' u' v' rest mine more leads q contains is) =
      let s = same_parent v u' u mine list q p in
      record { rest = rest; leads = subst (λ (x : ℕ). Chain program table h x rest) s.0 leads; more = is ∙ ap (λ (xs : List Assign). rest ++ xs) s.1 }

  pub on_from_parent : (h v u : ℕ) (list rest : List Assign) → IsParent program table v u list → Chain program table h u rest → Chain program table h v (rest ++ list)
  on_from_parent h v u list rest p leads = after h u v rest list (rest ++ list) leads p (parent_member v u list p) refl

  pub record Alike (x y : ℕ) : Type 0 where
    pub there : (h : ℕ) (chain : List Assign) → Chain program table h x chain → Chain program table h y chain
    pub back : (h : ℕ) (chain : List Assign) → Chain program table h y chain → Chain program table h x chain

  pub alike_same : (x y : ℕ) → x ≡ y → Alike x y
  alike_same x y same = record {
    there = λ h chain c. subst (λ (v : ℕ). Chain program table h v chain) same c;
    back = λ h chain c. subst (λ (v : ℕ). Chain program table h v chain) (sym same) c;
  }

  pub alike_turn : (x y : ℕ) → Alike x y → Alike y x
  alike_turn x y a = record { there = a.back; back = a.there }

  pub alike_then : (x y z : ℕ) → Alike x y → Alike y z → Alike x z
  alike_then x y z a b = record { there = λ h chain c. b.there h chain (a.there h chain c); back = λ h chain c. a.back h chain (b.back h chain c) }

  -- a node that its parent passes on as it is
  pub alike_passed : (v u : ℕ) (list : List Assign) → IsParent program table v u list → list ≡ [] → Alike v u
  alike_passed v u list p none = record {
    there = λ h chain c.
        let f = from_parent h v u list chain p c in
        subst (Chain program table h u) (sym (append-nil f.rest) ∙ ap (λ (xs : List Assign). f.rest ++ xs) (sym none) ∙ sym f.more) f.leads;
    back = λ h chain c. subst (Chain program table h v) (ap (λ (xs : List Assign). chain ++ xs) none ∙ append-nil chain) (on_from_parent h v u list chain p c);
  }

  -- two nodes whose parents are alike and assign the same
  pub alike_moved : (v u v' u' : ℕ) (list : List Assign) → IsParent program table v u list → IsParent program table v' u' list → Alike u u' → Alike v v'
  alike_moved v u v' u' list p q a = record {
    there = λ h chain c. let f = from_parent h v u list chain p c in subst (Chain program table h v') (sym f.more) (on_from_parent h v' u' list f.rest q (a.there h f.rest f.leads));
    back = λ h chain c. let f = from_parent h v' u' list chain q c in subst (Chain program table h v) (sym f.more) (on_from_parent h v u list f.rest p (a.back h f.rest f.leads));
  }

module _ (program : Program) (table : Merging) (w : IsWellFormed program) (m : IsMergedTable program table) where
  pub edge_of_program : (e : Edge) → Contains program.edges e → IsEdgeOf program e
  edge_of_program e contains = All-contains (IsEdgeOf program) program.edges e w.edges contains

  pub parent_at : (v k : ℕ) → v < program.nodes → edge_number table v ≡ Some k → IsParentEdge program v k
  parent_at v k below some = subst (λ (o : Option ℕ). MatchOption o (class_of table v ≡ v) (IsParentEdge program v)) some (m.nodes v below)

  pub as_parent : (v k : ℕ) → edge_number table v ≡ Some k → (r : IsParentEdge program v k) → IsParent program table v r.from r.list
  as_parent v k some r = record { number = k; entry = some; within = r.within; is = r.is }

  pub parent_below : (v u : ℕ) (list : List Assign) → v < program.nodes → IsParent program table v u list → (u < v) × (u < program.nodes)
  parent_below v u list below p =
      let r = parent_at v p.number below p.entry in
      let s = same_parent program table v r.from u r.list list (as_parent v p.number p.entry r) p in
      let e = edge_of_program (edge u v (Do list)) (parent_member program table v u list p) in
      (subst (λ (x : ℕ). x < v) s.0 r.below, e.from)

  pub head_class : (v : ℕ) → v < program.nodes → edge_number table v ≡ None → class_of table v ≡ v
  head_class v below none = subst (λ (o : Option ℕ). MatchOption o (class_of table v ≡ v) (IsParentEdge program v)) none (m.nodes v below)

  -- by induction on the number: below are the smaller nodes
  abbrev AlikeBelow : ℕ → Type 0
  AlikeBelow n = (v : ℕ) → v < n → v < program.nodes → Alike program table v (class_of table v)

  module _ (n v : ℕ) (low : v < suc n) (below : v < program.nodes) (before : AlikeBelow n) where
    alike_carried : (u : ℕ) (list : List Assign) → IsParent program table v u list → Carries program table (edge u v (Do list)) (class_of table v) → Alike program table v (class_of table v)
    alike_carried u list p (passes kind same) =
        let r = parent_below v u list below p in
        alike_then program table v u (class_of table v) (alike_passed program table v u list p (ap assigns_of kind))
        (alike_then program table u (class_of table u) (class_of table v) (before u (let a = r.0 in omega (arith, low)) r.1) (alike_same program table (class_of table u) (class_of table v) same))
    alike_carried u list p (assigns u' list' q kind same) =
        let r = parent_below v u list below p in
        let c = m.classes v below in
        let s = parent_below (class_of table v) u' list' c.node q in
        let k : list' ≡ list = sym (ap assigns_of kind) in
        alike_moved program table v u (class_of table v) u' list p (subst (IsParent program table (class_of table v) u') k q)
        (alike_then program table u (class_of table u) u' (before u (let a = r.0 in omega (arith, low)) r.1)
        (alike_then program table (class_of table u) (class_of table u') u' (alike_same program table (class_of table u) (class_of table u') same)
        (alike_turn program table u' (class_of table u') (before u' (let a = s.0 in let b = c.first in omega (arith, low)) s.1))))

    alike_by : (o : Option ℕ) → edge_number table v ≡ o → Alike program table v (class_of table v)
    alike_by None none = alike_same program table v (class_of table v) (sym (head_class v below none))
    alike_by (Some k) some =
        let r = parent_at v k below some in
        let p = as_parent v k some r in
        elim (m.edges (edge r.from v (Do r.list)) (parent_member program table v r.from r.list p)) [
          | inl none ↦ absurd (none_some (edge_number table v) k none some)
          | inr c ↦ alike_carried r.from r.list p c
        ]

  alike : (n : ℕ) → AlikeBelow n
  alike zero v low below = absurd (omega arith)
  alike (suc n) v low below = alike_by n v low below (alike n) (edge_number table v) refl

  pub classed : (v : ℕ) → v < program.nodes → Alike program table v (class_of table v)
  classed v below = alike (v + 1) v (omega arith) below

  -- each edge into a merged node brings the node's chain
  pub carried_by : (e : Edge) (h : ℕ) (chain : List Assign) → e.from < program.nodes → e.to < program.nodes → Carries program table e (class_of table e.to) → Chain program table h e.to chain
      → (rest : List Assign) × Chain program table h e.from rest × (e.kind ≡ Do (assigns_of e.kind)) × (chain ≡ rest ++ assigns_of e.kind)
  carried_by e h chain from to (passes kind same) c =
      let at_class = (classed e.to to).there h chain c in
      let back = (classed e.from from).back h chain (subst (λ (x : ℕ). Chain program table h x chain) (sym same) at_class) in
      let k : assigns_of e.kind ≡ [] = ap assigns_of kind in
      (chain, back, kind ∙ ap Do (sym k), sym (append-nil chain) ∙ ap (λ (xs : List Assign). chain ++ xs) (sym k))
  carried_by e h chain from to (assigns u list p kind same) c =
      let r = m.classes e.to to in
      let at_class = (classed e.to to).there h chain c in
      let f = from_parent program table h (class_of table e.to) u list chain p at_class in
      let s = parent_below (class_of table e.to) u list r.node p in
      let at_source = (classed u s.1).there h f.rest f.leads in
      let back = (classed e.from from).back h f.rest (subst (λ (x : ℕ). Chain program table h x f.rest) (sym same) at_source) in
      let k : assigns_of e.kind ≡ list = ap assigns_of kind in
      (f.rest, back, kind ∙ ap Do (sym k), f.more ∙ ap (λ (xs : List Assign). f.rest ++ xs) (sym k))

  -- each node has a chain, and one
  pub record IsLed (v : ℕ) : Type 0 where
    pub head : ℕ
    pub chain : List Assign
    pub leads : Chain program table head v chain

  led_by : (n v : ℕ) → v < suc n → v < program.nodes → ((u : ℕ) → u < n → u < program.nodes → IsLed u) → (o : Option ℕ) → edge_number table v ≡ o → IsLed v
  led_by n v low below before None none = record { head = v; chain = []; leads = here v v [] (record { node = below; not_merged = none }) refl refl }
  led_by n v low below before (Some k) some =
      let r = parent_at v k below some in
      let p = as_parent v k some r in
      let b = parent_below v r.from r.list below p in
      let c = before r.from (let a = b.0 in omega (arith, low)) b.1 in
      record { head = c.head; chain = c.chain ++ r.list; leads = on_from_parent program table c.head v r.from r.list c.chain p c.leads }

  led : (n v : ℕ) → v < n → v < program.nodes → IsLed v
  led zero v low below = absurd (omega arith)
  led (suc n) v low below = led_by n v low below (led n) (edge_number table v) refl

  pub chain_of : (v : ℕ) → v < program.nodes → IsLed v
  chain_of v below = led (v + 1) v (omega arith) below

pub unique_chain : (program : Program) (table : Merging) (v h k : ℕ) (chain other : List Assign) → Chain program table h v chain → Chain program table k v other → (h ≡ k) × (chain ≡ other)
unique_chain program table v h k chain other (here h' v' chain' head same none) (here k' v'' other' head' same' none') = (sym same ∙ same', none ∙ sym none')
unique_chain program table v h k chain other (here h' v' chain' head same none) (after k' u v'' rest list more leads p contains is) =
    absurd (none_some (edge_number table v) p.number (subst (λ (x : ℕ). edge_number table x ≡ None) (sym same) head.not_merged) p.entry)
unique_chain program table v h k chain other (after h' u v' rest list more leads p contains is) c =
    let f = from_parent program table k v u list other p c in
    let r = unique_chain program table u h k rest f.rest leads f.leads in
    (r.0, is ∙ ap (λ (xs : List Assign). xs ++ list) r.1 ∙ sym f.more)
