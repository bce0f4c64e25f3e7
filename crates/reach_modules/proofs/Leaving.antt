-- What is offered along the edges that leave a node spans what the moves from it make of a row.
use Rattle.std.proofs.Common.{◌≡◌, inl, inr, ℕ, ◌<◌, List, [], ◌∷◌, ◌++◌, Contains, All, get_or, length, ap, subst, ◌∙◌, arith}
use Rattle.std.proofs.lemmas.List.{get_or_default}
use Rattle.std.proofs.lemmas.List.Elements.{Contains-append_left, Contains-append_right, Contains-append_cases, All-weaker, All-contains_itself, All-contains}
use Rattle.row_modules.proofs.Laws.{generator, spans_more, within_from_generators}
use Rattle.affine_prog.specs.declared.Program.{Program}
use Rattle.affine_prog.specs.declared.Edge.{Edge}
use Rattle.affine_prog.specs.declared.Kind.TheVariants.{Do}
use Rattle.affine_prog.specs.Programs.{edge}
use Rattle.reach_modules.specs.declared.Offer.{Offer}
use Rattle.row_images.specs.States.{Makes}
use Rattle.row_engine.specs.Tables.{edge_at, AreOut}
use Rattle.reach_modules.specs.Moves.{EdgeMap, Moves}
use Rattle.reach_modules.specs.Offers.{offer, IsListed, IsOffer, EdgeOffers, AlongOffers, RowOffers}
use Rattle.reach_modules.specs.Tables.{AlongSome}
use Rattle.row_engine.proofs.Members.{nothing_in, first_in, first_or_later_in}
use Rattle.reach_modules.proofs.InTurn.{offered_rows}
use Rattle.reach_modules.proofs.Spanning.{made_are_rows}

-- one edge more
module _ (program : Program) (v : List ℕ) where
  pub along_none : AlongOffers program [] v []
  along_none = record {
    are = λ k d h. absurd (omega arith);
    spans = λ w. record {
      there = within_from_generators 17 (IsListed [] w) (Makes (AlongSome program [] w) v) (made_are_rows (AlongSome program [] w) v) (λ x h. absurd (nothing_in (offer w x) h));
      back = within_from_generators 17 (Makes (AlongSome program [] w) v) (IsListed [] w) (λ x h. absurd (nothing_in (offer w x) h)) (λ x (m, (k, none, i), e). absurd (nothing_in k none));
    };
  }

  pub along_more : (ks : List ℕ) (k : ℕ) (offers more all : List Offer) → AlongOffers program ks v offers → EdgeOffers program (edge_at program k) v more → all ≡ offers ++ more
      → AlongOffers program (ks ++ k ∷ []) v all
  along_more ks k offers more all so_far next is =
      let are : All (IsOffer program.nodes) all =
      rw is (All-weaker (Contains (offers ++ more)) (IsOffer program.nodes)
      (λ o h. elim (Contains-append_cases offers more o h) [ inl i ↦ All-contains (IsOffer program.nodes) offers o so_far.are i | inr i ↦ All-contains (IsOffer program.nodes) more o next.are i ])
      (offers ++ more) (All-contains_itself (offers ++ more))) in
      record {
        are = are;
        spans = λ w. let M = AlongSome program (ks ++ k ∷ []) w in record {
          there = within_from_generators 17 (IsListed all w) (Makes M v) (made_are_rows M v)
              (λ x h. elim (Contains-append_cases offers more (offer w x) (subst (λ os. IsListed os w x) is h)) [
                | inl i ↦ spans_more 17 (Makes (AlongSome program ks w) v) (Makes M v) (λ y (m, (j, l, g), e). (m, (j, Contains-append_left ks (k ∷ []) j l, g), e)) x
                    ((so_far.spans w).there x (generator 17 (IsListed offers w) (offered_rows program.nodes offers so_far.are w) x i))
                | inr i ↦ spans_more 17 (Makes (EdgeMap program (edge_at program k) w) v) (Makes M v) (λ y (m, g, e). (m, (k, Contains-append_right ks (k ∷ []) k (first_in k []), g), e)) x
                    ((next.spans w).there x (generator 17 (IsListed more w) (offered_rows program.nodes more next.are w) x i))
              ]);
          back = within_from_generators 17 (Makes M v) (IsListed all w) (offered_rows program.nodes all are w)
              (λ x (m, (j, l, g), e). elim (Contains-append_cases ks (k ∷ []) j l) [
                | inl i ↦ spans_more 17 (IsListed offers w) (IsListed all w) (λ y h. rw is (Contains-append_left offers more (offer w y) h)) x
                    ((so_far.spans w).back x (generator 17 (Makes (AlongSome program ks w) v) (made_are_rows (AlongSome program ks w) v) x (m, (j, i, g), e)))
                | inr i ↦ spans_more 17 (IsListed more w) (IsListed all w) (λ y h. rw is (Contains-append_right offers more (offer w y) h)) x
                    ((next.spans w).back x (generator 17 (Makes (EdgeMap program (edge_at program k) w) v) (made_are_rows (EdgeMap program (edge_at program k) w) v) x
                    (m, subst (λ n. EdgeMap program (edge_at program n) w m) (only j i) g, e)))
              ]);
        };
      }
    where
      only : (j : ℕ) → Contains (k ∷ []) j → j ≡ k
      only j i = elim (first_or_later_in k [] j i) [ inl e ↦ e | inr none ↦ absurd (nothing_in j none) ]

  -- all edges that leave a node
  pub along_all : (u : ℕ) (out : List (List ℕ)) (ks : List ℕ) (offers : List Offer) → AreOut program out → ks ≡ get_or out u [] → AlongOffers program ks v offers → RowOffers program u v offers
  along_all u out ks offers are is so_far = record {
    are = so_far.are;
    spans = λ w. record {
      there = λ x h. spans_more 17 (Makes (AlongSome program ks w) v) (Makes (Moves program u w) v)
          (λ y (m, (k, l, g), e). (m, moved w m k ((are.is u k).0 (subst (λ n. Contains n k) is l)) g, e)) x ((so_far.spans w).there x h);
      back = λ x h. (so_far.spans w).back x (spans_more 17 (Makes (Moves program u w) v) (Makes (AlongSome program ks w) v) (λ y (m, move, e). (m, listed w m move, e)) x h);
    };
  } where
    moved : (w : ℕ) (m : List ℕ) (k : ℕ) → (k < length program.edges) × ((edge_at program k).from ≡ u) → EdgeMap program (edge_at program k) w m → Moves program u w m
    moved w m k (below, from) g = record { along = edge_at program k; in_edges = (k, below, get_or_default program.edges k _ _ below); from_u = from; map = g }

    listed : (w : ℕ) (m : List ℕ) → Moves program u w m → AlongSome program ks w m
    listed w m move =
        let i = move.in_edges in
        let e : edge_at program i.0 ≡ move.along = get_or_default program.edges i.0 (edge 0 0 (Do [])) move.along i.1 ∙ i.2 in
        (i.0, rw is ((are.is u i.0).1 (i.1, ap (λ (x : Edge). x.from) e ∙ move.from_u)), rw e move.map)
