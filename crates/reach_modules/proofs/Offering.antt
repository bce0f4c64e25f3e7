-- What is offered along one edge spans what its moves make of a row.
use Rattle.std.proofs.Common.{◌≡◌, inl, inr, ℕ, ◌<◌, List, ◌++◌, Contains, All, map, ap, subst}
use Rattle.std.proofs.lemmas.List.Elements.{Contains-append_left, Contains-append_right, Contains-append_cases, All-weaker, All-contains_itself, All-contains}
use Rattle.row_modules.specs.Modules.{AreRows, IsCombination}
use Rattle.row_modules.proofs.Laws.{generator, spans_more, within_from_generators}
use Rattle.affine_prog.specs.declared.Program.{Program}
use Rattle.affine_prog.specs.declared.Kind.TheVariants.{Do, Call}
use Rattle.affine_prog.specs.declared.Assign.{Assign}
use Rattle.affine_prog.specs.Programs.{edge, entry_of, slots_of, owner_of}
use Rattle.reach_modules.specs.declared.Offer.{Offer}
use Rattle.affine_prog.specs.Laws.{IsOpening}
use Rattle.row_images.specs.States.{Makes, Spans, IsMatrixOf}
use Rattle.reach_modules.specs.Made.{After}
use Rattle.reach_modules.specs.Moves.{IsReturn, EdgeMap}
use Rattle.reach_modules.specs.Offers.{offer, IsListed, IsOffer, EdgeOffers}
use Rattle.row_engine.proofs.Members.{map_in, map_out}
use Rattle.reach_modules.proofs.InTurn.{offered_rows}
use Rattle.reach_modules.proofs.Spanning.{made_are_rows}

-- rows that are offered to one node
module _ (to : ℕ) (rows : List (List ℕ)) (P : List ℕ → Type 0) (s : Spans rows P) where
  listed_out : (w : ℕ) (x : List ℕ) → IsListed (map (λ y. offer to y) rows) w x → (w ≡ to) × Contains rows x
  listed_out w x h =
      let i = map_out (λ y. offer to y) rows (offer w x) h in
      (ap (λ (o : Offer). o.node) i.2, let e : x ≡ i.0 = ap (λ (o : Offer). o.row) i.2 in rw e i.1)

  pub offered_sound : (w : ℕ) (x : List ℕ) → IsListed (map (λ y. offer to y) rows) w x → (w ≡ to) × IsCombination 17 P x
  offered_sound w x h = let i = listed_out w x h in (i.0, s.same.there x (generator 17 (Contains rows) s.rows_are x i.1))

  pub offered_all : AreRows 17 P → (offers : List Offer) → ((x : List ℕ) → IsListed (map (λ y. offer to y) rows) to x → IsListed offers to x) → (x : List ℕ) → P x → IsCombination 17 (IsListed offers to) x
  offered_all are offers more x h =
      spans_more 17 (Contains rows) (IsListed offers to) (λ y i. more y (map_in (λ z. offer to z) rows y i)) x (s.same.back x (generator 17 P are x h))

  pub offers_are : (n : ℕ) → to < n → All (IsOffer n) (map (λ y. offer to y) rows)
  offers_are n below =
      All-weaker (Contains (map (λ y. offer to y) rows)) (IsOffer n)
      (λ o h. let i = listed_out o.node o.row h in record { below = rw (i.0) below; row = s.rows_are o.row i.1 })
      (map (λ y. offer to y) rows) (All-contains_itself (map (λ y. offer to y) rows))

module _ (program : Program) (u to : ℕ) (below : to < program.nodes) (v : List ℕ) where
  pub step_offered : (assigns : List Assign) (rows : List (List ℕ)) (offers : List Offer) → Spans rows (Makes (IsMatrixOf assigns) v) → offers ≡ map (λ x. offer to x) rows
      → EdgeOffers program (edge u to (Do assigns)) v offers
  step_offered assigns rows offers s is =
      let P = Makes (IsMatrixOf assigns) v in
      let are : All (IsOffer program.nodes) offers = rw is (offers_are to rows P s program.nodes below) in
      record {
        are = are;
        spans = λ w. record {
          there = within_from_generators 17 (IsListed offers w) (Makes (EdgeMap program (edge u to (Do assigns)) w) v) (made_are_rows (EdgeMap program (edge u to (Do assigns)) w) v)
              (λ x h. let i = offered_sound to rows P s w x (subst (λ os. IsListed os w x) is h) in
              spans_more 17 P (Makes (EdgeMap program (edge u to (Do assigns)) w) v) (λ y (m, in_m, e). (m, (i.0, in_m), e)) x i.1);
          back = within_from_generators 17 (Makes (EdgeMap program (edge u to (Do assigns)) w) v) (IsListed offers w) (offered_rows program.nodes offers are w)
              (λ x (m, (at, in_m), e). rw at (offered_all to rows P s (made_are_rows (IsMatrixOf assigns) v) offers (λ y h. rw is h) x (m, in_m, e)));
        };
      }

  module _ (q : ℕ) (before : List Assign) (over into : List (List ℕ)) (offers : List Offer) (entry : entry_of program q < program.nodes) where
    abbrev Over : List ℕ → Type 0
    Over = After (IsReturn program (slots_of program (owner_of program u)) q) (IsMatrixOf before)

    abbrev Into : List ℕ → Type 0
    Into = After (IsOpening program.registers (slots_of program q)) (IsMatrixOf before)

    abbrev firsts : List Offer
    firsts = map (λ x. offer to x) over

    abbrev seconds : List Offer
    seconds = map (λ x. offer (entry_of program q) x) into

    pub call_offered : Spans over (Makes Over v) → Spans into (Makes Into v) → offers ≡ firsts ++ seconds → EdgeOffers program (edge u to (Call q before)) v offers
    call_offered s t is =
        let e = edge u to (Call q before) in
        let a = offers_are to over (Makes Over v) s program.nodes below in
        let b = offers_are (entry_of program q) into (Makes Into v) t program.nodes entry in
        let are : All (IsOffer program.nodes) offers =
        rw is (All-weaker (Contains (firsts ++ seconds)) (IsOffer program.nodes)
        (λ o h. elim (Contains-append_cases firsts seconds o h) [ inl k ↦ All-contains (IsOffer program.nodes) firsts o a k | inr k ↦ All-contains (IsOffer program.nodes) seconds o b k ])
        (firsts ++ seconds) (All-contains_itself (firsts ++ seconds))) in
        record {
          are = are;
          spans = λ w. record {
            there = within_from_generators 17 (IsListed offers w) (Makes (EdgeMap program e w) v) (made_are_rows (EdgeMap program e w) v)
                (λ x h. elim (Contains-append_cases firsts seconds (offer w x) (subst (λ os. IsListed os w x) is h)) [
                  | inl k ↦ let i = offered_sound to over (Makes Over v) s w x k in
                      spans_more 17 (Makes Over v) (Makes (EdgeMap program e w) v) (λ y (m, in_m, g). (m, inl (i.0, in_m), g)) x i.1
                  | inr k ↦ let i = offered_sound (entry_of program q) into (Makes Into v) t w x k in
                      spans_more 17 (Makes Into v) (Makes (EdgeMap program e w) v) (λ y (m, in_m, g). (m, inr (i.0, in_m), g)) x i.1
                ]);
            back = within_from_generators 17 (Makes (EdgeMap program e w) v) (IsListed offers w) (offered_rows program.nodes offers are w)
                (λ x (m, in_m, g). elim in_m [
                  | inl (at, j) ↦ rw at (offered_all to over (Makes Over v) s (made_are_rows Over v) offers (λ y h. rw is (Contains-append_left firsts seconds (offer to y) h)) x (m, j, g))
                  | inr (at, j) ↦ rw at (offered_all (entry_of program q) into (Makes Into v) t (made_are_rows Into v) offers
                      (λ y h. rw is (Contains-append_right firsts seconds (offer (entry_of program q) y) h)) x (m, j, g))
                ]);
          };
        }
