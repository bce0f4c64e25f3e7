-- What is offered along one edge, told by the steps that offer it.
use Rattle.std.proofs.Common.{◌≡◌, ℕ, ◌<◌, List, [], ◌++◌, Contains, length, map, get_or, ap, sym, subst, ◌∙◌}
use Rattle.affine_prog.specs.declared.Program.{Program}
use Rattle.affine_prog.specs.declared.Edge.{Edge}
use Rattle.affine_prog.specs.declared.Proc.{Proc}
use Rattle.affine_prog.specs.declared.Kind.TheVariants.{Do, Call}
use Rattle.affine_prog.specs.declared.Assign.{Assign}
use Rattle.affine_prog.specs.Programs.{edge, entry_of, slots_of, owner_of, IsKindIn, IsWellFormed}
use Rattle.reach_modules.specs.declared.Offer.{Offer}
use Rattle.affine_prog.specs.Laws.{IsOpening}
use Rattle.row_images.specs.States.{Makes, Spans, IsMatrixOf}
use Rattle.reach_modules.specs.Made.{MakesEach}
use Rattle.reach_modules.specs.Moves.{IsReturn}
use Rattle.reach_modules.specs.Offers.{offer, EdgeOffers}
use Rattle.reach_modules.proofs.Spanning.{spans_after}
use Rattle.reach_modules.proofs.Lookups.{edge_in, entry_at}
use Rattle.reach_modules.proofs.Offering.{step_offered, call_offered}

module _ (program : Program) (formed : IsWellFormed program) (e : Edge) (contains : Contains program.edges e) (v : List ℕ) (empty : List Offer) (none : empty ≡ []) where
  pub callee_is_proc : (q : ℕ) (before : List Assign) → e.kind ≡ Call q before → q < length program.procs
  callee_is_proc q before kind = (subst (IsKindIn program (owner_of program e.from)) kind (edge_in program formed e contains).kind).0

  pub edge_steps : (assigns given : List Assign) (rows listed : List (List ℕ)) (offers : List Offer) → e.kind ≡ Do assigns → given ≡ assigns → Spans rows (Makes (IsMatrixOf given) v) → listed ≡ rows
      → offers ≡ empty ++ map (λ x. offer e.to x) listed → EdgeOffers program e v offers
  edge_steps assigns given rows listed offers kind same spans listed_is is =
      subst (λ k. EdgeOffers program (edge e.from e.to k) v offers) (sym kind)
      (step_offered program e.from e.to (edge_in program formed e contains).to v assigns rows offers (subst (λ as'. Spans rows (Makes (IsMatrixOf as') v)) same spans)
      (is ∙ ap (λ os. os ++ map (λ x. offer e.to x) listed) none ∙ ap (map (λ x. offer e.to x)) listed_is))

  pub edge_calls : (q : ℕ) (before given : List Assign) (rows first second over into over_listed into_listed : List (List ℕ)) (entry : ℕ) (firsts offers : List Offer) (procs : List Proc) (d : Proc)
      → e.kind ≡ Call q before → given ≡ before → Spans rows (Makes (IsMatrixOf given) v) → first ≡ rows → MakesEach (IsReturn program (slots_of program (owner_of program e.from)) q) first over
      → second ≡ rows → MakesEach (IsOpening program.registers (slots_of program q)) second into → over_listed ≡ over → into_listed ≡ into → procs ≡ program.procs → entry ≡ (get_or procs q d).entry
      → firsts ≡ empty ++ map (λ x. offer e.to x) over_listed → offers ≡ firsts ++ map (λ x. offer entry x) into_listed → EdgeOffers program e v offers
  edge_calls q before given rows first second over into over_listed into_listed entry firsts offers procs d kind same spans first_is overs second_is intos over_is into_is procs_are entry_is firsts_are is =
      let below = callee_is_proc q before kind in
      let at : entry ≡ entry_of program q = entry_is ∙ entry_at program formed q procs d below procs_are in
      let R = IsReturn program (slots_of program (owner_of program e.from)) q in
      let made = subst (λ as'. Spans rows (Makes (IsMatrixOf as') v)) same spans in
      subst (λ k. EdgeOffers program (edge e.from e.to k) v offers) (sym kind)
      (call_offered program e.from e.to (edge_in program formed e contains).to v q before over into offers (formed.procs q below).entry
      (spans_after R (IsMatrixOf before) v rows over made (subst (λ l. MakesEach R l over) first_is overs))
      (spans_after (IsOpening program.registers (slots_of program q)) (IsMatrixOf before) v rows into made (subst (λ l. MakesEach (IsOpening program.registers (slots_of program q)) l into) second_is intos))
      (is ∙ ap (λ os. os ++ map (λ x. offer entry x) into_listed) (firsts_are ∙ ap (λ os. os ++ map (λ x. offer e.to x) over_listed) none ∙ ap (map (λ x. offer e.to x)) over_is)
      ∙ ap (λ l. map (λ x. offer e.to x) over ++ map (λ x. offer entry x) l) into_is ∙ ap (λ n. map (λ x. offer e.to x) over ++ map (λ x. offer n x) into) at))
