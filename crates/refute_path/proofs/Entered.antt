-- Starts, calls into procedures, and the loop over entries.
use Rattle.std.proofs.Common.{◌≡◌, ℕ, ◌<◌, ◌+◌, ◌*◌, ◌-◌, ◌≤◌, ◌⊎◌, inl, inr, List, [], ◌∷◌, All, Option, None, Some, Contains, replicate, get_or, length, slice_get, refl, ap, sym, subst, ◌∙◌, arith}
use Rattle.std.proofs.lemmas.Bool.{cases_eq, false≢true}
use Rattle.std.proofs.lemmas.Option.{same_Some, none-some, slice_get_within}
use Rattle.std.proofs.lemmas.List.{length-replicate}
use Rattle.std.proofs.lemmas.List.Elements.{All-replicate, All-head, All-tail}
use Rattle.std.proofs.lemmas.List.Sums.{sum_by-cons}
use Rattle.row_modules.specs.Bases.{IsLeadingBasis, basis_length}
use Rattle.row_modules.proofs.Laws.{spans_more}
use Rattle.lead_basis.proofs.Laws.{length_bound}
use Rattle.map_modules.specs.Matrices.{apply, identity}
use Rattle.affine_prog.specs.declared.Program.{Program}
use Rattle.affine_prog.specs.declared.Assign.{Assign}
use Rattle.affine_prog.specs.declared.Edge.{Edge}
use Rattle.affine_prog.specs.declared.Kind.{Kind}
use Rattle.affine_prog.specs.declared.Kind.TheVariants.{Do, Call}
use Rattle.affine_prog.specs.Programs.{edge, owner_of, IsWellFormed}
use Rattle.affine_prog.specs.Assignments.{unknown_count, matrix_of}
use Rattle.affine_prog.specs.LevelPaths.{step_map}
use Rattle.affine_prog.proofs.Lemmas.{ArePlaced, call_placed}
use Rattle.call_summaries.proofs.ByNumber.{callee_within}
use Rattle.refute_path.specs.declared.Placed.{Placed}
use Rattle.refute_path.specs.declared.Came.TheVariants.{Enter as EnterTag}
use Rattle.refute_path.specs.declared.Entry.{Entry}
use Rattle.refute_path.specs.Tags.{words_by, IsBelow, IsSlotBy, placed}
use Rattle.refute_path.specs.Arenas.{total}
use Rattle.refute_path.specs.Entries.{entered, start_by, IsStartBy, IsCameBy, Enters, IsClosedOver}
use Rattle.refute_path.specs.EntryArenas.{IsEntryArena, entry_measure, Follows, Admits, IsEntryAt, IsJust, IsStartAt, IsStartBelow, EntersAlong, IsChosen, IsEntering, IsEnteringAt, IsEnteringFrom, AreEntered}
use Rattle.refute_path.proofs.Found.{got_in, in_got}
use Rattle.refute_path.proofs.Simple.{register_below}
use Rattle.refute_path.proofs.Placing.{same_place}
use Rattle.refute_path.proofs.Entering.{identity_step}
use Rattle.refute_path.proofs.Traced.{same_reading}
use Rattle.refute_path.proofs.Looped.{empty_at}
use Rattle.refute_path.proofs.Gaining.{list_of, callee_in, calls}
use Rattle.refute_path.proofs.Admitting.{spanned_at_kept, admits_then, entry_within, entry_still, entering_still}

-- starts
pub start_is : (program : Program) (raised : Option ℕ) (s : List ℕ) → IsSlotBy program.registers raised → s ≡ start_by raised → IsStartBy program raised s
start_is program None s slot is = is
start_is program (Some k) s slot is = (slot.1, is)

pub start_only : (program : Program) (raised : Option ℕ) (s : List ℕ) → IsStartBy program raised s → s ≡ start_by raised
start_only program None s is = is
start_only program (Some k) s is = is.1

pub register_below_16 : (registers : ℕ) (raised : Option ℕ) → IsSlotBy registers raised → IsBelow 16 raised
register_below_16 registers None slot = tt
register_below_16 registers (Some k) slot = slot.0

pub start_first : (program : Program) (p : ℕ) (s : List ℕ) → IsStartBelow program 0 p s → IsStartAt program None p s
start_first program p s (None, below, h) = h
start_first program p s (Some k, below, h) = absurd (omega arith)

pub start_later : (program : Program) (n p : ℕ) (s : List ℕ) → IsStartBelow program (n + 1) p s → IsStartBelow program n p s ⊎ IsStartAt program (Some n) p s
start_later program n p s (None, below, h) = inl (None, tt, h)
start_later program n p s (Some k, below, h) = elim (cases_eq k n) [
  | inl e ↦ inr (subst (λ j. IsStartAt program (Some j) p s) e h)
  | inr other ↦ inl (Some k, omega arith, h)
]

-- one call
module _ (program : Program) (formed : IsWellFormed program) (items : List Placed) (entries : List Entry) (outer level e q : ℕ) (inner : List ℕ) (before : List Assign)
    (g : EntersAlong program items entries outer level e q inner before) where
  along_in : Contains program.edges (edge g.node g.to (Call q before))
  along_in = got_in program.edges e (edge g.node g.to (Call q before)) g.along

  pub callee_is_proc : q < length program.procs
  callee_is_proc = callee_within program formed (edge g.node g.to (Call q before)) along_in q before refl

  pub before_low : ArePlaced before
  before_low = call_placed program formed g.node g.to q before along_in

  pub came_so : (raised : Option ℕ) (s : List ℕ) → s ≡ apply (matrix_of before (words_by (unknown_count before) raised)) inner
      → IsCameBy program items entries (length entries) (EnterTag outer level e raised) q s
  came_so raised s is = record {
    earlier = slice_get_within entries outer (entered g.proc g.state g.is_outer.0) g.is_outer.1;
    proc = g.proc;
    state = g.state;
    came = g.is_outer.0;
    is_outer = g.is_outer.1;
    node = g.node;
    own = g.own;
    made = g.is_level.0;
    is_level = g.is_level.1;
    owned = g.owned;
    to = g.to;
    assigns = before;
    along = g.along;
    is = is ∙ ap (apply (matrix_of before (words_by (unknown_count before) raised))) g.is;
  }

pub image_is : (before : List Assign) (raised : Option ℕ) (one map inner s : List ℕ) → one ≡ identity 16 → map ≡ step_map before (words_by (unknown_count before) raised) one → s ≡ apply map inner
    → s ≡ apply (matrix_of before (words_by (unknown_count before) raised)) inner
image_is before raised one map inner s one_is map_is is =
    let words = words_by (unknown_count before) raised in
    is ∙ ap (λ m. apply m inner) (map_is ∙ ap (step_map before words) one_is ∙ identity_step before words)

pub along_kept : (program : Program) (items : List Placed) (entries new : List Entry) (bases new_bases : List (List (List ℕ))) → Follows program items entries new bases new_bases
    → (outer level e q : ℕ) (inner : List ℕ) (before : List Assign) → EntersAlong program items entries outer level e q inner before → EntersAlong program items new outer level e q inner before
along_kept program items entries new bases new_bases f outer level e q inner before g = record {
  proc = g.proc;
  state = g.state;
  is_outer = entry_still program items entries bases new new_bases f outer g.proc g.state g.is_outer;
  node = g.node;
  own = g.own;
  is_level = g.is_level;
  owned = g.owned;
  to = g.to;
  along = g.along;
  is = g.is;
}

pub chosen_first : (p : ℕ) (before : List Assign) (inner : List ℕ) (q : ℕ) (s : List ℕ) → IsChosen p before inner 0 q s
    → IsJust p (apply (matrix_of before (words_by (unknown_count before) None)) inner) q s
chosen_first p before inner q s (None, below, h) = h
chosen_first p before inner q s (Some k, below, h) = absurd (omega arith)

pub chosen_later : (p : ℕ) (before : List Assign) (inner : List ℕ) (n q : ℕ) (s : List ℕ) → IsChosen p before inner (n + 1) q s
    → IsChosen p before inner n q s ⊎ IsJust p (apply (matrix_of before (words_by (unknown_count before) (Some n))) inner) q s
chosen_later p before inner n q s (None, below, h) = inl (None, tt, h)
chosen_later p before inner n q s (Some k, below, h) = elim (cases_eq k n) [
  | inl e ↦ inr (subst (λ j. IsJust p (apply (matrix_of before (words_by (unknown_count before) (Some j))) inner) q s) e h)
  | inr other ↦ inl (Some k, omega arith, h)
]

pub inner_is : (items : List Placed) (entries : List Entry) (level outer : ℕ) (d f : Placed) (g h : Entry) (read : List Entry) (inner : List ℕ) → level < length items → outer < length entries
    → read ≡ entries → inner ≡ apply (get_or items level f).map (get_or read outer h).state → inner ≡ apply (get_or items level d).map (get_or entries outer g).state
inner_is items entries level outer d f g h read inner within there same is =
    is ∙ ap (λ (x : Placed). apply x.map (get_or read outer h).state) (same_reading items level f d within)
    ∙ ap (λ (z : Entry). apply (get_or items level d).map z.state) (ap (λ l. get_or l outer h) same ∙ same_reading entries outer h g there)

-- an edge, an entry and an item
module _ (program : Program) (items : List Placed) (entries : List Entry) (outer level e : ℕ) (x : Placed) (y : Edge) (z : Entry)
    (at : slice_get items level ≡ Some x) (along : slice_get program.edges e ≡ Some y) (there : slice_get entries outer ≡ Some z) where
  same_edge : (u v : ℕ) (kind : Kind) → slice_get program.edges e ≡ Some (edge u v kind) → y ≡ edge u v kind
  same_edge u v kind is = same_Some y (edge u v kind) (sym along ∙ is)

  from_is : (q : ℕ) (s : List ℕ) (i : IsEntering program items entries outer level e q s) → y.from ≡ i.node
  from_is q s i = ap (λ (w : Edge). w.from) (same_edge i.node i.to (Call q i.assigns) i.along)

  kind_is : (q : ℕ) (s : List ℕ) (i : IsEntering program items entries outer level e q s) → y.kind ≡ Call q i.assigns
  kind_is q s i = ap (λ (w : Edge). w.kind) (same_edge i.node i.to (Call q i.assigns) i.along)

  item_is : (q : ℕ) (s : List ℕ) (i : IsEntering program items entries outer level e q s) → x ≡ placed i.node i.own i.is_level.0
  item_is q s i = same_Some x (placed i.node i.own i.is_level.0) (sym at ∙ i.is_level.1)

  entry_is : (q : ℕ) (s : List ℕ) (i : IsEntering program items entries outer level e q s) → z ≡ entered (owner_of program i.node) i.state i.is_outer.0
  entry_is q s i = same_Some z (entered (owner_of program i.node) i.state i.is_outer.0) (sym there ∙ i.is_outer.1)

  pub not_from : (y.from ≡ x.node → ⊥) → (q : ℕ) (s : List ℕ) → IsEntering program items entries outer level e q s → ⊥
  not_from other q s i = other (from_is q s i ∙ sym (ap (λ (w : Placed). w.node) (item_is q s i)))

  pub no_entering : (assigns : List Assign) → y.kind ≡ Do assigns → (q : ℕ) (s : List ℕ) → IsEntering program items entries outer level e q s → ⊥
  no_entering assigns kind q s i = false≢true (ap calls (sym kind ∙ kind_is q s i))

  pub not_its_proc : (owner_of program y.from ≡ z.proc → ⊥) → (q : ℕ) (s : List ℕ) → IsEntering program items entries outer level e q s → ⊥
  not_its_proc other q s i = other (ap (owner_of program) (from_is q s i) ∙ sym (ap (λ (w : Entry). w.proc) (entry_is q s i)))

  module _ (q : ℕ) (before : List Assign) (inner : List ℕ) (kind : y.kind ≡ Call q before) (is : inner ≡ apply x.map z.state) where
    pub enters_along : y.from ≡ x.node → owner_of program y.from ≡ z.proc → EntersAlong program items entries outer level e q inner before
    enters_along from own = record {
      proc = z.proc;
      state = z.state;
      is_outer = (z.came, there);
      node = x.node;
      own = x.map;
      is_level = (x.made, at);
      owned = subst (λ u. owner_of program u ≡ z.proc) from own;
      to = y.to;
      along = subst (λ k. slice_get program.edges e ≡ Some (edge x.node y.to k)) kind (subst (λ u. slice_get program.edges e ≡ Some (edge u y.to y.kind)) from along);
      is = is;
    }

    pub entering_chosen : (p : ℕ) (s : List ℕ) → IsEntering program items entries outer level e p s → IsChosen q before inner (unknown_count before) p s
    entering_chosen p s i =
        let same = sym kind ∙ kind_is p s i in
        let list_is : i.assigns ≡ before = sym (ap list_of same) in
        let inner_is : apply i.own i.state ≡ inner =
        ap (λ m. apply m i.state) (sym (ap (λ (w : Placed). w.map) (item_is p s i))) ∙ ap (apply x.map) (sym (ap (λ (w : Entry). w.state) (entry_is p s i))) ∙ sym is in (
          i.raised,
          subst (λ l. IsBelow (unknown_count l) i.raised) list_is i.below,
          (
            sym (ap callee_in same),
            i.is ∙ ap (λ l. apply (matrix_of l (words_by (unknown_count l) i.raised)) (apply i.own i.state)) list_is
                ∙ ap (apply (matrix_of before (words_by (unknown_count before) i.raised))) inner_is,
          ),
        )

-- loops
pub at_more : (program : Program) (items : List Placed) (entries mid new : List Entry) (bases mid_bases new_bases : List (List (List ℕ))) (outer level n : ℕ)
    → Admits program items entries mid bases mid_bases (IsEnteringAt program items entries outer level n) → Admits program items mid new mid_bases new_bases (IsEntering program items mid outer level n)
    → Admits program items entries new bases new_bases (IsEnteringAt program items entries outer level (n + 1))
at_more program items entries mid new bases mid_bases new_bases outer level n g h =
    admits_then program items entries bases mid mid_bases new new_bases (IsEnteringAt program items entries outer level n) (IsEntering program items mid outer level n) (IsEnteringAt program items entries outer level (n + 1))
    (λ p s (e, below, i). elim (cases_eq e n) [
      | inl is ↦ inr (subst (λ j. IsEntering program items mid outer level j p s) is (entering_still program items entries bases mid mid_bases g.follows outer level e p s i))
      | inr other ↦ inl (e, omega arith, i)
    ]) g h

pub from_more : (program : Program) (items : List Placed) (entries mid new : List Entry) (bases mid_bases new_bases : List (List (List ℕ))) (outer n : ℕ)
    → Admits program items entries mid bases mid_bases (IsEnteringFrom program items entries outer n)
    → Admits program items mid new mid_bases new_bases (IsEnteringAt program items mid outer n (length program.edges))
    → Admits program items entries new bases new_bases (IsEnteringFrom program items entries outer (n + 1))
from_more program items entries mid new bases mid_bases new_bases outer n g h =
    admits_then program items entries bases mid mid_bases new new_bases (IsEnteringFrom program items entries outer n) (IsEnteringAt program items mid outer n (length program.edges))
    (IsEnteringFrom program items entries outer (n + 1))
    (λ p s (level, below, (e, less, i)). elim (cases_eq level n) [
      | inl is ↦ inr (subst (λ j. IsEnteringAt program items mid outer j (length program.edges) p s) is (e, less, entering_still program items entries bases mid mid_bases g.follows outer level e p s i))
      | inr other ↦ inl (level, omega arith, (e, less, i))
    ]) g h

-- the loop over entries
pub record IsEnteringOn (program : Program) (items : List Placed) (entries : List Entry) (bases : List (List (List ℕ))) (place : ℕ) : Type 0 where
  pub arena : IsEntryArena program items entries bases
  pub entered : AreEntered program items entries place
  pub within : place ≤ length entries

none_enters : (p : ℕ) (s : List ℕ) → Enters [] p s → ⊥
none_enters p s (came, (k, below, is)) = absurd (omega arith)

pub empty_entries : (program : Program) (items : List Placed) (bases : List (List (List ℕ))) → bases ≡ replicate (length program.procs) [] → IsEntryArena program items [] bases
empty_entries program items bases is = rw is (record {
  procs = length-replicate (length program.procs) [];
  leading = All-replicate (IsLeadingBasis 17) (length program.procs) [] tt;
  came = λ k p s came at. absurd (none-some _ at);
  same = λ p. rw (empty_at (length program.procs) p) (record {
    there = spans_more 17 (Contains []) (Enters [] p) (λ x (k, below, is). absurd (omega arith));
    back = spans_more 17 (Enters [] p) (Contains []) (λ x h. absurd (none_enters p x h));
  });
})

register_low : (program : Program) → IsWellFormed program → (raised : Option ℕ) (s : List ℕ) → IsStartBy program raised s → IsBelow 16 raised
register_low program formed None s is = tt
register_low program formed (Some k) s is = register_below program formed k is.0

pub entries_begin : (program : Program) → IsWellFormed program → (items : List Placed) (entries new : List Entry) (bases new_bases : List (List (List ℕ)))
    → Admits program items entries new bases new_bases (IsStartBelow program 16) → IsEnteringOn program items new new_bases 0
entries_begin program formed items entries new bases new_bases g = record {
  arena = g.follows.arena;
  entered = record {
    starts = λ raised s is. g.taken program.start s (raised, register_low program formed raised s is, (refl, is));
    calls = λ k q u v assigns raised m s less contains below h i. absurd (omega arith);
  };
  within = omega arith;
}

module _ (program : Program) (items : List Placed) (entries new : List Entry) (bases new_bases : List (List (List ℕ))) (place : ℕ) (h : IsEnteringOn program items entries bases place)
    (less : place < length entries) (g : Admits program items entries new bases new_bases (IsEnteringFrom program items entries place (length items))) where
  entry_back : (k p : ℕ) (s : List ℕ) → k < length entries → IsEntryAt new k p s → IsEntryAt entries k p s
  entry_back k p s below (came, at) =
      let (y, old) = same_place entries k below in
      let e = same_Some y (entered p s came) (sym (g.follows.kept k y old) ∙ at) in (came, old ∙ ap Some e)

  pub entries_go_on : IsEnteringOn program items new new_bases (place + 1)
  entries_go_on = record {
    arena = g.follows.arena;
    entered = record {
      starts = λ raised s is. spanned_at_kept program items entries new bases new_bases g.follows program.start s (h.entered.starts raised s is);
      calls = λ k q u v assigns raised m s below contains word there i.
          let w = h.within in
          let old = entry_back k (owner_of program u) s (omega arith) i in
          elim (cases_eq k place) [
            | inl e ↦
                let (level, at) = in_got items (placed u m there.0) there.1 in
                let (j, along) = in_got program.edges (edge u v (Call q assigns)) contains in
                g.taken q _ (
                  level,
                  slice_get_within items level (placed u m there.0) at,
                  (
                    j,
                    slice_get_within program.edges j (edge u v (Call q assigns)) along,
                    record {
                      node = u;
                      own = m;
                      is_level = (there.0, at);
                      state = s;
                      is_outer = subst (λ n. IsEntryAt entries n (owner_of program u) s) e old;
                      to = v;
                      assigns = assigns;
                      along = along;
                      raised = raised;
                      below = word;
                      is = refl;
                    },
                  ),
                )
            | inr other ↦ spanned_at_kept program items entries new bases new_bases g.follows q _ (h.entered.calls k q u v assigns raised m s (omega arith) contains word there old)
          ];
    };
    within = let w = entry_within program items entries bases new new_bases g.follows place less in omega arith;
  }

  pub entries_go_down : entry_measure new_bases new (place + 1) < entry_measure bases entries place
  entries_go_down =
      let a = few bases h.arena.leading in let b = few new_bases g.follows.arena.leading in
      let c = h.arena.procs in let d = g.follows.arena.procs in let e = g.follows.fewer in
      let (y, at) = same_place entries (length entries - 1) (omega arith) in
      let longer : length entries - 1 < length new = slice_get_within new (length entries - 1) y (g.follows.kept (length entries - 1) y at) in omega arith
    where
      few : (bases : List (List (List ℕ))) → All (IsLeadingBasis 17) bases → total bases ≤ 1088 * length bases
      few [] all = omega arith
      few (b ∷ bases) all =
          let h = few bases (All-tail (IsLeadingBasis 17) b bases all) in
          let k = (length_bound 17 b (All-head (IsLeadingBasis 17) b bases all)).1 in
          let e = sum_by-cons basis_length b bases in omega arith

pub entries_closed : (program : Program) (items : List Placed) (entries : List Entry) (bases : List (List (List ℕ))) (place : ℕ) → IsEnteringOn program items entries bases place
    → length entries ≤ place → IsClosedOver program items entries
entries_closed program items entries bases place h end = record {
  starts = h.entered.starts;
  calls = λ q u v assigns raised m s contains below there (came, i).
      let (k, at) = in_got entries (entered (owner_of program u) s came) i in
      let less = slice_get_within entries k (entered (owner_of program u) s came) at in
      h.entered.calls k q u v assigns raised m s (omega arith) contains below there (came, at);
}
