-- What lists of placed maps gain, part by part.
use Rattle.std.proofs.Common.{◌≡◌, ℕ, ◌<◌, ◌+◌, ◌⊎◌, inl, inr, List, Option, None, Some, Bool, true, false, bit_and, length, get_or, slice_get, replicate, slice_set, ◌*◌, ap, ap₂, sym, subst, ◌∙◌, arith}
use Rattle.std.proofs.lemmas.Bool.{cases_eq, false≢true}
use Rattle.std.proofs.lemmas.Option.{same_Some, slice_get_within}
use Rattle.word_rows.specs.Rows.{words_of, plus, unit}
use Rattle.map_modules.specs.Matrices.{identity, linear_extension}
use Rattle.affine_prog.specs.declared.Proc.{Proc}
use Rattle.affine_prog.proofs.Lemmas.{opening_map-zeros}
use Rattle.call_summaries.proofs.ByNumber.{entry_at, slots_at}
use Rattle.call_summaries.proofs.Opening.{zero_opening, slot_row}
use Rattle.affine_prog.specs.declared.Program.{Program}
use Rattle.affine_prog.specs.declared.Assign.{Assign}
use Rattle.affine_prog.specs.declared.Edge.{Edge}
use Rattle.affine_prog.specs.declared.Kind.{Kind}
use Rattle.affine_prog.specs.declared.Kind.TheVariants.{Do, Call}
use Rattle.affine_prog.specs.Programs.{edge, entry_of, exit_of, slots_of, owner_of}
use Rattle.affine_prog.specs.Assignments.{unknown_count}
use Rattle.affine_prog.specs.LevelPaths.{opening_map, step_map}
use Rattle.refute_path.specs.declared.Placed.{Placed}
use Rattle.refute_path.specs.declared.calls.CallSite.{CallSite}
use Rattle.refute_path.specs.Tags.{words_by, IsBelow, IsSlotBy, placed, Opens, Spanned}
use Rattle.refute_path.specs.Arenas.{IsArena, Extends, Offers, GoesAlong, PushesSome, IsItem}
use Rattle.refute_path.specs.CallPushes.{call_image, CallsAlong, CallsSome}
use Rattle.refute_path.specs.Gains.{Gains, IsOpeningAt, IsOpeningBy, IsOpeningOf, IsOpeningBelow, IsStepOf, IsCallOf, IsForward, IsBack, IsAlong, IsAlongBelow}
use Rattle.refute_path.proofs.Placing.{same_place}
use Rattle.refute_path.proofs.Pushing.{spanned_kept, extends_then}
use Rattle.refute_path.proofs.Traced.{found_at, found_item}

pub got_slice : {X : Type 0} (xs ys : List X) (k : ℕ) (x : X) → xs ≡ ys → k < length ys → x ≡ get_or xs k x → slice_get ys k ≡ Some x
got_slice xs ys k x e below is = found_item ys k x below (is ∙ ap (λ l. get_or l k x) e)

pub got_default : {X : Type 0} (xs ys : List X) (k : ℕ) (d : X) → xs ≡ ys → k < length ys → slice_get ys k ≡ Some (get_or xs k d)
got_default xs ys k d e below = found_at ys k d below ∙ ap (λ l. Some (get_or l k d)) (sym e)

module _ (program : Program) (items : List Placed) (bases : List (List (List ℕ))) where
  pub not_longer : IsArena program items bases → Extends program items items bases bases
  not_longer arena = record { kept = λ k x e. e; arena = arena; fewer = omega arith }

  pub gains_none : (A : ℕ → List ℕ → Type 0) → IsArena program items bases → ((u : ℕ) (m : List ℕ) → A u m → ⊥) → Gains program items items bases bases A
  gains_none A arena none = record { extends = not_longer arena; taken = λ u m h. absurd (none u m h) }

  module _ (new : List Placed) (new_bases : List (List (List ℕ))) where
    pub gains_offer : (A : ℕ → List ℕ → Type 0) (u : ℕ) (m : List ℕ) → Offers program items new bases new_bases u m → ((v : ℕ) (n : List ℕ) → A v n → (v ≡ u) × (n ≡ m)) → Gains program items new bases new_bases A
    gains_offer A u m o only = record { extends = o.extends; taken = λ v n h. let (e, f) = only v n h in rw (e, f) o.taken }

    pub gains_less : (A B : ℕ → List ℕ → Type 0) → ((u : ℕ) (m : List ℕ) → B u m → A u m) → Gains program items new bases new_bases A → Gains program items new bases new_bases B
    gains_less A B less g = record { extends = g.extends; taken = λ u m h. g.taken u m (less u m h) }

    pub still_within : Extends program items new bases new_bases → (k : ℕ) → k < length items → k < length new
    still_within x k below = let (y, at) = same_place items k below in slice_get_within new k y (x.kept k y at)

    pub gains_then : (last : List Placed) (last_bases : List (List (List ℕ))) (A B C : ℕ → List ℕ → Type 0) → ((u : ℕ) (m : List ℕ) → C u m → A u m ⊎ B u m)
        → Gains program items new bases new_bases A → Gains program new last new_bases last_bases B → Gains program items last bases last_bases C
    gains_then last last_bases A B C either g h = record {
      extends = extends_then program items new last bases new_bases last_bases g.extends h.extends;
      taken = λ u m i. elim (either u m i) [
        | inl a ↦ spanned_kept program new last new_bases last_bases h.extends u m (g.taken u m a)
        | inr b ↦ h.taken u m b
      ];
    }

    item_still : Extends program items new bases new_bases → (k u : ℕ) (m : List ℕ) → IsItem items k u m → IsItem new k u m
    item_still x k u m (made, at) = (made, x.kept k (placed u m made) at)

    pub step_still : Extends program items new bases new_bases → (k e u : ℕ) (m : List ℕ) → IsStepOf program items k e u m → IsStepOf program new k e u m
    step_still x k e u m s = record {
      node = s.node;
      own = s.own;
      is_item = item_still x k s.node s.own s.is_item;
      assigns = s.assigns;
      along = s.along;
      raised = s.raised;
      below = s.below;
      map = s.map;
    }

    pub call_still : Extends program items new bases new_bases → (caller callee e u : ℕ) (m : List ℕ) → IsCallOf program items caller callee e u m → IsCallOf program new caller callee e u m
    call_still x caller callee e u m s = record {
      node = s.node;
      own = s.own;
      is_caller = item_still x caller s.node s.own s.is_caller;
      proc = s.proc;
      exit = s.exit;
      is_callee = item_still x callee (exit_of program s.proc) s.exit s.is_callee;
      assigns = s.assigns;
      along = s.along;
      raised = s.raised;
      below = s.below;
      map = s.map;
    }

-- openings
module _ (program : Program) (p : ℕ) (within : p < length program.procs) (procs : List Proc) (d : Proc) (is : procs ≡ program.procs) where
  pub own_entry : (get_or procs p d).entry ≡ entry_of program p
  own_entry = ap (λ l. (get_or l p d).entry) is ∙ sym (entry_at program p d within)

  pub own_slots : (get_or procs p d).slots ≡ slots_of program p
  own_slots = ap (λ l. (get_or l p d).slots) is ∙ sym (slots_at program p d within)

  pub opening_made : (map : List ℕ) (raised : Option ℕ) → map ≡ opening_map program.registers (get_or procs p d).slots (words_by 16 raised) → Opens program p raised (get_or procs p d).entry map
  opening_made map raised map_is = record { within = within; there = own_entry; map = map_is ∙ ap (λ s. opening_map program.registers s (words_by 16 raised)) own_slots }

  pub opening_gained : (map : List ℕ) (raised : Option ℕ) → map ≡ opening_map program.registers (get_or procs p d).slots (words_by 16 raised)
      → (items new : List Placed) (bases new_bases : List (List (List ℕ))) → Offers program items new bases new_bases (get_or procs p d).entry map
      → Gains program items new bases new_bases (IsOpeningBy program p raised)
  opening_gained map raised map_is items new bases new_bases o =
      let made = opening_made map raised map_is in
      gains_offer program items bases new new_bases (IsOpeningBy program p raised) (get_or procs p d).entry map o (λ v n h. (h.there ∙ sym made.there, h.is ∙ sym made.map))

pub opened_none : (registers slots : ℕ) (map one : List ℕ) → map ≡ linear_extension registers 0 one → one ≡ identity 16 → map ≡ opening_map registers slots (replicate 16 0)
opened_none registers slots map one a b = a ∙ ap (λ m. linear_extension registers 0 m) b ∙ zero_opening registers slots

pub opened_some : (registers slots k : ℕ) → bit_and registers slots ≡ 0 → IsSlotBy slots (Some k) → (map row new : List ℕ) → map ≡ opening_map registers slots (replicate 16 0)
    → row ≡ slice_set (replicate 289 0) (17 * k + 16) 1 → new ≡ words_of (plus 1 map row) → new ≡ opening_map registers slots (unit 16 k)
opened_some registers slots k apart (below, slot) map row new map_is row_is is =
    is ∙ ap₂ (λ (m x : List ℕ). words_of (plus 1 m x)) map_is (row_is ∙ sym (slot_row registers slots k below apart slot)) ∙ sym (opening_map-zeros registers slots (unit 16 k))

pub opened_first : (program : Program) (p u : ℕ) (m : List ℕ) → IsOpeningOf program p 0 u m → IsOpeningBy program p None u m
opened_first program p u m (None, slot, below, o) = o
opened_first program p u m (Some k, slot, below, o) = absurd (omega arith)

pub opened_later : (program : Program) (p n u : ℕ) (m : List ℕ) → IsOpeningOf program p (n + 1) u m → IsOpeningOf program p n u m ⊎ IsOpeningAt program p n u m
opened_later program p n u m (None, slot, below, o) = inl (None, slot, below, o)
opened_later program p n u m (Some k, slot, below, o) = elim (cases_eq k n) [
  | inl e ↦ inr (subst (λ j. IsOpeningAt program p j u m) e (slot.1, o))
  | inr other ↦ inl (Some k, slot, omega arith, o)
]

pub proc_later : (program : Program) (n u : ℕ) (m : List ℕ) → IsOpeningBelow program (n + 1) u m → IsOpeningBelow program n u m ⊎ IsOpeningOf program n 16 u m
proc_later program n u m (p, below, o) = elim (cases_eq p n) [
  | inl e ↦ inr (subst (λ q. IsOpeningOf program q 16 u m) e o)
  | inr other ↦ inl (p, omega arith, o)
]

-- kinds of edges
abbrev pub list_of : Kind → List Assign
list_of (Do assigns) = assigns
list_of (Call q assigns) = assigns

abbrev pub callee_in : Kind → ℕ
callee_in (Do assigns) = 0
callee_in (Call q assigns) = q

abbrev pub calls : Kind → Bool
calls (Do assigns) = false
calls (Call q assigns) = true

-- one edge
at_node : (items : List Placed) (place : ℕ) (x : Placed) → slice_get items place ≡ Some x → (u : ℕ) (m : List ℕ) → IsItem items place u m → x.node ≡ u
at_node items place x at u m (made, there) = ap (λ (z : Placed). z.node) (same_Some x (placed u m made) (sym at ∙ there))

pub no_return : (program : Program) (items : List Placed) (place e : ℕ) (x : Placed) → slice_get items place ≡ Some x
    → ((q u v : ℕ) (before : List Assign) → slice_get program.edges e ≡ Some (edge u v (Call q before)) → exit_of program q ≡ x.node → ⊥)
    → (caller u : ℕ) (m : List ℕ) → IsCallOf program items caller place e u m → ⊥
no_return program items place e x at none caller u m s = none s.proc s.node u s.assigns s.along (sym (at_node items place x at (exit_of program s.proc) s.exit s.is_callee))

module _ (program : Program) (items : List Placed) (place e : ℕ) (x : Placed) (y : Edge) (at : slice_get items place ≡ Some x) (along : slice_get program.edges e ≡ Some y) where
  same_item : (u : ℕ) (m : List ℕ) → IsItem items place u m → x.node ≡ u
  same_item u m i = at_node items place x at u m i

  same_edge : (u v : ℕ) (kind : Kind) → slice_get program.edges e ≡ Some (edge u v kind) → y ≡ edge u v kind
  same_edge u v kind there = same_Some y (edge u v kind) (sym along ∙ there)

  same_kind : (u v : ℕ) (kind : Kind) → slice_get program.edges e ≡ Some (edge u v kind) → y.kind ≡ kind
  same_kind u v kind there = ap (λ (z : Edge). z.kind) (same_edge u v kind there)

  same_end : (u v : ℕ) (kind : Kind) → slice_get program.edges e ≡ Some (edge u v kind) → y.to ≡ v
  same_end u v kind there = ap (λ (z : Edge). z.to) (same_edge u v kind there)

  -- it starts elsewhere, or is of the other kind
  pub no_step : (y.from ≡ x.node → ⊥) → (u : ℕ) (m : List ℕ) → IsStepOf program items place e u m → ⊥
  no_step other u m s = other (ap (λ (z : Edge). z.from) (same_edge s.node u (Do s.assigns) s.along) ∙ sym (same_item s.node s.own s.is_item))

  pub no_call : (y.from ≡ x.node → ⊥) → (callee u : ℕ) (m : List ℕ) → IsCallOf program items place callee e u m → ⊥
  no_call other callee u m s = other (ap (λ (z : Edge). z.from) (same_edge s.node u (Call s.proc s.assigns) s.along) ∙ sym (same_item s.node s.own s.is_caller))

  pub call_no_step : (q : ℕ) (before : List Assign) → y.kind ≡ Call q before → (u : ℕ) (m : List ℕ) → IsStepOf program items place e u m → ⊥
  call_no_step q before kind u m s = false≢true (sym (ap calls (sym kind ∙ same_kind s.node u (Do s.assigns) s.along)))

  pub do_no_call : (assigns : List Assign) → y.kind ≡ Do assigns → (callee u : ℕ) (m : List ℕ) → IsCallOf program items place callee e u m → ⊥
  do_no_call assigns kind callee u m s = false≢true (ap calls (sym kind ∙ same_kind s.node u (Call s.proc s.assigns) s.along))

  pub not_the_exit : (w : Placed) (callee q : ℕ) (before : List Assign) → slice_get items callee ≡ Some w → y.kind ≡ Call q before → (w.node ≡ exit_of program q → ⊥)
      → (u : ℕ) (m : List ℕ) → IsCallOf program items place callee e u m → ⊥
  not_the_exit w callee q before there kind other u m s =
      let same = ap callee_in (sym kind ∙ same_kind s.node u (Call s.proc s.assigns) s.along) in
      let (made, is) = s.is_callee in
      other (ap (λ (z : Placed). z.node) (same_Some w (placed (exit_of program s.proc) s.exit made) (sym there ∙ is)) ∙ ap (exit_of program) (sym same))

  -- it makes assignments
  module _ (assigns : List Assign) (kind : y.kind ≡ Do assigns) where
    pub goes_along : y.from ≡ x.node → GoesAlong program items place e y.to assigns
    goes_along from = record {
      node = x.node;
      own = x.map;
      made = x.made;
      is_item = at;
      along = subst (λ k. slice_get program.edges e ≡ Some (edge x.node y.to k)) kind (subst (λ u. slice_get program.edges e ≡ Some (edge u y.to y.kind)) from along);
    }

    pub step_gained : (new : List Placed) (bases new_bases : List (List (List ℕ))) → PushesSome program items new bases new_bases place y.to assigns (unknown_count assigns)
        → Gains program items new bases new_bases (IsStepOf program items place e)
    step_gained new bases new_bases p = record {
      extends = p.extends;
      taken = λ v n s.
          let list_is : assigns ≡ s.assigns = ap list_of (sym kind ∙ same_kind s.node v (Do s.assigns) s.along) in
          let there = subst (λ a. IsBelow (unknown_count a) s.raised → Spanned new y.to (step_map a (words_by (unknown_count a) s.raised) s.own)) list_is
          (λ b. p.taken s.raised b s.node s.own s.is_item) s.below in
          subst (λ t. Spanned new t n) (same_end s.node v (Do s.assigns) s.along) (subst (Spanned new y.to) (sym s.map) there);
    }

  -- it calls
  module _ (w : Placed) (callee q slots : ℕ) (before : List Assign) (there : slice_get items callee ≡ Some w) (kind : y.kind ≡ Call q before) where
    abbrev site : CallSite
    site = record { caller = place; callee = callee; edge = e; to = y.to; slots = slots }

    pub calls_along : y.from ≡ x.node → w.node ≡ exit_of program q → slots ≡ slots_of program (owner_of program y.from) → bit_and program.registers slots ≡ 0 → CallsAlong program items site before
    calls_along from exit slots_are apart = record {
      node = x.node;
      own = x.map;
      made = x.made;
      is_caller = at;
      proc = q;
      exit = w.map;
      exit_made = w.made;
      is_callee = subst (λ n. slice_get items callee ≡ Some (placed n w.map w.made)) exit there;
      along = subst (λ k. slice_get program.edges e ≡ Some (edge x.node y.to k)) kind (subst (λ u. slice_get program.edges e ≡ Some (edge u y.to y.kind)) from along);
      slots = slots_are ∙ ap (λ u. slots_of program (owner_of program u)) from;
      apart = apart;
    }

    pub call_gained : (new : List Placed) (bases new_bases : List (List (List ℕ))) → CallsSome program items new bases new_bases site before (unknown_count before)
        → Gains program items new bases new_bases (IsCallOf program items place callee e)
    call_gained new bases new_bases p = record {
      extends = p.extends;
      taken = λ v n s.
          let list_is : before ≡ s.assigns = ap list_of (sym kind ∙ same_kind s.node v (Call s.proc s.assigns) s.along) in
          let spanned = subst (λ a. IsBelow (unknown_count a) s.raised → Spanned new y.to (call_image program s.node a s.raised s.exit s.own)) list_is
          (λ b. p.taken s.raised b s.node (exit_of program s.proc) s.own s.exit s.is_caller s.is_callee) s.below in
          subst (λ t. Spanned new t n) (same_end s.node v (Call s.proc s.assigns) s.along) (subst (Spanned new y.to) (sym s.map) spanned);
    }

-- loops
module _ (program : Program) (items mid new : List Placed) (bases mid_bases new_bases : List (List (List ℕ))) (place e n : ℕ) where
  pub forward_more : Gains program items mid bases mid_bases (IsForward program items place n e) → Gains program mid new mid_bases new_bases (IsCallOf program mid place n e)
      → Gains program items new bases new_bases (IsForward program items place (n + 1) e)
  forward_more g h = gains_then program items bases mid mid_bases new new_bases _ (IsCallOf program mid place n e) (IsForward program items place (n + 1) e)
      (λ u m (j, below, s). elim (cases_eq j n) [
        | inl is ↦ inr (subst (λ k. IsCallOf program mid place k e u m) is (call_still program items bases mid mid_bases g.extends place j e u m s))
        | inr other ↦ inl (j, omega arith, s)
      ]) g h

  pub back_more : Gains program items mid bases mid_bases (IsBack program items place n e) → Gains program mid new mid_bases new_bases (IsCallOf program mid n place e)
      → Gains program items new bases new_bases (IsBack program items place (n + 1) e)
  back_more g h = gains_then program items bases mid mid_bases new new_bases _ (IsCallOf program mid n place e) (IsBack program items place (n + 1) e)
      (λ u m (j, below, s). elim (cases_eq j n) [
        | inl is ↦ inr (subst (λ k. IsCallOf program mid k place e u m) is (call_still program items bases mid mid_bases g.extends j place e u m s))
        | inr other ↦ inl (j, omega arith, s)
      ]) g h

pub along_still : (program : Program) (items new : List Placed) (bases new_bases : List (List (List ℕ))) → Extends program items new bases new_bases
    → (k e u : ℕ) (m : List ℕ) → IsAlong program items k e u m → IsAlong program new k e u m
along_still program items new bases new_bases x k e u m h = elim h [
  | inl s ↦ inl (step_still program items bases new new_bases x k e u m s)
  | inr (inl (j, below, s)) ↦ inr (inl (j, below, call_still program items bases new new_bases x k j e u m s))
  | inr (inr (j, below, s)) ↦ inr (inr (j, below, call_still program items bases new new_bases x j k e u m s))
]

pub along_all : (program : Program) (items mid next new : List Placed) (bases mid_bases next_bases new_bases : List (List (List ℕ))) (k e : ℕ)
    → Gains program items mid bases mid_bases (IsStepOf program items k e) → Gains program mid next mid_bases next_bases (IsForward program mid k (k + 1) e)
    → Gains program next new next_bases new_bases (IsBack program next k k e) → Gains program items new bases new_bases (IsAlong program items k e)
along_all program items mid next new bases mid_bases next_bases new_bases k e a b c =
    let two = gains_then program items bases mid mid_bases next next_bases (IsStepOf program items k e) (IsForward program mid k (k + 1) e)
    (λ u m. IsStepOf program items k e u m ⊎ IsForward program items k (k + 1) e u m)
    (λ u m h. elim h [ inl s ↦ inl s | inr (j, below, s) ↦ inr (j, below, call_still program items bases mid mid_bases a.extends k j e u m s) ]) a b in
    gains_then program items bases next next_bases new new_bases (λ u m. IsStepOf program items k e u m ⊎ IsForward program items k (k + 1) e u m) (IsBack program next k k e)
    (IsAlong program items k e)
    (λ u m h. elim h [
      | inl s ↦ inl (inl s)
      | inr (inl f) ↦ inl (inr f)
      | inr (inr (j, below, s)) ↦ inr (j, below, call_still program items bases next next_bases two.extends j k e u m s)
    ]) two c

pub along_more : (program : Program) (items mid new : List Placed) (bases mid_bases new_bases : List (List (List ℕ))) (k n : ℕ)
    → Gains program items mid bases mid_bases (IsAlongBelow program items k n) → Gains program mid new mid_bases new_bases (IsAlong program mid k n)
    → Gains program items new bases new_bases (IsAlongBelow program items k (n + 1))
along_more program items mid new bases mid_bases new_bases k n g h =
    gains_then program items bases mid mid_bases new new_bases (IsAlongBelow program items k n) (IsAlong program mid k n) (IsAlongBelow program items k (n + 1))
    (λ u m (e, below, s). elim (cases_eq e n) [
      | inl is ↦ inr (subst (λ i. IsAlong program mid k i u m) is (along_still program items mid bases mid_bases g.extends k e u m s))
      | inr other ↦ inl (e, omega arith, s)
    ]) g h
