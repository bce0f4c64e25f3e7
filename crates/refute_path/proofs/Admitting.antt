-- What offering a state to a procedure does.
use Rattle.std.proofs.Common.{◌≡◌, ℕ, ◌<◌, ◌+◌, ◌≤◌, ◌⊎◌, inl, inr, List, [], ◌∷◌, ◌++◌, Some, Contains, length, length-append, get_or, set, slice_get, ap, sym, subst, ◌∙◌, arith}
use Rattle.std.proofs.lemmas.Option.{slice_get_within}
use Rattle.std.proofs.Math.ListN.{length-set}
use Rattle.std.proofs.lemmas.List.Elements.{All-set, Contains-append_left, Contains-push_cases, Contains-push}
use Rattle.word_rows.specs.Rows.{IsRow}
use Rattle.row_modules.specs.Modules.{AreRows, IsCombination, SameModule}
use Rattle.row_modules.specs.Bases.{IsLeadingBasis, basis_length}
use Rattle.row_modules.proofs.Laws.{spans_more, generator}
use Rattle.affine_prog.specs.declared.Program.{Program}
use Rattle.affine_prog.specs.Programs.{IsWellFormed}
use Rattle.refute_path.specs.declared.Placed.{Placed}
use Rattle.refute_path.specs.declared.Came.{Came}
use Rattle.refute_path.specs.declared.Came.TheVariants.{Start as StartTag, Enter as EnterTag}
use Rattle.refute_path.specs.declared.Entry.{Entry}
use Rattle.refute_path.specs.Tags.{AreMade}
use Rattle.refute_path.specs.Arenas.{total}
use Rattle.refute_path.specs.Entries.{entered, IsCameBy, AreCame, Enters, SpannedAt}
use Rattle.refute_path.specs.EntryArenas.{IsEntryArena, Follows, Admits, IsJust, IsEntryAt, IsEntering}
use Rattle.refute_path.proofs.Found.{got_in, in_got}
use Rattle.refute_path.proofs.Entering.{entries_are_rows}
use Rattle.refute_path.proofs.Growing.{longer, known_there, same_stays, same_grows}
use Rattle.refute_path.proofs.Placing.{got_kept, got_pushed, same_place}

-- a tag says the same of a longer list
came_kept : (program : Program) (items : List Placed) (entries new : List Entry) → ((k : ℕ) (x : Entry) → slice_get entries k ≡ Some x → slice_get new k ≡ Some x)
    → (k p : ℕ) (s : List ℕ) (came : Came) → IsCameBy program items entries k came p s → IsCameBy program items new k came p s
came_kept program items entries new kept k p s (StartTag raised) is = is
came_kept program items entries new kept k p s (EnterTag outer level e raised) is = record {
  earlier = is.earlier;
  proc = is.proc;
  state = is.state;
  came = is.came;
  is_outer = kept outer (entered is.proc is.state is.came) is.is_outer;
  node = is.node;
  own = is.own;
  made = is.made;
  is_level = is.is_level;
  owned = is.owned;
  to = is.to;
  assigns = is.assigns;
  along = is.along;
  is = is.is;
}

module _ (program : Program) (formed : IsWellFormed program) (items : List Placed) (are : AreMade program items) (entries : List Entry) (old : List (List (List ℕ)))
    (arena : IsEntryArena program items entries old) (to : ℕ) (row : List ℕ) (came : Came) (basis new : List (List ℕ)) (within : to < length old) (is : basis ≡ get_or old to basis)
    (is_row : IsRow 17 row) (is_basis : IsLeadingBasis 17 basis) (leading : IsLeadingBasis 17 new) (same : SameModule 17 (Contains new) (Contains (row ∷ basis)))
    (before after : ℕ) (bounded : after + basis_length basis ≤ before + basis_length new) where
  rows_are : (p : ℕ) → AreRows 17 (Enters entries p)
  rows_are p = entries_are_rows program items entries formed are arena.came p

  gain : total old + basis_length new ≡ total (set old to new) + basis_length basis
  gain = longer 17 old (Enters entries) rows_are arena.same to row basis new within is is_row is_basis same

  -- the state was in the module already
  pub admits_same : IsCombination 17 (Contains basis) row → after ≡ before → Admits program items entries entries old (set old to new) (IsJust to row)
  admits_same known stays = record {
    follows = record {
      kept = λ k x e. e;
      arena = record {
        procs = length-set old to new ∙ arena.procs;
        leading = All-set (IsLeadingBasis 17) old to new leading arena.leading;
        came = arena.came;
        same = same_stays 17 old (Enters entries) rows_are arena.same to row basis new within is is_row is_basis same known;
      };
      fewer = let e = gain in omega arith;
    };
    taken = λ p s h. rw (h.0, h.1) (known_there 17 old (Enters entries) rows_are arena.same to row basis new within is is_row is_basis same known);
  }

  -- the module grew
  module _ (grew : before + 1 ≤ after) (is_came : IsCameBy program items entries (length entries) came to row) where
    abbrev last : Entry
    last = entered to row came

    kept_all : (k : ℕ) (x : Entry) → slice_get entries k ≡ Some x → slice_get (entries ++ last ∷ []) k ≡ Some x
    kept_all k x e = got_kept entries (last ∷ []) k x e

    all_came : AreCame program items (entries ++ last ∷ [])
    all_came k p s t e = elim (got_pushed entries last k (entered p s t) e) [
      | inl h ↦ came_kept program items entries (entries ++ last ∷ []) kept_all k p s t (arena.came k p s t h)
      | inr h ↦ came_kept program items entries (entries ++ last ∷ []) kept_all k p s t
          (rw h.0 (subst (λ (x : Entry). IsCameBy program items entries (length entries) x.came x.proc x.state) h.1 is_came))
    ]

    enters_more : (p : ℕ) (s : List ℕ) → Enters entries p s → Enters (entries ++ last ∷ []) p s
    enters_more p s (t, h) = (t, Contains-append_left entries (last ∷ []) (entered p s t) h)

    enters_cases : (p : ℕ) (s : List ℕ) → Enters (entries ++ last ∷ []) p s → Enters entries p s ⊎ ((p ≡ to) × (s ≡ row))
    enters_cases p s (t, h) = elim (Contains-push_cases entries last (entered p s t) h) [
      | inl k ↦ inl (t, k)
      | inr e ↦ inr (sym (ap (λ (x : Entry). x.proc) e), sym (ap (λ (x : Entry). x.state) e))
    ]

    all_rows : (p : ℕ) → AreRows 17 (Enters (entries ++ last ∷ []) p)
    all_rows p = entries_are_rows program items (entries ++ last ∷ []) formed are all_came p

    pub admits_grew : Admits program items entries (entries ++ last ∷ []) old (set old to new) (IsJust to row)
    admits_grew = record {
      follows = record {
        kept = kept_all;
        arena = record {
          procs = length-set old to new ∙ arena.procs;
          leading = All-set (IsLeadingBasis 17) old to new leading arena.leading;
          came = all_came;
          same = same_grows 17 old (Enters entries) rows_are arena.same to row basis new within is is_row is_basis same (Enters (entries ++ last ∷ [])) all_rows enters_more enters_cases (came, Contains-push entries last);
        };
        fewer = let e = gain in let l = length-append entries (last ∷ []) in omega arith;
      };
      taken = λ p s h. rw (h.0, h.1) (generator 17 (Enters (entries ++ last ∷ []) to) (all_rows to) row (came, Contains-push entries last));
    }

-- sets of states, part by part
pub spanned_at_kept : (program : Program) (items : List Placed) (entries new : List Entry) (bases new_bases : List (List (List ℕ))) → Follows program items entries new bases new_bases
    → (p : ℕ) (s : List ℕ) → SpannedAt entries p s → SpannedAt new p s
spanned_at_kept program items entries new bases new_bases f p s h =
    spans_more 17 (Enters entries p) (Enters new p)
    (λ x (came, i). let (k, at) = in_got entries (entered p x came) i in (came, got_in new k (entered p x came) (f.kept k (entered p x came) at))) s h

module _ (program : Program) (items : List Placed) (entries : List Entry) (bases : List (List (List ℕ))) where
  pub admits_none : (A : ℕ → List ℕ → Type 0) → IsEntryArena program items entries bases → ((p : ℕ) (s : List ℕ) → A p s → ⊥) → Admits program items entries entries bases bases A
  admits_none A arena none = record { follows = record { kept = λ k x e. e; arena = arena; fewer = omega arith }; taken = λ p s h. absurd (none p s h) }

  module _ (new : List Entry) (new_bases : List (List (List ℕ))) where
    pub admits_less : (A B : ℕ → List ℕ → Type 0) → ((p : ℕ) (s : List ℕ) → B p s → A p s) → Admits program items entries new bases new_bases A → Admits program items entries new bases new_bases B
    admits_less A B less g = record { follows = g.follows; taken = λ p s h. g.taken p s (less p s h) }

    pub entry_within : Follows program items entries new bases new_bases → (k : ℕ) → k < length entries → k < length new
    entry_within f k below = let (y, at) = same_place entries k below in slice_get_within new k y (f.kept k y at)

    pub admits_then : (last : List Entry) (last_bases : List (List (List ℕ))) (A B C : ℕ → List ℕ → Type 0) → ((p : ℕ) (s : List ℕ) → C p s → A p s ⊎ B p s)
        → Admits program items entries new bases new_bases A → Admits program items new last new_bases last_bases B → Admits program items entries last bases last_bases C
    admits_then last last_bases A B C either g h = record {
      follows = record {
        kept = λ k x e. h.follows.kept k x (g.follows.kept k x e);
        arena = h.follows.arena;
        fewer = let e = g.follows.fewer in let f = h.follows.fewer in omega arith;
      };
      taken = λ p s i. elim (either p s i) [
        | inl a ↦ spanned_at_kept program items new last new_bases last_bases h.follows p s (g.taken p s a)
        | inr b ↦ h.taken p s b
      ];
    }

    pub entry_still : Follows program items entries new bases new_bases → (k p : ℕ) (s : List ℕ) → IsEntryAt entries k p s → IsEntryAt new k p s
    entry_still f k p s (came, at) = (came, f.kept k (entered p s came) at)

    pub entering_still : Follows program items entries new bases new_bases → (outer level e q : ℕ) (s : List ℕ) → IsEntering program items entries outer level e q s
        → IsEntering program items new outer level e q s
    entering_still f outer level e q s i = record {
      node = i.node;
      own = i.own;
      is_level = i.is_level;
      state = i.state;
      is_outer = entry_still f outer _ i.state i.is_outer;
      to = i.to;
      assigns = i.assigns;
      along = i.along;
      raised = i.raised;
      below = i.below;
      is = i.is;
    }
