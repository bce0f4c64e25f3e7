-- Turns: the changed rows of a node are pushed along its moves.
--
--   makes u w v x        a move from node u to node w makes x of the row v
--   joins a b w r s x    a move from the nodes a and b to node w makes x of the row r of a and the row s of b
--   states u v           v is one of the states of node u, whatever they are
--
--   AreChanged rows marks changed     these are rows with marks, and all of them
--   IsKept row marks old new          the row was added to the list, unless it has no mark
--   Clears n u old new rows           these are the rows of node u with marks, and its marks were cleared
--   NoJoins                           no move joins two nodes
--   IsSound n states s                each module lies in that of the states of its node
--   Pushes n makes joins old new u rows
--       the new modules have what moves make of these rows of node u: alone, and with each member of the old module of the
--       other node, from either side
--   Grown n states old new result before after P
--       modules grew by combinations of states alone, and at Ok marked nodes are queued, and P holds
--   Turns n makes joins states old new u rows result before after
--       so they grew, and at Ok the rows were pushed
--   IsClosed n makes joins known s    the modules have what moves make of known rows
--   IsDone done u v                   the row v of node u was pushed
--   IsWorking n count makes joins states done s
--       what the loop keeps: each row without a mark was pushed, and the modules have what was pushed and all that moves make
--       of it
--   Works n count makes joins states s     that, for some rows that were pushed
--   Closes n count makes joins states old new result before after
--       modules grew by combinations of states alone, and at Ok they have what moves make of their rows; the counter rose by
--       at most the gain in length, and at Ok by at least the gain in rows
use Rattle.std.specs.Prelude.{◌≡◌, ℕ, ◌+◌, ◌≤◌, ◌⊎◌, List, [], ◌∷◌, ◌++◌, All, Contains, length, replicate, slice_set, Result, OnOk}
use Rattle.row_modules.specs.Modules.{IsCombination, IsWithin}
use Rattle.row_modules.specs.Bases.{IsLeadingBasis}
use Rattle.lead_basis.specs.Marks.{IsUnmarked}
use Rattle.row_engine.specs.States.{State, state, rows_at, marks_at, IsUnmarkedAt, InModule, AreQueued, IsState, total, row_count}
use Rattle.row_engine.specs.Growth.{Grows, Queues}

pub record AreChanged (rows : List (List ℕ)) (marks : List ℕ) (changed : List (List ℕ)) : Type 0 where
  pub all : (v : List ℕ) → Contains rows v → Contains changed v ⊎ IsUnmarked marks v
  pub only : (v : List ℕ) → Contains changed v → Contains rows v

abbrev pub IsKept : List ℕ → List ℕ → List (List ℕ) → List (List ℕ) → Type 0
IsKept row marks old new = (IsUnmarked marks row × (new ≡ old)) ⊎ (new ≡ old ++ row ∷ [])

pub record Clears (n u : ℕ) (old new : State) (rows : List (List ℕ)) : Type 0 where
  pub changed : AreChanged (rows_at old u) (marks_at old u) rows
  pub is : new ≡ state old.bases (slice_set old.marks u (replicate n 0)) old.queue

abbrev pub NoJoins : ℕ → ℕ → ℕ → List ℕ → List ℕ → List ℕ → Type 0
NoJoins a b w r s x = ⊥

abbrev pub IsSound : ℕ → (ℕ → List ℕ → Type 0) → State → Type 0
IsSound n states s = (u : ℕ) → IsWithin n (Contains (rows_at s u)) (states u)

pub record Pushes (n : ℕ) (makes : ℕ → ℕ → List ℕ → List ℕ → Type 0) (joins : ℕ → ℕ → ℕ → List ℕ → List ℕ → List ℕ → Type 0) (old new : State) (u : ℕ) (rows : List (List ℕ)) : Type 0 where
  pub alone : (w : ℕ) (v x : List ℕ) → Contains rows v → makes u w v x → InModule n new w x
  pub left : (b w : ℕ) (r s x : List ℕ) → Contains rows r → InModule n old b s → joins u b w r s x → InModule n new w x
  pub right : (a w : ℕ) (r s x : List ℕ) → InModule n old a r → Contains rows s → joins a u w r s x → InModule n new w x

pub record Grown {X E : Type 0} (n : ℕ) (states : ℕ → List ℕ → Type 0) (old new : State) (result : Result X E) (before after : ℕ) (P : Type 0) : Type 0 where
  pub grows : Grows n (λ w x. IsCombination n (states w) x) old new before after
  pub queues : OnOk result (Queues old new before after)
  pub pushes : OnOk result P

abbrev pub Turns : {X E : Type 0} → ℕ → (ℕ → ℕ → List ℕ → List ℕ → Type 0) → (ℕ → ℕ → ℕ → List ℕ → List ℕ → List ℕ → Type 0) → (ℕ → List ℕ → Type 0)
    → State → State → ℕ → List (List ℕ) → Result X E → ℕ → ℕ → Type 0
Turns n makes joins states old new u rows result before after = Grown n states old new result before after (Pushes n makes joins old new u rows)

pub record IsClosed (n : ℕ) (makes : ℕ → ℕ → List ℕ → List ℕ → Type 0) (joins : ℕ → ℕ → ℕ → List ℕ → List ℕ → List ℕ → Type 0) (known : ℕ → List ℕ → Type 0) (s : State) : Type 0 where
  pub alone : (u w : ℕ) (v x : List ℕ) → known u v → makes u w v x → InModule n s w x
  pub pairs : (a b w : ℕ) (l r x : List ℕ) → known a l → known b r → joins a b w l r x → InModule n s w x

abbrev pub IsDone : List (ℕ × List ℕ) → ℕ → List ℕ → Type 0
IsDone done u v = Contains done (u, v)

pub record IsWorking (n count : ℕ) (makes : ℕ → ℕ → List ℕ → List ℕ → Type 0) (joins : ℕ → ℕ → ℕ → List ℕ → List ℕ → List ℕ → Type 0) (states : ℕ → List ℕ → Type 0)
    (done : List (ℕ × List ℕ)) (s : State) : Type 0 where
  pub is : IsState n count s
  pub sound : IsSound n states s
  pub queued : AreQueued s
  pub known : (u : ℕ) (v : List ℕ) → Contains (rows_at s u) v → IsUnmarkedAt s u v → IsDone done u v
  pub done_in : (u : ℕ) (v : List ℕ) → IsDone done u v → InModule n s u v
  pub closed : IsClosed n makes joins (IsDone done) s

pub record Works (n count : ℕ) (makes : ℕ → ℕ → List ℕ → List ℕ → Type 0) (joins : ℕ → ℕ → ℕ → List ℕ → List ℕ → List ℕ → Type 0) (states : ℕ → List ℕ → Type 0) (s : State) : Type 0 where
  pub done : List (ℕ × List ℕ)
  pub working : IsWorking n count makes joins states done s

pub record Closes {X E : Type 0} (n count : ℕ) (makes : ℕ → ℕ → List ℕ → List ℕ → Type 0) (joins : ℕ → ℕ → ℕ → List ℕ → List ℕ → List ℕ → Type 0) (states : ℕ → List ℕ → Type 0)
    (old new : State) (result : Result X E) (before after : ℕ) : Type 0 where
  pub nodes : length new.bases ≡ length old.bases
  pub leading : All (IsLeadingBasis n) new.bases
  pub grown : (u : ℕ) → IsWithin n (Contains (rows_at old u)) (Contains (rows_at new u))
  pub sound : IsSound n states new
  pub closed : OnOk result (IsClosed n makes joins (λ u v. Contains (rows_at new u) v) new)
  pub rises : before ≤ after
  pub bounded : after + total old.bases ≤ before + total new.bases
  pub counted : OnOk result (row_count new.bases + before ≤ row_count old.bases + after)
