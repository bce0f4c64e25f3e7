-- What offering rows to nodes does.
--
--   Offered n to rows u v     u is the node `to`, and v is one of the rows
--   Grows n offered old new before after
--       at every answer: each module contains the old one and lies in what it and the offered rows span; a row without a mark
--       was there before, without a mark; and the counter rose by at most the gain in length
--   Queues old new before after
--       at Ok: nodes that got marks are in the queue, each place in it is paid for by a gain in length, and the counter rose by
--       at least the gain in rows
--   Takes n offered old new result before after
--       the one, at Ok the other, and then each offered row is in the module of its node
use Rattle.std.specs.Prelude.{◌≡◌, ℕ, ◌+◌, ◌<◌, ◌≤◌, List, All, Contains, length, Result, OnOk}
use Rattle.word_rows.specs.Rows.{IsRow}
use Rattle.row_modules.specs.Modules.{Either, IsWithin}
use Rattle.row_modules.specs.Bases.{IsLeadingBasis}
use Rattle.row_engine.specs.States.{State, rows_at, mark_at, IsUnmarkedAt, InModule, AreQueued, total, row_count}

abbrev pub Offered : ℕ → ℕ → List (List ℕ) → ℕ → List ℕ → Type 0
Offered n to rows u v = (u ≡ to) × IsRow n v × Contains rows v

pub record Grows (n : ℕ) (offered : ℕ → List ℕ → Type 0) (old new : State) (before after : ℕ) : Type 0 where
  pub nodes : length new.bases ≡ length old.bases
  pub marked : length new.marks ≡ length old.marks
  pub leading : All (IsLeadingBasis n) old.bases → All (IsLeadingBasis n) new.bases
  pub grown : (u : ℕ) → IsWithin n (Contains (rows_at old u)) (Contains (rows_at new u))
  pub only : (u : ℕ) → IsWithin n (Contains (rows_at new u)) (Either (Contains (rows_at old u)) (offered u))
  pub frame : (u : ℕ) (v : List ℕ) → Contains (rows_at new u) v → IsUnmarkedAt new u v → Contains (rows_at old u) v
  pub kept : (u k : ℕ) → mark_at new u k ≡ 0 → mark_at old u k ≡ 0
  pub rises : before ≤ after
  pub bounded : after + total old.bases ≤ before + total new.bases

pub record Queues (old new : State) (before after : ℕ) : Type 0 where
  pub queued : AreQueued old → AreQueued new
  pub numbers : ((u : ℕ) → Contains old.queue u → u < length old.bases) → (u : ℕ) → Contains new.queue u → u < length old.bases
  pub fewer : total old.bases + length new.queue ≤ total new.bases + length old.queue
  pub counted : row_count new.bases + before ≤ row_count old.bases + after

pub record Takes {X E : Type 0} (n : ℕ) (offered : ℕ → List ℕ → Type 0) (old new : State) (result : Result X E) (before after : ℕ) : Type 0 where
  pub grows : Grows n offered old new before after
  pub queues : OnOk result (Queues old new before after)
  pub taken : OnOk result ((u : ℕ) (v : List ℕ) → offered u v → InModule n new u v)
