-- Readers and writers that tell their bytes.
--
--   AppendsSome old new bytes   what a writer holds grew by some front of bytes, where it is known
--   IsAt whole left at          what a reader has left is whole from the place at on, where whole is told
--   AreFront whole at n bytes   the first n of bytes stand in whole from at on, where whole is told
--   EndsBy whole at             whole has no more bytes at the place at, where it is told
--   IsReadAt whole at n bytes left place   a read at the place at gave the first n of bytes, none only at
--                               the end of whole or with no room, and left the reader at this place
use Rattle.std.specs.Prelude.{◌≡◌, ℕ, ◌<◌, ◌≤◌, List, Option, Some, length, take, drop, IfSome}
use Rattle.std.specs.Io.KnownBytes.{Appends}

pub record AppendsSome (old new : Option (List ℕ)) (bytes : List ℕ) : Type 0 where
  pub taken : ℕ
  pub bound : taken ≤ length bytes
  pub grown : Appends old new (take taken bytes)

abbrev pub IsAt : Option (List ℕ) → Option (List ℕ) → ℕ → Type 0
IsAt whole left at = IfSome whole (λ c. left ≡ Some (drop at c))

abbrev pub AreFront : Option (List ℕ) → ℕ → ℕ → List ℕ → Type 0
AreFront whole at n bytes = IfSome whole (λ c. take n bytes ≡ take n (drop at c))

abbrev pub EndsBy : Option (List ℕ) → ℕ → Type 0
EndsBy whole at = IfSome whole (λ c. length c ≤ at)

pub record IsReadAt (whole : Option (List ℕ)) (at n : ℕ) (bytes : List ℕ) (left : Option (List ℕ)) (place : ℕ) : Type 0 where
  pub front : AreFront whole at n bytes
  pub none_left : n ≡ 0 → 0 < length bytes → EndsBy whole at
  pub stands : IsAt whole left place
