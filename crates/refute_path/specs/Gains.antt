-- What a list of placed maps gains.
--
--   Gains program items new bases new_bases A   an extension in which each map of the set A is spanned at its node
--   IsOpeningBy program p raised u m            m at u is the opening of procedure p in which this slot's word is 1, or none is
--   IsOpeningAt program p k u m                 position k is a slot of procedure p, and it is the opening in which that one's word is 1
--   IsOpeningOf program p n u m                 it is one in which a slot below n has 1, or none
--   IsOpeningBelow program n u m                it is an opening of one of the first n procedures
--   IsStepOf program items k e u m              m at u is what edge e makes of item k by assignments, under a choice that raises
--                                               one word at most
--   IsCallOf program items caller callee e u m  m at u is what the call along edge e makes of the two items, under such a choice
--   IsForward, IsBack program items k n e u m   it is what the call makes of item k and one of the first n at the callee's exit, or
--                                               of item k there and one of the first n
--   IsAlong program items k e u m               it is what edge e makes of item k: by assignments, or by a call with an item up to it
--   IsAlongBelow program items k n u m          it is what one of the first n edges makes of it
use Rattle.std.specs.Prelude.{◌≡◌, ℕ, ◌<◌, ◌+◌, ◌⊎◌, List, Option, Some, slice_get, IsTrue}
use Rattle.row_modules.specs.Positions.{has}
use Rattle.affine_prog.specs.declared.Program.{Program}
use Rattle.affine_prog.specs.declared.Assign.{Assign}
use Rattle.affine_prog.specs.declared.Kind.TheVariants.{Do, Call}
use Rattle.affine_prog.specs.Programs.{edge, entry_of, exit_of, slots_of}
use Rattle.affine_prog.specs.Assignments.{unknown_count}
use Rattle.affine_prog.specs.LevelPaths.{opening_map, step_map}
use Rattle.refute_path.specs.declared.Placed.{Placed}
use Rattle.refute_path.specs.Tags.{words_by, IsBelow, IsSlotBy, Spanned}
use Rattle.refute_path.specs.Arenas.{Extends, IsItem}
use Rattle.refute_path.specs.CallPushes.{call_image}

pub record Gains (program : Program) (items new : List Placed) (bases new_bases : List (List (List ℕ))) (A : ℕ → List ℕ → Type 0) : Type 0 where
  pub extends : Extends program items new bases new_bases
  pub taken : (u : ℕ) (m : List ℕ) → A u m → Spanned new u m

pub record IsOpeningBy (program : Program) (p : ℕ) (raised : Option ℕ) (u : ℕ) (m : List ℕ) : Type 0 where
  pub there : u ≡ entry_of program p
  pub is : m ≡ opening_map program.registers (slots_of program p) (words_by 16 raised)

abbrev pub IsOpeningAt : Program → ℕ → ℕ → ℕ → List ℕ → Type 0
IsOpeningAt program p k u m = IsTrue (has (slots_of program p) k) × IsOpeningBy program p (Some k) u m

abbrev pub IsOpeningOf : Program → ℕ → ℕ → ℕ → List ℕ → Type 0
IsOpeningOf program p n u m = (raised : Option ℕ) × IsSlotBy (slots_of program p) raised × IsBelow n raised × IsOpeningBy program p raised u m

abbrev pub IsOpeningBelow : Program → ℕ → ℕ → List ℕ → Type 0
IsOpeningBelow program n u m = (p : ℕ) × (p < n) × IsOpeningOf program p 16 u m

pub record IsStepOf (program : Program) (items : List Placed) (k e v : ℕ) (n : List ℕ) : Type 0 where
  pub node : ℕ
  pub own : List ℕ
  pub is_item : IsItem items k node own
  pub assigns : List Assign
  pub along : slice_get program.edges e ≡ Some (edge node v (Do assigns))
  pub raised : Option ℕ
  pub below : IsBelow (unknown_count assigns) raised
  pub map : n ≡ step_map assigns (words_by (unknown_count assigns) raised) own

pub record IsCallOf (program : Program) (items : List Placed) (caller callee e v : ℕ) (n : List ℕ) : Type 0 where
  pub node : ℕ
  pub own : List ℕ
  pub is_caller : IsItem items caller node own
  pub proc : ℕ
  pub exit : List ℕ
  pub is_callee : IsItem items callee (exit_of program proc) exit
  pub assigns : List Assign
  pub along : slice_get program.edges e ≡ Some (edge node v (Call proc assigns))
  pub raised : Option ℕ
  pub below : IsBelow (unknown_count assigns) raised
  pub map : n ≡ call_image program node assigns raised exit own

abbrev pub IsForward : Program → List Placed → ℕ → ℕ → ℕ → ℕ → List ℕ → Type 0
IsForward program items k n e u m = (j : ℕ) × (j < n) × IsCallOf program items k j e u m

abbrev pub IsBack : Program → List Placed → ℕ → ℕ → ℕ → ℕ → List ℕ → Type 0
IsBack program items k n e u m = (j : ℕ) × (j < n) × IsCallOf program items j k e u m

abbrev pub IsAlong : Program → List Placed → ℕ → ℕ → ℕ → List ℕ → Type 0
IsAlong program items k e u m = IsStepOf program items k e u m ⊎ (IsForward program items k (k + 1) e u m ⊎ IsBack program items k k e u m)

abbrev pub IsAlongBelow : Program → List Placed → ℕ → ℕ → ℕ → List ℕ → Type 0
IsAlongBelow program items k n u m = (e : ℕ) × (e < n) × IsAlong program items k e u m
