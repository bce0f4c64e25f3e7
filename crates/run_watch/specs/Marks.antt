-- Where live slots are looked up by address. Marks tell of groups of 8 bytes the depth of an activation that has a slot there.
--
--   Marks                 groups, each with the depth that it is marked with
--   depth_at marks g      the depth that the group g is marked with, if it is
--   group a               the group of the byte at a
--   IsMarked marks g n    the group g is marked with a depth of at most n
--   IsMarkedSlot marks s  the groups of the slot's first and last byte are marked with a depth of at most the slot's
--   AreMarked marks slots so are those of all these slots
--   IsMarkedName marks depth a name   so are those of the name's slot in the activation at this depth, if it is one
--   Keeps before after    what is marked stays so
--   KeepsBelow n before after   what is marked with a depth below n stays so
use Rattle.std.specs.Prelude.{ℕ, ◌/◌, ◌<◌, ◌≤◌, nat_eq, List, All, Option, IsSomeAnd, IfSome}
use Rattle.std.specs.Map.{lookup}
use Rattle.report_text.specs.declared.names.Name.{Name}
use Rattle.run_watch.specs.declared.activation.Activation.{Activation}
use Rattle.run_watch.specs.declared.places.SlotAt.{SlotAt}
use Rattle.run_watch.specs.Slots.{byte_at}
use Rattle.run_watch.specs.Activations.{slot_in}

abbrev pub Marks : Type 0
Marks = List (ℕ × ℕ)

abbrev pub depth_at : Marks → ℕ → Option ℕ
depth_at marks g = lookup (nat_eq g) marks

abbrev pub group : ℕ → ℕ
group a = a / 8

abbrev pub IsMarked : Marks → ℕ → ℕ → Type 0
IsMarked marks g n = IsSomeAnd (depth_at marks g) (λ d. d ≤ n)

abbrev pub IsMarkedSlot : Marks → SlotAt → Type 0
IsMarkedSlot marks slot =
    IsMarked marks (group slot.address) slot.depth × IsMarked marks (group (byte_at slot.address 7)) slot.depth

abbrev pub AreMarked : Marks → List SlotAt → Type 0
AreMarked marks slots = All (IsMarkedSlot marks) slots

abbrev pub IsMarkedName : Marks → ℕ → Activation → Name → Type 0
IsMarkedName marks depth a name = (k : ℕ) → IfSome (slot_in depth a (k, name)) (IsMarkedSlot marks)

abbrev pub Keeps : Marks → Marks → Type 0
Keeps before after = (g n : ℕ) → IsMarked before g n → IsMarked after g n

abbrev pub KeepsBelow : ℕ → Marks → Marks → Type 0
KeepsBelow depth before after = (g n : ℕ) → n < depth → IsMarked before g n → IsMarked after g n
