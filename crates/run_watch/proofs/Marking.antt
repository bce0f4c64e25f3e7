-- Marks of the live slots of activations.
use Rattle.std.proofs.Common.{◌≡◌, ℕ, ◌+◌, ◌<◌, ◌==◌, true, false, List, [], ◌∷◌, ◌++◌, length, take, get_or, All, Option, None, Some, filter_map, cond, sym, subst, ap, ◌∙◌, refl, arith, append_assoc}
use Rattle.std.specs.List.{cons_option, enumerate_from}
use Rattle.std.specs.Option.{IfSome}
use Rattle.std.proofs.lemmas.List.{append-nil, take_at, take_more}
use Rattle.std.proofs.lemmas.List.Elements.{All-append, All-cons, All-push, All-tail, All-take}
use Rattle.report_text.specs.declared.names.Name.{Name}
use Rattle.report_text.specs.declared.names.Name.TheVariants.{Register, Slot}
use Rattle.run_watch.specs.declared.activation.Activation.{Activation}
use Rattle.run_watch.specs.declared.places.SlotAt.{SlotAt}
use Rattle.run_watch.specs.Activations.{slot_address, slot_in, slots_of, slots_from}
use Rattle.run_watch.specs.Marks.{Marks, group, IsMarkedSlot, IsMarkedName, AreMarked, Keeps, KeepsBelow}

all_with : (P : SlotAt → Type 0) (o : Option SlotAt) (rest : List SlotAt) → IfSome o P → All P rest → All P (cons_option o rest)
all_with P None rest one all = all
all_with P (Some s) rest one all = All-cons P s rest one all

-- what holds of each name's slot holds of all slots
all_named : (P : SlotAt → Type 0) (depth : ℕ) (a : Activation) (k : ℕ) (names : List Name)
    → All (λ name. (j : ℕ) → IfSome (slot_in depth a (j, name)) P) names
    → All P (filter_map (slot_in depth a) (enumerate_from k names))
all_named P depth a k [] each = λ i d within. absurd (omega (arith, within))
all_named P depth a k (name ∷ names) each =
    all_with P (slot_in depth a (k, name)) (filter_map (slot_in depth a) (enumerate_from (k + 1) names))
    (each 0 name (omega arith) k)
    (all_named P depth a (k + 1) names (All-tail (λ n. (j : ℕ) → IfSome (slot_in depth a (j, n)) P) name names each))

pub names_marked : (marks : Marks) (names : List Name) (depth : ℕ) (a : Activation) → All (IsMarkedName marks depth a) names
    → AreMarked marks (slots_of names depth a)
names_marked marks names depth a each = all_named (IsMarkedSlot marks) depth a 0 names each

kept_slot : (before after : Marks) → Keeps before after → (s : SlotAt) → IsMarkedSlot before s → IsMarkedSlot after s
kept_slot before after keeps s is = (keeps (group s.address) s.depth is.0, keeps _ s.depth is.1)

kept_some : (before after : Marks) → Keeps before after → (o : Option SlotAt) → IfSome o (IsMarkedSlot before)
    → IfSome o (IsMarkedSlot after)
kept_some before after keeps None is = tt
kept_some before after keeps (Some s) is = kept_slot before after keeps s is

pub one_more_name : (before after : Marks) (names : List Name) (depth : ℕ) (a : Activation) (i : ℕ) (d : Name) → i < length names
    → Keeps before after → All (IsMarkedName before depth a) (take i names) → IsMarkedName after depth a (get_or names i d)
    → All (IsMarkedName after depth a) (take (i + 1) names)
one_more_name before after names depth a i d within keeps all one =
    subst (λ xs. All (IsMarkedName after depth a) xs) (sym (take_more names i d within))
    (All-push (IsMarkedName after depth a) (take i names) (get_or names i d)
    (λ k e inside j. kept_some before after keeps (slot_in depth a (j, get_or (take i names) k e)) (all k e inside j)) one)

-- what holds of each slot of each activation
slot_or_none : (P : SlotAt → Type 0) (depth : ℕ) (a : Activation)
    → ((k below : ℕ) → P (record { depth = depth; position = k; address = slot_address a below }))
    → (name : Name) (k : ℕ) → IfSome (slot_in depth a (k, name)) P
slot_or_none P depth a each (Register r) k = tt
slot_or_none P depth a each (Slot p below) k =
    let slot : SlotAt = record { depth = depth; position = k; address = slot_address a below } in
    elim (p == a.procedure) as (λ b. IfSome (cond b (Some slot) None) P) [
      | true ↦ each k below
      | false ↦ tt
    ]

pub all_from : (P : SlotAt → Type 0) (names : List Name) (n : ℕ) (activations : List Activation)
    → ((depth k below : ℕ) (a : Activation) → depth < n + length activations
    → P (record { depth = depth; position = k; address = slot_address a below })) → All P (slots_from names n activations)
all_from P names n [] each = λ i d within. absurd (omega (arith, within))
all_from P names n (a ∷ activations) each =
    All-append P (slots_of names n a) (slots_from names (n + 1) activations)
    (all_named P n a 0 names
    (λ i d within k. slot_or_none P n a (λ j below. each n j below a (omega arith)) (get_or names i d) k))
    (all_from P names (n + 1) activations (λ depth k below b less. each depth k below b (omega (arith, less))))

from_append : (names : List Name) (n : ℕ) (activations : List Activation) (a : Activation)
    → slots_from names n (activations ++ a ∷ []) ≡ slots_from names n activations ++ slots_of names (n + length activations) a
from_append names n [] a =
    append-nil (slots_of names n a) ∙ ap (λ (d : ℕ). slots_of names d a) (let e : n ≡ n + 0 = omega arith in e)
from_append names n (b ∷ activations) a =
    ap (λ (slots : List SlotAt). slots_of names n b ++ slots) (from_append names (n + 1) activations a)
    ∙ sym (append_assoc (slots_of names n b) (slots_from names (n + 1) activations)
    (slots_of names (n + 1 + length activations) a))
    ∙ ap (λ (d : ℕ). (slots_of names n b ++ slots_from names (n + 1) activations) ++ slots_of names d a)
    (let e : n + 1 + length activations ≡ n + length (b ∷ activations) = omega arith in e)

-- one activation more
pub pushed : (before after : Marks) (names : List Name) (activations now : List Activation) (a : Activation) (depth : ℕ)
    → now ≡ activations ++ a ∷ [] → depth ≡ length activations + 1 → AreMarked before (slots_from names 1 activations)
    → Keeps before after → AreMarked after (slots_of names depth a) → AreMarked after (slots_from names 1 now)
pushed before after names activations now a depth is deep old keeps one =
    let slots : List SlotAt = slots_from names 1 activations in
    let e : 1 + length activations ≡ depth = omega (arith, deep) in
    let all : slots_from names 1 now ≡ slots ++ slots_of names depth a =
    ap (slots_from names 1) is ∙ from_append names 1 activations a ∙ ap (λ (d : ℕ). slots ++ slots_of names d a) e in
    subst (λ (xs : List SlotAt). AreMarked after xs) (sym all)
    (All-append (IsMarkedSlot after) slots (slots_of names depth a)
    (λ k d within. kept_slot before after keeps (get_or slots k d) (old k d within)) one)

-- the last activation less
pub popped : (before after : Marks) (names : List Name) (activations now : List Activation) (a : Activation) (depth : ℕ)
    → activations ≡ now ++ a ∷ [] → depth ≡ length now + 1 → AreMarked before (slots_from names 1 activations)
    → KeepsBelow depth before after → AreMarked after (slots_from names 1 now)
popped before after names activations now a depth is deep old keeps =
    let slots : List SlotAt = slots_from names 1 now in
    let last : List SlotAt = slots_of names (1 + length now) a in
    let all : AreMarked before (slots ++ last) =
    subst (λ (xs : List SlotAt). AreMarked before xs) (ap (slots_from names 1) is ∙ from_append names 1 now a) old in
    let low : All (λ (s : SlotAt). s.depth < depth) slots =
    all_from (λ (s : SlotAt). s.depth < depth) names 1 now (λ d k below b less. omega (arith, less, deep)) in
    let front : AreMarked before slots =
    subst (λ (xs : List SlotAt). AreMarked before xs) (take_at slots last (length slots) refl)
    (All-take (IsMarkedSlot before) (length slots) (slots ++ last) all) in
    λ k d within.
    let s : SlotAt = get_or slots k d in
    let was : IsMarkedSlot before s = front k d within in
    (keeps (group s.address) s.depth (low k d within) was.0, keeps _ s.depth (low k d within) was.1)
