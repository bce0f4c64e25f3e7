-- Items that are read one after the other.
use Rattle.std.proofs.Common.{◌≡◌, ◌∙◌, ℕ, ◌+◌, ◌<◌, Bool, true, false, List, [], ◌∷◌, length, take, get_or}
use Rattle.std.proofs.Common.{replicate, slice_set, get_or-take, refl, sym, ap, subst, Bor, suc, arith}
use Rattle.std.proofs.lemmas.List.{take_more, get_or-map, length-take, length-set}
use Rattle.numeral_read.specs.Lists.{texts_of}
use Rattle.start_registers.specs.Settings.{AreRegistersOf, IsSet, IsSettingList, Sets}
use Rattle.start_registers.proofs.Tables.{IsTable, table_start, table_push, list_push}

abbrev pub IsMarked : List (List ℕ) → List Bool → Type 0
IsMarked items marks = IsTable (λ w. true) false items marks

length-texts : (items : List (Bor (List ℕ))) → length (texts_of items) ≡ length items
length-texts [] = refl
length-texts (item ∷ items) = ap suc (length-texts items)

text_at : (items : List (Bor (List ℕ))) (i : ℕ) (d : Bor (List ℕ)) (e : List ℕ) → i < length items
    → get_or (texts_of items) i e ≡ (get_or items i d).now
text_at items i d e below = get_or-map (λ item. item.now) items i d e below

registers_are : (items : List (List ℕ)) (regs : List ℕ) → IsSettingList items → length regs ≡ 32 → IsTable (λ w. w) 0 items regs
    → AreRegistersOf items regs
registers_are items regs list count table = record { list = list; count = count; named = table.named; others = table.others }

table_is : (items : List (List ℕ)) (regs : List ℕ) → AreRegistersOf items regs → IsTable (λ w. w) 0 items regs
table_is items regs are = record { named = are.named; others = are.others }

pub no_registers : AreRegistersOf [] (replicate 32 0)
no_registers = registers_are [] (replicate 32 0) none refl (table_start (λ w. w) 0)
  where
    none : IsSettingList []
    none = record { each = λ k d below. absurd (omega arith); once = λ i j d before below. absurd (omega arith) }

module _ (items : List (Bor (List ℕ))) (i : ℕ) (d : Bor (List ℕ)) (below : i < length items) where
  within : i < length (texts_of items)
  within = omega (arith, length-texts items)

  pub no_setting : ((r w : ℕ) → Sets (get_or items i d).now r w → ⊥) → IsSettingList (texts_of items) → ⊥
  no_setting none list =
      let here = list.each i [] within in
      none here.0 here.1 (subst (λ (t : List ℕ). Sets t here.0 here.1) (text_at items i d [] below) here.2)

  module _ (r w : ℕ) (sets : Sets (get_or items i d).now r w) (marks : List Bool)
      (marked : IsMarked (take i (texts_of items)) marks) where
    pub set_twice : r < 32 → get_or marks r false ≡ true → IsSettingList (texts_of items) → ⊥
    set_twice small on list = let bad : true ≡ false = sym on ∙ marked.others r small earlier in absurd cc
      where
        earlier : (v : ℕ) → IsSet (take i (texts_of items)) r v → ⊥
        earlier v set =
            let k = set.there.0 in
            let before : k < i = omega (arith, set.there.1, length-take i (texts_of items)) in
            list.once k i set.item before within r v w
            (subst (λ (t : List ℕ). Sets t r v)
            (sym (sym (get_or-take i (texts_of items) k set.item before) ∙ set.there.2)) set.sets)
            (subst (λ (t : List ℕ). Sets t r w) (sym (text_at items i d set.item below)) sets)

    module _ (off : get_or marks r false ≡ false) where
      fresh : (v : ℕ) → IsSet (take i (texts_of items)) r v → ⊥
      fresh v set = let bad : true ≡ false = sym (marked.named r v set) ∙ off in absurd cc

      pub registers_more : (regs : List ℕ) → AreRegistersOf (take i (texts_of items)) regs → r < 32
          → AreRegistersOf (take (i + 1) (texts_of items)) (slice_set regs r w)
      registers_more regs are inside =
          rw (take_more (texts_of items) i [] within, text_at items i d [] below)
          (registers_are _ _ (list_push (take i (texts_of items)) (get_or items i d).now r w sets fresh are.list)
          (length-set regs r w ∙ are.count)
          (table_push (take i (texts_of items)) (get_or items i d).now r w sets fresh (λ w. w) 0 regs
          (table_is (take i (texts_of items)) regs are) (omega (arith, are.count, inside))))

      pub marks_more : r < length marks → IsMarked (take (i + 1) (texts_of items)) (slice_set marks r true)
      marks_more inside =
          rw (take_more (texts_of items) i [] within, text_at items i d [] below)
          (table_push (take i (texts_of items)) (get_or items i d).now r w sets fresh (λ w. true) false marks marked inside)
