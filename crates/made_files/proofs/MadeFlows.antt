-- Where the flow goes on in a made file: from each of its points to others of them.
use Rattle.std.proofs.Common.{◌≡◌, ◌⊎◌, ℕ, zero, suc, ◌+◌, ◌-◌, ◌*◌, ◌%◌, ◌^◌, ◌<◌, ◌≤◌, ◌==◌, nat_lt, ℤ, pos, negsuc, neg_ℤ, ◌-ℤ◌, Bool, true, false, cond, List, [], ◌∷◌, length, get_or, Option, None, Some, Result, Ok, Err, All, refl, ap, sym, subst, ◌∙◌, arith, inl, inr, eq-eqb, ltb-true, ltb-false, if◌then◌else◌}
use Rattle.std.specs.Int.{cast_unsigned, w64}
use Rattle.std.specs.List.{AllZip}
use Rattle.std.proofs.lemmas.Bool.{eqb-false}
use Rattle.std.proofs.lemmas.List.Elements.{All-nil}
use Rattle.rv_decode.specs.Instructions.{Means}
use Rattle.rv_decode.proofs.Table.{one_instruction}
use Rattle.rv_instr.specs.declared.Instr.{Instr}
use Rattle.rv_instr.specs.declared.Instr.TheVariants.{Auipc, Jal, Jalr, Branch as BranchInstr, Load, Store, Imm, Ebreak}
use Rattle.rv_instr.specs.declared.BranchOp.TheVariants.{Beq}
use Rattle.rv_instr.specs.declared.LoadOp.TheVariants.{Ld}
use Rattle.rv_instr.specs.declared.StoreOp.TheVariants.{Sd}
use Rattle.rv_instr.specs.declared.ImmOp.TheVariants.{Addi}
use Rattle.rvc_expand.specs.Lengths.{whole}
use Rattle.refusals.specs.declared.flow.FlowRefusal.{FlowRefusal}
use Rattle.refusals.specs.declared.flow.FlowRefusal.TheVariants.{MisalignedTarget}
use Rattle.flow_points.specs.Flows.{Fetches, HasFlow, HasInstr, IsFirstHalf, IsSecondHalf, aligned, base_of, flow_of, known, next, plus, prior}
use Rattle.flow_points.specs.Walks.{point, successors_of}
use Rattle.flow_points.specs.declared.code_points.Flow.{Flow}
use Rattle.flow_points.specs.declared.code_points.Flow.TheVariants.{Next, Branch, Call, Return, Halt}
use Rattle.flow_points.specs.declared.code_points.Point.{Point}
use Rattle.flow_points.proofs.Cited.{all_one, all_two}
use Rattle.flow_points.proofs.OneOutcome.{one_instr, one_word}
use Rattle.gen_elf.specs.Generated.{a0, address_of, call_offset, callee_of, code_of, ra, sp}
use Rattle.made_files.proofs.SmallFetches.{HasWords, address, whole_word}
use Rattle.made_files.proofs.MadeCode.{as_many, code_in, code_length, means_at, place}
use Rattle.made_files.proofs.MadePoints.{IsMadePoint, at_place, in_procedure, in_start}

-- from a point the flow goes on to points that are made, and no pair ends there
pub record GoesOn (n : ℕ) (fetches : Fetches) (p : Point) : Type 0 where
  pub flow : Flow
  pub has : HasFlow fetches p.address flow
  pub on : All (IsMadePoint n) (successors_of p.proc_entry flow)
  pub no_half : IsSecondHalf fetches p.address → ⊥

-- addresses that instructions name
ahead : (a k : ℕ) → a + k < 2 ^ 64 → plus a (pos k) ≡ a + k
ahead a k fits = omega (arith, fits)

by_sign : (less : Bool) (t a : ℕ) → nat_lt t (suc a) ≡ less → suc a < 2 ^ 64 → t < 2 ^ 64
    → plus (suc a) (cond less (negsuc (suc a - suc t)) (pos (t - suc a))) ≡ t
by_sign true t a is fits too = let low = ltb-true t (suc a) is in omega (arith, low, fits, too)
by_sign false t a is fits too = let high = ltb-false t (suc a) is in omega (arith, high, fits, too)

to_target : (a t : ℕ) → a < 2 ^ 64 → t < 2 ^ 64 → plus a (pos t -ℤ pos a) ≡ t
to_target zero t fits too = omega (arith, too)
to_target (suc a) t fits too = by_sign (nat_lt t (suc a)) t a refl fits too

abbrev aligned_by : ℕ → ℕ → Flow → Bool → Result Flow FlowRefusal
aligned_by a target flow even = if even then Ok flow else Err (MisalignedTarget a target)

aligned_there : (a target : ℕ) (flow : Flow) → target % 4 ≡ 0 → aligned 4 a target flow ≡ Ok flow
aligned_there a target flow even = ap (aligned_by a target flow) (eq-eqb (target % 4) 0 even)

-- a procedure that is called
callee_first : (n i : ℕ) → 1 ≤ callee_of n i
callee_first n i = by (i == n)
  where
    by : (b : Bool) → 1 ≤ (if b then 1 else i + 1)
    by true = omega arith
    by false = omega arith

callee_last : (n i : ℕ) → 1 ≤ i → i ≤ n → callee_of n i ≤ n
callee_last n i some most = by (i == n) refl
  where
    by : (b : Bool) → (i == n) ≡ b → (if b then 1 else i + 1) ≤ n
    by true e = omega (arith, some, most)
    by false e = let other = eqb-false i n e in omega (arith, other, some, most)

module _ (n : ℕ) (within : n ≤ 100) (some_procedure : 1 ≤ n) (fetches : Fetches) (words : List ℕ) (means : AllZip Means words (code_of n))
    (has : HasWords fetches words) where
  below : (k : ℕ) → k < 3 + 8 * n → k < length words
  below k low = omega (arith, low, as_many words (code_of n) means, code_length n)

  -- the instruction of a place, at its address
  module _ (k a : ℕ) (i : Instr) (low : k < 3 + 8 * n) (at : address k ≡ a) (is : get_or (code_of n) k Ebreak ≡ i) where
    means_this : Means (get_or words k 0) i
    means_this = subst (λ (j : Instr). Means (get_or words k 0) j) is (means_at words (code_of n) k means (below k low))

    there : HasInstr fetches a (whole_word (get_or words k 0)) i
    there = record {
      fetched = ap fetches.at (sym at) ∙ has.at k (below k low);
      means = whole refl means_this;
    }

    pub flows : (flow : Flow) → ((u : ℕ) → IsFirstHalf fetches a (base_of i) u → ⊥) → flow_of 4 a (next a 4) None i ≡ Ok flow → HasFlow fetches a flow
    flows flow none e =
        known (whole_word (get_or words k 0)) i None there none
        (sym e ∙ ap (λ (unit : ℕ). flow_of unit a (next a 4) None i) (sym has.unit_four))

    pub ends_none : ((u : ℕ) → IsFirstHalf fetches a (base_of i) u → ⊥) → IsSecondHalf fetches a → ⊥
    ends_none none half =
        let same = one_instr fetches a (whole_word (get_or words k 0)) half.at i (Jalr half.rd half.base half.imm) there half.jalr in
        none half.upper (subst (λ (j : Instr). IsFirstHalf fetches a (base_of j) half.upper) (sym same) half.first)

    -- what stands there is no first half of a pair behind it
    pub opens_none : (b r u : ℕ) → prior b ≡ a → (Auipc r u ≡ i → ⊥) → IsFirstHalf fetches b r u → ⊥
    opens_none b r u before other half =
        let same = one_word fetches (prior b) half.word (get_or words k 0) half.there (ap fetches.word (before ∙ sym at) ∙ has.word k (below k low)) in
        other (one_instruction half.word (Auipc r u) i half.means (subst (λ (w : ℕ). Means w i) (sym same) means_this))

  no_base : (a u : ℕ) → IsFirstHalf fetches a 0 u → ⊥
  no_base a u half = half.set refl

  module _ (p a k : ℕ) (i : Instr) (low : k < 3 + 8 * n) (at : address k ≡ a) (is : get_or (code_of n) k Ebreak ≡ i) (plain : base_of i ≡ 0) where
    free : (u : ℕ) → IsFirstHalf fetches a (base_of i) u → ⊥
    free u half = no_base a u (subst (λ (r : ℕ). IsFirstHalf fetches a r u) plain half)

    goes : (flow : Flow) → flow_of 4 a (next a 4) None i ≡ Ok flow → All (IsMadePoint n) (successors_of p flow) → GoesOn n fetches (point p a)
    goes flow e on = record {
      flow = flow;
      has = flows k a i low at is flow free e;
      on = on;
      no_half = ends_none k a i low at is free;
    }

    pub goes_next : flow_of 4 a (next a 4) None i ≡ Ok (Next (next a 4)) → IsMadePoint n (point p (next a 4)) → GoesOn n fetches (point p a)
    goes_next e on = goes (Next (next a 4)) e (all_one (IsMadePoint n) (point p (next a 4)) on)

    pub halts : flow_of 4 a (next a 4) None i ≡ Ok Halt → GoesOn n fetches (point p a)
    halts e = goes Halt e (All-nil (IsMadePoint n))

    pub branches : (target : ℕ) → flow_of 4 a (next a 4) None i ≡ Ok (Branch (next a 4) target) → IsMadePoint n (point p (next a 4))
        → IsMadePoint n (point p target) → GoesOn n fetches (point p a)
    branches target e on too =
        goes (Branch (next a 4) target) e (all_two (IsMadePoint n) (point p (next a 4)) (point p target) on too)

    pub calls : (target : ℕ) → flow_of 4 a (next a 4) None i ≡ Ok (Call target (next a 4)) → IsMadePoint n (point target target)
        → IsMadePoint n (point p (next a 4)) → GoesOn n fetches (point p a)
    calls target e on too =
        goes (Call target (next a 4)) e (all_two (IsMadePoint n) (point target target) (point p (next a 4)) on too)

  -- the start
  pub from_start : (k : ℕ) → k < 3 → GoesOn n fetches (point (address 0) (address k))
  from_start zero low =
      goes_next (address 0) (address 0) 0 (Imm Addi a0 0 (pos 0)) (omega arith) refl refl refl refl
      (in_start 1 (omega arith) refl)
  from_start (suc zero) low =
      calls (address 0) (address 1) 1 (Jal ra (pos 8)) (omega arith) refl refl refl (plus (address 1) (pos 8))
      (aligned_there (address 1) (plus (address 1) (pos 8)) (Call (plus (address 1) (pos 8)) (next (address 1) 4)) refl)
      (in_procedure 1 0 (omega arith) some_procedure (omega arith) refl) (in_start 2 (omega arith) refl)
  from_start (suc (suc zero)) low = halts (address 0) (address 2) 2 Ebreak (omega arith) refl refl refl refl
  from_start (suc (suc (suc k))) low = absurd (omega arith)

  -- a procedure
  module _ (i : ℕ) (some : 1 ≤ i) (most : i ≤ n) where
    reached : (j b : ℕ) → j < 8 → b ≡ address_of i + 4 * j → IsMadePoint n (point (address_of i) b)
    reached j b low e = in_procedure i j some most low (ap (point (address_of i)) e)

    behind : (j : ℕ) → j < 7 → next (address_of i + 4 * j) 4 ≡ address_of i + 4 * (j + 1)
    behind j low = omega (arith, low, most, within)

    placed : (j : ℕ) → j < 8 → place i j < 3 + 8 * n
    placed j low = omega (arith, low, some, most)

    goes_next_in : (j : ℕ) (instr : Instr) → j < 7 → get_or (code_of n) (place i j) Ebreak ≡ instr → base_of instr ≡ 0
        → flow_of 4 (address_of i + 4 * j) (next (address_of i + 4 * j) 4) None instr ≡ Ok (Next (next (address_of i + 4 * j) 4))
        → GoesOn n fetches (point (address_of i) (address_of i + 4 * j))
    goes_next_in j instr low is plain e =
        goes_next (address_of i) (address_of i + 4 * j) (place i j) instr (placed j (omega (arith, low))) (at_place i j some) is plain e
        (reached (j + 1) (next (address_of i + 4 * j) 4) (omega (arith, low)) (behind j low))

    branches_on : GoesOn n fetches (point (address_of i) (address_of i + 4 * 3))
    branches_on =
        let a = address_of i + 4 * 3 in
        let target : plus a (pos 8) ≡ address_of i + 4 * 5 = ahead a 8 (omega (arith, most, within)) ∙ (let e : a + 8 ≡ address_of i + 4 * 5 = omega arith in e) in
        let even : plus a (pos 8) % 4 ≡ 0 = omega (arith, target, some) in
        branches (address_of i) a (place i 3) (BranchInstr Beq a0 0 (pos 8)) (placed 3 (omega arith)) (at_place i 3 some)
        (code_in n i 3 Ebreak some most (omega arith)) refl (plus a (pos 8))
        (aligned_there a (plus a (pos 8)) (Branch (next a 4) (plus a (pos 8))) even)
        (reached 4 (next a 4) (omega arith) (behind 3 (omega arith))) (reached 5 (plus a (pos 8)) (omega arith) target)

    calls_on : GoesOn n fetches (point (address_of i) (address_of i + 4 * 4))
    calls_on =
        let a = address_of i + 4 * 4 in
        let callee = callee_of n i in
        let first = callee_first n i in
        let last = callee_last n i some most in
        let target : plus a (call_offset n i) ≡ address_of callee =
        to_target a (address_of callee) (omega (arith, most, within)) (omega (arith, last, within)) in
        let even : plus a (call_offset n i) % 4 ≡ 0 = omega (arith, target, first) in
        let same : point (plus a (call_offset n i)) (plus a (call_offset n i)) ≡ point (address_of callee) (address_of callee + 4 * 0) =
        ap (λ (t : ℕ). point t t) target ∙ ap (point (address_of callee)) (let e : address_of callee ≡ address_of callee + 4 * 0 = omega arith in e) in
        calls (address_of i) a (place i 4) (Jal ra (call_offset n i)) (placed 4 (omega arith)) (at_place i 4 some)
        (code_in n i 4 Ebreak some most (omega arith)) refl (plus a (call_offset n i))
        (aligned_there a (plus a (call_offset n i)) (Call (plus a (call_offset n i)) (next a 4)) even)
        (in_procedure callee 0 first last (omega arith) same) (reached 5 (next a 4) (omega arith) (behind 4 (omega arith)))

    returns_on : GoesOn n fetches (point (address_of i) (address_of i + 4 * 7))
    returns_on =
        let a = address_of i + 4 * 7 in
        let before : prior a ≡ address_of i + 4 * 6 = omega (arith, most, within) in
        let none : (u : ℕ) → IsFirstHalf fetches a ra u → ⊥ =
        λ u. opens_none (place i 6) (address_of i + 4 * 6) (Imm Addi sp sp (pos 16)) (placed 6 (omega arith)) (at_place i 6 some)
        (code_in n i 6 Ebreak some most (omega arith)) a ra u before (λ e. cc) in
        let is = code_in n i 7 Ebreak some most (omega arith) in
        record {
          flow = Return;
          has = flows (place i 7) a (Jalr 0 ra (pos 0)) (placed 7 (omega arith)) (at_place i 7 some) is Return none refl;
          on = All-nil (IsMadePoint n);
          no_half = ends_none (place i 7) a (Jalr 0 ra (pos 0)) (placed 7 (omega arith)) (at_place i 7 some) is none;
        }

    pub from_procedure : (j : ℕ) → j < 8 → GoesOn n fetches (point (address_of i) (address_of i + 4 * j))
    from_procedure zero low = goes_next_in 0 (Imm Addi sp sp (neg_ℤ (pos 16))) (omega arith) (code_in n i 0 Ebreak some most (omega arith)) refl refl
    from_procedure (suc zero) low = goes_next_in 1 (Store Sd sp ra (pos 8)) (omega arith) (code_in n i 1 Ebreak some most (omega arith)) refl refl
    from_procedure (suc (suc zero)) low = goes_next_in 2 (Imm Addi a0 a0 (pos i)) (omega arith) (code_in n i 2 Ebreak some most (omega arith)) refl refl
    from_procedure (suc (suc (suc zero))) low = branches_on
    from_procedure (suc (suc (suc (suc zero)))) low = calls_on
    from_procedure (suc (suc (suc (suc (suc zero))))) low = goes_next_in 5 (Load Ld ra sp (pos 8)) (omega arith) (code_in n i 5 Ebreak some most (omega arith)) refl refl
    from_procedure (suc (suc (suc (suc (suc (suc zero)))))) low = goes_next_in 6 (Imm Addi sp sp (pos 16)) (omega arith) (code_in n i 6 Ebreak some most (omega arith)) refl refl
    from_procedure (suc (suc (suc (suc (suc (suc (suc zero))))))) low = returns_on
    from_procedure (suc (suc (suc (suc (suc (suc (suc (suc j)))))))) low = absurd (omega arith)

  pub goes_on_made : (p : Point) → IsMadePoint n p → GoesOn n fetches p
  goes_on_made p (in_start k low is) = subst (GoesOn n fetches) (sym is) (from_start k low)
  goes_on_made p (in_procedure i j some most low is) = subst (GoesOn n fetches) (sym is) (from_procedure i some most j low)
