-- Pairs in accepted code: a second half is entered from its first half alone, which leaves its register ready.
use Rattle.std.proofs.Common.{◌≡◌, ◌≢◌, ◌⊎◌, ℕ, zero, suc, ◌+◌, ◌*◌, ◌%◌, ◌^◌, ◌<◌, ℤ, Bool, true, false, not, List, [], ◌∷◌, Contains, slice_index, Option, Some, unwrap_or, IfSome, refl, ap, sym, ◌∙◌, arith, inl, inr, subst, if◌then◌else◌, ◌==◌, ◌&&◌}
use Rattle.std.specs.Int.{from_le_bytes, w32}
use Rattle.std.proofs.lemmas.Bool.{cases_lt, cases_eq, eq-eqb}
use Rattle.std.proofs.lemmas.List.Elements.{All-contains}
use Rattle.elf_image.specs.Fetches.{fetch_length, read}
use Rattle.elf_image.specs.Images.{IsWordAt, code_at, code_word, loaded}
use Rattle.elf_image.specs.Ranges.{executable_ranges}
use Rattle.elf_image.specs.declared.image.Image.{Image}
use Rattle.elf_image.proofs.Laws.{read_4, words}
use Rattle.rv_decode.specs.Instructions.{Means}
use Rattle.rv_instr.specs.declared.Instr.{Instr}
use Rattle.rv_instr.specs.declared.Instr.TheVariants.{Lui, Auipc, Jal, Jalr, Branch, Load, Store, Imm, Shift, Reg, Fence, Ecall, Ebreak}
use Rattle.rvc_expand.specs.Lengths.{MeansWithLength, whole}
use Rattle.rvc_expand.proofs.Cited.{one_meaning}
use Rattle.flow_points.specs.Flows.{HasInstr, IsFirstHalf, IsSecondHalf, base_of, fetches_of, plus, prior, upper_offset}
use Rattle.flow_points.specs.Walks.{IsEntered, IsPoint, by_flow, first_half_of, goes_on, most_points, successors_of}
use Rattle.flow_points.specs.PointLists.{ArePointsOf, FlowPoints}
use Rattle.flow_points.specs.Refusals.{HasCause, IsFlowRefusal, address_of, bad_point, into_pair, number_of, too_many}
use Rattle.flow_points.specs.declared.code_points.Point.{Point}
use Rattle.flow_points.specs.declared.code_points.CodePoint.{CodePoint}
use Rattle.refusals.specs.declared.flow.FlowRefusal.{FlowRefusal}
use Rattle.refusals.specs.declared.flow.FlowRefusal.TheVariants.{TooManyPoints, IntoPair}
use Rattle.flow_points.proofs.SamePoint.{one_point}
use Rattle.run_paths.proofs.Fetching.{fetched_as, fetched_bytes}
use Rattle.run_paths.proofs.Making.{code_of}

abbrev pub IsAccepted : Image → Type 0
IsAccepted image = (refusal : FlowRefusal) → IsFlowRefusal image refusal → ⊥

abbrev Bad : Image → Point → FlowRefusal → Type 0
Bad image p cause = HasCause (fetches_of image) image.entry p cause

-- no point is bad, since else one of the least address and number would be
module _ (image : Image) (accepted : IsAccepted image) where
  none_at : (n k : ℕ) → ((p : Point) (cause : FlowRefusal) → IsPoint image p → Bad image p cause → address_of cause < n → ⊥)
      → (p : Point) (cause : FlowRefusal) → IsPoint image p → Bad image p cause → address_of cause ≡ n → number_of cause < k → ⊥
  none_at n zero below p cause reached bad at low = absurd (omega arith)
  none_at n (suc k) below p cause reached bad at low =
      accepted cause (bad_point (λ more. accepted (TooManyPoints most_points) (too_many more refl)) (record {
        at = p;
        reached = reached;
        bad = bad;
        least_address = λ q other there has. elim (cases_lt (address_of other) n) [ inl h ↦ absurd (below q other there has h) | inr h ↦ omega arith ];
        least_number = λ q other there has same.
            elim (cases_lt (number_of other) k) [ inl h ↦ absurd (none_at n k below q other there has (same ∙ at) h) | inr h ↦ omega arith ];
      }))

  none_below : (n : ℕ) (p : Point) (cause : FlowRefusal) → IsPoint image p → Bad image p cause → address_of cause < n → ⊥
  none_below zero p cause reached bad low = absurd (omega arith)
  none_below (suc n) p cause reached bad low =
      elim (cases_lt (address_of cause) n) [
        | inl h ↦ none_below n p cause reached bad h
        | inr h ↦ none_at n (number_of cause + 1) (none_below n) p cause reached bad (omega arith) (omega arith)
      ]

  pub not_entered : (p : Point) → IsPoint image p → IsSecondHalf (fetches_of image) p.address → IsEntered (fetches_of image) image.entry p → ⊥
  not_entered p reached half entered =
      none_below (p.address + 1) p (IntoPair p.address) reached (into_pair entered half refl) (omega arith)

-- a word that is fetched as four bytes
low_bits : (w imm rd : ℕ) → Means w (Auipc rd imm) → w % 4 ≡ 3
low_bits w imm rd means = let e = means.whole in omega arith

abbrev length_by : Bool → Bool → ℕ
length_by two short = if two && short then 2 else 4

word_fetched : (image : Image) (a w word length : ℕ) → IsWordAt image a w → w % 4 ≡ 3 → code_at image a ≡ Some (fetched_as word length)
    → (word ≡ w) × (length ≡ 4)
word_fetched image a w word length at low is =
    let bytes = fetched_bytes image.unit (executable_ranges image.segments) (loaded image) a word length is in
    let one : (a + 1) % 2 ^ 64 ≡ a + 1 = omega (arith, at.ends) in
    let two : (a + 2) % 2 ^ 64 ≡ a + 2 = omega (arith, at.ends) in
    let three : (a + 3) % 2 ^ 64 ≡ a + 3 = omega (arith, at.ends) in
    let b0 : loaded image a ≡ at.b0 = ap (λ (o : Option ℕ). unwrap_or o 0) at.at0 in
    let b1 : loaded image ((a + 1) % 2 ^ 64) ≡ at.b1 = ap (loaded image) one ∙ ap (λ (o : Option ℕ). unwrap_or o 0) at.at1 in
    let b2 : loaded image ((a + 2) % 2 ^ 64) ≡ at.b2 = ap (loaded image) two ∙ ap (λ (o : Option ℕ). unwrap_or o 0) at.at2 in
    let b3 : loaded image ((a + 3) % 2 ^ 64) ≡ at.b3 = ap (loaded image) three ∙ ap (λ (o : Option ℕ). unwrap_or o 0) at.at3 in
    let w_is : w ≡ at.b0 + 2 ^ 8 * at.b1 + 2 ^ 16 * at.b2 + 2 ^ 24 * at.b3 = at.word ∙ bytes_joined at.b0 at.b1 at.b2 at.b3 in
    let first : loaded image a % 4 ≡ 3 = first_bits at.b0 at.b1 at.b2 at.b3 w (loaded image a) w_is low b0 in
    let four : fetch_length image.unit (loaded image a) ≡ 4 =
    ap (λ (t : Bool). length_by (image.unit == 2) (not t)) (eq-eqb (loaded image a % 4) 3 first) ∙ not_short (image.unit == 2) in
    let length_is : length ≡ 4 = sym bytes.0 ∙ four in (
      sym bytes.1 ∙ ap (λ (l : ℕ). read l (loaded image) a) length_is ∙ read_4 (loaded image) a
          ∙ joined_same (loaded image a) _ _ _ at.b0 at.b1 at.b2 at.b3 b0 b1 b2 b3 ∙ sym w_is,
      length_is,
    )
  where
    bytes_joined : (x y z t : ℕ) → from_le_bytes w32 (x ∷ y ∷ z ∷ t ∷ []) ≡ x + 2 ^ 8 * y + 2 ^ 16 * z + 2 ^ 24 * t
    bytes_joined x y z t = omega arith

    first_bits : (x y z t w b : ℕ) → w ≡ x + 2 ^ 8 * y + 2 ^ 16 * z + 2 ^ 24 * t → w % 4 ≡ 3 → b ≡ x → b % 4 ≡ 3
    first_bits x y z t w b is low same = omega arith

    not_short : (b : Bool) → length_by b false ≡ 4
    not_short true = refl
    not_short false = refl

    joined_same : (a b c d x y z t : ℕ) → a ≡ x → b ≡ y → c ≡ z → d ≡ t
        → a + 2 ^ 8 * b + 2 ^ 16 * c + 2 ^ 24 * d ≡ x + 2 ^ 8 * y + 2 ^ 16 * z + 2 ^ 24 * t
    joined_same a b c d x y z t e f g h = omega arith

one_half : (image : Image) (a word length r u : ℕ) (instr : Instr) → code_at image a ≡ Some (fetched_as word length) → MeansWithLength word length instr
    → (w : ℕ) → code_word image a ≡ Some w → Means w (Auipc r u) → instr ≡ Auipc r u
one_half image a word length r u instr is means w there half =
    let at = subst (λ (o : Option ℕ). IfSome o (IsWordAt image a)) there (words image a) in
    let same = word_fetched image a w word length at (low_bits w u r half) is in
    one_meaning word length instr (Auipc r u) means (whole same.1 (subst (λ (v : ℕ). Means v (Auipc r u)) (sym same.0) half))

-- the register of a pair is ready where its second half stands
abbrev pub IsReady : Image → CodePoint → List ℕ → Type 0
IsReady image c regs =
    (u : ℕ) → IsFirstHalf (fetches_of image) c.point.address (base_of c.instr) u
    → slice_index regs (base_of c.instr) ≡ plus (prior c.point.address) (upper_offset u)

-- a first half is an instruction of a pair alone
jalr_alone : (instr : Instr) → base_of instr ≢ 0 → (rd : ℕ) × (imm : ℤ) × (instr ≡ Jalr rd (base_of instr) imm)
jalr_alone (Jalr rd rs1 imm) some = (rd, imm, refl)
jalr_alone (Lui rd imm) some = absurd (some refl)
jalr_alone (Auipc rd imm) some = absurd (some refl)
jalr_alone (Jal rd off) some = absurd (some refl)
jalr_alone (Branch op rs1 rs2 off) some = absurd (some refl)
jalr_alone (Load op rd rs1 imm) some = absurd (some refl)
jalr_alone (Store op rs1 rs2 imm) some = absurd (some refl)
jalr_alone (Imm op rd rs1 imm) some = absurd (some refl)
jalr_alone (Shift op rd rs1 by) some = absurd (some refl)
jalr_alone (Reg op rd rs1 rs2) some = absurd (some refl)
jalr_alone (Fence rd rs1 imm) some = absurd (some refl)
jalr_alone Ecall some = absurd (some refl)
jalr_alone Ebreak some = absurd (some refl)

module _ (image : Image) (points : FlowPoints) (are : ArePointsOf image points) (accepted : IsAccepted image) where
  second_half : (c : CodePoint) (u : ℕ) → Contains points.points c → IsFirstHalf (fetches_of image) c.point.address (base_of c.instr) u
      → IsSecondHalf (fetches_of image) c.point.address
  second_half c u there half =
      let code = code_of image points are c there in
      let jalr = jalr_alone c.instr half.set in
      record {
        at = fetched_as c.word c.length;
        rd = jalr.0;
        base = base_of c.instr;
        imm = jalr.1;
        upper = u;
        jalr = subst (λ (i : Instr). HasInstr (fetches_of image) c.point.address (fetched_as c.word c.length) i) jalr.2 code.instr;
        first = half;
      }

  pub reached : (c : CodePoint) → Contains points.points c → IsPoint image c.point
  reached c there = All-contains (λ d. IsPoint image d.point) points.points c are.only there

  -- a point that is entered is no second half
  pub ready_if_entered : (c : CodePoint) (regs : List ℕ) → Contains points.points c → IsEntered (fetches_of image) image.entry c.point → IsReady image c regs
  ready_if_entered c regs there entered u half =
      absurd (not_entered image accepted c.point (reached c there) (second_half c u there half) entered)

  -- where the flow goes on to a second half, it comes from the first half
  pub from_first_half : (c d : CodePoint) (u : ℕ) → Contains points.points c → Contains points.points d
      → Contains (successors_of c.point.proc_entry c.flow) d.point → IsFirstHalf (fetches_of image) d.point.address (base_of d.instr) u
      → (c.point ≡ first_half_of d.point) × (c.instr ≡ Auipc (base_of d.instr) u)
  from_first_half c d u there other goes half =
      let code = code_of image points are c there in
      let same : c.point ≡ first_half_of d.point = by (cases_eq c.point.proc_entry d.point.proc_entry) (cases_eq c.point.address (prior d.point.address)) in (
        same,
        one_half image c.point.address c.word c.length (base_of d.instr) u c.instr code.instr.fetched code.instr.means half.word
            (ap (λ (q : Point). code_word image q.address) same ∙ half.there) half.means,
      )
    where
      enters : c.point ≢ first_half_of d.point → c.point ≡ first_half_of d.point
      enters apart =
          absurd (not_entered image accepted d.point (reached d other) (second_half d u other half)
          (by_flow c.point c.flow (reached c there) (code_of image points are c there).flow (goes_on goes apart)))

      by : (c.point.proc_entry ≡ d.point.proc_entry) ⊎ (c.point.proc_entry ≢ d.point.proc_entry)
          → (c.point.address ≡ prior d.point.address) ⊎ (c.point.address ≢ prior d.point.address) → c.point ≡ first_half_of d.point
      by (inl e) (inl f) = one_point c.point (first_half_of d.point) e f
      by (inr e) f = enters (λ same. e (ap (λ (q : Point). q.proc_entry) same))
      by (inl e) (inr f) = enters (λ same. f (ap (λ (q : Point). q.address) same))
