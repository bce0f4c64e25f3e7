-- There is one outcome at an address.
use Rattle.std.proofs.Common.{◌≡◌, ℕ, Option, None, Some, Result, Ok, refl, sym, subst}
use Rattle.elf_image.specs.declared.fetched.Fetched.{Fetched}
use Rattle.rv_decode.specs.Instructions.{Means}
use Rattle.rv_instr.specs.declared.Instr.{Instr}
use Rattle.rv_instr.specs.declared.Instr.TheVariants.{Auipc}
use Rattle.rv_decode.proofs.Table.{one_instruction}
use Rattle.rvc_expand.specs.Lengths.{MeansWithLength}
use Rattle.rvc_expand.proofs.Cited.{one_meaning}
use Rattle.flow_points.specs.Flows.{Fetches, HasInstr, HasUpper, Judged, base_of, outside, unknown, known, prior}
use Rattle.flow_points.specs.declared.code_points.Flow.{Flow}
use Rattle.refusals.specs.declared.flow.FlowRefusal.{FlowRefusal}

-- what is fetched at an address is one, and so is a word there
one_value : {X : Type 0} (o : Option X) (v w : X) → o ≡ Some v → o ≡ Some w → v ≡ w
one_value o v w e f = cc

pub one_fetch : (fetches : Fetches) (a : ℕ) (v w : Fetched) → fetches.at a ≡ Some v → fetches.at a ≡ Some w → v ≡ w
one_fetch fetches a v w e f = one_value (fetches.at a) v w e f

pub one_word : (fetches : Fetches) (a v w : ℕ) → fetches.word a ≡ Some v → fetches.word a ≡ Some w → v ≡ w
one_word fetches a v w e f = one_value (fetches.word a) v w e f

-- another that is fetched there means the same
pub means_too : (fetches : Fetches) (a : ℕ) (at : Fetched) (i : Instr) (other : Fetched) → HasInstr fetches a at i → fetches.at a ≡ Some other
    → MeansWithLength other.word other.length i
means_too fetches a at i other h e =
    subst (λ (x : Fetched). MeansWithLength x.word x.length i) (one_fetch fetches a at other h.fetched e) h.means

pub one_instr : (fetches : Fetches) (a : ℕ) (at other : Fetched) (i j : Instr) → HasInstr fetches a at i → HasInstr fetches a other j → i ≡ j
one_instr fetches a at other i j h k =
    one_meaning at.word at.length i j h.means (means_too fetches a other j at k h.fetched)

one_field : (r m n : ℕ) → Auipc r m ≡ Auipc r n → m ≡ n
one_field r m n e = cc

pub one_upper : (fetches : Fetches) (a r : ℕ) (u v : Option ℕ) → HasUpper fetches a r u → HasUpper fetches a r v → u ≡ v
one_upper fetches a r None None h k = refl
one_upper fetches a r None (Some n) h k = absurd (h n k)
one_upper fetches a r (Some m) None h k = absurd (k m h)
one_upper fetches a r (Some m) (Some n) h k =
    let word = one_word fetches (prior a) k.word h.word k.there h.there in
    let instr = one_instruction h.word (Auipc r m) (Auipc r n) h.means (subst (λ (w : ℕ). Means w (Auipc r n)) word k.means) in
    let same = one_field r m n instr in cc

pub judged_once : (fetches : Fetches) (a : ℕ) (x y : Result Flow FlowRefusal) → Judged fetches a x → Judged fetches a y → x ≡ y
judged_once fetches a x y (outside f e) (outside g d) = cc
judged_once fetches a x y (outside f e) (unknown v g n d) = cc
judged_once fetches a x y (outside f e) (known at j v g u d) = let found = g.fetched in cc
judged_once fetches a x y (unknown w f n e) (outside g d) = cc
judged_once fetches a x y (unknown w f n e) (unknown v g o d) = let same = one_fetch fetches a w v f g in cc
judged_once fetches a x y (unknown w f n e) (known at j v g u d) = absurd (n j (means_too fetches a at j w g f))
judged_once fetches a x y (known at i u f m e) (outside g d) = let found = f.fetched in cc
judged_once fetches a x y (known at i u f m e) (unknown v g n d) = absurd (n i (means_too fetches a at i v f g))
judged_once fetches a x y (known at i u f m e) (known other j v g k d) =
    let same = one_instr fetches a at other i j f g in
    let there = one_fetch fetches a at other f.fetched g.fetched in
    let uppers = one_upper fetches a (base_of i) u v m (subst (λ (n : Instr). HasUpper fetches a (base_of n) v) (sym same) k) in
    cc

pub same_flow : (f g : Flow) → (let x : Result Flow FlowRefusal = Ok f in let y : Result Flow FlowRefusal = Ok g in x ≡ y) → f ≡ g
same_flow f g e = cc

pub no_upper : (fetches : Fetches) (a r w : ℕ) → fetches.word (prior a) ≡ Some w → ((i : Instr) → Means w i → ⊥) → HasUpper fetches a r None
no_upper fetches a r w f none =
    λ n h. none (Auipc r n) (subst (λ (v : ℕ). Means v (Auipc r n)) (one_word fetches (prior a) h.word w h.there f) h.means)
