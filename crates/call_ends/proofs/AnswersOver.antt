-- Answers over contents that are told, or that aren't.
use Rattle.std.proofs.Common.{◌≢◌, ℕ, ◌+◌, ◌<◌, List, length, Option, Some, None, replicate, subst, arith}
use Rattle.std.proofs.lemmas.List.{length-replicate}
use Rattle.call_ends.specs.Calls.{IsAnswerOver, IsOverBoth}
use Rattle.call_ends.specs.Replies.{IsLong, IsWhole}

pub over_one : (file : Option (List ℕ)) (answer : List ℕ → ℕ → List ℕ → Type 0) (bytes : List ℕ) (status : ℕ) (text : List ℕ) → IsWhole file bytes →
    answer bytes status text → IsAnswerOver file answer status text
over_one (Some b) answer bytes status text whole is = subst (λ x. answer x status text) whole is
over_one None answer bytes status text whole is = (bytes, is)

pub over_both : (file report : Option (List ℕ)) (answer : List ℕ → List ℕ → ℕ → List ℕ → Type 0) (bytes told : List ℕ) (status : ℕ) (text : List ℕ) →
    IsWhole file bytes → IsWhole report told → answer bytes told status text → IsOverBoth file report answer status text
over_both (Some b) (Some t) answer bytes told status text whole whole_too is =
    subst (λ x. answer b x status text) whole_too (subst (λ x. answer x told status text) whole is)
over_both (Some b) None answer bytes told status text whole whole_too is = (told, subst (λ x. answer x told status text) whole is)
over_both None (Some t) answer bytes told status text whole whole_too is = (bytes, subst (λ x. answer bytes x status text) whole_too is)
over_both None None answer bytes told status text whole whole_too is = (bytes, (told, is))

pub both_weaker : (file report : Option (List ℕ)) (answer too : List ℕ → List ℕ → ℕ → List ℕ → Type 0) →
    ((bytes told : List ℕ) (status : ℕ) (text : List ℕ) → answer bytes told status text → too bytes told status text) →
    (status : ℕ) (text : List ℕ) → IsOverBoth file report answer status text → IsOverBoth file report too status text
both_weaker (Some b) (Some t) answer too weaker status text is = weaker b t status text is
both_weaker (Some b) None answer too weaker status text (t, is) = (t, weaker b t status text is)
both_weaker None (Some t) answer too weaker status text (b, is) = (b, weaker b t status text is)
both_weaker None None answer too weaker status text (b, (t, is)) = (b, (t, weaker b t status text is))

longer_than : (n : ℕ) → (xs : List ℕ) × (n < length xs)
longer_than n = (replicate (n + 1) 0, omega (arith, length-replicate {A = ℕ} (n + 1) 0))

-- what is answered for all contents that are too long, is answered for these
pub long_over : (most code : ℕ) (line : List ℕ) (contents : Option (List ℕ)) (answer : List ℕ → ℕ → List ℕ → Type 0) →
    ((bytes : List ℕ) (status : ℕ) (text : List ℕ) → IsLong most code line (Some bytes) status text → answer bytes status text) →
    (status : ℕ) (text : List ℕ) → IsLong most code line contents status text → IsAnswerOver contents answer status text
long_over most code line (Some bytes) answer refuses status text is = refuses bytes status text is
long_over most code line None answer refuses status text is =
    let (xs, more) = longer_than most in
    (xs, refuses xs status text (record { long = more; status_is = is.status_is; text_is = is.text_is }))

-- no answer of a set has the status of a fault
abbrev pub IsLow : (ℕ → List ℕ → Type 0) → Type 0
IsLow Is = (status : ℕ) (text : List ℕ) → Is status text → status < 3

pub over_low : (contents : Option (List ℕ)) (answer : List ℕ → ℕ → List ℕ → Type 0) → ((bytes : List ℕ) → IsLow (answer bytes)) →
    IsLow (IsAnswerOver contents answer)
over_low (Some bytes) answer low status text is = low bytes status text is
over_low None answer low status text (bytes, is) = low bytes status text is

abbrev pub IsPlain : (ℕ → List ℕ → Type 0) → Type 0
IsPlain Is = (status : ℕ) (text : List ℕ) → Is status text → (status ≢ 3) × (status ≢ 4)

pub low_plain : (Is : ℕ → List ℕ → Type 0) → IsLow Is → IsPlain Is
low_plain Is low status text is = let below = low status text is in (λ e. omega arith, λ e. omega arith)

pub over_plain : (contents : Option (List ℕ)) (answer : List ℕ → ℕ → List ℕ → Type 0) → ((bytes : List ℕ) → IsLow (answer bytes)) →
    IsPlain (IsAnswerOver contents answer)
over_plain contents answer low = low_plain (IsAnswerOver contents answer) (over_low contents answer low)

pub both_plain : (file report : Option (List ℕ)) (answer : List ℕ → List ℕ → ℕ → List ℕ → Type 0) →
    ((bytes told : List ℕ) → IsPlain (answer bytes told)) → IsPlain (IsOverBoth file report answer)
both_plain (Some bytes) (Some told) answer plain status text is = plain bytes told status text is
both_plain (Some bytes) None answer plain status text (told, is) = plain bytes told status text is
both_plain None (Some told) answer plain status text (bytes, is) = plain bytes told status text is
both_plain None None answer plain status text (bytes, (told, is)) = plain bytes told status text is
