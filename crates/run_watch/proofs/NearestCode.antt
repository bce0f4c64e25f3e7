-- The nearest instruction below a byte, going round, tells how far all are.
use Rattle.std.proofs.Common.{◌≡◌, ℕ, ◌+◌, ◌^◌, ◌<◌, ◌≤◌, List, length, get_or, All, AllPairs, take, max, sym, subst, inl, inr, arith}
use Rattle.std.specs.List.Sorted.{IsNonDecreasingBy, IsPartitionPoint}
use Rattle.std.proofs.lemmas.List.{get_or_default, take_more}
use Rattle.std.proofs.lemmas.List.Elements.{All-push}
use Rattle.std.proofs.lemmas.Bool.{cases_lt}
use Rattle.rv_step.specs.Effects.{distance}
use Rattle.run_watch.specs.declared.places.CodeAt.{CodeAt}

abbrev pub Ascends : List CodeAt → Type 0
Ascends code = AllPairs (λ a b. a.address < b.address) code

pub rising : (code : List CodeAt) → Ascends code → IsNonDecreasingBy (λ (a : CodeAt). a.address) code
rising code up i j d le within =
    elim (cases_lt i j) [
      | inl lt ↦ let h = up i j d lt within in omega (arith, h)
      | inr ge ↦ let e : i ≡ j = omega (arith, le, ge) in
          subst (λ n. (get_or code i d).address ≤ (get_or code n d).address) e (omega arith)
    ]

far_below : (b low a : ℕ) → b < 2 ^ 64 → a ≤ low → low ≤ b → distance low b ≤ distance a b
far_below b low a fits le under = omega (arith, fits, le, under)

far_above : (b low a : ℕ) → b < 2 ^ 64 → low ≤ b → b < a → distance low b ≤ distance a b
far_above b low a fits under over = omega (arith, fits, under, over)

all_above : (b high a : ℕ) → b < 2 ^ 64 → a ≤ high → b < a → distance high b ≤ distance a b
all_above b high a fits le over = omega (arith, fits, le, over)

abbrev pub Parts : List CodeAt → ℕ → ℕ → Type 0
Parts code b i = IsPartitionPoint (λ (a : CodeAt). a.address ≤ b) (λ (a : CodeAt). b < a.address) code i

-- where there are instructions below the byte, the last of these is nearest
pub nearest_below : (code : List CodeAt) (b at : ℕ) (d : CodeAt) → b < 2 ^ 64 → Ascends code → at < length code
    → Parts code b (at + 1) → All (λ a. distance (get_or code at d).address b ≤ distance a.address b) code
nearest_below code b at d fits up inside parts k e within =
    let low : (get_or code at d).address ≤ b = parts.0 at d (omega arith) (omega arith) in
    subst (λ (x : CodeAt). distance (get_or code at d).address b ≤ distance x.address b) (get_or_default code k d e within)
    (elim (cases_lt at k) [
      | inl lt ↦ far_above b _ _ fits low (parts.1 k d (omega (arith, lt)) within)
      | inr ge ↦ far_below b _ _ fits (rising code up k at d ge inside) low
    ])

-- else the last of all is
pub nearest_last : (code : List CodeAt) (b at : ℕ) (d : CodeAt) → b < 2 ^ 64 → Ascends code → length code ≡ at + 1
    → Parts code b 0 → All (λ a. distance (get_or code at d).address b ≤ distance a.address b) code
nearest_last code b at d fits up long parts k e within =
    subst (λ (x : CodeAt). distance (get_or code at d).address b ≤ distance x.address b) (get_or_default code k d e within)
    (all_above b _ _ fits (rising code up k at d (omega (arith, long, within)) (omega (arith, long)))
    (parts.1 k d (omega arith) within))

-- one more instruction, in a loop that looks for the longest
pub longest_more : (code : List CodeAt) (i n m : ℕ) (d : CodeAt) → i < length code → All (λ a. a.length ≤ n) (take i code)
    → m ≡ max (get_or code i d).length n → All (λ a. a.length ≤ m) (take (i + 1) code)
longest_more code i n m d within all is =
    subst (λ xs. All (λ (a : CodeAt). a.length ≤ m) xs) (sym (take_more code i d within))
    (All-push (λ (a : CodeAt). a.length ≤ m) (take i code) (get_or code i d)
    (λ k e inside. let h = all k e inside in omega (arith, h, is)) (omega (arith, is)))
