-- A name is short, so the zero byte behind it is near.
use Rattle.std.proofs.Common.{◌≡◌, ◌∙◌, ℕ, ◌+◌, ◌-◌, ◌≤◌, nat_lt, ◌==◌, Bool, true, false, cond, List, length, take, drop, Option, None, Some, option_map, not, refl, sym, ap, arith, length-drop, length-take, take_all}
use Rattle.std.specs.Prelude.{option_and_then, position}
use Rattle.std.specs.List.{position_or_len, slice_range}
use Rattle.std.proofs.lemmas.List.{length-take-le, take-append-drop}
use Rattle.std.proofs.lemmas.List.Folds.{prefix_len-append}
use Rattle.std.proofs.lemmas.List.Sums.{prefix_len-le-length}
use Rattle.std.proofs.lemmas.Grind.{common_steps}
use Rattle.elf_image.specs.Symbols.{is_name, is_zero, if_name, name_at}

-- the text of a string table that ends at this place, where it is a name
abbrev pub named_to : List ℕ → Option ℕ → Option (List ℕ)
named_to xs place = option_and_then if_name (option_map (λ end. take end xs) place)

long : (xs : List ℕ) (k : ℕ) → 256 ≤ k → k ≤ length xs → if_name (take k xs) ≡ None
long xs k far within = let e = length-take-le k xs within in grind (arith, common_steps)

-- a list ends at the first zero byte of its near part, at one further on, or has none
by_ends : (xs : List ℕ) (end near_end near more : ℕ) (b c : Bool) → nat_lt end (length xs) ≡ b → nat_lt near_end near ≡ c
    → near ≤ length xs → (near ≤ 255 → near ≡ length xs) → near_end ≤ near → end ≤ length xs
    → end ≡ cond (near_end == near) (near + more) near_end
    → named_to xs (cond b (Some end) None) ≡ named_to xs (cond c (Some near_end) None)
by_ends xs end near_end near more true true first second within whole below ends e =
    ap (λ k. named_to xs (Some k)) (let same : end ≡ near_end = grind arith in same)
by_ends xs end near_end near more true false first second within whole below ends e =
    long xs end (grind arith) ends
by_ends xs end near_end near more false true first second within whole below ends e = absurd (grind arith)
by_ends xs end near_end near more false false first second within whole below ends e = refl

near_name : (xs : List ℕ) → named_to xs (position is_zero xs) ≡ named_to xs (position is_zero (take 256 xs))
near_name xs =
    let parts = ap (λ ys. position_or_len is_zero ys) (take-append-drop 256 xs) in
    let splits = prefix_len-append (λ b. not (is_zero b)) (take 256 xs) (drop 256 xs) in
    let size = length-take 256 xs in
    let below = λ (ys : List ℕ). prefix_len-le-length (λ b. not (is_zero b)) ys in
    by_ends xs _ _ (length (take 256 xs)) (position_or_len is_zero (drop 256 xs)) _ _ refl refl
    (omega (arith, size)) (omega (arith, size)) (below (take 256 xs)) (below xs) (sym parts ∙ splits)

-- what a near search finds is the name that stands there
pub near_named : (strings : List ℕ) (at : ℕ) (rest near : List ℕ) (place : Option ℕ)
    → rest ≡ slice_range strings at (length strings) → near ≡ take 256 rest → place ≡ position is_zero near
    → named_to rest place ≡ name_at strings at
near_named strings at rest near place rest_is near_is found =
    let whole = take_all (length strings - at) (drop at strings) (omega (arith, length-drop at strings)) in
    ap (named_to rest) (found ∙ ap (position is_zero) near_is) ∙ sym (near_name rest)
    ∙ ap (λ xs. named_to xs (position is_zero xs)) (rest_is ∙ whole)

ends_within : (xs : List ℕ) (end : ℕ) → Some end ≡ position is_zero xs → end ≤ length xs
ends_within xs end found = grind (arith)

pub near_within : (rest near : List ℕ) (end : ℕ) → near ≡ take 256 rest → Some end ≡ position is_zero near → end ≤ length rest
near_within rest near end near_is found =
    omega (arith, ends_within near end found, ap length near_is, length-take 256 rest)

-- and a text that was found is tested
pub near_tested : (strings : List ℕ) (at : ℕ) (rest near : List ℕ) (end : ℕ) (b : Bool)
    → rest ≡ slice_range strings at (length strings) → near ≡ take 256 rest → Some end ≡ position is_zero near
    → b ≡ is_name (take end rest) → cond b (Some (take end rest)) None ≡ name_at strings at
near_tested strings at rest near end b rest_is near_is found tested =
    ap (λ (b : Bool). cond b (Some (take end rest)) None) tested
    ∙ near_named strings at rest near (Some end) rest_is near_is found
