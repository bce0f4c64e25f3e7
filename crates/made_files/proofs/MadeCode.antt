-- The code of a made file, by its places.
use Rattle.std.proofs.Common.{◌≡◌, ℕ, zero, suc, ◌+◌, ◌-◌, ◌*◌, ◌^◌, ◌<◌, ◌≤◌, List, [], ◌∷◌, ◌++◌, length, take, get_or, refl, ap, sym, subst, ◌∙◌, arith, length-append, length-take-le, get_or-append-add}
use Rattle.std.specs.List.{AllZip, flat_map, range_with_len}
use Rattle.std.proofs.lemmas.List.Concat.{get_or-flat_map}
use Rattle.std.proofs.lemmas.List.FromFn.{get_or-range_with_len, length-range_with_len}
use Rattle.rv_decode.specs.Instructions.{Means}
use Rattle.rv_instr.specs.declared.Instr.{Instr}
use Rattle.rv_instr.specs.declared.Instr.TheVariants.{Ebreak}
use Rattle.gen_elf.specs.Generated.{code_of, procedure_code, start_code}

eight_each : (n : ℕ) (is : List ℕ) → length (flat_map (procedure_code n) is) ≡ 8 * length is
eight_each n [] = omega arith
eight_each n (i ∷ is) = let rest = eight_each n is in omega (arith, rest)

pub code_length : (n : ℕ) → length (code_of n) ≡ 3 + 8 * n
code_length n =
    let all = length-append start_code (flat_map (procedure_code n) (range_with_len 1 n)) in
    let each = eight_each n (range_with_len 1 n) in
    let many = length-range_with_len 1 n in
    omega (arith, all, each, many)

-- word number j of procedure i
abbrev pub place : ℕ → ℕ → ℕ
place i j = 3 + (8 * (i - 1) + j)

pub code_in : (n i j : ℕ) (d : Instr) → 1 ≤ i → i ≤ n → j < 8 → get_or (code_of n) (place i j) d ≡ get_or (procedure_code n i) j d
code_in n i j d some most low =
    let numbers = range_with_len 1 n in
    let code = flat_map (procedure_code n) numbers in
    let many = length-range_with_len 1 n in
    let front = length-take-le (i - 1) numbers (omega (arith, many, most)) in
    let each = eight_each n (take (i - 1) numbers) in
    let at : 8 * (i - 1) + j ≡ length (flat_map (procedure_code n) (take (i - 1) numbers)) + j = omega (arith, front, each) in
    let number : get_or numbers (i - 1) 0 ≡ i = get_or-range_with_len 1 n (i - 1) 0 (omega (arith, some, most)) ∙ (let e : 1 + (i - 1) ≡ i = omega (arith, some) in e) in
    get_or-append-add start_code code (8 * (i - 1) + j) d
    ∙ ap (λ (k : ℕ). get_or code k d) at
    ∙ get_or-flat_map (procedure_code n) numbers (i - 1) j 0 d (omega (arith, many, some, most)) low
    ∙ ap (λ (k : ℕ). get_or (procedure_code n k) j d) number

pub as_many : (words : List ℕ) (code : List Instr) → AllZip Means words code → length words ≡ length code
as_many [] [] h = omega arith
as_many (word ∷ words) (instr ∷ code) h = ap suc (as_many words code h.1)
as_many [] (instr ∷ code) h = absurd h
as_many (word ∷ words) [] h = absurd h

pub means_at : (words : List ℕ) (code : List Instr) (k : ℕ) → AllZip Means words code → k < length words
    → Means (get_or words k 0) (get_or code k Ebreak)
means_at [] code k h within = absurd (omega arith)
means_at (word ∷ words) [] k h within = absurd h
means_at (word ∷ words) (instr ∷ code) zero h within = h.0
means_at (word ∷ words) (instr ∷ code) (suc k) h within = means_at words code k h.1 (omega arith)
