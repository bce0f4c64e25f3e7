-- Code that is appended, piece by piece.
use Rattle.std.proofs.Common.{◌≡◌, ℕ, zero, suc, ◌+◌, ◌<◌, List, length, take, get_or, [], ◌∷◌, ◌++◌, sym, ap, ◌∙◌, append_assoc, subst, arith}
use Rattle.std.proofs.lemmas.List.{append-nil, take_more, flat_map_more}
use Rattle.std.proofs.lemmas.Grind.{flat_map-append}
use Rattle.std.specs.List.{AllZip, flat_map, range_with_len}
use Rattle.byteorder.specs.Endian.{little_bytes}
use Rattle.rv_decode.specs.Instructions.{Means}
use Rattle.rv_instr.specs.declared.Instr.{Instr}
use Rattle.gen_elf.specs.Generated.{AddsCode, procedure_code}

mean_behind : (words more : List ℕ) (code behind : List Instr) → AllZip Means words code → AllZip Means more behind →
    AllZip Means (words ++ more) (code ++ behind)
mean_behind [] more [] behind h k = k
mean_behind (word ∷ words) more (instr ∷ code) behind h k = (h.0, mean_behind words more code behind h.1 k)
mean_behind [] more (instr ∷ code) behind h k = absurd h
mean_behind (word ∷ words) more [] behind h k = absurd h

pub added_none : (old : List ℕ) → AddsCode old [] old
added_none old = record { words = []; mean = tt; added = sym (append-nil old) }

pub added_more : (old mid new : List ℕ) (code behind : List Instr) → AddsCode old code mid → AddsCode mid behind new →
    AddsCode old (code ++ behind) new
added_more old mid new code behind h k = record {
  words = h.words ++ k.words;
  mean = mean_behind h.words k.words code behind h.mean k.mean;
  added =
      k.added ∙ ap (λ bytes. bytes ++ flat_map (little_bytes 4) k.words) h.added
      ∙ append_assoc old (flat_map (little_bytes 4) h.words) (flat_map (little_bytes 4) k.words)
      ∙ ap (λ bytes. old ++ bytes) (sym (flat_map-append (little_bytes 4) h.words k.words));
}

-- one instruction
pub added_word : (old new : List ℕ) (word : ℕ) (instr : Instr) → Means word instr → new ≡ old ++ little_bytes 4 word →
    AddsCode old (instr ∷ []) new
added_word old new word instr means added = record { words = word ∷ []; mean = (means, tt); added = added }

-- the code so far, and the next instruction
pub added_next : (old mid new : List ℕ) (word : ℕ) (code : List Instr) (i : ℕ) (d : Instr) → i < length code → AddsCode old (take i code) mid →
    Means word (get_or code i d) → new ≡ mid ++ little_bytes 4 word → AddsCode old (take (i + 1) code) new
added_next old mid new word code i d below h means added =
    subst (λ made. AddsCode old made new) (sym (take_more code i d below))
    (added_more old mid new (take i code) (get_or code i d ∷ []) h (added_word mid new word (get_or code i d) means added))

numbers_more : (a n : ℕ) → range_with_len a (suc n) ≡ range_with_len a n ++ (a + n) ∷ []
numbers_more a zero = let e : a ≡ a + 0 = omega arith in ap (λ x. x ∷ []) e
numbers_more a (suc n) =
    let e : a + 1 + n ≡ a + suc n = omega arith in
    ap (λ xs. a ∷ xs) (numbers_more (a + 1) n ∙ ap (λ x. range_with_len (a + 1) n ++ x ∷ []) e)

procedures_more : (n i : ℕ) → flat_map (procedure_code n) (range_with_len 1 i) ++ procedure_code n (i + 1)
    ≡ flat_map (procedure_code n) (range_with_len 1 (i + 1))
procedures_more n i =
    let next : 1 + i ≡ i + 1 = omega arith in
    let one : suc i ≡ i + 1 = omega arith in
    flat_map_more (procedure_code n) [] (range_with_len 1 i) (i + 1)
    ∙ ap (λ x. flat_map (procedure_code n) (range_with_len 1 i ++ x ∷ [])) (sym next)
    ∙ ap (flat_map (procedure_code n)) (sym (numbers_more 1 i))
    ∙ ap (λ k. flat_map (procedure_code n) (range_with_len 1 k)) one

-- the procedures so far, and the next one
pub added_procedure : (n : ℕ) (old mid new : List ℕ) (i : ℕ) → AddsCode old (flat_map (procedure_code n) (range_with_len 1 i)) mid →
    AddsCode mid (procedure_code n (i + 1)) new → AddsCode old (flat_map (procedure_code n) (range_with_len 1 (i + 1))) new
added_procedure n old mid new i h more =
    subst (λ made. AddsCode old made new) (procedures_more n i) (added_more old mid new (flat_map (procedure_code n) (range_with_len 1 i)) (procedure_code n (i + 1)) h more)
