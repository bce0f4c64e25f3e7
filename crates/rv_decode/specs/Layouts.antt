-- The layouts of instruction words, drawn as the RISC-V Unprivileged ISA draws them ("Base Instruction
-- Formats", "Immediate Encoding Variants"): the fields of a word from its highest bit to its lowest.
-- A field is its width in bits and its value.
--
--   bits_at n low k     the k bits of n from bit low on
--   width_of fields     how many bits the fields have
--   joined fields       the number whose bits are those of the fields
--   Fit fields          each value fits its width
--   Joins word fields   the fields fit, and word is the fields joined
--   IsSigned m n z      n is z in two's complement, where the highest bit counts -m
--
-- A layout is a word with its fields. The immediate of I, S, B and J is signed, and its bits stand
-- in pieces: imm_10_5 is its bits 10 to 5. Its lowest bit is 0 in B and J.
--
--   IsR word funct7 rs2 rs1 funct3 rd opcode
--   IsI word imm rs1 funct3 rd opcode
--   IsShift k word above by rs1 funct3 rd opcode
--                                     layout I, whose immediate is a shift of k bits and the bits above it
--   IsS word imm rs2 rs1 funct3 opcode
--   IsB word off rs2 rs1 funct3 opcode
--   IsU word imm rd opcode
--   IsJ word off rd opcode
use Rattle.std.specs.Prelude.{◌≡◌, ℕ, ◌+◌, ◌-◌, ◌*◌, ◌/◌, ◌%◌, ◌^◌, ◌<◌, List, [], ◌∷◌, ℤ, pos, negsuc}

abbrev pub bits_at : ℕ → ℕ → ℕ → ℕ
bits_at n low k = n / 2 ^ low % 2 ^ k

abbrev pub width_of : List (ℕ × ℕ) → ℕ
width_of [] = 0
width_of (field ∷ fields) = field.0 + width_of fields

abbrev pub joined : List (ℕ × ℕ) → ℕ
joined [] = 0
joined (field ∷ fields) = field.1 * 2 ^ width_of fields + joined fields

abbrev pub Fit : List (ℕ × ℕ) → Type 0
Fit [] = Unit {0}
Fit (field ∷ fields) = (field.1 < 2 ^ field.0) × Fit fields

pub record Joins (word : ℕ) (fields : List (ℕ × ℕ)) : Type 0 where
  pub fit : Fit fields
  pub whole : word ≡ joined fields

abbrev pub IsSigned : ℕ → ℕ → ℤ → Type 0
IsSigned m n (pos z) = (n ≡ z) × (z < m)
IsSigned m n (negsuc z) = (n + (z + 1) ≡ 2 * m) × (z < m)

abbrev pub IsR : (word funct7 rs2 rs1 funct3 rd opcode : ℕ) → Type 0
IsR word funct7 rs2 rs1 funct3 rd opcode =
    Joins word ((7, funct7) ∷ (5, rs2) ∷ (5, rs1) ∷ (3, funct3) ∷ (5, rd) ∷ (7, opcode) ∷ [])

pub record IsI (word : ℕ) (imm : ℤ) (rs1 funct3 rd opcode : ℕ) : Type 0 where
  pub imm_11_0 : ℕ
  pub imm_is : IsSigned (2 ^ 11) imm_11_0 imm
  pub word_is : Joins word ((12, imm_11_0) ∷ (5, rs1) ∷ (3, funct3) ∷ (5, rd) ∷ (7, opcode) ∷ [])

abbrev pub IsShift : (k word above by rs1 funct3 rd opcode : ℕ) → Type 0
IsShift k word above by rs1 funct3 rd opcode =
    Joins word ((12 - k, above) ∷ (k, by) ∷ (5, rs1) ∷ (3, funct3) ∷ (5, rd) ∷ (7, opcode) ∷ [])

pub record IsS (word : ℕ) (imm : ℤ) (rs2 rs1 funct3 opcode : ℕ) : Type 0 where
  pub imm_11_5 : ℕ
  pub imm_4_0 : ℕ
  pub imm_is : IsSigned (2 ^ 11) (joined ((7, imm_11_5) ∷ (5, imm_4_0) ∷ [])) imm
  pub word_is : Joins word
      ((7, imm_11_5) ∷ (5, rs2) ∷ (5, rs1) ∷ (3, funct3) ∷ (5, imm_4_0) ∷ (7, opcode) ∷ [])

pub record IsB (word : ℕ) (off : ℤ) (rs2 rs1 funct3 opcode : ℕ) : Type 0 where
  pub imm_12 : ℕ
  pub imm_11 : ℕ
  pub imm_10_5 : ℕ
  pub imm_4_1 : ℕ
  pub imm_is : IsSigned (2 ^ 12)
      (joined ((1, imm_12) ∷ (1, imm_11) ∷ (6, imm_10_5) ∷ (4, imm_4_1) ∷ (1, 0) ∷ [])) off
  pub word_is : Joins word
      ((1, imm_12) ∷ (6, imm_10_5) ∷ (5, rs2) ∷ (5, rs1) ∷ (3, funct3) ∷ (4, imm_4_1) ∷ (1, imm_11)
      ∷ (7, opcode) ∷ [])

abbrev pub IsU : (word imm rd opcode : ℕ) → Type 0
IsU word imm rd opcode = Joins word ((20, imm) ∷ (5, rd) ∷ (7, opcode) ∷ [])

pub record IsJ (word : ℕ) (off : ℤ) (rd opcode : ℕ) : Type 0 where
  pub imm_20 : ℕ
  pub imm_19_12 : ℕ
  pub imm_11 : ℕ
  pub imm_10_1 : ℕ
  pub imm_is : IsSigned (2 ^ 20)
      (joined ((1, imm_20) ∷ (8, imm_19_12) ∷ (1, imm_11) ∷ (10, imm_10_1) ∷ (1, 0) ∷ [])) off
  pub word_is : Joins word
      ((1, imm_20) ∷ (10, imm_10_1) ∷ (1, imm_11) ∷ (8, imm_19_12) ∷ (5, rd) ∷ (7, opcode) ∷ [])
