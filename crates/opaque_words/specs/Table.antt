-- Opaque words: RISC-V Unprivileged ISA, "Zicsr", "Zifencei", "A" Extension for Atomic Instructions; RISC-V
-- Privileged ISA, "Machine-Mode Privileged Instructions", "Supervisor Instructions". Each row says which register
-- and which bytes the instruction may change, or that it makes no step: a return from a trap, and the words that are defined to
-- be illegal, one of each length.
--
--   no_step length               it makes no step
--   nothing, writes rd           it changes nothing, or rd at most
--   changes rd base width        it changes rd, and width bytes from x[base] on, at most
--   is_fence_of_memory word      SFENCE.VMA, whose rd and funct3 are 0
--   system_row word              the row of a word whose opcode is SYSTEM. ECALL and EBREAK are no opaque words
--   is_exchange funct5           SC, AMOSWAP, AMOADD, AMOXOR, AMOAND, AMOOR, AMOMIN, AMOMAX, AMOMINU or AMOMAXU
--   atomic_width funct3          the bytes that an atomic instruction changes, 4 or 8
--   atomic_by width word         the row of a word whose opcode is AMO: LR stores nothing
--   atomic_row word              it, by the word's own width
--   opaque_row word length       the row of a word of 4 or 2 bytes
use Rattle.std.specs.Prelude.{ℕ, ◌%◌, ◌==◌, nat_lt, not, ◌&&◌, ◌||◌, Bool, true, false, pos, Option, None, Some, if◌then◌else◌}
use Rattle.rv_decode.specs.Layouts.{bits_at}
use Rattle.opaque_words.specs.declared.rows.Row.{Row}

abbrev pub no_step : ℕ → Row
no_step length = record { rd = 0; base = 0; imm = pos 0; width = 0; length = length; halts = true }

abbrev pub changes : ℕ → ℕ → ℕ → Row
changes rd base width = record { rd = rd; base = base; imm = pos 0; width = width; length = 4; halts = false }

abbrev pub writes : ℕ → Row
writes rd = changes rd 0 0

abbrev pub nothing : Row
nothing = writes 0

abbrev pub is_fence_of_memory : ℕ → Bool
is_fence_of_memory word = bits_at word 25 7 == 9 && bits_at word 7 8 == 0

abbrev pub system_row : ℕ → Option Row
system_row word =
    if word == 0xc0001073 || (word == 0x30200073 || word == 0x10200073) then Some (no_step 4)
    else if word == 0x10500073 then Some nothing
    else if not (bits_at word 12 3 % 4 == 0) then Some (writes (bits_at word 7 5))
    else if is_fence_of_memory word then Some nothing else None

abbrev pub is_exchange : ℕ → Bool
is_exchange funct5 = funct5 == 3 || (nat_lt funct5 2 || funct5 % 4 == 0)

abbrev pub atomic_width : ℕ → Option ℕ
atomic_width funct3 = if funct3 == 2 then Some 4 else if funct3 == 3 then Some 8 else None

abbrev pub atomic_by : Option ℕ → ℕ → Option Row
atomic_by None word = None
atomic_by (Some width) word =
    if bits_at word 27 5 == 2 && bits_at word 20 5 == 0 then Some (writes (bits_at word 7 5))
    else if is_exchange (bits_at word 27 5) then Some (changes (bits_at word 7 5) (bits_at word 15 5) width) else None

abbrev pub atomic_row : ℕ → Option Row
atomic_row word = atomic_by (atomic_width (bits_at word 12 3)) word

abbrev pub opaque_row : ℕ → ℕ → Option Row
opaque_row word length =
    if length == 2 then (if word == 0 then Some (no_step 2) else None)
    else if bits_at word 0 7 == 0x73 then system_row word
    else if bits_at word 0 7 == 0x0f && bits_at word 12 3 == 1 then Some nothing
    else if bits_at word 0 7 == 0x2f then atomic_row word else None
