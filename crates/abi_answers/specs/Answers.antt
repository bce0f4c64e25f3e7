-- What is answered of a file.
--
--   coded image a            the address, where the image has code there
--   all_coded image symbols  those of some symbols
--   roots_of image           the procedures that are asked for: the entry, and each function's symbol with code
--   saved                    the registers that are told of: sp, ra, s0 to s11
--   AreFound image rows routines
--                            what is told of each procedure of the table, by its ends, where `ending` are the procedures with one
--   status_of tally          0 where no register is clobbered or unknown, 7 where some is clobbered, 8 where some is unknown
--   roots_in image root      one procedure alone, or these, where none is chosen
--   word_of entry            the bytes of the word for an entry, where there is one
--   IsEntry image word a     the word is the address a, or the first symbol of this name has this value; and the image has code there
--   IsChosen image entry root
--                            the procedure that is chosen by a word, or none where there is no word
--   HasNoEntry image word    the word is no address and no symbol's name; or there is no code where it says
--   IsTable image asked rows the table is settled, reads the image, has each of these procedures, takes no targets for jumps and no
--                            call not to return
--   Form                     lines for scripts; or text for people, with the ways to faults and the addresses of premises or without
--   form_text                the text in a form
--   IsTold form file image roots rows routines status text
--                            there is such a table; and the text tells of its procedures and of what it assumes
--   rows_line, procedures_line, unsettled_line
--                            the lines for a table that would have too many rows or procedures, or isn't settled in time
--   IsNoTableLine text       the text is one of these
--   no_entry_line word       the line for a word that chooses no procedure
--   IsAnswerTo form file entry bytes status text
--                            the bytes are too many, or no image; or the word for the entry chooses none; or there is no table, of
--                            which no cause is told; or it is told
--   IsAnswer bytes status text
--                            so, in lines, where no entry is chosen
use Rattle.std.specs.Prelude.{◌≡◌, ◌⊎◌, ℕ, ◌<◌, ◌≤◌, ◌^◌, ◌==◌, true, false, List, [], ◌∷◌, ◌++◌, map, codes, length, Contains, Option, Some, None, is_some, option_map, if◌then◌else◌}
use denote.Ref.{Bor}
use Rattle.refusals.specs.declared.elf.ElfRefusal.{ElfRefusal}
use Rattle.elf_image.specs.declared.image.Image.{Image}
use Rattle.elf_image.specs.declared.symbol.Symbol.{Symbol}
use Rattle.elf_image.specs.Images.{code_at}
use Rattle.elf_image.specs.Refusals.{refusal_of}
use Rattle.entry_tables.specs.declared.rows.Rows.{Rows}
use Rattle.entry_tables.specs.Tables.{EachOf, IsSettled, Reads}
use Rattle.entry_tables.specs.Settling.{table_of}
use Rattle.abi_verdicts.specs.Ends.{ends_in, are_told}
use Rattle.abi_premises.specs.declared.premises.Assumption.{Assumption}
use Rattle.abi_premises.specs.Assumed.{assumed_in}
use Rattle.abi_routines.specs.declared.finding.Routine.{Routine}
use Rattle.abi_routines.specs.Findings.{AreRoutines}
use Rattle.affine_lift.specs.Tracking.{IsPlace}
use Rattle.abi_lines.specs.declared.tally.Tally.{Tally}
use Rattle.abi_lines.specs.Tallies.{tally_of}
use Rattle.abi_lines.specs.Lines.{lines_text}
use Rattle.abi_text.specs.Texts.{people_text}
use Rattle.abi_answers.specs.declared.forms.Form.{Form}
use Rattle.abi_answers.specs.declared.forms.Form.TheVariants.{Lines, People}
use Rattle.refusal_lines.specs.Lines.{elf_line, too_long_line, refused, valued}
use Rattle.number_text.specs.Numerals.{dec}

abbrev pub coded : Image → ℕ → List ℕ
coded image a = if is_some (code_at image a) then a ∷ [] else []

abbrev pub all_coded : Image → List Symbol → List ℕ
all_coded image [] = []
all_coded image (symbol ∷ rest) = coded image symbol.value ++ all_coded image rest

abbrev pub roots_of : Image → List ℕ
roots_of image = image.entry ∷ all_coded image image.symbols

abbrev pub saved : List ℕ
saved = 2 ∷ 1 ∷ 8 ∷ 9 ∷ 18 ∷ 19 ∷ 20 ∷ 21 ∷ 22 ∷ 23 ∷ 24 ∷ 25 ∷ 26 ∷ 27 ∷ []

pub record AreFound (image : Image) (rows : Rows) (routines : List Routine) : Type 0 where
  pub ending : List ℕ
  pub ends : are_told ending (ends_in image rows rows.points) ≡ true
  pub told : AreRoutines image rows (ends_in image rows rows.points) ending saved routines
  pub each : map (λ r. r.procedure) routines ≡ map (λ k. k.procedure) rows.procedures

abbrev pub status_of : Tally → ℕ
status_of tally = if tally.clobbered == 0 then (if tally.unknown == 0 then 0 else 8) else 7

abbrev pub roots_in : Image → Option ℕ → List ℕ
roots_in image None = roots_of image
roots_in image (Some a) = a ∷ []

abbrev pub word_of : Option (Bor (List ℕ)) → Option (List ℕ)
word_of entry = option_map (λ word. word.now) entry

pub record IsEntry (image : Image) (word : List ℕ) (a : ℕ) : Type 0 where
  pub place : IsPlace image.symbols word a
  pub code : is_some (code_at image a) ≡ true

abbrev pub IsChosen : Image → Option (List ℕ) → Option ℕ → Type 0
IsChosen image None (Some a) = ⊥
IsChosen image None None = Unit {0}
IsChosen image (Some word) (Some a) = IsEntry image word a
IsChosen image (Some word) None = ⊥

pub data HasNoEntry (image : Image) (word : List ℕ) : Type 0 where
  no_symbol : ((a : ℕ) → IsPlace image.symbols word a → ⊥) → HasNoEntry image word
  no_code : (a : ℕ) → IsPlace image.symbols word a → is_some (code_at image a) ≡ false → HasNoEntry image word

pub record IsTable (image : Image) (asked : List ℕ) (rows : Rows) : Type 0 where
  pub settled : IsSettled (table_of image rows)
  pub reads : Reads (code_at image) (table_of image rows)
  pub roots : EachOf asked (Contains (table_of image rows).procedures)
  pub no_guesses : rows.guesses ≡ []
  pub no_silent : rows.silent ≡ []

abbrev pub form_text : Form → List ℕ → Image → Rows → List Routine → List Assumption → List ℕ
form_text Lines file image rows routines assumed = lines_text image.symbols routines assumed
form_text (People why) file image rows routines assumed = people_text file image rows routines assumed why

pub record IsTold (form : Form) (file : List ℕ) (image : Image) (roots : List ℕ) (rows : Rows) (routines : List Routine) (status : ℕ) (text : List ℕ) : Type 0 where
  pub table : IsTable image roots rows
  pub found : AreFound image rows routines
  pub status_is : status ≡ status_of (tally_of routines)
  pub text_is : text ≡ form_text form file image rows routines (assumed_in image rows rows.points)

abbrev pub rows_line : List ℕ
rows_line = refused (valued (codes "TooManyRows") (dec 262144))

abbrev pub procedures_line : List ℕ
procedures_line = refused (valued (codes "TooManyProcedures") (dec 16384))

abbrev pub unsettled_line : List ℕ
unsettled_line = refused (valued (codes "Unsettled") (dec 67108864))

abbrev pub IsNoTableLine : List ℕ → Type 0
IsNoTableLine text = (text ≡ rows_line) ⊎ (text ≡ procedures_line) ⊎ (text ≡ unsettled_line)

abbrev pub no_entry_line : List ℕ → List ℕ
no_entry_line word = refused (valued (codes "NoEntry") word)

pub data IsAnswerTo (form : Form) (file : List ℕ) (entry : Option (List ℕ)) (bytes : List ℕ) (status : ℕ) (text : List ℕ) : Type 0 where
  too_long : 2 ^ 24 < length bytes → status ≡ 1 → text ≡ too_long_line → IsAnswerTo form file entry bytes status text
  no_image : (refusal : ElfRefusal) → length bytes ≤ 2 ^ 24 → refusal_of bytes ≡ Some refusal → status ≡ 1 → text ≡ elf_line refusal
      → IsAnswerTo form file entry bytes status text
  no_entry : (image : Image) (word : List ℕ) → length bytes ≤ 2 ^ 24 → image.file ≡ bytes → entry ≡ Some word → HasNoEntry image word
      → status ≡ 1 → text ≡ no_entry_line word → IsAnswerTo form file entry bytes status text
  no_table : length bytes ≤ 2 ^ 24 → status ≡ 1 → IsNoTableLine text → IsAnswerTo form file entry bytes status text
  told : (image : Image) (root : Option ℕ) (rows : Rows) (routines : List Routine) → length bytes ≤ 2 ^ 24 → image.file ≡ bytes
      → IsChosen image entry root → IsTold form file image (roots_in image root) rows routines status text
      → IsAnswerTo form file entry bytes status text

abbrev pub IsAnswer : List ℕ → ℕ → List ℕ → Type 0
IsAnswer bytes status text = IsAnswerTo Lines [] None bytes status text
