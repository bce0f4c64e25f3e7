-- The text of a proof file.
--
--   file    = "affine-proof 1" nl "track " names nl head* entry* "claims" nl proc* "end" nl
--   head    = "head " hex " " (hex | "exit") nl row*
--   entry   = "entry " hex nl row*
--   row     = "row" (" " dec ":" hex)+ nl
--   names and proc are those of reports of version 1
--
--   word_text item     a word's position and the word
--   row_text row       the line of a row
--   place_text a       a point's address, or the word for an exit
--   head_text head     a head's line and those of its rows
--   entry_text entry   a procedure's line and those of its rows
--   proof_text file    the whole text
use Rattle.std.specs.Prelude.{ℕ, List, [], ◌++◌, Option, Some, None, codes}
use Rattle.std.specs.List.{flat_map}
use Rattle.number_text.specs.Numerals.{dec, hex}
use Rattle.report_text.specs.Text.{nl, names_text, points_text}
use Rattle.proof_text.specs.declared.rows.WordAt.{WordAt}
use Rattle.proof_text.specs.declared.rows.SparseRow.{SparseRow}
use Rattle.proof_text.specs.declared.files.HeadRows.{HeadRows}
use Rattle.proof_text.specs.declared.files.EntryRows.{EntryRows}
use Rattle.proof_text.specs.declared.files.ProofFile.{ProofFile}

abbrev pub word_text : WordAt → List ℕ
word_text item = codes " " ++ dec item.position ++ codes ":" ++ hex item.word

abbrev pub row_text : SparseRow → List ℕ
row_text row = codes "row" ++ flat_map word_text row.words ++ nl

abbrev pub place_text : Option ℕ → List ℕ
place_text None = codes "exit"
place_text (Some address) = hex address

abbrev pub head_text : HeadRows → List ℕ
head_text head = codes "head " ++ hex head.proc_entry ++ codes " " ++ place_text head.address ++ nl ++ flat_map row_text head.rows

abbrev pub entry_text : EntryRows → List ℕ
entry_text entry = codes "entry " ++ hex entry.proc_entry ++ nl ++ flat_map row_text entry.rows

abbrev pub proof_text : ProofFile → List ℕ
proof_text file =
    codes "affine-proof 1" ++ nl ++ codes "track " ++ names_text file.tracked.names ++ nl
    ++ flat_map head_text file.heads ++ flat_map entry_text file.entries
    ++ codes "claims" ++ nl ++ points_text file.tracked.names [] None file.claims ++ codes "end" ++ nl
