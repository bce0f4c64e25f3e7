-- The verdict of a run, as text.
--
--   verdict = "affine-run 1" nl "steps " dec nl "stop " stop nl found* "end" nl
--   stop    = "exit " dec | "break " hex | "ecall " dec | "budget" | "left " hex | "depth " dec
--   found   = "found " dec " step " dec " at " hex " detail " hex nl
--
--   stop_text stop         why the run stopped
--   found_line kind found  what the watch of this kind found, if it found something
--   found_lines kind found what the watches of this kind and of the following ones found, in order
--   verdict_text verdict   the whole text; the first watch is of kind 1, and each later one of the next kind
--   has_found found        some watch found something
use Rattle.std.specs.Prelude.{ℕ, ◌+◌, Bool, is_some, List, [], ◌∷◌, ◌++◌, codes, Option, None, Some}
use Rattle.std.specs.List.{list_any}
use Rattle.number_text.specs.Numerals.{dec, hex}
use Rattle.run_watch.specs.declared.context.Found.{Found}
use Rattle.run_watch.specs.declared.stops.RunStop.{RunStop}
use Rattle.run_watch.specs.declared.stops.RunStop.TheVariants.{Exit, Break, Ecall, Budget, Left, Depth}
use Rattle.run_watch.specs.declared.verdicts.RunVerdict.{RunVerdict}

abbrev pub nl : List ℕ
nl = codes "\n"

abbrev pub stop_text : RunStop → List ℕ
stop_text (Exit a0) = codes "exit " ++ dec a0
stop_text (Break pc) = codes "break " ++ hex pc
stop_text (Ecall a7) = codes "ecall " ++ dec a7
stop_text Budget = codes "budget"
stop_text (Left pc) = codes "left " ++ hex pc
stop_text (Depth most) = codes "depth " ++ dec most

abbrev pub found_line : ℕ → Option Found → List ℕ
found_line kind None = []
found_line kind (Some found) =
    codes "found " ++ dec kind ++ codes " step " ++ dec found.index ++ codes " at " ++ hex found.address
    ++ codes " detail " ++ hex found.detail ++ nl

abbrev pub found_lines : ℕ → List (Option Found) → List ℕ
found_lines kind [] = []
found_lines kind (found ∷ later) = found_line kind found ++ found_lines (kind + 1) later

abbrev pub verdict_text : RunVerdict → List ℕ
verdict_text verdict =
    codes "affine-run 1" ++ nl ++ codes "steps " ++ dec verdict.steps ++ nl ++ codes "stop " ++ stop_text verdict.stop ++ nl
    ++ found_lines 1 verdict.found ++ codes "end" ++ nl

abbrev pub has_found : List (Option Found) → Bool
has_found found = list_any is_some found
