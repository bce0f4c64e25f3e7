-- The list of points, as text.
--
--   code_text code              the address, the word and the instruction of a point
--   codes_text before points    the points, each procedure's line before its first point; before is the
--                               procedure of the point before them
--   list_text points            the whole text
use Rattle.std.specs.Prelude.{ℕ, List, [], ◌∷◌, ◌++◌, Option, Some, None, codes}
use Rattle.number_text.specs.Numerals.{hex}
use Rattle.rv_text.specs.Text.{instr_text}
use Rattle.rv_text.specs.Words.{word_text}
use Rattle.report_text.specs.Text.{nl, opening_text}
use Rattle.flow_points.specs.declared.code_points.CodePoint.{CodePoint}

abbrev pub code_text : CodePoint → List ℕ
code_text code = hex code.point.address ++ codes " " ++ word_text code.word code.length ++ codes " " ++ instr_text code.instr ++ nl

abbrev pub codes_text : Option ℕ → List CodePoint → List ℕ
codes_text before [] = []
codes_text before (code ∷ points) =
    opening_text before code.point.proc_entry ++ code_text code ++ codes_text (Some code.point.proc_entry) points

abbrev pub list_text : List CodePoint → List ℕ
list_text points = codes "affine-list 1" ++ nl ++ codes_text None points ++ codes "end" ++ nl
