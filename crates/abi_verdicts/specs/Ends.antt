-- Where procedures end, or are followed no further.
--
--   Way                      how: home, by a return; out, by a tail call of code that isn't known; away, by ra with another word;
--                            at a jump that isn't resolved, at a word that means nothing, at a point that isn't followed; or
--                            into a call of a procedure that doesn't return
--   stuck_way marked line    the way at a point without a flow: where a line is there, it is a jump
--   call_way silent k q      the way at a call of q, whose summary is k: none, if it returns or is taken not to
--   way_of t point flow      the way at a point with this flow
--   end_at point way         the end, with the values of the registers there
--   end_of image rows point  the end that is at a point
--   ends_in image rows points
--                            the ends at some points, in their order
--   procedure_of end         the procedure whose end it is
--   is_own p end             it is p's
--   is_live ending end       it is one, where a call is one of a procedure that has an end, and those are `ending`
--   Ending ends ending       each procedure with an end is among them
use Rattle.std.specs.Prelude.{ℕ, ◌==◌, not, ◌&&◌, ◌||◌, Bool, true, false, List, [], ◌∷◌, ◌++◌, Option, None, Some, option_map, option_to_list, if◌then◌else◌}
use Rattle.elf_image.specs.declared.image.Image.{Image}
use Rattle.entry_values.specs.declared.flow.Flow.{Flow}
use Rattle.entry_values.specs.declared.flow.Flow.TheVariants.{CallTo, Return, TailOut, Leave, Stuck}
use Rattle.entry_tables.specs.declared.rows.Line.{Line}
use Rattle.entry_tables.specs.declared.rows.Point.{Point}
use Rattle.entry_tables.specs.declared.rows.Rows.{Rows}
use Rattle.entry_tables.specs.Tables.{Summary}
use Rattle.entry_tables.specs.Settling.{point_flow, summary_of, told_at, is_silent}
use Rattle.entry_walks.specs.Walks.{is_among}
use Rattle.abi_verdicts.specs.declared.ways.Way.{Way}
use Rattle.abi_verdicts.specs.declared.ways.Way.TheVariants.{Home, Out, Away, Jump, NoWord, Limit, Into}
use Rattle.abi_verdicts.specs.declared.ways.End.{End}

abbrev pub stuck_way : Bool → Option Line → Way
stuck_way true line = Limit
stuck_way false (Some line) = Jump
stuck_way false None = NoWord

abbrev pub call_way : Bool → Summary → ℕ → Option Way
call_way silent k q = if k.returns || silent then None else Some (Into q)

abbrev pub way_of : Rows → Point → Flow → Option Way
way_of rows point Return = Some Home
way_of rows point TailOut = Some Out
way_of rows point Leave = Some Away
way_of rows point Stuck = Some (stuck_way point.marked point.line)
way_of rows point (CallTo q next) = call_way (is_silent rows.silent point.address) (summary_of (told_at rows.procedures q)) q
way_of rows point flow = None

abbrev pub end_at : Point → Way → End
end_at point way = record { procedure = point.procedure; address = point.address; way = way; values = point.state.values }

abbrev pub end_of : Image → Rows → Point → Option End
end_of image rows point = option_map (end_at point) (way_of rows point (point_flow image rows.guesses point))

abbrev pub ends_in : Image → Rows → List Point → List End
ends_in image rows [] = []
ends_in image rows (point ∷ rest) = option_to_list (end_of image rows point) ++ ends_in image rows rest

abbrev pub lives : List ℕ → Way → Bool
lives ending (Into q) = is_among ending q
lives ending way = true

abbrev pub is_live : List ℕ → ℕ → End → Bool
is_live ending p end = end.procedure == p && lives ending end.way

abbrev pub has_end : List ℕ → ℕ → List End → Bool
has_end ending p [] = false
has_end ending p (end ∷ rest) = if is_live ending p end then true else has_end ending p rest

-- each procedure with an end is among them
abbrev pub is_told : List ℕ → End → Bool
is_told ending end = not (lives ending end.way) || is_among ending end.procedure

abbrev pub are_told : List ℕ → List End → Bool
are_told ending [] = true
are_told ending (end ∷ rest) = if is_told ending end then are_told ending rest else false
