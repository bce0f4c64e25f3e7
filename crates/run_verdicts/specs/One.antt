-- The run of an image is one.
--
--   IsSameRun seen steps stop others made end   the same is seen of both runs, and they have as many steps and the same stop
--   RunsAreOne                    so it is of two runs of one image from the same registers, of at most so many steps, by the
--                                 same report
use Rattle.std.specs.Prelude.{◌≡◌, ℕ, List, Option}
use Rattle.elf_image.specs.declared.image.Image.{Image}
use Rattle.flow_points.specs.PointLists.{ArePointsOf, FlowPoints}
use Rattle.report_text.specs.declared.reports.Report.{Report}
use Rattle.run_watch.specs.Runs.{IsRunOf, Sight}
use Rattle.run_watch.specs.declared.stops.RunStop.{RunStop}

pub record IsSameRun (seen : List Sight) (steps : ℕ) (stop : RunStop) (others : List Sight) (made : ℕ) (end : RunStop) : Type 0 where
  pub seen_alike : seen ≡ others
  pub as_many : steps ≡ made
  pub same_stop : stop ≡ end

abbrev pub RunsAreOne : Type 0
RunsAreOne =
    (image : Image) (points : FlowPoints) (offsets : List (Option ℕ)) (report : Report) (regs : List ℕ) (limit : ℕ)
    (seen others : List Sight) (steps made : ℕ) (stop end : RunStop)
    → ArePointsOf image points → IsRunOf image points offsets report regs limit seen steps stop
    → IsRunOf image points offsets report regs limit others made end → IsSameRun seen steps stop others made end
