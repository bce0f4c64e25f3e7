-- An analysis as it is made, for points and names that are accepted. No public contract cites these words.
--
--   IsMade points names before after report certs
--                             the report and the certificates are those of the program that is lifted from them, which has few heads,
--                             and the counter rose by at least the number of rows of bases of the states at all nodes
--   IsMadeRefusal points names refusal
--                             memory was wanting, or such a program has too many heads
--   HasWorked points names before after
--                             the counter stayed, or there is such a program and it rose by no more than the bound
use Rattle.std.specs.Prelude.{◌≡◌, ℕ, ◌+◌, ◌≤◌, List, All, length, sum_by}
use Rattle.row_modules.specs.Bases.{IsLeadingBasis}
use Rattle.flow_points.specs.PointLists.{FlowPoints}
use Rattle.affine_prog.specs.declared.Program.{Program}
use Rattle.affine_prog.specs.Spans.{AreReached}
use Rattle.affine_lift.specs.Lifting.{IsLifted}
use Rattle.block_program.specs.InnerNodes.{NumbersHeads}
use Rattle.report_text.specs.declared.names.Name.{Name}
use Rattle.report_text.specs.declared.reports.Report.{Report}
use Rattle.analyser_core.specs.Heads.{most_heads, HasFewHeads, HasManyHeads}
use Rattle.analyser_core.specs.declared.refusal.Refusal.{Refusal}
use Rattle.analyser_core.specs.declared.refusal.Refusal.TheVariants.{Heads, Memory}
use Rattle.analyser_core.specs.Reports.{IsReportOf}
use Rattle.analyser_core.specs.declared.cert_line.CertLine.{CertLine}
use Rattle.analyser_core.specs.Work.{work_bound, nodes_of}

pub record IsMade (points : FlowPoints) (names : List Name) (before after : ℕ) (report : Report) (certs : List CertLine) : Type 0 where
  pub program : Program
  pub lifted : IsLifted points names program
  pub few_heads : HasFewHeads program
  pub is_report : IsReportOf program points names report certs
  pub rows : (lists : List (List (List ℕ))) → AreReached program lists → All (IsLeadingBasis 17) lists
      → before + sum_by length lists ≤ after

abbrev pub IsMadeRefusal : FlowPoints → List Name → Refusal → Type 0
IsMadeRefusal points names (Heads limit) = (program : Program) × (limit ≡ most_heads) × IsLifted points names program × HasManyHeads program
IsMadeRefusal points names Memory = Unit {0}
IsMadeRefusal points names refusal = ⊥

pub data HasWorked (points : FlowPoints) (names : List Name) (before after : ℕ) : Type 0 where
  none : after ≡ before → HasWorked points names before after
  some : (program : Program) (heads : List ℕ) → IsLifted points names program → NumbersHeads program heads → before ≤ after
      → after ≤ before + work_bound (length names) (length heads) (nodes_of points) → HasWorked points names before after
