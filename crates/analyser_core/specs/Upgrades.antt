-- Reports of version 1, made reports of version 2.
--
--   IsKnown points report             each slot's procedure and each point that the report tells of are the file's
--   IsUpgradeOf points old new        old is of version 1 and known; new is of version 2, has its names and points, and the
--                                     certificates of the points' procedures, in a program with few heads
--   IsUpgradeRefusal points old why   the first cause why there is none: old is of version 2; it isn't known, at this address;
--                                     its program has too many heads; or memory was wanting, where neither of the first two holds
use Rattle.std.specs.Prelude.{◌≡◌, List, map, Some, None}
use Rattle.flow_points.specs.PointLists.{FlowPoints}
use Rattle.affine_prog.specs.declared.Program.{Program}
use Rattle.affine_lift.specs.Lifting.{IsLifted}
use Rattle.report_text.specs.Certificates.{procedures_of}
use Rattle.report_text.specs.declared.reports.Report.{Report}
use Rattle.report_places.specs.Strangers.{IsStranger}
use Rattle.analyser_core.specs.Certified.{AreCertificatesAt, told_in, told_of}
use Rattle.analyser_core.specs.Heads.{HasFewHeads, HasManyHeads, most_heads}
use Rattle.analyser_core.specs.declared.cert_line.CertLine.{CertLine}
use Rattle.analyser_core.specs.declared.upgrades.UpgradeRefusal.{UpgradeRefusal}
use Rattle.analyser_core.specs.declared.upgrades.UpgradeRefusal.TheVariants.{AlreadyNew, NotAPoint, Heads, Memory}

abbrev pub IsKnown : FlowPoints → Report → Type 0
IsKnown points report = IsStranger points report.tracked.names report.points None

pub record IsUpgradeOf (points : FlowPoints) (old new : Report) : Type 0 where
  pub old_version : old.version ≡ 1
  pub known : IsKnown points old
  pub program : Program
  pub lifted : IsLifted points old.tracked.names program
  pub few_heads : HasFewHeads program
  pub lines : List CertLine
  pub certified : AreCertificatesAt program points old.tracked.names (procedures_of old.points) lines
  pub version_is : new.version ≡ 2
  pub tracked_is : new.tracked ≡ old.tracked
  pub points_are : new.points ≡ old.points
  pub words : map told_of new.certs ≡ map told_in lines

abbrev pub IsUpgradeRefusal : FlowPoints → Report → UpgradeRefusal → Type 0
IsUpgradeRefusal points old AlreadyNew = old.version ≡ 2
IsUpgradeRefusal points old (NotAPoint a) = (old.version ≡ 1) × IsStranger points old.tracked.names old.points (Some a)
IsUpgradeRefusal points old (Heads limit) =
    (old.version ≡ 1) × IsKnown points old × (limit ≡ most_heads)
    × ((program : Program) × IsLifted points old.tracked.names program × HasManyHeads program)
IsUpgradeRefusal points old Memory = (old.version ≡ 1) × IsKnown points old
