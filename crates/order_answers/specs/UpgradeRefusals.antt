-- Upgrades that are refused.
--
--   upgrade_line refusal     the line of what the upgrade of a report is refused for. Want of memory has none
--   upgrade_status refusal   the status of it
use Rattle.std.specs.Prelude.{ℕ, List, [], codes}
use Rattle.analyser_core.specs.declared.upgrades.UpgradeRefusal as upgrades
use Rattle.analyser_core.specs.declared.upgrades.UpgradeRefusal.{UpgradeRefusal}
use Rattle.analyser_core.specs.declared.upgrades.UpgradeRefusal.TheVariants.{AlreadyNew, NotAPoint}
use Rattle.run_answers.specs.Lines.{stranger_line}
use Rattle.refusal_lines.specs.Lines.{heads_line, refused}

abbrev pub upgrade_line : UpgradeRefusal → List ℕ
upgrade_line AlreadyNew = refused (codes "report AlreadyNew")
upgrade_line (NotAPoint a) = stranger_line a
upgrade_line (upgrades.TheVariants.Heads limit) = heads_line limit
upgrade_line upgrades.TheVariants.Memory = []

abbrev pub upgrade_status : UpgradeRefusal → ℕ
upgrade_status AlreadyNew = 6
upgrade_status (NotAPoint a) = 6
upgrade_status (upgrades.TheVariants.Heads limit) = 1
upgrade_status upgrades.TheVariants.Memory = 5
