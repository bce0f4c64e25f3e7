-- What is told of points and names that are accepted. No public contract cites these words.
--
--   IsLiftRefusal points names refusal   memory was wanting, or such a program has too many heads
--   IsLateRefusal points names at row refusal   the first cause for which nothing is told of them
--   IsAnswerText points names program node row text   the text is that of an answer whether the row holds at the node
use Rattle.std.specs.Prelude.{◌≡◌, ℕ, List}
use Rattle.flow_points.specs.PointLists.{FlowPoints}
use Rattle.flow_points.specs.declared.code_points.Point.{Point}
use Rattle.report_text.specs.declared.names.Name.{Name}
use Rattle.affine_prog.specs.declared.Program.{Program}
use Rattle.affine_lift.specs.Lifting.{IsLifted}
use Rattle.analyser_core.specs.Heads.{most_heads, HasManyHeads}
use Rattle.analyser_core.specs.declared.refusal.Refusal as files
use Rattle.analyser_core.specs.declared.refusal.Refusal.{Refusal}
use Rattle.refute_path.specs.Answers.{IsAnswer}
use Rattle.refute_path.specs.declared.answer.Refuted.{Refuted}
use Rattle.refute_text.specs.Text.{refuted_text}
use Rattle.refute_answers.specs.declared.refusal.RefuteRefusal.{RefuteRefusal}
use Rattle.refute_answers.specs.declared.refusal.RefuteRefusal.TheVariants.{File, NoSuchPoint, Row}
use Rattle.refute_answers.specs.Asked.{IsStranger, IsBadRow}

abbrev pub IsLiftRefusal : FlowPoints → List Name → Refusal → Type 0
IsLiftRefusal points names (files.TheVariants.Heads limit) =
    (program : Program) × (limit ≡ most_heads) × IsLifted points names program × HasManyHeads program
IsLiftRefusal points names files.TheVariants.Memory = Unit {0}
IsLiftRefusal points names refusal = ⊥

abbrev pub IsLateRefusal : FlowPoints → List Name → Point → List ℕ → RefuteRefusal → Type 0
IsLateRefusal points names at row (File refusal) = IsLiftRefusal points names refusal
IsLateRefusal points names at row (NoSuchPoint address) = (address ≡ at.address) × IsStranger points names at
IsLateRefusal points names at row (Row refusal) = IsBadRow points names at row refusal

pub record IsAnswerText (points : FlowPoints) (names : List Name) (program : Program) (node : ℕ) (row text : List ℕ) : Type 0 where
  pub answer : Refuted
  pub is_answer : IsAnswer program node row answer
  pub text_is : text ≡ refuted_text points names program answer
