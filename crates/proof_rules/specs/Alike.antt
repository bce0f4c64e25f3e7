-- Rows of the same modules pass the same rules.
--
--   AreAlike n lists others    each list has the module of the other list of its number
--   RulesFollow small levels others entries states    what passes for levels and entries passes for others and states: each item of
--                              each rule, and each claimed row behind a chain
--   RulesFollowModules         so it is where levels are alike others, and entries are alike states
use Rattle.std.specs.Prelude.{ℕ, ◌<◌, List, Contains, All}
use Rattle.row_modules.specs.Modules.{SameModule}
use Rattle.affine_prog.specs.declared.Program.{Program}
use Rattle.affine_prog.specs.declared.Assign.{Assign}
use Rattle.affine_prog.specs.declared.Kind.TheVariants.{Do, Call}
use Rattle.affine_prog.specs.Programs.{edge, IsWellFormed}
use Rattle.affine_prog.specs.Assignments.{position_of}
use Rattle.affine_prog.specs.Spans.{rows_at}
use Rattle.proof_rules.specs.Rules.{rule_2, rule_3, rule_4, rule_5_first, rule_5, rule_6}
use Rattle.proof_rules.specs.Laws.{AreRowLists}

abbrev pub AreAlike : ℕ → List (List (List ℕ)) → List (List (List ℕ)) → Type 0
AreAlike n lists others = (i : ℕ) → SameModule n (Contains (rows_at lists i)) (Contains (rows_at others i))

pub record RulesFollow (small : Program) (levels others entries states : List (List (List ℕ))) : Type 0 where
  pub openings : (p : ℕ) → rule_2 small levels p → rule_2 small others p
  pub steps : (u v : ℕ) (assigns : List Assign) → Contains small.edges (edge u v (Do assigns)) → rule_3 small levels u v assigns → rule_3 small others u v assigns
  pub calls : (u v q : ℕ) (before : List Assign) → Contains small.edges (edge u v (Call q before)) → rule_4 small levels u v q before
      → rule_4 small others u v q before
  pub starts : rule_5_first small entries → rule_5_first small states
  pub enters : (u v q : ℕ) (before : List Assign) → Contains small.edges (edge u v (Call q before)) → rule_5 small levels entries u q before
      → rule_5 small others states u q before
  pub claims : (i p : ℕ) (chain : List Assign) (a : List ℕ) → All (λ x. position_of x < 16) chain → rule_6 levels entries i p chain a
      → rule_6 others states i p chain a

abbrev pub RulesFollowModules : Type 0
RulesFollowModules =
    (small : Program) (levels others entries states : List (List (List ℕ))) → IsWellFormed small → AreRowLists 289 levels → AreRowLists 289 others
    → AreRowLists 17 entries → AreRowLists 17 states → AreAlike 289 levels others → AreAlike 17 entries states
    → RulesFollow small levels others entries states
