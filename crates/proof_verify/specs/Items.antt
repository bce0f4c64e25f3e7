-- The items of a check, and the first of some that is broken.
--
--   nth_edge program k                  edge k
--   step_rule small levels e            the rule of steps for an edge that calls nothing; nothing for a call
--   call_rule small levels e            the rule of calls for a call; nothing for another edge
--   entry_rule small levels entries e   the rule of what calls hand over, for a call; nothing for another edge
--   step_rule_of, call_rule_of, entry_rule_of    the same by the ends of an edge and its kind
--   IsFirstWithout P n i                i is the first number below n without P
--   IsFirst P n first                   first is the first number below n without P, or all have it
use Rattle.std.specs.Prelude.{ℕ, ◌<◌, List, [], MatchOption, Option, slice_index_or}
use Rattle.affine_prog.specs.declared.Program.{Program}
use Rattle.affine_prog.specs.declared.Edge.{Edge}
use Rattle.affine_prog.specs.declared.Kind.{Kind}
use Rattle.affine_prog.specs.declared.Kind.TheVariants.{Do, Call}
use Rattle.affine_prog.specs.Programs.{edge}
use Rattle.proof_rules.specs.Rules.{rule_3, rule_4, rule_5}

abbrev pub nth_edge : Program → ℕ → Edge
nth_edge program k = slice_index_or program.edges k (edge 0 0 (Do []))

abbrev pub step_rule_of : Program → List (List (List ℕ)) → ℕ → ℕ → Kind → Type 0
step_rule_of small levels u v (Do assigns) = rule_3 small levels u v assigns
step_rule_of small levels u v (Call q before) = Unit {0}

abbrev pub step_rule : Program → List (List (List ℕ)) → Edge → Type 0
step_rule small levels e = step_rule_of small levels e.from e.to e.kind

abbrev pub call_rule_of : Program → List (List (List ℕ)) → ℕ → ℕ → Kind → Type 0
call_rule_of small levels u v (Do assigns) = Unit {0}
call_rule_of small levels u v (Call q before) = rule_4 small levels u v q before

abbrev pub call_rule : Program → List (List (List ℕ)) → Edge → Type 0
call_rule small levels e = call_rule_of small levels e.from e.to e.kind

abbrev pub entry_rule_of : Program → List (List (List ℕ)) → List (List (List ℕ)) → ℕ → Kind → Type 0
entry_rule_of small levels entries u (Do assigns) = Unit {0}
entry_rule_of small levels entries u (Call q before) = rule_5 small levels entries u q before

abbrev pub entry_rule : Program → List (List (List ℕ)) → List (List (List ℕ)) → Edge → Type 0
entry_rule small levels entries e = entry_rule_of small levels entries e.from e.kind

pub record IsFirstWithout (P : ℕ → Type 0) (n i : ℕ) : Type 0 where
  pub within : i < n
  pub broken : P i → ⊥
  pub earlier : (j : ℕ) → j < i → P j

abbrev pub IsFirst : (ℕ → Type 0) → ℕ → Option ℕ → Type 0
IsFirst P n first = MatchOption first ((j : ℕ) → j < n → P j) (IsFirstWithout P n)
