use Rattle.std.proofs.Common.{rules, ◌≢◌, List, ℕ, subst}
use Rattle.std.specs.List.{AllPairs}
use Rattle.report_lines.specs.Parts.{parts_of}
use Rattle.report_lines.proofs.Listed.{not_listed, listed_text, names_refused, names_apart, all_named}
use Rattle.report_lines.proofs.track.read_track.Goals as goal

pub returns-then-not-are_listed : goal.returns-then-not-are_listed
returns-then-not-are_listed c =
    not_listed c.args.piece.now c.in-Some.list.now c.in-Some.ensures (λ h. let k = c.are_listed.ensures.1 h in search rules)

pub returns-in-Err : goal.returns-in-Err
returns-in-Err c =
    names_refused c.args.piece.now (parts_of 44 c.in-Some.list.now) c.in-Err.fault (c.are_listed.ensures.0 (search rules)) (listed_text c.args.piece.now c.in-Some.list.now c.in-Some.ensures) c.in-Err.ensures

pub returns-then-are_distinct : goal.returns-then-are_distinct
returns-then-are_distinct c =
    (parts_of 44 c.in-Some.list.now, c.are_listed.ensures.0 (search rules), listed_text c.args.piece.now c.in-Some.list.now c.in-Some.ensures, c.in-Ok.ensures)

pub returns-else-are_distinct : goal.returns-else-are_distinct
returns-else-are_distinct c = (
  parts_of 44 c.in-Some.list.now,
  c.are_listed.ensures.0 (search rules),
  listed_text c.args.piece.now c.in-Some.list.now c.in-Some.ensures,
  all_named (parts_of 44 c.in-Some.list.now) c.in-Ok.names c.in-Ok.ensures,
  λ apart. let h = c.are_distinct.ensures.1 (rw c.as_slice.ensures (names_apart c.in-Ok.names (subst (λ (ts : List (List ℕ)). AllPairs (λ (s : List ℕ) t. s ≢ t) ts) c.in-Ok.ensures.texts_are apart))) in search rules,
)
