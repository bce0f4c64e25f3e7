-- What a text of a row's form is read as, for the terms and the constant whose text it is.
use Rattle.std.proofs.Common.{◌≡◌, ℕ, List, sym, subst, ◌∙◌}
use Rattle.std.specs.Prelude.{Some}
use Rattle.report_text.specs.declared.names.Name.{Name}
use Rattle.report_lines.specs.declared.relation.Relation.{Relation}
use Rattle.report_lines.specs.Terms.{Term}
use Rattle.report_lines.specs.Relations.{IsRelation, IsRelationReading, Tells, relation_text}
use Rattle.report_lines.proofs.OneRelation.{one_relation}

pub front_told : (names : List Name) (p : ℕ) (front : List ℕ) (relation told : Relation) (terms : List Term) (c : ℕ) → IsRelation terms c
    → front ≡ relation_text terms c → IsRelationReading names p front (Some relation) → relation ≡ told → Tells names p terms c told
front_told names p front relation told terms c fit text_is reading is =
    let one = one_relation reading.0 terms reading.1 c reading.2 fit (sym reading.3 ∙ text_is) in
    subst (λ (r : Relation). Tells names p terms c r) is
    (subst (λ (ts : List Term). Tells names p ts c relation) one.0 (subst (λ (d : ℕ). Tells names p reading.0 d relation) one.1 reading.4))
