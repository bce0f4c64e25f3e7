-- What is left in front of what is told of a point.
use Rattle.std.proofs.Common.{◌≡◌, ℕ, List, [], ◌∷◌, ◌++◌, append_assoc, Some, refl, sym, ap, ◌∙◌}
use Rattle.std.specs.List.{flat_map}
use Rattle.std.proofs.lemmas.List.{append-nil}
use Rattle.report_text.specs.declared.certs.ReportCert.{ReportCert}
use Rattle.report_text.specs.declared.names.Name.{Name}
use Rattle.report_text.specs.declared.points.PointRows.{PointRows}
use Rattle.report_text.specs.declared.points.PointState.{PointState}
use Rattle.report_text.specs.declared.points.PointState.TheVariants as states
use Rattle.report_text.specs.Text.{nl, rel_text, state_text}
use Rattle.report_read.proofs.Kept.{at}
use Rattle.report_read.proofs.Left.{IsLeftAt, IsLeftBehind, IsLeftRows}

-- what is told of a point in a line
pub before_state : (names : List Name) (registers : List ℕ) (entry address : ℕ) (certs : List ReportCert) (points : List PointRows) (state : PointState) (line text : List ℕ)
    → line ++ nl ≡ state_text names state → IsLeftBehind names registers (Some entry) certs points text
    → IsLeftAt names registers entry address certs (at entry address state ∷ points) (line ++ 10 ∷ text)
before_state names registers entry address certs points state line text is left = record {
  state = state;
  further = points;
  rest = text;
  points_split = refl;
  left = left;
  text_is = sym (append_assoc line nl text) ∙ ap (λ (xs : List ℕ). xs ++ text) is;
}

-- a relation's line, the first of a point
pub before_first_rel : (names : List Name) (registers : List ℕ) (entry address : ℕ) (certs : List ReportCert) (points : List PointRows) (row line text : List ℕ)
    → line ++ nl ≡ rel_text names row → IsLeftRows names registers entry address (row ∷ []) certs points text
    → IsLeftAt names registers entry address certs points (line ++ 10 ∷ text)
before_first_rel names registers entry address certs points row line text is left = record {
  state = states.Rows (row ∷ left.more);
  further = left.further;
  rest = left.rest;
  points_split = left.points_split;
  left = left.left;
  text_is = sym (append_assoc line nl text) ∙ (λ i. is i ++ left.text_is i) ∙ sym (append_assoc (rel_text names row) (flat_map (rel_text names) left.more) left.rest);
}

-- a further one
pub before_next_rel : (names : List Name) (registers : List ℕ) (entry address : ℕ) (rows : List (List ℕ)) (certs : List ReportCert) (points : List PointRows) (row line text : List ℕ)
    → line ++ nl ≡ rel_text names row → IsLeftRows names registers entry address (rows ++ row ∷ []) certs points text
    → IsLeftRows names registers entry address rows certs points (line ++ 10 ∷ text)
before_next_rel names registers entry address rows certs points row line text is left = record {
  more = row ∷ left.more;
  further = left.further;
  rest = left.rest;
  points_split = left.points_split ∙ ap (λ (rs : List (List ℕ)). at entry address (states.Rows rs) ∷ left.further) (append_assoc rows (row ∷ []) left.more);
  left = left.left;
  text_is = sym (append_assoc line nl text) ∙ (λ i. is i ++ left.text_is i) ∙ sym (append_assoc (rel_text names row) (flat_map (rel_text names) left.more) left.rest);
}

-- rows that are told
pub behind_rows : (names : List Name) (registers : List ℕ) (entry address : ℕ) (rows : List (List ℕ)) (certs : List ReportCert) (points : List PointRows) (text : List ℕ)
    → IsLeftBehind names registers (Some entry) certs points text
    → IsLeftRows names registers entry address rows certs (at entry address (states.Rows rows) ∷ points) text
behind_rows names registers entry address rows certs points text left = record {
  more = [];
  further = points;
  rest = text;
  points_split = ap (λ (rs : List (List ℕ)). at entry address (states.Rows rs) ∷ points) (sym (append-nil rows));
  left = left;
  text_is = refl;
}
