-- What is left in front of a procedure's line, or of the last one.
use Rattle.std.proofs.Common.{◌≡◌, ℕ, List, [], ◌∷◌, ◌++◌, map, codes, append_assoc, Option, Some, None, refl, sym, subst, ap, ◌∙◌}
use Rattle.report_text.specs.declared.certs.ReportCert.{ReportCert}
use Rattle.report_text.specs.declared.names.Name.{Name}
use Rattle.report_text.specs.declared.points.PointRows.{PointRows}
use Rattle.report_text.specs.Certificates.{site_of}
use Rattle.report_text.specs.Text.{certs_text, nl, opening_text, point_text, points_text, proc_text}
use Rattle.report_lines.specs.Lines.{Proc, End, line_text}
use Rattle.report_read.proofs.OwnSites.{in_procedure}
use Rattle.report_read.proofs.Sites.{opened, sites, sites_in}
use Rattle.report_read.proofs.Left.{ending, first_point, Follow, IsLeftBehind, IsLeftIn, IsNothingLeft, sites_both}

-- the last line
pub before_end : (names : List Name) (registers : List ℕ) (before : Option ℕ) (certs : List ReportCert) (points : List PointRows) (text : List ℕ)
    → IsNothingLeft certs points text → IsLeftBehind names registers before certs points (line_text End ++ 10 ∷ text)
before_end names registers before certs points text none = record {
  certs_are = ap (map site_of) none.no_certs ∙ ap (sites registers before) (sym none.no_points);
  follow = subst (Follow before) (sym none.no_points) (nothing before);
  text_is = ap (λ (xs : List ℕ). codes "end" ++ 10 ∷ xs) none.no_text ∙ (λ i. points_text names (sym none.no_certs i) before (sym none.no_points i) ++ ending);
} where
  nothing : (b : Option ℕ) → Follow b []
  nothing None = tt
  nothing (Some b) = tt

pub regroup : (a b c d e : List ℕ) → a ++ (b ++ (c ++ (d ++ e))) ≡ (((a ++ b) ++ c) ++ d) ++ e
regroup a b c d e =
    ap (λ (xs : List ℕ). a ++ (b ++ xs)) (sym (append_assoc c d e))
    ∙ ap (λ (xs : List ℕ). a ++ xs) (sym (append_assoc b (c ++ d) e) ∙ ap (λ (xs : List ℕ). xs ++ e) (sym (append_assoc b c d)))
    ∙ sym (append_assoc a ((b ++ c) ++ d) e)
    ∙ ap (λ (xs : List ℕ). xs ++ e) (sym (append_assoc a (b ++ c) d) ∙ ap (λ (xs : List ℕ). xs ++ d) (sym (append_assoc a b c)))

-- a procedure's line
module _ (names : List Name) (registers : List ℕ) (entry : ℕ) (certs : List ReportCert) (points : List PointRows) (text : List ℕ) (left : IsLeftIn names registers entry 0 certs points text) where
  pub before_proc : (before : Option ℕ) → opened registers before entry ≡ sites_in entry registers
      → opening_text before entry ≡ proc_text entry
      → Follow before (left.point ∷ left.further)
      → IsLeftBehind names registers before certs points (line_text (Proc entry) ++ 10 ∷ text)
  before_proc before opens opening follow = record {
    certs_are = ap (map site_of) left.certs_split ∙ sites_both left.own left.later ∙ (λ i. left.own_are i ++ left.left.certs_are i)
        ∙ (λ i. sym opens i ++ sites registers (Some entry) left.further)
        ∙ (λ i. opened registers before (sym left.procedure i) ++ sites registers (Some (sym left.procedure i)) left.further)
        ∙ ap (sites registers before) (sym left.points_split);
    follow = subst (Follow before) (sym left.points_split) follow;
    text_is =
        ap (λ (xs : List ℕ). line_text (Proc entry) ++ 10 ∷ xs) left.text_is
        ∙ sym (append_assoc (line_text (Proc entry)) nl (certs_text left.own ++ (point_text names left.point ++ left.rest)))
        ∙ (λ i. proc_text entry ++ (certs_text left.own ++ (point_text names left.point ++ left.left.text_is i)))
        ∙ regroup (proc_text entry) (certs_text left.own) (point_text names left.point) (points_text names left.later (Some entry) left.further) ending
        ∙ (λ i. (((sym opening i ++ certs_text left.own) ++ point_text names left.point) ++ points_text names left.later (Some entry) left.further) ++ ending)
        ∙ (λ i. (((opening_text before (sym left.procedure i) ++ certs_text left.own) ++ point_text names left.point) ++ points_text names left.later (Some (sym left.procedure i)) left.further) ++ ending)
        ∙ ap (λ (xs : List ℕ). xs ++ ending) (sym (first_point names registers before entry (sites_in entry registers) left.own left.later left.point left.further left.procedure left.own_are
        (in_procedure entry (λ s. s.0 ≡ entry) registers (λ r. refl)) left.left.certs_are left.left.follow))
        ∙ (λ i. points_text names (sym left.certs_split i) before (sym left.points_split i) ++ ending);
  }
