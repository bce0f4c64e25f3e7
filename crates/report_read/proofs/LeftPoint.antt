-- What is left in front of the line of a certificate or a point.
use Rattle.std.proofs.Common.{◌≡◌, ℕ, ◌+◌, ◌≤◌, List, [], ◌∷◌, ◌++◌, length, drop, drop-cons, add-one, codes, append_assoc, Some, refl, sym, subst, ap, ◌∙◌, arith}
use Rattle.std.specs.Prelude.{slice_get}
use Rattle.std.proofs.lemmas.List.{append-nil, drop_all}
use Rattle.std.proofs.lemmas.Option.{slice_get_within, get_or_from_slice_get}
use Rattle.rv_decode.specs.Registers.{name_of_register}
use Rattle.report_text.specs.declared.certs.ReportCert.{ReportCert}
use Rattle.report_text.specs.declared.names.Name.{Name}
use Rattle.report_text.specs.declared.points.PointRows.{PointRows}
use Rattle.report_text.specs.declared.points.PointState.{PointState}
use Rattle.report_text.specs.Text.{cert_text, cert_word_text, certs_text, nl, opening_text, point_text, points_text, state_text}
use Rattle.report_lines.specs.Lines.{Cert, At, line_text}
use Rattle.report_read.proofs.OwnSites.{FollowFrom}
use Rattle.report_read.proofs.Sites.{same_opened, sites, sites_in}
use Rattle.report_read.proofs.Kept.{at}
use Rattle.report_read.proofs.Left.{ending, first_point, IsLeftAt, IsLeftBehind, IsLeftIn, opening_of_same}

-- a certificate's line
pub before_cert : (names : List Name) (registers : List ℕ) (entry count r : ℕ) (cert : ReportCert) (certs : List ReportCert) (points : List PointRows) (name text : List ℕ)
    → slice_get registers count ≡ Some r → cert.proc_entry ≡ entry → cert.register ≡ r → name_of_register cert.register ≡ name
    → IsLeftIn names registers entry (count + 1) certs points text
    → IsLeftIn names registers entry count (cert ∷ certs) points (line_text (Cert name cert.word) ++ 10 ∷ text)
before_cert names registers entry count r cert certs points name text there own register named left = record {
  own = cert ∷ left.own;
  later = left.later;
  point = left.point;
  further = left.further;
  rest = left.rest;
  certs_split = ap (λ (cs : List ReportCert). cert ∷ cs) left.certs_split;
  points_split = left.points_split;
  procedure = left.procedure;
  own_are = (λ i. (own i, register i) ∷ left.own_are i) ∙ ap (sites_in entry) (sym next);
  left = left.left;
  text_is =
      (λ i. (codes "cert " ++ sym named i ++ codes " " ++ cert_word_text cert.word) ++ 10 ∷ left.text_is i)
      ∙ sym (append_assoc (codes "cert " ++ name_of_register cert.register ++ codes " " ++ cert_word_text cert.word) nl (certs_text left.own ++ (point_text names left.point ++ left.rest)))
      ∙ sym (append_assoc (cert_text cert) (certs_text left.own) (point_text names left.point ++ left.rest));
} where
  next : drop count registers ≡ r ∷ drop (count + 1) registers
  next = let lt = slice_get_within registers count r there in
      drop-cons registers count 0 lt ∙ (λ i. get_or_from_slice_get registers count r 0 there i ∷ drop (sym (add-one count) i) registers)

-- a point's line
pub before_first_at : (names : List Name) (registers : List ℕ) (entry count address : ℕ) (certs : List ReportCert) (points : List PointRows) (text : List ℕ)
    → length registers ≤ count → IsLeftAt names registers entry address certs points text
    → IsLeftIn names registers entry count certs points (line_text (At address) ++ 10 ∷ text)
before_first_at names registers entry count address certs points text all left = record {
  own = [];
  later = certs;
  point = at entry address left.state;
  further = left.further;
  rest = left.rest;
  certs_split = refl;
  points_split = left.points_split;
  procedure = refl;
  own_are = ap (sites_in entry) (sym (drop_all count registers all));
  left = left.left;
  text_is = at_text names entry address left.state left.rest text left.text_is;
} where
  at_text : (ns : List Name) (e a : ℕ) (state : PointState) (rest whole : List ℕ) → whole ≡ state_text ns state ++ rest
      → line_text (At a) ++ 10 ∷ whole ≡ point_text ns (at e a state) ++ rest
  at_text ns e a state rest whole is =
      ap (λ (xs : List ℕ). line_text (At a) ++ 10 ∷ xs) is
      ∙ sym (append_assoc (line_text (At a)) nl (state_text ns state ++ rest))
      ∙ sym (append_assoc (line_text (At a) ++ nl) (state_text ns state) rest)

pub before_next_at : (names : List Name) (registers : List ℕ) (entry address : ℕ) (certs : List ReportCert) (points : List PointRows) (text : List ℕ)
    → IsLeftAt names registers entry address certs points text
    → IsLeftBehind names registers (Some entry) certs points (line_text (At address) ++ 10 ∷ text)
before_next_at names registers entry address certs points text left = record {
  certs_are = left.left.certs_are ∙ (λ i. sym (same_opened registers entry entry refl) i ++ sites registers (Some entry) left.further) ∙ ap (sites registers (Some entry)) (sym left.points_split);
  follow = subst (FollowFrom entry) (sym left.points_split) (omega arith, left.left.follow);
  text_is =
      ap (λ (xs : List ℕ). line_text (At address) ++ 10 ∷ xs) left.text_is
      ∙ sym (append_assoc (line_text (At address)) nl (state_text names left.state ++ left.rest))
      ∙ sym (append_assoc (line_text (At address) ++ nl) (state_text names left.state) left.rest)
      ∙ (λ i. point_text names (at entry address left.state) ++ left.left.text_is i)
      ∙ sym (append_assoc (point_text names (at entry address left.state)) (points_text names certs (Some entry) left.further) ending)
      ∙ (λ i. ((sym (opening_of_same entry) i ++ point_text names (at entry address left.state)) ++ points_text names certs (Some entry) left.further) ++ ending)
      ∙ (λ i. ((append-nil' entry i ++ point_text names (at entry address left.state)) ++ points_text names certs (Some entry) left.further) ++ ending)
      ∙ ap (λ (xs : List ℕ). xs ++ ending) (sym (first_point names registers (Some entry) entry [] [] certs (at entry address left.state) left.further refl refl tt left.left.certs_are left.left.follow))
      ∙ (λ i. points_text names certs (Some entry) (sym left.points_split i) ++ ending);
} where
  append-nil' : (e : ℕ) → opening_text (Some e) e ≡ opening_text (Some e) e ++ []
  append-nil' e = sym (append-nil (opening_text (Some e) e))
