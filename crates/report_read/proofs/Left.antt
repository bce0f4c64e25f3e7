-- What is left of a report behind a place, and its text.
use Rattle.std.proofs.Common.{◌≡◌, ℕ, ◌<◌, Bool, cond, List, [], ◌∷◌, ◌++◌, length, map, take, drop, codes, Option, Some, None, refl, sym, ap, ◌∙◌, arith}
use Rattle.std.specs.List.{flat_map, AllByRecursion}
use Rattle.std.proofs.lemmas.Bool.{eq-eqb, ne_eqb}
use Rattle.std.proofs.lemmas.List.{length-map}
use Rattle.std.proofs.Math.Seq.{take-append_seam, drop-append_seam}
use Rattle.report_text.specs.declared.certs.ReportCert.{ReportCert}
use Rattle.report_text.specs.declared.names.Name.{Name}
use Rattle.report_text.specs.declared.points.PointRows.{PointRows}
use Rattle.report_text.specs.declared.points.PointState.{PointState}
use Rattle.report_text.specs.declared.points.PointState.TheVariants as states
use Rattle.report_text.specs.Certificates.{site_of}
use Rattle.report_text.specs.Text.{certs_text, nl, opening_text, own_count, point_text, points_text, proc_text, rel_text, state_text}
use Rattle.report_read.specs.declared.draft.Place.{Place}
use Rattle.report_read.specs.declared.draft.Place.TheVariants as places
use Rattle.report_read.proofs.OwnSites.{FollowFrom, own_first, sites_beyond}
use Rattle.report_read.proofs.Sites.{Site, sites, sites_in}
use Rattle.report_read.proofs.Kept.{at}

abbrev pub ending : List ℕ
ending = codes "end" ++ nl

abbrev pub Follow : Option ℕ → List PointRows → Type 0
Follow None [] = Unit {0}
Follow None (q ∷ points) = FollowFrom q.proc_entry points
Follow (Some b) points = FollowFrom b points

pub record IsLeftBehind (names : List Name) (registers : List ℕ) (before : Option ℕ) (certs : List ReportCert) (points : List PointRows) (text : List ℕ) : Type 0 where
  pub certs_are : map site_of certs ≡ sites registers before points
  pub follow : Follow before points
  pub text_is : text ≡ points_text names certs before points ++ ending

pub record IsLeftIn (names : List Name) (registers : List ℕ) (entry count : ℕ) (certs : List ReportCert) (points : List PointRows) (text : List ℕ) : Type 0 where
  pub own : List ReportCert
  pub later : List ReportCert
  pub point : PointRows
  pub further : List PointRows
  pub rest : List ℕ
  pub certs_split : certs ≡ own ++ later
  pub points_split : points ≡ point ∷ further
  pub procedure : point.proc_entry ≡ entry
  pub own_are : map site_of own ≡ sites_in entry (drop count registers)
  pub left : IsLeftBehind names registers (Some entry) later further rest
  pub text_is : text ≡ certs_text own ++ (point_text names point ++ rest)

pub record IsLeftAt (names : List Name) (registers : List ℕ) (entry address : ℕ) (certs : List ReportCert) (points : List PointRows) (text : List ℕ) : Type 0 where
  pub state : PointState
  pub further : List PointRows
  pub rest : List ℕ
  pub points_split : points ≡ at entry address state ∷ further
  pub left : IsLeftBehind names registers (Some entry) certs further rest
  pub text_is : text ≡ state_text names state ++ rest

pub record IsLeftRows (names : List Name) (registers : List ℕ) (entry address : ℕ) (rows : List (List ℕ)) (certs : List ReportCert) (points : List PointRows) (text : List ℕ) : Type 0 where
  pub more : List (List ℕ)
  pub further : List PointRows
  pub rest : List ℕ
  pub points_split : points ≡ at entry address (states.Rows (rows ++ more)) ∷ further
  pub left : IsLeftBehind names registers (Some entry) certs further rest
  pub text_is : text ≡ flat_map (rel_text names) more ++ rest

pub record IsNothingLeft (certs : List ReportCert) (points : List PointRows) (text : List ℕ) : Type 0 where
  pub no_certs : certs ≡ []
  pub no_points : points ≡ []
  pub no_text : text ≡ []

abbrev pub IsLeft : List Name → List ℕ → Place → List ReportCert → List PointRows → List ℕ → Type 0
IsLeft names registers places.Top certs points text = IsLeftBehind names registers None certs points text
IsLeft names registers (places.Procedure entry count) certs points text = IsLeftIn names registers entry count certs points text
IsLeft names registers (places.Point entry address line) certs points text = IsLeftAt names registers entry address certs points text
IsLeft names registers (places.Rows entry address line rows) certs points text = IsLeftRows names registers entry address rows certs points text
IsLeft names registers (places.Told entry address) certs points text = IsLeftBehind names registers (Some entry) certs points text
IsLeft names registers places.End certs points text = IsNothingLeft certs points text

pub sites_both : (own later : List ReportCert) → map site_of (own ++ later) ≡ map site_of own ++ map site_of later
sites_both [] later = refl
sites_both (c ∷ own) later = ap (λ (ss : List Site). site_of c ∷ ss) (sites_both own later)

-- the certificates of a point's procedure stand first
pub first_point : (names : List Name) (registers : List ℕ) (before : Option ℕ) (entry : ℕ) (mine : List Site) (own later : List ReportCert) (point : PointRows) (further : List PointRows)
    → point.proc_entry ≡ entry → map site_of own ≡ mine → AllByRecursion (λ s. s.0 ≡ entry) mine
    → map site_of later ≡ sites registers (Some entry) further → FollowFrom entry further
    → points_text names (own ++ later) before (point ∷ further)
    ≡ ((opening_text before point.proc_entry ++ certs_text own) ++ point_text names point) ++ points_text names later (Some point.proc_entry) further
first_point names registers before entry mine own later point further procedure own_are in_it later_are follow =
    let split : map site_of (own ++ later) ≡ mine ++ sites registers (Some entry) further = sites_both own later ∙ (λ i. own_are i ++ later_are i) in
    let count : own_count entry (own ++ later) ≡ length mine = own_first entry (own ++ later) mine (sites registers (Some entry) further) split in_it (sites_beyond registers entry further follow) in
    let same : own_count point.proc_entry (own ++ later) ≡ length own =
    ap (λ (p : ℕ). own_count p (own ++ later)) procedure ∙ count ∙ ap (λ (ss : List Site). length ss) (sym own_are) ∙ length-map own site_of in
    ap (λ (n : ℕ). ((opening_text before point.proc_entry ++ certs_text (take n (own ++ later))) ++ point_text names point) ++ points_text names (drop n (own ++ later)) (Some point.proc_entry) further) same
    ∙ (λ i. ((opening_text before point.proc_entry ++ certs_text (take-append_seam own later i)) ++ point_text names point) ++ points_text names (drop-append_seam own later i) (Some point.proc_entry) further)

pub opening_of_first : (entry : ℕ) → opening_text None entry ≡ proc_text entry
opening_of_first entry = refl

pub opening_of_next : (b entry : ℕ) → b < entry → opening_text (Some b) entry ≡ proc_text entry
opening_of_next b entry less = ap (λ (t : Bool). cond t [] (proc_text entry)) (ne_eqb b entry (λ e. omega arith))

pub opening_of_same : (entry : ℕ) → opening_text (Some entry) entry ≡ []
opening_of_same entry = ap (λ (t : Bool). cond t [] (proc_text entry)) (eq-eqb entry entry refl)
