-- Values are equal where their parts are, whatever their facts.
use Rattle.std.proofs.Common.{◌≡◌, ◌≢◌, ◌≤◌, [], length, All}
use Rattle.std.specs.List.{AllPairs}
use Rattle.std.proofs.Props.{props}
use mathlib.Core.HLevel.{is_prop→PathP}
use Rattle.std.specs.Bool.{IsTrue}
use Rattle.report_text.specs.declared.certs.ReportCert.{ReportCert}
use Rattle.report_text.specs.declared.names.Name.{Name}
use Rattle.report_text.specs.declared.names.Tracked.{Tracked}
use Rattle.report_text.specs.declared.reports.Report.{Report}
use Rattle.report_text.specs.Certificates.{AreCertsOf}
use Rattle.report_text.specs.Names.{is_certified, IsName, IsName-prop}
use Rattle.report_text.specs.Reports.{AreRowsAt, Ascend}

pub report_set : IsSet Report
report_set = hlevel (props, IsName-prop)

pub same_cert : (a b : ReportCert) → a.proc_entry ≡ b.proc_entry → a.register ≡ b.register → a.word ≡ b.word → a ≡ b
same_cert a b p r w = λ i. record {
  proc_entry = p i;
  register = r i;
  word = w i;
  certified = is_prop→PathP (λ j. IsTrue (is_certified (r j))) (λ j. hlevel props) a.certified b.certified i;
}

pub same_tracked : (a b : Tracked) → a.names ≡ b.names → a ≡ b
same_tracked a b e = λ i. record {
  names = e i;
  some = is_prop→PathP (λ j. 1 ≤ length (e j)) (λ j. hlevel props) a.some b.some i;
  few = is_prop→PathP (λ j. length (e j) ≤ 16) (λ j. hlevel props) a.few b.few i;
  allowed = is_prop→PathP (λ j. All IsName (e j)) (λ j. hlevel (props, IsName-prop)) a.allowed b.allowed i;
  distinct = is_prop→PathP (λ j. ∥ AllPairs (λ (x : Name) y. x ≢ y) (e j) ∥₁) (λ j. hlevel props) a.distinct b.distinct i;
}

pub same_report : (a b : Report) → a.version ≡ b.version → a.tracked ≡ b.tracked → a.certs ≡ b.certs → a.points ≡ b.points
    → a ≡ b
same_report a b v t c p = λ i. record {
  version = v i;
  tracked = t i;
  certs = c i;
  points = p i;
  versions = is_prop→PathP (λ j. (1 ≤ v j) × (v j ≤ 2)) (λ j. hlevel props) a.versions b.versions i;
  without = is_prop→PathP (λ j. ∥ (v j ≡ 1 → c j ≡ []) ∥₁) (λ j. hlevel props) a.without b.without i;
  certified = is_prop→PathP (λ j. ∥ (v j ≡ 2 → AreCertsOf (t j).names (p j) (c j)) ∥₁) (λ j. hlevel props) a.certified b.certified i;
  ascending = is_prop→PathP (λ j. ∥ Ascend (p j) ∥₁) (λ j. hlevel props) a.ascending b.ascending i;
  reduced = is_prop→PathP (λ j. ∥ All (AreRowsAt (t j).names) (p j) ∥₁) (λ j. hlevel props) a.reduced b.reduced i;
}
