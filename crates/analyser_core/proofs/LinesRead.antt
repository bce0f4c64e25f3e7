-- Lines of certificates, one name and one procedure at a time.
use Rattle.std.proofs.Common.{◌≡◌, ℕ, ◌+◌, Bool, true, false, if◌then◌else◌, List, [], ◌∷◌, ◌++◌, map, drop, length, get_or, slice_get, All, Some, refl, sym, ap, subst, append_assoc, append-nil, ◌∙◌, arith}
use Rattle.std.specs.Prelude.{IsTrue}
use Rattle.std.proofs.lemmas.List.{map-append, length-map}
use Rattle.std.proofs.lemmas.List.Elements.{All-append, All-push}
use Rattle.std.proofs.lemmas.Option.{slice_get_within}
use Rattle.row_modules.specs.Bases.{IsLeadingBasis}
use Rattle.affine_prog.specs.declared.Program.{Program}
use Rattle.affine_prog.specs.Programs.{IsWellFormed}
use Rattle.affine_prog.specs.Spans.{rows_at, AreExits}
use Rattle.flow_points.specs.PointLists.{FlowPoints}
use Rattle.affine_lift.specs.Lifting.{IsLifted, proc_of}
use Rattle.abi_cert.specs.Certificates.{IsCertificate, CertificatesTellOfPaths}
use Rattle.report_text.specs.Names.{is_certified}
use Rattle.report_text.specs.Certificates.{certified_names, sites_of}
use Rattle.report_text.specs.declared.names.Name.{Name}
use Rattle.report_text.specs.declared.names.Name.TheVariants.{Register, Slot}
use Rattle.analyser_core.specs.declared.cert_line.CertLine.{CertLine}
use Rattle.analyser_core.specs.Certified.{site_of, IsCertLineOf, AreCertificatesAt}
use Rattle.analyser_core.specs.ReadOff.{IsReadOff, AreReadOff}

first_certified : (r : ℕ) (names : List Name) → IsTrue (is_certified r) → certified_names (Register r ∷ names) ≡ r ∷ certified_names names
first_certified r names is = by (is_certified r) is
  where
    by : (b : Bool) → IsTrue b → (if b then r ∷ certified_names names else certified_names names) ≡ r ∷ certified_names names
    by true is = refl
    by false is = absurd cc

first_left_out : (name : Name) (names : List Name) → certified_names (name ∷ []) ≡ [] → certified_names (name ∷ names) ≡ certified_names names
first_left_out (Slot p below) names e = refl
first_left_out (Register r) names e = by (is_certified r) e
  where
    by : (b : Bool) → (if b then r ∷ [] else []) ≡ [] → (if b then r ∷ certified_names names else certified_names names) ≡ certified_names names
    by true e = absurd (omega (arith, ap length e))
    by false e = refl

-- the lines of the names before place i
pub record AreBefore (summary : List (List ℕ)) (p : ℕ) (names : List Name) (i : ℕ) (lines : List CertLine) : Type 0 where
  pub sites : map site_of lines ++ map (λ r. (p, r)) (certified_names (drop i names)) ≡ map (λ r. (p, r)) (certified_names names)
  pub each : All (IsReadOff summary p names) lines

module _ (summary : List (List ℕ)) (p : ℕ) (names : List Name) (i : ℕ) (lines : List CertLine) (before : AreBefore summary p names i lines) where
  abbrev sites : List ℕ → List (ℕ × ℕ)
  sites registers = map (λ r. (p, r)) registers

  pub line_more : (name : Name) (line : CertLine) (new : List CertLine) → slice_get names i ≡ Some name → drop i names ≡ name ∷ drop (i + 1) names →
      name ≡ Register line.register → IsTrue (is_certified line.register) → line.proc_entry ≡ p → IsCertificate summary i line.cert →
      new ≡ lines ++ line ∷ [] → AreBefore summary p names (i + 1) new
  line_more name line new at from_here is among entry cert new_is =
      let rest = certified_names (drop (i + 1) names) in
      let names_are : certified_names (drop i names) ≡ line.register ∷ rest =
      ap certified_names (from_here ∙ ap (λ n. n ∷ drop (i + 1) names) is) ∙ first_certified line.register (drop (i + 1) names) among in
      let one : site_of line ∷ sites rest ≡ sites (certified_names (drop i names)) =
      ap (λ q. (q, line.register) ∷ sites rest) entry ∙ sym (ap sites names_are) in
      record {
        sites = ap (λ ls. map site_of ls ++ sites rest) new_is ∙ ap (λ t. t ++ sites rest) (map-append site_of lines (line ∷ []))
            ∙ append_assoc (map site_of lines) (site_of line ∷ []) (sites rest) ∙ ap (λ t. map site_of lines ++ t) one ∙ before.sites;
        each = subst (All (IsReadOff summary p names)) (sym new_is) (All-push (IsReadOff summary p names) lines line before.each
            (record { position = i; entry_is = entry; register_is = at ∙ ap Some is; among = among; is = cert }));
      }

  pub none_more : (name : Name) → drop i names ≡ name ∷ drop (i + 1) names → certified_names (name ∷ []) ≡ [] → AreBefore summary p names (i + 1) lines
  none_more name from_here none =
      let same : certified_names (drop i names) ≡ certified_names (drop (i + 1) names) =
      ap certified_names from_here ∙ first_left_out name (drop (i + 1) names) none in
      record { sites = ap (λ rs. map site_of lines ++ sites rs) (sym same) ∙ before.sites; each = before.each }

  pub all_read : drop i names ≡ [] → AreReadOff summary p names lines
  all_read end =
      record {
        sites = sym (append-nil (map site_of lines)) ∙ ap (λ ns. map site_of lines ++ sites (certified_names ns)) (sym end) ∙ before.sites;
        each = before.each;
      }

-- the lines of the procedures before place i of these
pub record AreOfFirst (program : Program) (points : FlowPoints) (names : List Name) (these : List ℕ) (i : ℕ) (certs : List CertLine) : Type 0 where
  pub sites : map site_of certs ++ sites_of (drop i these) (certified_names names) ≡ sites_of these (certified_names names)
  pub each : All (IsCertLineOf program points names) certs

module _ (program : Program) (points : FlowPoints) (names : List Name) (formed : IsWellFormed program) (lifted : IsLifted points names program)
    (exits : List (List (List ℕ))) (are : AreExits program exits) (law : CertificatesTellOfPaths) where
  procedures : length program.procs ≡ length points.procedures
  procedures = ap length lifted.procs ∙ length-map points.procedures (proc_of points names)

  pub exits_count : length exits ≡ length points.procedures
  exits_count = are.each ∙ procedures

  certified : (p entry : ℕ) (line : CertLine) → slice_get points.procedures p ≡ Some entry → IsLeadingBasis 289 (rows_at exits p) →
      IsReadOff (rows_at exits p) entry names line → IsCertLineOf program points names line
  certified p entry line at basis read =
      let within = slice_get_within points.procedures p entry at in
      let small = slice_get_within names read.position (Register line.register) read.register_is in
      record {
        procedure = p;
        position = read.position;
        entry_is = at ∙ ap Some (sym read.entry_is);
        register_is = read.register_is;
        among = read.among;
        is = law program p read.position (rows_at exits p) line.cert formed (omega (arith, small, formed.width, lifted.width)) basis
            (are.exact p (omega (arith, within, procedures))) read.is;
      }

  pub procedure_more : (these : List ℕ) (i p entry : ℕ) (certs lines new : List CertLine) → slice_get points.procedures p ≡ Some entry →
      drop i these ≡ entry ∷ drop (i + 1) these → IsLeadingBasis 289 (rows_at exits p) →
      AreReadOff (rows_at exits p) entry names lines → new ≡ certs ++ lines → AreOfFirst program points names these i certs →
      AreOfFirst program points names these (i + 1) new
  procedure_more these i p entry certs lines new at from_here basis read new_is before =
      let registers = certified_names names in
      let rest = sites_of (drop (i + 1) these) registers in
      let own : map site_of lines ++ rest ≡ sites_of (drop i these) registers =
      ap (λ t. t ++ rest) read.sites ∙ sym (ap (λ ps. sites_of ps registers) from_here) in
      record {
        sites = ap (λ ls. map site_of ls ++ rest) new_is ∙ ap (λ t. t ++ rest) (map-append site_of certs lines)
            ∙ append_assoc (map site_of certs) (map site_of lines) rest ∙ ap (λ t. map site_of certs ++ t) own ∙ before.sites;
        each = subst (All (IsCertLineOf program points names)) (sym new_is) (All-append (IsCertLineOf program points names) certs lines before.each
            (λ k d below. certified p entry (get_or lines k d) at basis (read.each k d below)));
      }

  pub all_certified : (these : List ℕ) (i : ℕ) (certs : List CertLine) → drop i these ≡ [] → AreOfFirst program points names these i certs →
      AreCertificatesAt program points names these certs
  all_certified these i certs end before =
      record {
        sites = sym (append-nil (map site_of certs)) ∙ ap (λ ps. map site_of certs ++ sites_of ps (certified_names names)) (sym end) ∙ before.sites;
        each = before.each;
      }
