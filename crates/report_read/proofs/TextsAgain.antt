-- A report's text is judged to be that report.
use Rattle.std.proofs.Common.{◌≡◌, ◌≢◌, ℕ, ◌≤◌, Bool, false, cond, eqb, List, [], ◌∷◌, ◌++◌, All, map, codes, None, Ok, refl, sym, subst, ap, ◌∙◌, arith, ⊎_elim}
use Rattle.std.specs.Prelude.{◌==◌}
use Rattle.std.specs.List.{AllByRecursion, AllPairs, join_with_byte}
use Rattle.std.proofs.lemmas.Bool.{cases_eq, eq-eqb, ne_eqb}
use Rattle.std.proofs.lemmas.List.{length-map}
use Rattle.std.proofs.lemmas.List.Elements.{All-append, All-from_recursion, recursion_from_All}
use Rattle.number_text.specs.Numerals.{dec}
use Rattle.report_text.specs.declared.names.Name.{Name}
use Rattle.report_text.specs.declared.reports.Report.{Report}
use Rattle.report_text.specs.Certificates.{AreCertsOf, certified_names, site_of}
use Rattle.report_text.specs.Names.{IsName}
use Rattle.report_text.specs.Reports.{AreRowsAt, Ascend}
use Rattle.report_text.specs.Text.{name_text, points_text, text_of}
use Rattle.report_lines.specs.Lines.{header_text}
use Rattle.report_lines.specs.NameTexts.{IsAddressed}
use Rattle.report_lines.specs.Parts.{HasNo}
use Rattle.report_lines.specs.Terms.{IsNameText}
use Rattle.report_lines.specs.Tracks.{AreListed, track_text}
use Rattle.report_lines.proofs.Digits.{dec_has_no}
use Rattle.report_lines.proofs.NamesTold.{name_has_no, some_name}
use Rattle.report_read.specs.Drafts.{wanted_in}
use Rattle.report_read.specs.Telling.{IsTextJudged, header, lines}
use Rattle.report_read.specs.Written.{IsOfWords}
use Rattle.report_read.proofs.WholeCerts.{no_sites}
use Rattle.report_read.proofs.Left.{ending}
use Rattle.report_read.proofs.LinesThere.{joined_clean}
use Rattle.report_read.proofs.ReportsAgain.{points_run}
use Rattle.report_read.proofs.Sites.{Site, sites, sites_are}
use Rattle.report_read.proofs.Texts.{text_by_lines}

each_text : (P : List ℕ → Type 0) → ((n : Name) → IsName n → IsAddressed n → P (name_text n)) → (names : List Name)
    → AllByRecursion IsName names → AllByRecursion IsAddressed names
    → AllByRecursion P (map name_text names)
each_text P h [] allowed addressed = tt
each_text P h (n ∷ names) allowed addressed = (h n allowed.0 addressed.0, each_text P h names allowed.1 addressed.1)

header_clean : (version : ℕ) → version ≤ 2 → HasNo 10 (header_text version)
header_clean version small =
    All-append (λ b. eqb b 10 ≡ false) (codes "affine-report ") (dec version)
    (All-from_recursion (λ b. eqb b 10 ≡ false) (codes "affine-report ")
    (refl, (refl, (refl, (refl, (refl, (refl, (refl, (refl, (refl, (refl, (refl, (refl, (refl, (refl, tt)))))))))))))))
    (dec_has_no 10 version (omega arith) (omega arith))

module _ (report : Report) (words : IsOfWords report) where
  abbrev texts : List (List ℕ)
  texts = map name_text report.tracked.names

  allowed : AllByRecursion IsName report.tracked.names
  allowed = recursion_from_All IsName report.tracked.names report.tracked.allowed

  addressed : AllByRecursion IsAddressed report.tracked.names
  addressed = recursion_from_All IsAddressed report.tracked.names words.names

  has_no : (byte : ℕ) → ((n : Name) → IsName n → IsAddressed n → HasNo byte (name_text n)) → AllByRecursion (HasNo byte) texts
  has_no byte h = each_text (HasNo byte) h report.tracked.names allowed addressed

  listed : AreListed texts
  listed = record {
    some = omega (arith, length-map report.tracked.names name_text, report.tracked.some);
    few = omega (arith, length-map report.tracked.names name_text, report.tracked.few);
    names = All-from_recursion IsNameText texts
        (each_text IsNameText (λ n a b. (some_name n a, name_has_no 32 n refl (omega arith) refl refl refl refl a b)) report.tracked.names allowed addressed);
    apart = All-from_recursion (HasNo 44) texts (has_no 44 (λ n a b. name_has_no 44 n refl (omega arith) refl refl refl refl a b));
  }

  track_clean : HasNo 10 (track_text texts)
  track_clean =
      All-append (λ b. eqb b 10 ≡ false) (codes "track ") (join_with_byte 44 texts)
      (All-from_recursion (λ b. eqb b 10 ≡ false) (codes "track ") (refl, (refl, (refl, (refl, (refl, (refl, tt)))))))
      (joined_clean 44 texts refl (has_no 10 (λ n a b. name_has_no 10 n refl (omega arith) refl refl refl refl a b)))

  -- the certificates of a report are those of its points
  all_sites : (report.version ≡ 1 → report.certs ≡ [])
      → (report.version ≡ 2 → AreCertsOf report.tracked.names report.points report.certs)
      → map site_of report.certs ≡ sites (wanted_in report.version report.tracked.names) None report.points
  all_sites without certified = ⊎_elim two one (cases_eq report.version 2)
    where
      wanted : Bool → List Site
      wanted b = sites (cond b (certified_names report.tracked.names) []) None report.points

      two : report.version ≡ 2 → map site_of report.certs ≡ wanted (report.version == 2)
      two e = certified e ∙ sites_are (certified_names report.tracked.names) report.points ∙ ap wanted (sym (eq-eqb report.version 2 e))

      one : report.version ≢ 2 → map site_of report.certs ≡ wanted (report.version == 2)
      one e =
          ap (map site_of) (without (omega (arith, e, report.versions.0, report.versions.1))) ∙ sym (no_sites None report.points)
          ∙ ap wanted (sym (ne_eqb report.version 2 e))

  pub text_judged : AllPairs (λ (a : Name) b. a ≢ b) report.tracked.names → (report.version ≡ 1 → report.certs ≡ [])
      → (report.version ≡ 2 → AreCertsOf report.tracked.names report.points report.certs) → Ascend report.points
      → All (AreRowsAt report.tracked.names) report.points
      → IsTextJudged (text_of report) (Ok report)
  text_judged distinct without certified ascend rows =
      let behind = points_text report.tracked.names report.certs None report.points ++ ending in
      subst (λ (bytes : List ℕ). IsTextJudged bytes (Ok report)) (text_by_lines report report.version report.tracked refl refl)
      (header (header_text report.version) (track_text texts ++ 10 ∷ behind) report.version
      (record { text_is = refl; clean = header_clean report.version report.versions.1 }) report.versions.0 report.versions.1 refl
      (lines (track_text texts) behind texts report.tracked (record { text_is = refl; clean = track_clean }) listed refl
      (record { allowed = report.tracked.allowed; addressed = words.names; texts_are = refl })
      (points_run report words distinct (all_sites without certified) ascend rows)))
