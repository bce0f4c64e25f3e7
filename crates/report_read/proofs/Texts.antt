-- What is judged to be a report is its whole text.
use Rattle.std.proofs.Common.{◌≡◌, ℕ, List, [], ◌∷◌, ◌++◌, map, codes, append_assoc, None, Ok, Err, refl, sym, ap, ◌∙◌, rules}
use Rattle.std.specs.Prelude.{IfOk}
use Rattle.std.specs.List.{join_with_byte}
use Rattle.std.proofs.lemmas.List.{append-nil}
use Rattle.std.proofs.lemmas.List.Splits.{join_with_byte-slice_split}
use Rattle.number_text.specs.Numerals.{dec}
use Rattle.report_text.specs.declared.names.Name.{Name}
use Rattle.report_text.specs.declared.names.Tracked.{Tracked}
use Rattle.report_text.specs.declared.reports.Report.{Report}
use Rattle.report_text.specs.Text.{name_text, names_text, nl, points_text, text_of}
use Rattle.report_lines.specs.Lines.{header_text}
use Rattle.report_lines.specs.Parts.{parts_of}
use Rattle.report_lines.specs.Tracks.{track_text}
use Rattle.refusals.specs.declared.report.ReportRefusal.{ReportRefusal}
use Rattle.refusals.specs.declared.report.ReportRefusal.TheVariants as refusals
use Rattle.report_read.specs.Telling.{begun, IsTextJudged, IsTextTold, IsTrackJudged, Outcome, header, lines, missing, no_header, no_names, repeated, unknown}
use Rattle.report_read.proofs.Found.{found}
use Rattle.report_read.proofs.Reaching.{Reaches}
use Rattle.report_read.proofs.Left.{ending}

names_joined : (name : Name) (names : List Name) → names_text (name ∷ names) ≡ join_with_byte 44 (map name_text (name ∷ names))
names_joined name [] = append-nil (name_text name)
names_joined name (next ∷ names) = ap (λ (xs : List ℕ). name_text name ++ 44 ∷ xs) (names_joined next names)

pub all_joined : (names : List Name) → names_text names ≡ join_with_byte 44 (map name_text names)
all_joined [] = refl
all_joined (name ∷ names) = names_joined name names

pub regrouped : (a d t n p e : List ℕ)
    → (a ++ d) ++ 10 ∷ ((t ++ n) ++ 10 ∷ (p ++ (e ++ nl))) ≡ (((((((a ++ d) ++ nl) ++ t) ++ n) ++ nl) ++ p) ++ e) ++ nl
regrouped a d t n p e =
    sym (append_assoc (a ++ d) nl ((t ++ n) ++ 10 ∷ (p ++ (e ++ nl))))
    ∙ sym (append_assoc ((a ++ d) ++ nl) (t ++ n) (10 ∷ (p ++ (e ++ nl))))
    ∙ ap (λ (xs : List ℕ). xs ++ 10 ∷ (p ++ (e ++ nl))) (sym (append_assoc ((a ++ d) ++ nl) t n))
    ∙ sym (append_assoc ((((a ++ d) ++ nl) ++ t) ++ n) nl (p ++ (e ++ nl)))
    ∙ sym (append_assoc (((((a ++ d) ++ nl) ++ t) ++ n) ++ nl) p (e ++ nl))
    ∙ sym (append_assoc ((((((a ++ d) ++ nl) ++ t) ++ n) ++ nl) ++ p) e nl)

abbrev okay : Report → Outcome
okay report = Ok report

abbrev wrong : ReportRefusal → Outcome
wrong refusal = Err refusal

-- a report's text, by its lines
pub text_by_lines : (report : Report) (version : ℕ) (tracked : Tracked) → report.version ≡ version → report.tracked ≡ tracked
    → header_text version ++ 10 ∷ (track_text (map name_text tracked.names) ++ 10 ∷ (points_text tracked.names report.certs None report.points ++ ending)) ≡ text_of report
text_by_lines report version tracked v t =
    (λ i. header_text (sym v i) ++ 10 ∷ ((codes "track " ++ sym (all_joined (sym t i).names) i) ++ 10 ∷ (points_text (sym t i).names report.certs None report.points ++ ending)))
    ∙ regrouped (codes "affine-report ") (dec report.version) (codes "track ") (names_text report.tracked.names)
    (points_text report.tracked.names report.certs None report.points) (codes "end")

track_found : (version : ℕ) (text : List ℕ) (report : Report) → IsTrackJudged version text (Ok report)
    → header_text version ++ 10 ∷ text ≡ text_of report
track_found version text report (missing clean e) = let f : okay report ≡ wrong (refusals.Syntax 2) = e in absurd cc
track_found version text report (no_names piece behind line none e) = let f : okay report ≡ wrong (refusals.Syntax 2) = e in absurd cc
track_found version text report (unknown piece behind texts line listed is no_name e) = let f : okay report ≡ wrong (refusals.UnknownName 2) = e in absurd cc
track_found version text report (repeated piece behind texts line listed is named twice e) = let f : okay report ≡ wrong (refusals.Order 2) = e in absurd cc
track_found version text report (lines piece behind texts tracked line listed is read judged) =
    let r : Reaches (begun version tracked) report (join_with_byte 10 (parts_of 10 behind)) = found (parts_of 10 behind) 3 (begun version tracked) report judged in
    ap (λ (xs : List ℕ). header_text version ++ 10 ∷ xs) line.text_is
    ∙ (λ i. header_text version ++ 10 ∷ ((is ∙ ap track_text read.texts_are) i ++ 10 ∷ (sym (join_with_byte-slice_split 10 behind) ∙ r.left.text_is) i))
    ∙ (λ i. header_text version ++ 10 ∷ (track_text (map name_text tracked.names) ++ 10 ∷ (points_text tracked.names (sym r.certs_are i) None (sym r.points_are i) ++ ending)))
    ∙ text_by_lines report version tracked r.version_is r.tracked_is

pub text_found : (bytes : List ℕ) (report : Report) → IsTextJudged bytes (Ok report) → bytes ≡ text_of report
text_found bytes report (missing clean e) = let f : okay report ≡ wrong (refusals.Syntax 1) = e in absurd cc
text_found bytes report (no_header piece behind line none e) = let f : okay report ≡ wrong (refusals.Syntax 1) = e in absurd cc
text_found bytes report (header piece behind version line low high is judged) =
    line.text_is ∙ ap (λ (xs : List ℕ). xs ++ 10 ∷ behind) is ∙ track_found version behind report judged

-- what is told to be a report
pub told_found : (bytes : List ℕ) (r : Outcome) → IsTextTold bytes r → IfOk r (λ report. bytes ≡ text_of report)
told_found bytes (Ok report) told = text_found bytes report told
told_found bytes (Err refusal) told = search rules
