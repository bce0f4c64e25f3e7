-- The lines of a procedure and of its certificates are judged to tell these.
use Rattle.std.proofs.Common.{◌≡◌, ℕ, suc, ◌+◌, ◌<◌, ◌≤◌, ◌^◌, Bool, true, false, cond, add-one, drop-cons, length-drop, List, [], ◌∷◌, ◌++◌, length, map, drop, get_or, append_assoc, Some, refl, sym, subst, ap, ◌∙◌, arith}
use Rattle.std.specs.Prelude.{slice_get, ◌==◌}
use Rattle.std.specs.List.{Contains}
use Rattle.std.proofs.lemmas.List.{append-nil}
use Rattle.std.proofs.lemmas.List.Elements.{Contains-get_or}
use Rattle.std.proofs.lemmas.Option.{slice_get-get_or}
use Rattle.rv_decode.specs.Registers.{name_of_register}
use Rattle.report_text.specs.declared.certs.ReportCert.{ReportCert}
use Rattle.report_text.specs.declared.names.Tracked.{Tracked}
use Rattle.report_text.specs.declared.points.PointRows.{PointRows}
use Rattle.report_text.specs.Certificates.{certified_names, site_of}
use Rattle.report_text.specs.Text.{cert_text, certs_text, nl, proc_text}
use Rattle.report_lines.specs.Lines.{Proc, Cert, line_text}
use Rattle.report_lines.specs.Parts.{parts_of}
use Rattle.report_lines.proofs.NamesTold.{register_has_no, some_register}
use Rattle.report_read.specs.declared.draft.Draft.{Draft}
use Rattle.report_read.specs.declared.draft.Place.{Place}
use Rattle.report_read.specs.declared.draft.Place.TheVariants as places
use Rattle.report_read.specs.Drafts.{IsOrderedAt, is_allowed_at, wanted_in}
use Rattle.report_read.specs.Judging.{IsJudged}
use Rattle.report_read.specs.Telling.{Outcome}
use Rattle.report_read.proofs.CertsKept.{register_fits}
use Rattle.report_read.proofs.LinesAgain.{Closes, cert_clean, judge_line, other_next, proc_clean}
use Rattle.report_read.proofs.Sites.{Site, sites_in}

abbrev first_or : Site → List Site → Site
first_or d [] = d
first_or d (s ∷ ss) = s

sites_count : (entry : ℕ) (registers : List ℕ) → length (sites_in entry registers) ≡ length registers
sites_count entry [] = refl
sites_count entry (x ∷ registers) = ap suc (sites_count entry registers)

module _ (version : ℕ) (tracked : Tracked) (r : Outcome) (points : List PointRows) where
  abbrev pub draft : List ReportCert → Place → Draft
  draft certs place = record { version = version; tracked = tracked; certs = certs; points = points; place = place }

  -- a register that is wanted
  record IsWantedAt (n register : ℕ) : Type 0 where
    two : (version == 2) ≡ true
    there : slice_get (certified_names tracked.names) n ≡ Some register
    known : Contains (certified_names tracked.names) register

  wanted_at : (n : ℕ) → n < length (wanted_in version tracked.names)
      → IsWantedAt n (get_or (wanted_in version tracked.names) n 0)
  wanted_at n = by (version == 2) refl
    where
      by : (b : Bool) → (version == 2) ≡ b → n < length (cond b (certified_names tracked.names) [])
          → IsWantedAt n (get_or (cond b (certified_names tracked.names) []) n 0)
      by true two lt = record {
        two = two;
        there = slice_get-get_or (certified_names tracked.names) n 0 lt;
        known = Contains-get_or (certified_names tracked.names) n 0 lt;
      }
      by false two lt = absurd (omega arith)

  -- what comes behind a procedure's certificates is judged
  abbrev pub Follows : ℕ → List ReportCert → List ℕ → Type 0
  Follows entry certs text = (k count : ℕ) → length (wanted_in version tracked.names) ≤ count → IsJudged (parts_of 10 text) k (draft certs (places.Procedure entry count)) r

  cert_run : (entry n k : ℕ) (cert : ReportCert) (certs : List ReportCert) (text : List ℕ) → cert.proc_entry ≡ entry
      → IsWantedAt n cert.register
      → IsJudged (parts_of 10 text) (k + 1) (draft (certs ++ cert ∷ []) (places.Procedure entry (n + 1))) r
      → IsJudged (parts_of 10 (cert_text cert ++ text)) k (draft certs (places.Procedure entry n)) r
  cert_run entry n k cert certs text own wanted later =
      let small = register_fits cert.register cert.certified in
      let here : Draft = draft certs (places.Procedure entry n) in
      subst (λ (xs : List ℕ). IsJudged (parts_of 10 xs) k here r) (sym (append_assoc (line_text (Cert (name_of_register cert.register) cert.word)) nl text))
      (judge_line k here (draft (certs ++ cert ∷ []) (places.Procedure entry (n + 1))) (Cert (name_of_register cert.register) cert.word) text r
      (some_register cert.register small, register_has_no 32 cert.register refl small) (cert_clean cert.register cert.word small)
      (other_next k here here (draft (certs ++ cert ∷ []) (places.Procedure entry (n + 1))) (Cert (name_of_register cert.register) cert.word) refl
      (record { fine = tt; told_so = refl }) wanted.two (cert.register, wanted.known, refl) (cert.register, wanted.there, refl) (cert, own, refl, refl, refl))
      later)

  certs_run : (entry n k : ℕ) (own certs : List ReportCert) (text : List ℕ)
      → map site_of own ≡ sites_in entry (drop n (wanted_in version tracked.names))
      → Follows entry (certs ++ own) text
      → IsJudged (parts_of 10 (certs_text own ++ text)) k (draft certs (places.Procedure entry n)) r
  certs_run entry n k [] certs text are later =
      let none = ap (λ (ss : List Site). length ss) are in
      subst (λ (cs : List ReportCert). IsJudged (parts_of 10 text) k (draft cs (places.Procedure entry n)) r) (append-nil certs)
      (later k n (omega (arith, none, sites_count entry (drop n (wanted_in version tracked.names)), length-drop n (wanted_in version tracked.names))))
  certs_run entry n k (cert ∷ own) certs text are later =
      let some = ap (λ (ss : List Site). length ss) are in
      let lt : n < length (wanted_in version tracked.names) =
      omega (arith, some, sites_count entry (drop n (wanted_in version tracked.names)), length-drop n (wanted_in version tracked.names)) in
      let next : drop n (wanted_in version tracked.names) ≡ get_or (wanted_in version tracked.names) n 0 ∷ drop (n + 1) (wanted_in version tracked.names) =
      drop-cons (wanted_in version tracked.names) n 0 lt ∙ ap (λ (m : ℕ). get_or (wanted_in version tracked.names) n 0 ∷ drop m (wanted_in version tracked.names)) (sym (add-one n)) in
      let split = are ∙ ap (sites_in entry) next in
      let site = ap (λ (ss : List Site). first_or (0, 0) ss) split in
      subst (λ (xs : List ℕ). IsJudged (parts_of 10 xs) k (draft certs (places.Procedure entry n)) r) (sym (append_assoc (cert_text cert) (certs_text own) text))
      (cert_run entry n k cert certs (certs_text own ++ text) (ap (λ (s : Site). s.0) site)
      (subst (IsWantedAt n) (sym (ap (λ (s : Site). s.1) site)) (wanted_at n lt))
      (certs_run entry (n + 1) (k + 1) own (certs ++ cert ∷ []) text (ap (drop 1) split)
      (subst (λ (cs : List ReportCert). Follows entry cs text) (sym (append_assoc certs (cert ∷ []) own)) later)))

  -- a procedure's line, and those of its certificates
  pub proc_run : (place : Place) (entry k : ℕ) (d : Draft) (own certs : List ReportCert) (text : List ℕ)
      → Closes d (draft certs place) → entry < 2 ^ 64
      → is_allowed_at version place (Proc entry) ≡ true → IsOrderedAt (draft certs place) place (Proc entry)
      → map site_of own ≡ sites_in entry (wanted_in version tracked.names)
      → Follows entry (certs ++ own) text → IsJudged (parts_of 10 (proc_text entry ++ (certs_text own ++ text))) k d r
  proc_run place entry k d own certs text closes small allowed ordered are later =
      subst (λ (xs : List ℕ). IsJudged (parts_of 10 xs) k d r) (sym (append_assoc (line_text (Proc entry)) nl (certs_text own ++ text)))
      (judge_line k d (draft certs (places.Procedure entry 0)) (Proc entry) (certs_text own ++ text) r small (proc_clean entry small)
      (other_next k d (draft certs place) (draft certs (places.Procedure entry 0)) (Proc entry) refl closes allowed tt ordered refl)
      (certs_run entry 0 (k + 1) own certs text are later))
