-- The text of a report.
--
--   report  = one | two
--   one     = "affine-report 1" nl "track " names nl proc* "end" nl
--   two     = "affine-report 2" nl "track " names nl proc2* "end" nl
--   names   = name ("," name)*
--   name    = register | hex ":-" dec
--   proc    = "proc " hex nl point+
--   proc2   = "proc " hex nl cert* point+
--   cert    = "cert " register " " ("granted" | "broken" | "never") nl
--   point   = "at " hex nl ( "none" nl | "unreached" nl | rel+ )
--   rel     = "rel " lead (" " sign term)* (" " sign dec)? nl
--   lead    = dec "*" name
--   term    = dec "*" name
--   sign    = "+" | "-"
--
--   nl                       the end of a line
--   name_text name           a register's name, or a slot's procedure and its bytes below
--   names_text names         names with commas between them
--   further_names_text names   names, each behind a comma
--   magnitude w, sign w      a word up to 2^63 is written as itself behind `+`, a greater one as 2^64 - w behind `-`
--   term_text name w         the magnitude of a word and the name that it is a factor of
--   word_text leads name w   the term of a word that isn't 0, behind its sign unless it leads the row
--   terms_text leads names words   the terms of a row's words; leads tells whether those before them are all 0
--   constant_text w          the constant of a row behind its sign, unless it is 0
--   rel_text names row       the line of a relation; its constant stands at position 16
--   rows_text names rows     the lines of relations, or that there is none
--   state_text names state   the same of a state that is told, or that it is unreached
--   point_text names point   a point's line and what is told there
--   proc_text procedure      a procedure's line
--   opening_text before procedure   that line, unless the point before is of the same procedure
--   cert_word_text word      what is certified
--   certified_text register word   a register's name, what is certified of it, and the line's end
--   cert_text cert           the line of a certificate
--   certs_text certs         the lines of certificates
--   own_count procedure certs   how many certificates stand before the first of another procedure
--   points_text names certs before points   the points, behind one of the procedure `before`; each procedure's certificates
--                            stand in front of its first point, and certs are those of the procedures from here on
--   text_of report           the whole text
use Rattle.std.specs.Prelude.{ℕ, ◌-◌, ◌^◌, Bool, true, not, ◌&&◌, nat_le, List, [], ◌∷◌, ◌++◌, take, drop, Option, Some, None, codes, slice_index, if◌then◌else◌, ◌==◌}
use Rattle.std.specs.List.{flat_map, position_or_len}
use Rattle.number_text.specs.Numerals.{dec, hex}
use Rattle.rv_decode.specs.Registers.{name_of_register}
use Rattle.report_text.specs.declared.certs.CertWord.{CertWord}
use Rattle.report_text.specs.declared.certs.CertWord.TheVariants.{Granted, Broken, Never}
use Rattle.report_text.specs.declared.certs.ReportCert.{ReportCert}
use Rattle.report_text.specs.declared.names.Name.{Name}
use Rattle.report_text.specs.declared.names.Name.TheVariants.{Register, Slot}
use Rattle.report_text.specs.declared.points.PointRows.{PointRows}
use Rattle.report_text.specs.declared.points.PointState.{PointState}
use Rattle.report_text.specs.declared.points.PointState.TheVariants.{Unreached, Rows}
use Rattle.report_text.specs.declared.reports.Report.{Report}

abbrev pub nl : List ℕ
nl = 10 ∷ []

abbrev pub name_text : Name → List ℕ
name_text (Register r) = name_of_register r
name_text (Slot procedure below) = hex procedure ++ codes ":-" ++ dec below

-- each further name behind a comma
abbrev pub further_names_text : List Name → List ℕ
further_names_text names = flat_map (λ name. codes "," ++ name_text name) names

abbrev pub names_text : List Name → List ℕ
names_text [] = []
names_text (name ∷ names) = name_text name ++ further_names_text names

abbrev pub magnitude : ℕ → ℕ
magnitude w = if nat_le w (2 ^ 63) then w else 2 ^ 64 - w

abbrev pub sign : ℕ → List ℕ
sign w = if nat_le w (2 ^ 63) then codes "+" else codes "-"

abbrev pub term_text : Name → ℕ → List ℕ
term_text name w = dec (magnitude w) ++ codes "*" ++ name_text name

-- a word that isn't 0 has a term, behind a sign unless it leads the row
abbrev pub word_text : Bool → Name → ℕ → List ℕ
word_text leads name w = if w == 0 then [] else (if leads then [] else codes " " ++ sign w) ++ term_text name w

-- the terms of a row's words; leads tells whether the row's words before these are all 0
abbrev pub terms_text : Bool → List Name → List ℕ → List ℕ
terms_text leads [] words = []
terms_text leads (name ∷ names) [] = []
terms_text leads (name ∷ names) (w ∷ words) = word_text leads name w ++ terms_text (leads && w == 0) names words

abbrev pub constant_text : ℕ → List ℕ
constant_text w = if w == 0 then [] else codes " " ++ sign w ++ dec (magnitude w)

abbrev pub rel_text : List Name → List ℕ → List ℕ
rel_text names row = codes "rel " ++ terms_text true names row ++ constant_text (slice_index row 16) ++ nl

abbrev pub rows_text : List Name → List (List ℕ) → List ℕ
rows_text names [] = codes "none" ++ nl
rows_text names (row ∷ rows) = flat_map (rel_text names) (row ∷ rows)

abbrev pub state_text : List Name → PointState → List ℕ
state_text names Unreached = codes "unreached" ++ nl
state_text names (Rows rows) = rows_text names rows

abbrev pub point_text : List Name → PointRows → List ℕ
point_text names point = codes "at " ++ hex point.address ++ nl ++ state_text names point.state

abbrev pub proc_text : ℕ → List ℕ
proc_text procedure = codes "proc " ++ hex procedure ++ nl

-- the line of a point's procedure, unless it is that of the point before
abbrev pub opening_text : Option ℕ → ℕ → List ℕ
opening_text None procedure = proc_text procedure
opening_text (Some before) procedure = if before == procedure then [] else proc_text procedure

abbrev pub cert_word_text : CertWord → List ℕ
cert_word_text Granted = codes "granted"
cert_word_text Broken = codes "broken"
cert_word_text Never = codes "never"

abbrev pub certified_text : ℕ → CertWord → List ℕ
certified_text register word = name_of_register register ++ codes " " ++ cert_word_text word ++ nl

abbrev pub cert_text : ReportCert → List ℕ
cert_text cert = codes "cert " ++ certified_text cert.register cert.word

abbrev pub certs_text : List ReportCert → List ℕ
certs_text certs = flat_map cert_text certs

abbrev pub own_count : ℕ → List ReportCert → ℕ
own_count procedure certs = position_or_len (λ c. not (c.proc_entry == procedure)) certs

abbrev pub points_text : List Name → List ReportCert → Option ℕ → List PointRows → List ℕ
points_text names certs before [] = []
points_text names certs before (point ∷ points) =
    let own = own_count point.proc_entry certs in
    opening_text before point.proc_entry ++ certs_text (take own certs) ++ point_text names point
    ++ points_text names (drop own certs) (Some point.proc_entry) points

abbrev pub text_of : Report → List ℕ
text_of report =
    codes "affine-report " ++ dec report.version ++ nl ++ codes "track " ++ names_text report.tracked.names ++ nl
    ++ points_text report.tracked.names report.certs None report.points ++ codes "end" ++ nl
