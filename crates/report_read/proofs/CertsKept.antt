-- Certificates, one by one, are those of the procedures.
use Rattle.std.proofs.Common.{◌≡◌, ℕ, ◌+◌, ◌<◌, Bool, true, false, cond, ◌==◌, List, [], ◌∷◌, ◌++◌, All, map, take, get_or, Some, None, refl, subst, ap, ◌∙◌, arith}
use Rattle.std.specs.Prelude.{slice_get}
use Rattle.std.specs.Bool.{IsTrue}
use Rattle.std.proofs.lemmas.List.{take_more}
use Rattle.std.proofs.lemmas.List.Elements.{All-nil, All-cons, All-head, All-tail, All-get_or}
use Rattle.std.proofs.lemmas.Bool.Decides.{nat_tests}
use Rattle.std.proofs.lemmas.Option.{slice_get_within, get_or_from_slice_get}
use Rattle.rv_decode.specs.Registers.{name_of_register}
use Rattle.report_text.specs.declared.certs.ReportCert.{ReportCert}
use Rattle.report_text.specs.declared.names.Name.{Name}
use Rattle.report_text.specs.declared.names.Name.TheVariants.{Register, Slot}
use Rattle.report_text.specs.declared.points.PointRows.{PointRows}
use Rattle.report_text.specs.Names.{is_certified}
use Rattle.report_text.specs.Certificates.{certified_names, site_of}
use Rattle.report_lines.proofs.NamesTold.{one_register}
use Rattle.report_read.specs.declared.draft.Draft.{Draft}
use Rattle.report_read.specs.Drafts.{are_wanted}
use Rattle.report_read.proofs.Sites.{Site, last_of, opened, other_opened, sites_in}

-- in front of a procedure's first point all its sites are opened
pub none_before : (registers : List ℕ) (b e : ℕ) (points : List PointRows) → b < e → All (λ q. q.proc_entry < e) points
    → opened registers (last_of (Some b) points) e ≡ sites_in e registers
none_before registers b e [] less all = other_opened registers b e (λ s. omega arith)
none_before registers b e (q ∷ points) less all =
    none_before registers q.proc_entry e points (All-head (λ p. p.proc_entry < e) q points all) (All-tail (λ p. p.proc_entry < e) q points all)

pub first_opened : (registers : List ℕ) (e : ℕ) (points : List PointRows) → All (λ q. q.proc_entry < e) points
    → opened registers (last_of None points) e ≡ sites_in e registers
first_opened registers e [] all = refl
first_opened registers e (q ∷ points) all =
    none_before registers q.proc_entry e points (All-head (λ p. p.proc_entry < e) q points all) (All-tail (λ p. p.proc_entry < e) q points all)

pub register_fits : (r : ℕ) → IsTrue (is_certified r) → r < 32
register_fits r h = grind (arith, nat_tests)

pub certified_fits : (names : List Name) → All (λ r. IsTrue (is_certified r)) (certified_names names)
certified_fits [] = All-nil (λ r. IsTrue (is_certified r))
certified_fits (Slot p below ∷ names) = certified_fits names
certified_fits (Register r ∷ names) = by (certified_fits names) (is_certified r) refl
  where
    by : All (λ s. IsTrue (is_certified s)) (certified_names names) → (b : Bool) → is_certified r ≡ b
        → All (λ s. IsTrue (is_certified s)) (cond b (r ∷ certified_names names) (certified_names names))
    by later true e = All-cons (λ s. IsTrue (is_certified s)) r (certified_names names) e later
    by later false e = later

-- the register that is wanted next has no other number
pub wanted_next : (names : List Name) (count r s : ℕ) → slice_get (certified_names names) count ≡ Some r
    → IsTrue (is_certified s) → name_of_register s ≡ name_of_register r → s ≡ r
wanted_next names count r s there fits e =
    let lt = slice_get_within (certified_names names) count r there in
    let is : get_or (certified_names names) count 0 ≡ r = get_or_from_slice_get (certified_names names) count r 0 there in
    let k = All-get_or (λ x. IsTrue (is_certified x)) (certified_names names) count 0 lt (certified_fits names) in
    one_register s r (register_fits s fits) (register_fits r (subst (λ (x : ℕ). IsTrue (is_certified x)) is k)) e

pub taken_next : (registers : List ℕ) (count r : ℕ) → slice_get registers count ≡ Some r
    → take (count + 1) registers ≡ take count registers ++ r ∷ []
taken_next registers count r there =
    take_more registers count 0 (slice_get_within registers count r there)
    ∙ ap (λ (x : ℕ). take count registers ++ x ∷ []) (get_or_from_slice_get registers count r 0 there)

pub sites_more : (e r : ℕ) (registers : List ℕ) → sites_in e (registers ++ r ∷ []) ≡ sites_in e registers ++ (e, r) ∷ []
sites_more e r [] = refl
sites_more e r (s ∷ registers) = ap (λ (ss : List Site). (e, s) ∷ ss) (sites_more e r registers)

pub certs_more : (certs : List ReportCert) (cert : ReportCert)
    → map site_of (certs ++ cert ∷ []) ≡ map site_of certs ++ site_of cert ∷ []
certs_more [] cert = refl
certs_more (c ∷ certs) cert = ap (λ (ss : List Site). site_of c ∷ ss) (certs_more certs cert)

pub wanted_two : (d : Draft) → (d.version == 2) ≡ true → are_wanted d ≡ certified_names d.tracked.names
wanted_two d two = ap (λ (b : Bool). cond b (certified_names d.tracked.names) []) two
