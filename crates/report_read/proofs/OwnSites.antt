-- The certificates of one procedure stand in front of later ones.
use Rattle.std.proofs.Common.{◌≡◌, ◌≢◌, ℕ, ◌+◌, ◌<◌, ◌≤◌, Bool, cond, List, [], ◌∷◌, ◌++◌, length, map, take, drop, Some, refl, sym, subst, ap, ◌∙◌, arith, ⊎_elim}
use Rattle.std.specs.Prelude.{not}
use Rattle.std.specs.List.{AllByRecursion}
use Rattle.std.proofs.lemmas.Bool.{cases_eq, eq-eqb, ne_eqb}
use Rattle.std.proofs.lemmas.List.{take-map, drop-map}
use Rattle.std.proofs.Math.Seq.{take-append_seam, drop-append_seam}
use Rattle.report_text.specs.declared.points.PointRows.{PointRows}
use Rattle.report_text.specs.declared.certs.ReportCert.{ReportCert}
use Rattle.report_text.specs.Certificates.{site_of}
use Rattle.report_text.specs.Text.{own_count}
use Rattle.report_read.proofs.Sites.{Site, sites_in, sites, same_opened, other_opened}

-- points whose procedures don't fall, from the procedure b on
abbrev pub FollowFrom : ℕ → List PointRows → Type 0
FollowFrom b [] = Unit {0}
FollowFrom b (point ∷ points) = (b ≤ point.proc_entry) × FollowFrom point.proc_entry points

pub both : (P : Site → Type 0) (xs ys : List Site) → AllByRecursion P xs → AllByRecursion P ys → AllByRecursion P (xs ++ ys)
both P [] ys p q = q
both P (x ∷ xs) ys p q = (p.0, both P xs ys p.1 q)

pub weaker : (P Q : Site → Type 0) → ((s : Site) → P s → Q s) → (xs : List Site) → AllByRecursion P xs → AllByRecursion Q xs
weaker P Q h [] p = tt
weaker P Q h (x ∷ xs) p = (h x p.0, weaker P Q h xs p.1)

pub in_procedure : (p : ℕ) (P : Site → Type 0) (registers : List ℕ) → ((r : ℕ) → P (p, r))
    → AllByRecursion P (sites_in p registers)
in_procedure p P [] h = tt
in_procedure p P (r ∷ registers) h = (h r, in_procedure p P registers h)

-- later sites are of later procedures
pub sites_beyond : (registers : List ℕ) (b : ℕ) (points : List PointRows) → FollowFrom b points
    → AllByRecursion (λ s. b < s.0) (sites registers (Some b) points)
sites_beyond registers b [] h = tt
sites_beyond registers b (q ∷ points) h = ⊎_elim (same (sites_beyond registers q.proc_entry points h.1)) (other (sites_beyond registers q.proc_entry points h.1)) (cases_eq b q.proc_entry)
  where
    same : AllByRecursion (λ s. q.proc_entry < s.0) (sites registers (Some q.proc_entry) points) → b ≡ q.proc_entry
        → AllByRecursion (λ s. b < s.0) (sites registers (Some b) (q ∷ points))
    same later e =
        subst (λ (ss : List Site). AllByRecursion (λ s. b < s.0) (ss ++ sites registers (Some q.proc_entry) points)) (sym (same_opened registers b q.proc_entry e))
        (weaker (λ s. q.proc_entry < s.0) (λ s. b < s.0) (λ s l. omega arith) (sites registers (Some q.proc_entry) points) later)

    other : AllByRecursion (λ s. q.proc_entry < s.0) (sites registers (Some q.proc_entry) points) → b ≢ q.proc_entry
        → AllByRecursion (λ s. b < s.0) (sites registers (Some b) (q ∷ points))
    other later apart =
        let less : b < q.proc_entry = omega (arith, h.0, apart) in
        subst (λ (ss : List Site). AllByRecursion (λ s. b < s.0) (ss ++ sites registers (Some q.proc_entry) points)) (sym (other_opened registers b q.proc_entry apart))
        (both (λ s. b < s.0) (sites_in q.proc_entry registers) (sites registers (Some q.proc_entry) points)
        (in_procedure q.proc_entry (λ s. b < s.0) registers (λ r. less))
        (weaker (λ s. q.proc_entry < s.0) (λ s. b < s.0) (λ s l. omega arith) (sites registers (Some q.proc_entry) points) later))

abbrev pub first_of : List Site → ℕ
first_of [] = 0
first_of (s ∷ ss) = s.0

-- the certificates of procedure p stand in front
pub own_first : (p : ℕ) (certs : List ReportCert) (mine rest : List Site) → map site_of certs ≡ mine ++ rest
    → AllByRecursion (λ s. s.0 ≡ p) mine → AllByRecursion (λ s. p < s.0) rest → own_count p certs ≡ length mine
own_first p [] [] rest e own later = refl
own_first p [] (s ∷ mine) rest e own later = absurd (omega (arith, ap (λ (ss : List Site). length ss) e))
own_first p (c ∷ certs) [] [] e own later = absurd (omega (arith, ap (λ (ss : List Site). length ss) e))
own_first p (c ∷ certs) [] (s ∷ rest) e own later =
    let same : c.proc_entry ≡ s.0 = ap (λ (ss : List Site). first_of ss) e in
    ap (λ (t : Bool). cond (not (not t)) (1 + own_count p certs) 0) (ne_eqb c.proc_entry p (λ h. omega (arith, later.0)))
own_first p (c ∷ certs) (s ∷ mine) rest e own later =
    let same : c.proc_entry ≡ s.0 = ap (λ (ss : List Site). first_of ss) e in
    ap (λ (t : Bool). cond (not (not t)) (1 + own_count p certs) 0) (eq-eqb c.proc_entry p (same ∙ own.0))
    ∙ let n = own_first p certs mine rest (ap (drop 1) e) own.1 later in omega (arith, n)

pub map_take : (n : ℕ) (certs : List ReportCert) → map site_of (take n certs) ≡ take n (map site_of certs)
map_take n certs = sym (take-map site_of n certs)

pub map_drop : (n : ℕ) (certs : List ReportCert) → map site_of (drop n certs) ≡ drop n (map site_of certs)
map_drop n certs = sym (drop-map site_of n certs)

pub own_taken : (certs : List ReportCert) (mine rest : List Site) → map site_of certs ≡ mine ++ rest
    → map site_of (take (length mine) certs) ≡ mine
own_taken certs mine rest e = map_take (length mine) certs ∙ ap (take (length mine)) e ∙ take-append_seam mine rest

pub own_dropped : (certs : List ReportCert) (mine rest : List Site) → map site_of certs ≡ mine ++ rest
    → map site_of (drop (length mine) certs) ≡ rest
own_dropped certs mine rest e = map_drop (length mine) certs ∙ ap (drop (length mine)) e ∙ drop-append_seam mine rest
