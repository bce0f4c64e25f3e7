-- A line of tracked names tells one list.
use Rattle.std.proofs.Common.{◌≡◌, ◌≢◌, ℕ, ◌<◌, List, [], ◌∷◌, length, map, drop, get_or, refl, sym, subst, ap, ◌∙◌, arith}
use Rattle.std.specs.List.{AllByRecursion, AllPairs}
use Rattle.std.proofs.lemmas.List.{get_or-map, length-map}
use Rattle.std.proofs.lemmas.List.Elements.{All-get_or, recursion_from_All}
use Rattle.report_text.specs.declared.names.Name.{Name}
use Rattle.report_text.specs.declared.names.Name.TheVariants.{Register}
use Rattle.report_text.specs.declared.names.Tracked.{Tracked}
use Rattle.report_text.specs.Names.{IsName}
use Rattle.report_text.specs.Text.{name_text}
use Rattle.report_lines.specs.NameTexts.{IsAddressed}
use Rattle.report_lines.specs.Parts.{HasNo, parts_of}
use Rattle.report_lines.specs.Tracks.{AreListed, AreReadNames, track_text}
use Rattle.report_lines.proofs.Cuts.{no_cut, one_cut}
use Rattle.report_lines.proofs.NamesTold.{one_name}
use Rattle.report_lines.proofs.WordsRead.{join_parts}
use Rattle.report_read.specs.Telling.{IsFirstLine}
use Rattle.report_read.proofs.OneRow.{AreApart}
use Rattle.report_read.proofs.Sets.{same_tracked}
use Rattle.report_read.proofs.OneTelling.{all_apart}

pub one_first : (text piece behind piece' behind' : List ℕ) → IsFirstLine text piece behind → IsFirstLine text piece' behind'
    → (piece ≡ piece') × (behind ≡ behind')
one_first text piece behind piece' behind' a b = one_cut 10 piece behind piece' behind' a.clean b.clean (sym a.text_is ∙ b.text_is)

pub no_first : (text piece behind : List ℕ) → HasNo 10 text → IsFirstLine text piece behind → ⊥
no_first text piece behind clean line = no_cut 10 text piece behind clean line.clean line.text_is

pub one_listed : (texts others : List (List ℕ)) → AreListed texts → AreListed others → track_text texts ≡ track_text others
    → texts ≡ others
one_listed texts others a b e =
    sym (join_parts 44 texts (omega (arith, a.some)) (recursion_from_All (HasNo 44) texts a.apart)) ∙ ap (parts_of 44) (ap (drop 6) e)
    ∙ join_parts 44 others (omega (arith, b.some)) (recursion_from_All (HasNo 44) others b.apart)

abbrev pub head_or : List ℕ → List (List ℕ) → List ℕ
head_or d [] = d
head_or d (x ∷ xs) = x

-- names are told by their texts
pub one_names : (names others : List Name) → AllByRecursion IsName names → AllByRecursion IsAddressed names
    → AllByRecursion IsName others → AllByRecursion IsAddressed others
    → map name_text names ≡ map name_text others → names ≡ others
one_names [] [] a b c d e = refl
one_names [] (m ∷ others) a b c d e = absurd (omega (arith, ap (λ (ts : List (List ℕ)). length ts) e))
one_names (n ∷ names) [] a b c d e = absurd (omega (arith, ap (λ (ts : List (List ℕ)). length ts) e))
one_names (n ∷ names) (m ∷ others) a b c d e =
    let here : n ≡ m = one_name n m a.0 b.0 c.0 d.0 (ap (head_or []) e) in
    let rest = one_names names others a.1 b.1 c.1 d.1 (ap (drop 1) e) in
    (λ i. here i ∷ rest i)

pub one_tracked : (texts others : List (List ℕ)) (a b : Tracked) → texts ≡ others → AreReadNames texts a.names
    → AreReadNames others b.names → a ≡ b
one_tracked texts others a b same p q =
    same_tracked a b (one_names a.names b.names (recursion_from_All IsName a.names p.allowed) (recursion_from_All IsAddressed a.names p.addressed)
    (recursion_from_All IsName b.names q.allowed) (recursion_from_All IsAddressed b.names q.addressed) (sym p.texts_are ∙ same ∙ q.texts_are))

-- the texts of tracked names are apart
pub texts_apart : (texts : List (List ℕ)) (tracked : Tracked) → AreReadNames texts tracked.names
    → AllPairs (λ (s : List ℕ) t. s ≢ t) texts
texts_apart texts tracked read = subst (AllPairs (λ (s : List ℕ) t. s ≢ t)) (sym read.texts_are) (by (all_apart tracked read.addressed))
  where
    by : AreApart tracked.names → AllPairs (λ (s : List ℕ) t. s ≢ t) (map name_text tracked.names)
    by apart i j d lt below e =
        let count : length (map name_text tracked.names) ≡ length tracked.names = length-map tracked.names name_text in
        let small : j < length tracked.names = omega (arith, count, below) in
        apart.distinct i j (Register 0) lt small
        (one_name (get_or tracked.names i (Register 0)) (get_or tracked.names j (Register 0)) (All-get_or IsName tracked.names i (Register 0) (omega arith) apart.allowed)
        (All-get_or IsAddressed tracked.names i (Register 0) (omega arith) apart.addressed) (All-get_or IsName tracked.names j (Register 0) small apart.allowed)
        (All-get_or IsAddressed tracked.names j (Register 0) small apart.addressed)
        (sym (get_or-map name_text tracked.names i (Register 0) d (omega arith)) ∙ e ∙ get_or-map name_text tracked.names j (Register 0) d small))
