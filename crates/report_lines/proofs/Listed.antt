-- Texts between commas, one text more.
use Rattle.std.proofs.Common.{◌≡◌, ◌≢◌, ℕ, ◌+◌, ◌<◌, ◌≤◌, ◌↔◌, List, [], ◌∷◌, ◌++◌, All, codes, drop, length, map, get_or, refl, sym, subst, ap, ◌∙◌, arith}
use Rattle.std.specs.Prelude.{Ok, Err}
use Rattle.std.specs.List.{AllPairs, join_with_byte}
use Rattle.std.proofs.lemmas.List.Splits.{join_with_byte-slice_split}
use Rattle.std.proofs.lemmas.List.{get_or-map, length-map}
use Rattle.std.proofs.lemmas.List.Elements.{All-head, All-tail, All-cons, All-nil, All-push, All-map, recursion_from_All}
use Rattle.report_text.specs.declared.names.Name.{Name}
use Rattle.report_text.specs.Names.{IsName}
use Rattle.report_text.specs.Text.{name_text}
use Rattle.report_lines.specs.Parts.{HasNo, parts_of}
use Rattle.report_lines.specs.NameTexts.{IsAddressed}
use Rattle.report_lines.specs.Terms.{IsNameText}
use Rattle.report_lines.specs.declared.faults.TrackFault.{TrackFault}
use Rattle.report_lines.specs.declared.faults.TrackFault.TheVariants as faults
use Rattle.report_lines.specs.Tracks.{AreListed, AreReadNames, IsNamed, IsNamePushed, IsNamesReading, IsTrackReading, track_text}
use Rattle.report_lines.proofs.Cuts.{one_part, parts_cut, some_part}
use Rattle.report_lines.proofs.WordsRead.{join_parts}

-- what is left to be such a list, behind count - 1 texts
pub record IsListedFrom (count : ℕ) (texts : List (List ℕ)) : Type 0 where
  pub few : count + length texts ≤ 17
  pub names : All IsNameText texts
  pub apart : All (HasNo 44) texts

pub from_first : (list : List ℕ) → AreListed (parts_of 44 list) ↔ IsListedFrom 1 (parts_of 44 list)
from_first list = (
  λ h. record { few = omega (arith, h.few); names = h.names; apart = h.apart },
  λ h. record { some = some_part 44 list; few = omega (arith, h.few); names = h.names; apart = h.apart },
)

pub from_next : (rest text behind : List ℕ) (count : ℕ) → (rest ≡ text ++ 44 ∷ behind) × HasNo 44 text
    → IsListedFrom count (parts_of 44 rest) ↔ ((count < 16) × IsNameText text × IsListedFrom (count + 1) (parts_of 44 behind))
from_next rest text behind count cut =
    subst (λ (ps : List (List ℕ)). IsListedFrom count ps ↔ ((count < 16) × IsNameText text × IsListedFrom (count + 1) (parts_of 44 behind)))
    (sym (ap (parts_of 44) cut.0 ∙ parts_cut 44 text behind cut.1)) (
      λ h. (
        omega (arith, h.few, some_part 44 behind),
        All-head IsNameText text (parts_of 44 behind) h.names,
        record { few = omega (arith, h.few); names = All-tail IsNameText text (parts_of 44 behind) h.names; apart = All-tail (HasNo 44) text (parts_of 44 behind) h.apart },
      ),
      λ h. record { few = omega (arith, h.2.few); names = All-cons IsNameText text (parts_of 44 behind) h.1 h.2.names; apart = All-cons (HasNo 44) text (parts_of 44 behind) cut.1 h.2.apart },
    )

pub from_last : (rest : List ℕ) (count : ℕ) → count ≤ 16 → HasNo 44 rest → IsListedFrom count (parts_of 44 rest) ↔ IsNameText rest
from_last rest count few clean =
    subst (λ (ps : List (List ℕ)). IsListedFrom count ps ↔ IsNameText rest) (sym (one_part 44 rest clean)) (
      λ h. All-head IsNameText rest [] h.names,
      λ h. record { few = omega arith; names = All-cons IsNameText rest [] h (All-nil IsNameText); apart = All-cons (HasNo 44) rest [] clean (All-nil (HasNo 44)) },
    )

-- names read, one more
pub names_more : (texts : List (List ℕ)) (names : List Name) (text : List ℕ) (name : Name) → AreReadNames texts names → IsName name → IsAddressed name → text ≡ name_text name
    → AreReadNames (texts ++ text ∷ []) (names ++ name ∷ [])
names_more texts names text name read allowed addressed is = record {
  allowed = All-push IsName names name read.allowed allowed;
  addressed = All-push IsAddressed names name read.addressed addressed;
  texts_are = (λ i. read.texts_are i ++ is i ∷ []) ∙ by names;
} where
  by : (ns : List Name) → map name_text ns ++ name_text name ∷ [] ≡ map name_text (ns ++ name ∷ [])
  by [] = refl
  by (n ∷ ns) = ap (λ (xs : List (List ℕ)). name_text n ∷ xs) (by ns)

pub not_named : (front : List (List ℕ)) (text : List ℕ) (behind : List (List ℕ)) → (IsNamed text → ⊥) → All IsNamed (front ++ text ∷ behind) → ⊥
not_named [] text behind none all = none (All-head IsNamed text behind all)
not_named (t ∷ front) text behind none all = not_named front text behind none (All-tail IsNamed t (front ++ text ∷ behind) all)

-- texts that are apart are those of names that are apart
pub names_apart : (names : List Name) → AllPairs (λ (s : List ℕ) t. s ≢ t) (map name_text names) → AllPairs (λ (a : Name) b. a ≢ b) names
names_apart names apart i j d lt below e =
    let wide = length-map names name_text in
    apart i j (name_text d) lt (omega arith)
    (get_or-map name_text names i d (name_text d) (omega arith) ∙ ap name_text e ∙ sym (get_or-map name_text names j d (name_text d) below))

pub all_named : (texts : List (List ℕ)) (names : List Name) → AreReadNames texts names → All IsNamed texts
all_named texts names read =
    subst (All IsNamed) (sym read.texts_are)
    (All-map IsNamed name_text names (λ k d lt. (get_or names k d, read.allowed k d lt, read.addressed k d lt, refl)))

-- a line's texts are those between its commas
pub listed_parts : (texts : List (List ℕ)) → AreListed texts → parts_of 44 (join_with_byte 44 texts) ≡ texts
listed_parts texts h = join_parts 44 texts (omega (arith, h.some)) (recursion_from_All (HasNo 44) texts h.apart)

pub not_listed : (piece list : List ℕ) → piece ≡ codes "track " ++ list → (AreListed (parts_of 44 list) → ⊥) → (texts : List (List ℕ)) → AreListed texts → piece ≢ track_text texts
not_listed piece list is none texts h e =
    let same : list ≡ join_with_byte 44 texts = ap (drop 6) (sym is ∙ e) in
    none (subst AreListed (sym (listed_parts texts h) ∙ ap (parts_of 44) (sym same)) h)

pub listed_text : (piece list : List ℕ) → piece ≡ codes "track " ++ list → piece ≡ track_text (parts_of 44 list)
listed_text piece list is = is ∙ ap (λ (xs : List ℕ). codes "track " ++ xs) (sym (join_with_byte-slice_split 44 list))

-- where the texts are listed, what reading the names gives is what reading the line gives
pub names_refused : (piece : List ℕ) (texts : List (List ℕ)) (fault : TrackFault) → AreListed texts → piece ≡ track_text texts → IsNamesReading texts (Err fault) → IsTrackReading piece (Err fault)
names_refused piece texts faults.UnknownName listed is read = (texts, listed, is, read)
names_refused piece texts faults.Memory listed is read = tt
names_refused piece texts faults.Syntax listed is read = absurd read
names_refused piece texts faults.Order listed is read = absurd read

-- what pushing a name gives is what reading the names gives
pub push_refused : (texts front : List (List ℕ)) (text : List ℕ) (behind : List (List ℕ)) (old new : List Name) (fault : TrackFault) → texts ≡ front ++ text ∷ behind → IsNamePushed text old new (Err fault) → IsNamesReading texts (Err fault)
push_refused texts front text behind old new faults.UnknownName is none = λ all. not_named front text behind none (subst (All IsNamed) is all)
push_refused texts front text behind old new faults.Memory is none = tt
push_refused texts front text behind old new faults.Syntax is none = absurd none
push_refused texts front text behind old new faults.Order is none = absurd none

pub pushed : (front : List (List ℕ)) (text : List ℕ) (old new : List Name) (done : Unit {0}) → AreReadNames front old → IsNamePushed text old new (Ok done) → AreReadNames (front ++ text ∷ []) new
pushed front text old new done read p =
    subst (AreReadNames (front ++ text ∷ [])) (sym p.4) (names_more front old text p.0 read p.1 p.2 p.3)
