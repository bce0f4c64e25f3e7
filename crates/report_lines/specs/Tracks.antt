-- The line of the tracked names.
--
--   IsListed text              a text between commas: it isn't empty, and has no space and no comma
--   AreListed texts            1 to 16 such texts
--   track_text texts           the line with these texts
--   IsNamed text               the text is a name's
--   AreReadNames texts names   the names have these texts
--   IsTrackReading piece r     r has the names that the line tells; or it is no such line, some text is no name's, or all are,
--                              and one comes twice; want of memory is free
--   IsNamesReading texts r     r has the names with these texts, or some text is no name's; want of memory is free
--   IsNamePushed text old new r   new has the text's name behind old, or it is no name's
use Rattle.std.specs.Prelude.{◌≡◌, ◌≢◌, ℕ, ◌≤◌, List, [], ◌∷◌, ◌++◌, length, map, All, AllPairs, codes, Result, Ok, Err}
use Rattle.std.specs.List.{join_with_byte}
use Rattle.report_text.specs.declared.names.Name.{Name}
use Rattle.report_text.specs.declared.names.Tracked.{Tracked}
use Rattle.report_text.specs.Names.{IsName}
use Rattle.report_text.specs.Text.{name_text}
use Rattle.report_lines.specs.declared.faults.TrackFault.{TrackFault}
use Rattle.report_lines.specs.declared.faults.TrackFault.TheVariants as faults
use Rattle.report_lines.specs.Parts.{HasNo}
use Rattle.report_lines.specs.NameTexts.{IsAddressed}
use Rattle.report_lines.specs.Terms.{IsNameText}

pub record AreListed (texts : List (List ℕ)) : Type 0 where
  pub some : 1 ≤ length texts
  pub few : length texts ≤ 16
  pub names : All IsNameText texts
  pub apart : All (HasNo 44) texts

abbrev pub track_text : List (List ℕ) → List ℕ
track_text texts = codes "track " ++ join_with_byte 44 texts

abbrev pub IsNamed : List ℕ → Type 0
IsNamed text = (name : Name) × IsName name × IsAddressed name × (text ≡ name_text name)

pub record AreReadNames (texts : List (List ℕ)) (names : List Name) : Type 0 where
  pub allowed : All IsName names
  pub addressed : All IsAddressed names
  pub texts_are : texts ≡ map name_text names

abbrev pub IsTrackReading : List ℕ → Result Tracked TrackFault → Type 0
IsTrackReading piece (Ok tracked) =
    (texts : List (List ℕ)) × AreListed texts × (piece ≡ track_text texts) × AreReadNames texts tracked.names
IsTrackReading piece (Err faults.Syntax) = (texts : List (List ℕ)) → AreListed texts → piece ≢ track_text texts
IsTrackReading piece (Err faults.UnknownName) =
    (texts : List (List ℕ)) × AreListed texts × (piece ≡ track_text texts) × (All IsNamed texts → ⊥)
IsTrackReading piece (Err faults.Order) =
    (texts : List (List ℕ)) × AreListed texts × (piece ≡ track_text texts) × All IsNamed texts × (AllPairs (λ s t. s ≢ t) texts → ⊥)
IsTrackReading piece (Err faults.Memory) = Unit {0}

abbrev pub IsNamesReading : List (List ℕ) → Result (List Name) TrackFault → Type 0
IsNamesReading texts (Ok names) = AreReadNames texts names
IsNamesReading texts (Err faults.UnknownName) = All IsNamed texts → ⊥
IsNamesReading texts (Err faults.Memory) = Unit {0}
IsNamesReading texts (Err faults.Syntax) = ⊥
IsNamesReading texts (Err faults.Order) = ⊥

abbrev pub IsNamePushed : List ℕ → List Name → List Name → Result (Unit {0}) TrackFault → Type 0
IsNamePushed text old new (Ok done) = (name : Name) × IsName name × IsAddressed name × (text ≡ name_text name) × (new ≡ old ++ name ∷ [])
IsNamePushed text old new (Err faults.UnknownName) = IsNamed text → ⊥
IsNamePushed text old new (Err faults.Memory) = Unit {0}
IsNamePushed text old new (Err faults.Syntax) = ⊥
IsNamePushed text old new (Err faults.Order) = ⊥
