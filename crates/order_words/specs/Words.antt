-- Which orders words are, for all texts in them.
--
--   valued name text       `--name=text`
--   TakesTexts file list report at row
--                          orders with these texts, where options have their values behind `=` and positions stand behind `--`
--   TextsAreTaken          so they are for all texts
--   TakesNumber text n file list report regs
--                          the same of orders with a number, whose numeral the text is
--   NumbersAreTaken        so they are for all texts and numbers
--   IsPlain text           the text doesn't begin with `-`, or is `-` alone
--   TakesPlain file list   `analyse` with these texts, as words of their own or the list behind `=`, wherever the option stands
--   PlainWordsAreTaken     so they are for all such texts
--   AreNoOrder file list more
--                          words of `analyse` that are no order: its option twice, shortened, without its value, not at all or
--                          behind `--`; no position, or one too many
--   AreUsage               so they are for all texts; nor are no words, and words of `list` that ask for help or a version or begin
--                          with `-`
use Rattle.std.specs.Prelude.{◌≡◌, ◌≢◌, ℕ, List, [], ◌∷◌, ◌++◌, codes, Some, None}
use Rattle.orders.specs.Orders.{Usage, Analyse, Certify, ListCode, CheckRun, Generate, Upgrade, Narrow, Refute, count_of, order_of}

abbrev pub valued : List ℕ → List ℕ → List ℕ
valued name text = codes "--" ++ name ++ codes "=" ++ text

pub record TakesTexts (file list report at row : List ℕ) : Type 0 where
  pub analyse : order_of (codes "analyse" ∷ valued (codes "track") list ∷ codes "--" ∷ file ∷ []) ≡ Analyse file list
  pub cert : order_of (codes "cert" ∷ valued (codes "track") list ∷ codes "--" ∷ file ∷ []) ≡ Certify file list
  pub code : order_of (codes "list" ∷ codes "--" ∷ file ∷ []) ≡ ListCode file
  pub upgrade : order_of (codes "upgrade" ∷ codes "--" ∷ file ∷ report ∷ []) ≡ Upgrade file report
  pub narrow : order_of (codes "narrow" ∷ valued (codes "track") list ∷ codes "--" ∷ file ∷ []) ≡ Narrow file list
  pub refute : order_of (codes "refute" ∷ valued (codes "track") list ∷ valued (codes "at") at ∷ valued (codes "row") row ∷ codes "--" ∷ file ∷ [])
      ≡ Refute file list at row

abbrev pub TextsAreTaken : Type 0
TextsAreTaken = (file list report at row : List ℕ) → TakesTexts file list report at row

pub record TakesNumber (text : List ℕ) (n : ℕ) (file list report regs : List ℕ) : Type 0 where
  pub generate : order_of (codes "gen" ∷ valued (codes "track") list ∷ codes "--" ∷ text ∷ []) ≡ Generate n list
  pub run : order_of (codes "run" ∷ valued (codes "steps") text ∷ codes "--" ∷ file ∷ report ∷ []) ≡ CheckRun file report n None
  pub run_from : order_of (codes "run" ∷ valued (codes "regs") regs ∷ valued (codes "steps") text ∷ codes "--" ∷ file ∷ report ∷ [])
      ≡ CheckRun file report n (Some regs)

abbrev pub NumbersAreTaken : Type 0
NumbersAreTaken = (text : List ℕ) (n : ℕ) (file list report regs : List ℕ) → count_of text ≡ Some n → TakesNumber text n file list report regs

pub data IsPlain (text : List ℕ) : Type 0 where
  empty : text ≡ [] → IsPlain text
  alone : text ≡ 45 ∷ [] → IsPlain text
  begun : (c : ℕ) (rest : List ℕ) → c ≢ 45 → text ≡ c ∷ rest → IsPlain text

pub record TakesPlain (file list : List ℕ) : Type 0 where
  pub behind : order_of (codes "analyse" ∷ file ∷ codes "--track" ∷ list ∷ []) ≡ Analyse file list
  pub before : order_of (codes "analyse" ∷ codes "--track" ∷ list ∷ file ∷ []) ≡ Analyse file list
  pub with_value : order_of (codes "analyse" ∷ file ∷ valued (codes "track") list ∷ []) ≡ Analyse file list
  pub value_first : order_of (codes "analyse" ∷ valued (codes "track") list ∷ file ∷ []) ≡ Analyse file list

abbrev pub PlainWordsAreTaken : Type 0
PlainWordsAreTaken = (file list : List ℕ) → IsPlain file → IsPlain list → TakesPlain file list

pub record AreNoOrder (file list more : List ℕ) : Type 0 where
  pub twice : order_of (codes "analyse" ∷ valued (codes "track") list ∷ valued (codes "track") more ∷ codes "--" ∷ file ∷ []) ≡ Usage
  pub shortened : order_of (codes "analyse" ∷ valued (codes "trac") list ∷ codes "--" ∷ file ∷ []) ≡ Usage
  pub no_value : order_of (codes "analyse" ∷ codes "--track" ∷ codes "--" ∷ file ∷ []) ≡ Usage
  pub no_option : order_of (codes "analyse" ∷ codes "--" ∷ file ∷ []) ≡ Usage
  pub no_position : order_of (codes "analyse" ∷ valued (codes "track") list ∷ []) ≡ Usage
  pub too_many : order_of (codes "analyse" ∷ valued (codes "track") list ∷ codes "--" ∷ file ∷ more ∷ []) ≡ Usage
  pub option_behind : order_of (codes "analyse" ∷ codes "--" ∷ file ∷ valued (codes "track") list ∷ []) ≡ Usage

pub record AreUsage : Type 0 where
  pub nothing : order_of [] ≡ Usage
  pub operands : (file list more : List ℕ) → AreNoOrder file list more
  pub short_help : order_of (codes "list" ∷ codes "-h" ∷ []) ≡ Usage
  pub long_help : order_of (codes "list" ∷ codes "--help" ∷ []) ≡ Usage
  pub short_version : order_of (codes "list" ∷ codes "-V" ∷ []) ≡ Usage
  pub long_version : order_of (codes "list" ∷ codes "--version" ∷ []) ≡ Usage
  pub flag : order_of (codes "list" ∷ codes "-x" ∷ []) ≡ Usage
  pub number : order_of (codes "list" ∷ codes "-1" ∷ []) ≡ Usage
