-- Orders, as words on a command line after the program's name. The first word names the command, and `clap` reads the words behind
-- it, by one simple command for each name. What `clap` makes of words is told in its own specs: `--name value` and `--name=value`
-- both give the option its value, options may stand before, between and behind positions, and behind `--` each word is a position.
-- Values are plain text, judged by this program's own rules.
--
--   Order                  an order, one of these:
--   Usage                  words that are no order
--   Analyse file list      `analyse FILE --track LIST`
--   Certify file list      `cert FILE --track LIST`
--   ListCode file          `list FILE`
--   CheckRun file report steps regs   `run FILE REPORT --steps N`, and with `--regs R`, where regs is R
--   Generate n list        `gen N --track LIST`
--   Upgrade file report    `upgrade FILE REPORT`
--   Narrow file list       `narrow FILE --track LIST`
--   Refute file list at row   `refute FILE --track LIST --at POINT --row ROW`, where at is POINT
--   texts_of words         the bytes of each word
--   position name          the rule of a required position of this name
--   option name            the rule of a required option `--name`, which takes one value and may stand once
--   optional name          the same of one that may be left out
--   command name rules     the command of this name with these arguments, and with no flags of its own for help and version
--   bare_command name      the command of this name without arguments
--   file_command name      the command with FILE
--   track_command name over  the command with --track and this position
--   report_command name    the command with FILE and REPORT
--   run_command name       the same with --steps and --regs, of which --regs may be left out
--   refute_command name    the command with FILE, --track, --at and --row
--   has_none faults        there are no faults
--   is_taken app words     the command takes the words
--   given_in app words name  the value that an argument has in words that are taken, if it has one
--   value_in app words name  that value; a required argument has some
--   most_count             the greatest number in an order
--   is_numeral text        some digits
--   has_zeros text         a zero stands before other bytes
--   is_count text          digits without zeros in front, of a number that isn't above the greatest
--   count_of text          that number
--   when_taken app words order  the order that the values make, where the command takes the words
--   generate_of n list     the order to generate, where there is a number
--   run_of steps file report regs   the order of a run, where there is a number of steps
--   HasFewSteps order      the order makes no more steps than the greatest number
--   order_of words         the order that the words are
use Rattle.std.specs.Prelude.{ℕ, ◌≤◌, Bool, ◌&&◌, not, ◌==◌, nat_le, nat_lt, List, [], ◌∷◌, map, length, slice_index, codes, if◌then◌else◌, Option, Some, None, unwrap_or, true, false, String, string_bytes}
use Rattle.std.specs.List.{list_all}
use Rattle.std.specs.Str.{bytes_eq}
use Rattle.std.specs.Str.Parse.{digits_value}
use Rattle.std.specs.Char.{digit_value}
use Rattle.std.specs.declared.alloc.Global.{Global}
use Rattle.clap.specs.Words.{App, Kinds, Rule, fault_of, first_of, matches_of, new_app, new_rule, with_rule}
use Rattle.clap.specs.Simple.{on_top}
use Rattle.clap.specs.declared.builder.action.ArgAction.TheVariants.{Set}

pub data Order : Type 0 where
  Usage : Order
  Analyse : (file list : List ℕ) → Order
  Certify : (file list : List ℕ) → Order
  ListCode : (file : List ℕ) → Order
  CheckRun : (file report : List ℕ) (steps : ℕ) (regs : Option (List ℕ)) → Order
  Generate : (n : ℕ) (list : List ℕ) → Order
  Upgrade : (file report : List ℕ) → Order
  Narrow : (file list : List ℕ) → Order
  Refute : (file list at row : List ℕ) → Order

abbrev pub texts_of : List (String Global) → List (List ℕ)
texts_of words = map (λ w. string_bytes w) words

abbrev pub position : List ℕ → Rule
position name = record (new_rule name) { required = true; action = Some Set }

abbrev pub option : List ℕ → Rule
option name = record (new_rule name) { long = Some name; required = true; action = Some Set }

abbrev pub optional : List ℕ → Rule
optional name = record (new_rule name) { long = Some name; action = Some Set }

abbrev pub bare_command : List ℕ → App
bare_command name =
    on_top (λ top. record top { no_binary_name = true; disable_help_flag = true; disable_version_flag = true }) (new_app name)

unfoldable pub file_command : List ℕ → App
file_command name = with_rule (bare_command name) (position (codes "file"))

unfoldable pub track_command : List ℕ → List ℕ → App
track_command name over = with_rule (with_rule (bare_command name) (position over)) (option (codes "track"))

unfoldable pub report_command : List ℕ → App
report_command name = with_rule (with_rule (bare_command name) (position (codes "file"))) (position (codes "report"))

unfoldable pub run_command : List ℕ → App
run_command name = with_rule (with_rule (report_command name) (option (codes "steps"))) (optional (codes "regs"))

unfoldable pub refute_command : List ℕ → App
refute_command name = with_rule (with_rule (track_command name (codes "file")) (option (codes "at"))) (option (codes "row"))

abbrev pub has_none : Kinds → Bool
has_none [] = true
has_none (fault ∷ faults) = false

unfoldable pub is_taken : App → List (List ℕ) → Bool
is_taken app words = has_none (fault_of app words)

unfoldable pub given_in : App → List (List ℕ) → List ℕ → Option (List ℕ)
given_in app words name = first_of name (matches_of app words)

abbrev pub value_in : App → List (List ℕ) → List ℕ → List ℕ
value_in app words name = unwrap_or (given_in app words name) []

abbrev pub most_count : ℕ
most_count = 1000000000

abbrev pub is_numeral : List ℕ → Bool
is_numeral text = nat_lt 0 (length text) && list_all (λ c. nat_lt (digit_value c) 10) text

abbrev pub has_zeros : List ℕ → Bool
has_zeros text = nat_lt 1 (length text) && slice_index text 0 == 48

abbrev pub is_count : List ℕ → Bool
is_count text = is_numeral text && not (has_zeros text) && nat_le (digits_value 10 text) most_count

abbrev pub count_of : List ℕ → Option ℕ
count_of text = if is_count text then Some (digits_value 10 text) else None

abbrev pub when_taken : App → List (List ℕ) → ((List ℕ → List ℕ) → Order) → Order
when_taken app words order = if is_taken app words then order (value_in app words) else Usage

abbrev pub generate_of : Option ℕ → List ℕ → Order
generate_of None list = Usage
generate_of (Some n) list = Generate n list

abbrev pub run_of : Option ℕ → List ℕ → List ℕ → Option (List ℕ) → Order
run_of None file report regs = Usage
run_of (Some steps) file report regs = CheckRun file report steps regs

abbrev pub order_of : List (List ℕ) → Order
order_of [] = Usage
order_of (command ∷ words) =
    if bytes_eq command (codes "analyse")
    then when_taken (track_command command (codes "file")) words (λ value. Analyse (value (codes "file")) (value (codes "track")))
    else if bytes_eq command (codes "cert")
    then when_taken (track_command command (codes "file")) words (λ value. Certify (value (codes "file")) (value (codes "track")))
    else if bytes_eq command (codes "list") then when_taken (file_command command) words (λ value. ListCode (value (codes "file")))
    else if bytes_eq command (codes "gen")
    then when_taken (track_command command (codes "n")) words (λ value. generate_of (count_of (value (codes "n"))) (value (codes "track")))
    else if bytes_eq command (codes "run")
    then when_taken (run_command command) words (λ value. run_of (count_of (value (codes "steps"))) (value (codes "file")) (value (codes "report"))
    (given_in (run_command command) words (codes "regs")))
    else if bytes_eq command (codes "upgrade")
    then when_taken (report_command command) words (λ value. Upgrade (value (codes "file")) (value (codes "report")))
    else if bytes_eq command (codes "narrow")
    then when_taken (track_command command (codes "file")) words (λ value. Narrow (value (codes "file")) (value (codes "track")))
    else if bytes_eq command (codes "refute")
    then when_taken (refute_command command) words (λ value. Refute (value (codes "file")) (value (codes "track")) (value (codes "at")) (value (codes "row")))
    else Usage

abbrev pub HasFewSteps : Order → Type 0
HasFewSteps (CheckRun file report steps regs) = steps ≤ most_count
HasFewSteps order = Unit {0}
