-- What the words behind the name of the second program ask for, by one simple command, as `clap` reads it.
--
--   Check                      the file; the word for the one procedure that is asked for, if there is one; whether lines are asked
--                              for, and whether reasons are
--   flag name                  the rule of an option `--name`, which has no value and may stand once
--   check_command name         the command with FILE, --entry, --lines and --why
--   is_set app words name      the option without value stands among words that are taken
--   check_by file entry lines why
--                              this, unless both lines and reasons are asked for
--   check_of words             what the words ask for, if they are taken
--   held_check held            what the program holds
use Rattle.std.specs.Prelude.{ℕ, Bool, ◌&&◌, List, codes, if◌then◌else◌, Option, Some, None, option_map}
use Rattle.std.specs.Str.{bytes_eq}
use Rattle.clap.specs.Words.{App, Rule, new_rule, with_rule}
use Rattle.clap.specs.declared.builder.action.ArgAction.TheVariants.{SetTrue}
use Rattle.orders.specs.Orders.{file_command, optional, is_taken, given_in, value_in}
use Rattle.orders.specs.declared.Check as held

pub record Check : Type 0 where
  pub file : List ℕ
  pub entry : Option (List ℕ)
  pub lines : Bool
  pub why : Bool

abbrev pub flag : List ℕ → Rule
flag name = record (new_rule name) { long = Some name; action = Some SetTrue }

unfoldable pub check_command : List ℕ → App
check_command name =
    with_rule (with_rule (with_rule (file_command name) (optional (codes "entry"))) (flag (codes "lines"))) (flag (codes "why"))

abbrev pub is_set : App → List (List ℕ) → List ℕ → Bool
is_set app words name = bytes_eq (value_in app words name) (codes "true")

abbrev pub check_by : List ℕ → Option (List ℕ) → Bool → Bool → Option Check
check_by file entry lines why =
    if lines && why then None else Some (record { file = file; entry = entry; lines = lines; why = why })

abbrev pub check_of : List (List ℕ) → Option Check
check_of words =
    let app = check_command (codes "abi-check") in
    if is_taken app words
    then check_by (value_in app words (codes "file")) (given_in app words (codes "entry")) (is_set app words (codes "lines")) (is_set app words (codes "why"))
    else None

abbrev pub held_check : held.Check → Check
held_check check = record { file = check.file.now; entry = option_map (λ e. e.now) check.entry; lines = check.lines; why = check.why }
