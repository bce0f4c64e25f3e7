-- Orders, as the program holds them.
--
--   order_in held              the order that the program holds
--   given_read parse name      the value that a parse has of an argument, if it has one
--   value_read parse name      that value
--   HasValues app words parse  the command takes the words, and the parse has their values
--   IsParseOf app words parse  the parse has the values of the words, or there is none, where the command doesn't take them
use Rattle.std.specs.Prelude.{◌≡◌, ℕ, true, false, List, [], Option, Some, None, option_map, unwrap_or}
use Rattle.clap.specs.Words.{App, found_of, first_of, rows_of}
use Rattle.clap.specs.declared.parser.matches.ArgMatches.{ArgMatches}
use Rattle.orders.specs.Orders as spec
use Rattle.orders.specs.Orders.{is_taken, given_in}
use Rattle.orders.specs.declared.Order.{Order}
use Rattle.orders.specs.declared.Order.TheVariants.{Usage, Analyse, Certify, ListCode, CheckRun, Generate, Upgrade, Narrow, Refute}

abbrev pub order_in : Order → spec.Order
order_in Usage = spec.Usage
order_in (Analyse file list) = spec.Analyse file.now list.now
order_in (Certify file list) = spec.Certify file.now list.now
order_in (ListCode file) = spec.ListCode file.now
order_in (CheckRun file report steps regs) = spec.CheckRun file.now report.now steps (option_map (λ r. r.now) regs)
order_in (Generate n list) = spec.Generate n list.now
order_in (Upgrade file report) = spec.Upgrade file.now report.now
order_in (Narrow file list) = spec.Narrow file.now list.now
order_in (Refute file list at row) = spec.Refute file.now list.now at.now row.now

unfoldable pub given_read : ArgMatches → List ℕ → Option (List ℕ)
given_read parse name = first_of name (rows_of (found_of parse))

abbrev pub value_read : ArgMatches → List ℕ → List ℕ
value_read parse name = unwrap_or (given_read parse name) []

pub record HasValues (app : App) (words : List (List ℕ)) (parse : ArgMatches) : Type 0 where
  pub taken : is_taken app words ≡ true
  pub values : (name : List ℕ) → given_read parse name ≡ given_in app words name

abbrev pub IsParseOf : App → List (List ℕ) → Option ArgMatches → Type 0
IsParseOf app words None = is_taken app words ≡ false
IsParseOf app words (Some parse) = HasValues app words parse
