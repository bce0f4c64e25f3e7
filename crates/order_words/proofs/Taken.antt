-- Orders whose options have their values behind `=` and whose positions stand behind `--`: what `clap` makes of them computes,
-- whatever the texts are.
use Rattle.std.proofs.Common.{◌≡◌, ℕ, List, Option, None, Some, refl, ap}
use Rattle.clap.specs.Faults.{walk_fault, defaults_fault}
use Rattle.clap.specs.Walk.{walked}
use Rattle.orders.specs.Orders.{count_of, file_command, track_command, report_command, run_command, refute_command, is_taken, given_in, generate_of, run_of}
use Rattle.order_words.specs.Words.{TakesNumber, TakesTexts}

pub texts_taken : (file list report at row : List ℕ) → TakesTexts file list report at row
unfolding file_command track_command report_command refute_command is_taken given_in walk_fault defaults_fault walked
texts_taken file list report at row = record { analyse = refl; cert = refl; code = refl; upgrade = refl; narrow = refl; refute = refl }

pub number_taken : (text : List ℕ) (n : ℕ) (file list report regs : List ℕ) → count_of text ≡ Some n → TakesNumber text n file list report regs
unfolding track_command report_command run_command is_taken given_in walk_fault defaults_fault walked
number_taken text n file list report regs is = record {
  generate = ap (λ (number : Option ℕ). generate_of number list) is;
  run = ap (λ (number : Option ℕ). run_of number file report None) is;
  run_from = ap (λ (number : Option ℕ). run_of number file report (Some regs)) is;
}
