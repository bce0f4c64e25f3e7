-- Words that are no order.
use Rattle.std.proofs.Common.{ℕ, List, refl}
use Rattle.std.specs.Char.{encode_utf8}
use Rattle.std.specs.Str.{chars}
use Rattle.clap.specs.Faults.{walk_fault, defaults_fault, flags_fault}
use Rattle.clap.specs.Walk.{walked, bundle_met}
use Rattle.orders.specs.Orders.{file_command, track_command, is_taken, given_in}
use Rattle.order_words.specs.Words.{AreNoOrder, AreUsage}

pub no_order : (file list more : List ℕ) → AreNoOrder file list more
unfolding track_command is_taken given_in walk_fault defaults_fault walked
no_order file list more = record {
  twice = refl;
  shortened = refl;
  no_value = refl;
  no_option = refl;
  no_position = refl;
  too_many = refl;
  option_behind = refl;
}

pub usages : AreUsage
unfolding file_command is_taken given_in walk_fault defaults_fault walked flags_fault bundle_met chars encode_utf8
usages = record {
  nothing = refl;
  operands = no_order;
  short_help = refl;
  long_help = refl;
  short_version = refl;
  long_version = refl;
  flag = refl;
  number = refl;
}
