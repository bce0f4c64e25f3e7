-- What watches see of a moment.
--
--   Moment        the moment before a step, as WatchCtx tells it
--   slots_by names earlier last   the live slots of these activations
--   slots_in s    the live slots, by depth
--   moment_of c   the moment that a context tells
use Rattle.std.specs.Prelude.{ℕ, ◌+◌, Bool, List, length, Option}
use Rattle.run_watch.specs.Slots.{Slots}
use Rattle.run_watch.specs.Activations.{slots_of, slots_from}
use Rattle.report_text.specs.declared.names.Name.{Name}
use Rattle.run_watch.specs.declared.activation.Activation.{Activation}
use Rattle.run_watch.specs.declared.context.LiveSlots.{LiveSlots}
use Rattle.run_watch.specs.declared.context.WatchCtx.{WatchCtx}
use Rattle.run_watch.specs.declared.places.CodeAt.{CodeAt}

pub record Moment : Type 0 where
  pub point : ℕ
  pub proc_entry : ℕ
  pub depth : ℕ
  pub entry_sp : ℕ
  pub entry_saved : List ℕ
  pub relied : ℕ
  pub return_to : Option ℕ
  pub is_return : Bool
  pub values : List ℕ
  pub unreached : Bool
  pub rows : List (List ℕ)
  pub writable : ℕ
  pub slots : Slots
  pub code : List CodeAt

abbrev pub slots_by : List Name → List Activation → Activation → Slots
slots_by names earlier last = record {
  earlier = slots_from names 1 earlier;
  last = slots_of names (length earlier + 1) last;
}

abbrev pub slots_in : LiveSlots → Slots
slots_in s = slots_by s.names.now s.earlier.now s.last.now

abbrev pub moment_of : WatchCtx → Moment
moment_of c = record {
  point = c.point;
  proc_entry = c.proc_entry;
  depth = c.depth;
  entry_sp = c.entry_sp;
  entry_saved = c.entry_saved;
  relied = c.relied;
  return_to = c.return_to;
  is_return = c.is_return;
  values = c.values;
  unreached = c.unreached;
  rows = c.rows.now;
  writable = c.writable;
  slots = slots_by c.names.now c.earlier.now c.last.now;
  code = c.code.now;
}
