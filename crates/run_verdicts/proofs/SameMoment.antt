-- Moments that are told the same are one.
use Rattle.std.proofs.Common.{◌≡◌, ℕ, Bool, List, Option, ap, ◌∙◌}
use Rattle.run_watch.specs.Moments.{Moment}
use Rattle.run_watch.specs.Slots.{Slots}
use Rattle.run_watch.specs.declared.places.CodeAt.{CodeAt}

pub record IsSameMoment (m n : Moment) : Type 0 where
  pub point : m.point ≡ n.point
  pub proc_entry : m.proc_entry ≡ n.proc_entry
  pub depth : m.depth ≡ n.depth
  pub entry_sp : m.entry_sp ≡ n.entry_sp
  pub entry_saved : m.entry_saved ≡ n.entry_saved
  pub relied : m.relied ≡ n.relied
  pub return_to : m.return_to ≡ n.return_to
  pub returns : m.is_return ≡ n.is_return
  pub values : m.values ≡ n.values
  pub unreached : m.unreached ≡ n.unreached
  pub rows : m.rows ≡ n.rows
  pub writable : m.writable ≡ n.writable
  pub earlier_slots : m.slots.earlier ≡ n.slots.earlier
  pub last_slots : m.slots.last ≡ n.slots.last
  pub code : m.code ≡ n.code

abbrev made : ℕ → ℕ → ℕ → ℕ → List ℕ → ℕ → Option ℕ → Bool → List ℕ → Bool → List (List ℕ) → ℕ → Slots → List CodeAt → Moment
made point owner depth sp saved relied home returns values unreached rows writable slots code = record {
  point = point;
  proc_entry = owner;
  depth = depth;
  entry_sp = sp;
  entry_saved = saved;
  relied = relied;
  return_to = home;
  is_return = returns;
  values = values;
  unreached = unreached;
  rows = rows;
  writable = writable;
  slots = slots;
  code = code;
}

pub same_moment : (m n : Moment) → IsSameMoment m n → m ≡ n
same_moment m n are =
    let slots : m.slots ≡ n.slots =
    ap (λ earlier. record { earlier = earlier; last = m.slots.last }) are.earlier_slots
    ∙ ap (λ last. record { earlier = n.slots.earlier; last = last }) are.last_slots in
    ap (λ v. made v m.proc_entry m.depth m.entry_sp m.entry_saved m.relied m.return_to m.is_return m.values m.unreached m.rows m.writable m.slots m.code) are.point
    ∙ ap (λ v. made n.point v m.depth m.entry_sp m.entry_saved m.relied m.return_to m.is_return m.values m.unreached m.rows m.writable m.slots m.code) are.proc_entry
    ∙ ap (λ v. made n.point n.proc_entry v m.entry_sp m.entry_saved m.relied m.return_to m.is_return m.values m.unreached m.rows m.writable m.slots m.code) are.depth
    ∙ ap (λ v. made n.point n.proc_entry n.depth v m.entry_saved m.relied m.return_to m.is_return m.values m.unreached m.rows m.writable m.slots m.code) are.entry_sp
    ∙ ap (λ v. made n.point n.proc_entry n.depth n.entry_sp v m.relied m.return_to m.is_return m.values m.unreached m.rows m.writable m.slots m.code) are.entry_saved
    ∙ ap (λ v. made n.point n.proc_entry n.depth n.entry_sp n.entry_saved v m.return_to m.is_return m.values m.unreached m.rows m.writable m.slots m.code) are.relied
    ∙ ap (λ v. made n.point n.proc_entry n.depth n.entry_sp n.entry_saved n.relied v m.is_return m.values m.unreached m.rows m.writable m.slots m.code) are.return_to
    ∙ ap (λ v. made n.point n.proc_entry n.depth n.entry_sp n.entry_saved n.relied n.return_to v m.values m.unreached m.rows m.writable m.slots m.code) are.returns
    ∙ ap (λ v. made n.point n.proc_entry n.depth n.entry_sp n.entry_saved n.relied n.return_to n.is_return v m.unreached m.rows m.writable m.slots m.code) are.values
    ∙ ap (λ v. made n.point n.proc_entry n.depth n.entry_sp n.entry_saved n.relied n.return_to n.is_return n.values v m.rows m.writable m.slots m.code) are.unreached
    ∙ ap (λ v. made n.point n.proc_entry n.depth n.entry_sp n.entry_saved n.relied n.return_to n.is_return n.values n.unreached v m.writable m.slots m.code) are.rows
    ∙ ap (λ v. made n.point n.proc_entry n.depth n.entry_sp n.entry_saved n.relied n.return_to n.is_return n.values n.unreached n.rows v m.slots m.code) are.writable
    ∙ ap (λ v. made n.point n.proc_entry n.depth n.entry_sp n.entry_saved n.relied n.return_to n.is_return n.values n.unreached n.rows n.writable v m.code) slots
    ∙ ap (λ v. made n.point n.proc_entry n.depth n.entry_sp n.entry_saved n.relied n.return_to n.is_return n.values n.unreached n.rows n.writable n.slots v) are.code
