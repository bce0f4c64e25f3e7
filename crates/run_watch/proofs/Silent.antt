-- Steps in whose records no kind of watch finds anything.
--
--   moment_at scene a i c values writable   the moment of a run at a point
--   told_of m n at instr   the record of the step from m to n by the instruction that is fetched
use Rattle.std.proofs.Common.{◌≡◌, ◌≢◌, ℕ, ◌+◌, ◌-◌, ◌^◌, ◌<◌, ◌≤◌, min, Bool, true, false, ◌&&◌, not, List, [], ◌∷◌, ◌++◌, append_assoc, length, find, option_map, Option, None, Some, pos, ◌+ℤ◌, IfSome, refl, sym, subst, ap, ◌∙◌, arith}
use Rattle.std.specs.Prelude.{if◌then◌else◌}
use Rattle.elf_image.specs.declared.fetched.Fetched.{Fetched}
use Rattle.rv_instr.specs.declared.Instr.{Instr}
use Rattle.rv_instr.specs.declared.Instr.TheVariants.{Store}
use Rattle.rv_step.specs.Words.{word}
use Rattle.rv_step.specs.Harts.{Hart, x}
use Rattle.rv_step.specs.Machines.{hart_of, made_of}
use Rattle.rv_step.specs.Own.{IsOwn}
use Rattle.rv_step.specs.Steps.{Step, IsAt}
use Rattle.rv_step.specs.Records.{store_of, stored_at}
use Rattle.rv_step.specs.declared.machine.Machine.{Machine}
use Rattle.rv_step.specs.declared.records.StepRec.{StepRec}
use Rattle.rv_step.specs.declared.records.StoreRec.{StoreRec}
use Rattle.rv_step.proofs.OneStep.{own_goes_on}
use Rattle.flow_points.specs.declared.code_points.CodePoint.{CodePoint}
use Rattle.flow_points.specs.declared.code_points.Flow.{Flow}
use Rattle.flow_points.specs.declared.code_points.Flow.TheVariants as flow
use Rattle.affine_lift.specs.Lifting.{WritesSlots}
use Rattle.run_watch.specs.declared.context.Found.{Found}
use Rattle.run_watch.specs.Activations.{Stack, AreValues, TurnsBy}
use Rattle.run_watch.specs.Moments.{Moment, slots_by}
use Rattle.run_watch.specs.Judges.{found_at, is_kept, is_code, is_home, return_detail, stored_bytes}
use Rattle.run_watch.specs.Runs.{Scene, Spot, Sight, sight_of, IsAtPoint, IsCall, Reaches, here, onward, steps_of, told_at, is_unreached, rows_in, is_return, verdict}
use Rattle.run_watch.specs.Quiet.{IsStraight, told_detail, stored_to, IsSpared, IsLeft, IsCalm, IsQuiet, IsQuietStep, Quietly}
use Rattle.run_watch.proofs.Seeing.{verdict-append}
use Rattle.run_watch.proofs.Spared.{spared, if_some_then}

abbrev pub moment_at : Scene → Spot → ℕ → CodePoint → List ℕ → ℕ → Moment
moment_at scene a i c values writable = record {
  point = i;
  proc_entry = a.stack.last.procedure;
  depth = length a.stack.earlier + 1;
  entry_sp = a.stack.last.entry_sp;
  entry_saved = a.stack.last.saved;
  relied = a.stack.last.relied;
  return_to = a.stack.last.return_to;
  is_return = is_return c.flow;
  values = values;
  unreached = is_unreached (told_at scene.told c.point);
  rows = rows_in (told_at scene.told c.point);
  writable = writable;
  slots = slots_by scene.names a.stack.earlier a.stack.last;
  code = scene.code;
}

pub calm_at : (scene : Scene) (a : Spot) (i : ℕ) (c : CodePoint) (instr : Instr) (values : List ℕ) (writable : ℕ)
    → AreValues scene.names a.stack.last (hart_of a.machine) values → WritesSlots scene.points.points scene.names c writable
    → told_detail (told_at scene.told c.point) values ≡ None
    → IfSome (stored_to instr (hart_of a.machine))
    (IsLeft (slots_by scene.names a.stack.earlier a.stack.last) (length a.stack.earlier + 1) writable scene.code)
    → IsCalm scene a i c instr
calm_at scene a i c instr values writable are writes none left = record {
  moment = moment_at scene a i c values writable;
  describes = record {
    point = refl;
    proc_entry = refl;
    depth = refl;
    entry_sp = refl;
    entry_saved = refl;
    relied = refl;
    return_to = refl;
    returns = refl;
    values = are;
    unreached = refl;
    rows = refl;
    writable = writes;
    earlier_slots = refl;
    last_slots = refl;
    code = refl;
  };
  relations = none;
  spared = if_some_then _ _ (stored_to instr (hart_of a.machine)) (λ b rest. spared (moment_at scene a i c values writable) b rest) left;
}

abbrev pub told_of : Machine → Machine → Fetched → Instr → StepRec
told_of m n at instr = record {
  index = made_of m;
  made = true;
  pc = (hart_of m).pc;
  word = at.word;
  length = at.length;
  regs = (hart_of m).registers;
  next = (hart_of n).pc;
  store = store_of instr (hart_of m) (hart_of n);
}

store_spared : (instr : Instr) (m n : Hart) (moment : Moment) → IfSome (stored_to instr m) (IsSpared moment)
    → (find (is_kept moment) (stored_bytes (store_of instr m n)) ≡ None) × (find (is_code moment) (stored_bytes (store_of instr m n)) ≡ None)
store_spared (Store op rs1 rs2 imm) m n moment is =
    let store : StoreRec = stored_at op (word (pos (x m rs1) +ℤ imm)) m n in (is.slots store refl, is.code store refl)
store_spared instr m n moment is = (refl, refl)

either_none : (b : Bool) (x y : Option ℕ) → x ≡ None → y ≡ None → (if b then x else y) ≡ None
either_none true x y e f = e
either_none false x y e f = f

stays : (f : Flow) (i : ℕ) (offsets : List (Option ℕ)) (regs : List ℕ) (next : ℕ) (s : Stack) → IsStraight f
    → TurnsBy f i offsets regs next s s
stays (flow.Call target after) i offsets regs next s straight = absurd straight
stays flow.Return i offsets regs next s straight = absurd straight
stays f i offsets regs next s straight = (refl, refl)

no_call : (f : Flow) → IsStraight f → IsCall f → ⊥
no_call (flow.Call target after) straight call = straight
no_call f straight call = call

no_return : (f : Flow) → IsStraight f → is_return f ≡ false
no_return (flow.Call target after) straight = absurd straight
no_return flow.Return straight = absurd straight
no_return f straight = refl

pub quiet_step : (scene : Scene) (limit : ℕ) (a : Spot) (n : Machine) (i : ℕ) (c : CodePoint) (at : Fetched) (instr : Instr)
    → limit ≤ 1000000000 → steps_of a ≤ limit → steps_of a ≢ limit → IsAtPoint scene a i c → IsAt (hart_of a.machine) at instr
    → IsOwn instr → at.word ≡ c.word → IsStraight c.flow → IsCalm scene a i c instr → Step (hart_of a.machine) (hart_of n)
    → made_of n ≡ min (steps_of a + 1) (2 ^ 64 - 1) → IsQuietStep scene limit a (record { machine = n; stack = a.stack })
quiet_step scene limit a n i c at instr small within more at_point is_at own same straight calm step counted =
    let told : StepRec = told_of a.machine n at instr in
    let m : Moment = calm.moment in
    let stores = store_spared instr (hart_of a.machine) (hart_of n) m calm.spared in
    let returns : m.is_return ≡ false = calm.describes.returns ∙ no_return c.flow straight in
    record {
      s = sight_of m told;
      goes = record {
        i = i;
        c = c;
        makes = record {
          can = record {
            at = at_point;
            more = more;
            same = ap (option_map (λ (f : Fetched). f.word)) is_at.fetches ∙ ap Some same;
            room = λ call. absurd (no_call c.flow straight call);
          };
          goes_on = own_goes_on (hart_of a.machine) at instr is_at own;
          step = step;
          counted = counted ∙ (let e : min (made_of a.machine + 1) (2 ^ 64 - 1) ≡ made_of a.machine + 1 = omega (arith, small, within) in e);
          told = record { index = refl; made = refl; pc = refl; instr = instr; is_at = is_at; regs = refl; next = refl; store = refl };
          moment = calm.describes;
        };
        turned = record { turns = stays c.flow i scene.offsets told.regs told.next a.stack straight };
      };
      quiet = record {
        nothing = λ kind.
            let third : return_detail m told ≡ None =
            ap (λ b. if b && not (is_home m told) then Some told.next else None) returns in
            either_none _ _ _ calm.relations (either_none _ _ _ stores.0 (either_none _ _ _ third (either_none _ _ _ stores.1 refl)));
      };
    }

judged_none : (kind : ℕ) (state : Option Found) (s : Sight) → IsQuiet s → verdict kind state (s ∷ []) ≡ state
judged_none kind (Some found) s quiet = refl
judged_none kind None s quiet = ap (option_map (found_at s.told)) (quiet.nothing kind)

pub quietly_none : (scene : Scene) (limit : ℕ) (a : Spot) → steps_of a ≤ limit → Quietly scene limit a a
quietly_none scene limit a within =
    record { seen = []; reaches = here [] a refl refl; silent = λ kind state. refl; onward = omega arith; within = within }

pub quietly_more : (scene : Scene) (limit : ℕ) (a b c : Spot) → Quietly scene limit a b → IsQuietStep scene limit b c
    → Quietly scene limit a c × (steps_of c ≡ steps_of b + 1) × (steps_of b < limit)
quietly_more scene limit a b c is one =
    let more : steps_of b ≢ limit = one.goes.makes.can.more in
    let counted : steps_of c ≡ steps_of b + 1 = one.goes.makes.counted in
    let within : steps_of b ≤ limit = is.within in
    let before : steps_of a ≤ steps_of b = is.onward in (
      record {
        seen = is.seen ++ one.s ∷ [];
        reaches = onward (is.seen ++ one.s ∷ []) is.seen b c one.s is.reaches one.goes refl;
        silent = λ kind state.
            verdict-append kind is.seen (one.s ∷ []) state
            ∙ ap (λ found. verdict kind found (one.s ∷ [])) (is.silent kind state)
            ∙ judged_none kind state one.s one.quiet;
        onward = omega (arith, counted, before);
        within = omega (arith, counted, within, more);
      },
      counted,
      omega (arith, within, more),
    )

-- one way after the other
pub reaches_then : (scene : Scene) (limit : ℕ) (a b c : Spot) (xs ys : List Sight) → Reaches scene limit a xs b → Reaches scene limit b ys c
    → Reaches scene limit a (xs ++ ys) c
reaches_then scene limit a b c xs ys way (here seen d none same) =
    subst (λ zs. Reaches scene limit a (xs ++ zs) c) (sym none)
    (subst (λ zs. Reaches scene limit a zs c) (sym (append_none xs)) (subst (λ e. Reaches scene limit a xs e) (sym same) way))
  where
    append_none : (zs : List Sight) → zs ++ [] ≡ zs
    append_none [] = refl
    append_none (z ∷ zs) = ap (λ rest. z ∷ rest) (append_none zs)
reaches_then scene limit a b c xs ys way (onward seen before d e s first goes all) =
    onward (xs ++ ys) (xs ++ before) d c s (reaches_then scene limit a b d xs before way first) goes
    (ap (λ zs. xs ++ zs) all ∙ sym (append_assoc xs before (s ∷ [])))
