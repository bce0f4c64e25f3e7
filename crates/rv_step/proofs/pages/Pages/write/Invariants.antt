use Rattle.std.proofs.Common.{◌≡◌, ℕ, ◌+◌, ◌-◌, ◌%◌, ◌^◌, ◌<◌}
use Rattle.rv_step.specs.Effects.{stored}
use Rattle.rv_step.specs.Pages.{byte_of, HasPage}
use Rattle.rv_step.proofs.pages.Pages.write.Given as goal

abbrev pub invariant-loop-k : goal.invariant-loop-k
invariant-loop-k l = record {
  bytes : (b : ℕ) → b < 2 ^ 64 → byte_of l.self b ≡ stored l.k l.address l.value (byte_of l.fn.self) b;
  first : HasPage l.self l.address;
  last : HasPage l.self ((l.address + (l.width - 1)) % 2 ^ 64);
}
