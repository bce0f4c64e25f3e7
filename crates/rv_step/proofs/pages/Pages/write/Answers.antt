use Rattle.std.proofs.Common.{◌≡◌, ◌≢◌, ℕ, ◌+◌, ◌*◌, ◌/◌, ◌%◌, ◌^◌, subst, arith}
use Rattle.rv_step.specs.Pages.{byte_of}
use Rattle.rv_step.proofs.BytesStored.{stored_more}
use Rattle.rv_step.proofs.pages.Pages.write.Goals as goal

pub loop-k-preserved : goal.loop-k-preserved
loop-k-preserved c =
    let new : ℕ → ℕ = byte_of c.put.new.self in
    let Here : ℕ → Type 0 = λ j. new ((c.args.address + j) % 2 ^ 64) ≡ c.args.value / 2 ^ (8 * c.loop-k.k) % 2 ^ 8 in
    let Elsewhere : ℕ → Type 0 = λ j. (b : ℕ) → b ≢ (c.args.address + j) % 2 ^ 64 → new b ≡ byte_of c.loop-k.self b in
    record {
      bytes = stored_more c.loop-k.k c.args.address c.args.value (byte_of c.args.self.now) (byte_of c.loop-k.self) new
          (omega arith) (omega arith) c.loop-k.invariant.bytes
          (subst Here c.from.ensures c.put.ensures.there) (subst Elsewhere c.from.ensures c.put.ensures.elsewhere);
      first = c.put.ensures.keeps _ c.loop-k.invariant.first;
      last = c.put.ensures.keeps _ c.loop-k.invariant.last;
    }
