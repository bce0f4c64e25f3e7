-- Who keeps the discipline keeps it but for any registers.
use Rattle.std.proofs.Common.{ℕ, suc, ◌<◌, Bool}
use Rattle.rv_step.specs.Harts.{Hart}
use Rattle.run_paths.specs.Lifts.{Lift}
use Rattle.run_paths.specs.Discipline.{KeepsDiscipline}
use Rattle.run_paths.specs.Relations.{KeepsDisciplineBut}

pub weaken : (lift : Lift) (spared : ℕ → Bool) (run : ℕ → Hart) (n : ℕ) → KeepsDiscipline lift run n → KeepsDisciplineBut lift spared run n
weaken lift spared run n keeps i below =
    let k = keeps i below in
    record {
      last = k.last;
      earlier = k.earlier;
      are = k.are;
      at = k.at;
      is_at = k.is_at;
      slots = k.slots;
      code = k.code;
      not_first = k.home.not_first;
      home = λ flow asked. k.home.home flow;
      stack = λ flow asked. k.frame.stack flow;
      relied = λ flow r asked. k.frame.relied flow r;
    }
