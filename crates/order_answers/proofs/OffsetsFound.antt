-- The answers of `run`, over the offsets that were found.
use Rattle.std.proofs.Common.{◌≡◌, ℕ, List, Option, Result, Ok, Err, Vec, subst}
use Rattle.std.specs.declared.alloc.Global.{Global}
use Rattle.std.specs.declared.alloc.AllocError.{AllocError}
use Rattle.std.specs.Result.{IfOk}
use Rattle.elf_image.specs.declared.image.Image.{Image}
use Rattle.flow_points.specs.PointLists.{FlowPoints}
use Rattle.frame_offsets.specs.Frames.{AreOffsetsOf}
use Rattle.run_answers.specs.Answers.{IsRunAnswer}

pub with_offsets : (image : Image) (points : FlowPoints) (offsets : List (Option ℕ)) (told start : List ℕ) (n steps : ℕ)
    (given : Result (ℕ × Vec ℕ Global) AllocError) → AreOffsetsOf points offsets → n ≡ steps →
    IfOk given (λ a. IsRunAnswer image points offsets told start n a.0 a.1.items) →
    IfOk given (λ a. (found : List (Option ℕ)) × AreOffsetsOf points found × IsRunAnswer image points found told start steps a.0 a.1.items)
with_offsets image points offsets told start n steps (Ok a) are same is =
    (offsets, are, subst (λ (k : ℕ). IsRunAnswer image points offsets told start k a.0 a.1.items) same is)
with_offsets image points offsets told start n steps (Err e) are same is = tt
