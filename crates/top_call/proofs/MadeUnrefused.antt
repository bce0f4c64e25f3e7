-- Of the input of `gen` the list alone can be refused.
use Rattle.std.proofs.Common.{◌≡◌, ℕ, List, Some, None, refl}
use Rattle.gen_elf.specs.Generated.{IsGenerated}
use Rattle.analyser_core.specs.Accepted.{IsRefusal}
use Rattle.analyser_core.specs.declared.refusal.Refusal.{Refusal}
use Rattle.analyser_core.specs.declared.refusal.Refusal.TheVariants.{Elf, Flow, Track, Heads, Memory}
use Rattle.made_files.specs.Accepted.{IsAcceptedFile}
use Rattle.made_files.proofs.Lemmas.{made_accepted}
use Rattle.top_call.specs.Completeness.{IsListTaken, IsUnrefused}

module _ (list bytes : List ℕ) (file : IsAcceptedFile bytes) (taken : IsListTaken bytes list) where
  only_memory : (refusal : Refusal) → IsRefusal bytes list refusal → refusal ≡ Memory
  only_memory (Elf refusal) is = let none = file.is_image in absurd (cc)
  only_memory (Flow refusal) (image, of, bad) = absurd (file.flows image refusal of bad)
  only_memory (Track refusal) (image, points, of, has, bad, away) = absurd (away (taken image points refusal of has bad))
  only_memory (Heads limit) (is, crowded) = absurd (file.few_heads list crowded)
  only_memory Memory is = refl

pub made_unrefused : (n : ℕ) (list bytes : List ℕ) → IsGenerated n bytes → IsListTaken bytes list → IsUnrefused (IsRefusal bytes list) bytes
made_unrefused n list bytes made taken =
    let file = made_accepted n bytes made in record { short = file.short; only_memory = only_memory list bytes file taken }
