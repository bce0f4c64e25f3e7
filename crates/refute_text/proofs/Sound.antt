-- Sound derivations name procedures and edges of the program.
use Rattle.std.proofs.Common.{◌≡◌, ◌∙◌, ℕ, ◌+◌, List, All, Some, get_or, slice_get, refl, sym, subst, arith}
use Rattle.std.proofs.lemmas.Option.{same_Some, slice_get-get_or, slice_get_within}
use Rattle.affine_prog.specs.declared.Program.{Program}
use Rattle.affine_prog.specs.declared.Kind.TheVariants.{Do, Call as CallEdge}
use Rattle.affine_prog.specs.Programs.{edge}
use Rattle.refute_path.specs.declared.answer.Refuted.{Refuted}
use Rattle.refute_path.specs.declared.answer.Refuted.TheVariants.{Holds, Broken}
use Rattle.refute_path.specs.declared.derivations.Deriv.{Deriv}
use Rattle.refute_path.specs.declared.derivations.Deriv.TheVariants.{Opening, Step, Call}
use Rattle.refute_path.specs.Answers.{IsRefuted}
use Rattle.refute_path.specs.Derivations.{Spells, opening, step, call, IsSound}
use Rattle.refute_text.specs.Named.{IsNamed, IsSoundIn}

module _ (program : Program) (derivs : List Deriv) where
  named_at : (k j : ℕ) (deriv own : Deriv) → slice_get derivs k ≡ Some deriv → slice_get derivs j ≡ Some own → j + 1 ≡ k + 1 → IsNamed program own → IsNamed program deriv
  named_at k j deriv own at there same is =
      let e : j ≡ k = omega arith in
      subst (IsNamed program) (same_Some own deriv (subst (λ i. Some own ≡ slice_get derivs i) e (sym there) ∙ at)) is

  spelled_named : (n k p u : ℕ) (m : List ℕ) (deriv : Deriv) → Spells program derivs n p u m → n ≡ k + 1 → slice_get derivs k ≡ Some deriv → IsNamed program deriv
  spelled_named n k p u m deriv (opening j n' p' u' slots m' there is within entry row map) same at =
      named_at k j deriv (Opening p slots) at there (sym is ∙ same) within
  spelled_named n k p v made deriv (step j n' b e p' u v' assigns words m made' there is earlier before along choice map) same at =
      named_at k j deriv (Step b e words) at there (sym is ∙ same) (slice_get_within program.edges e (edge u v (Do assigns)) along)
  spelled_named n k p v made deriv (call j n' b e c p' q u v' assigns m callee made' there is earlier earlier_callee before along none over map) same at =
      named_at k j deriv (Call b e c) at there (sym is ∙ same) (slice_get_within program.edges e (edge u v (CallEdge q assigns)) along)

  pub sound_named : IsSound program derivs → All (IsNamed program) derivs
  sound_named sound = λ k d below.
      let s = sound k below in spelled_named (k + 1) k s.proc s.node s.map (get_or derivs k d) s.spells refl (slice_get-get_or derivs k d below)

-- an answer that is right has sound derivations
pub refuted_sound : (program : Program) (u : ℕ) (a : List ℕ) (answer : Refuted) → IsRefuted program u a answer → IsSoundIn program answer
refuted_sound program u a Holds is = tt
refuted_sound program u a (Broken found) is = is.sound
