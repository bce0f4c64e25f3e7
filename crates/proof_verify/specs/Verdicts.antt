-- The verdict on what a proof claims.
--
--   nth_claim claims k       claim k
--   ClaimPasses program blocks levels entries c    each row of the claim is 0 at each state of its node, by the rows of the node's head,
--                            the chain behind it, and the entry rows
--   Sheet                    what the rules are tried on: a block program, for each head rows of maps, for each procedure rows of states
--   sheet small levels entries    the sheet of these
--   openings_of s, steps_of s, calls_of s, entries_of s
--                            the items of a rule, by number: the procedures or the edges
--   AllPass n P              all numbers below n have P
--   PassOpenings, PassSteps, PassCalls, PassStarts, PassEntries
--                            all items of the rule, and of those before it, pass
--   IsBreach s n P breach    the breach is the first item that doesn't pass, where P has the claims' numbers, below n, that pass: all
--                            items of the rules before its own pass, and all of its own before it
--   IsVerdict s n P first    all items pass, where there is no breach, or that breach is the first
--   ClaimsHoldAt program claims    each claimed row that is 0 outside what is visible at its node holds there
use Rattle.std.specs.Prelude.{ℕ, ◌<◌, List, [], All, MatchOption, Option, length, slice_index_or}
use Rattle.row_modules.specs.Positions.{with_constant, IsRowOn}
use Rattle.affine_prog.specs.declared.Program.{Program}
use Rattle.affine_prog.specs.Programs.{owner_of, visible_in}
use Rattle.affine_prog.specs.Relations.{Holds}
use Rattle.block_program.specs.Contractions.{Contraction}
use Rattle.proof_rules.specs.Rules.{rule_2, rule_5_first, rule_6}
use Rattle.proof_verify.specs.declared.Claim.{Claim}
use Rattle.proof_verify.specs.declared.Breach.{Breach}
use Rattle.proof_verify.specs.declared.Breach.TheVariants.{Opening, Step, Call, Start, Entry, Claimed}
use Rattle.proof_verify.specs.Items.{nth_edge, step_rule, call_rule, entry_rule, IsFirstWithout}
use Rattle.proof_verify.specs.Points.{IsPlaced}

abbrev pub nth_claim : List Claim → ℕ → Claim
nth_claim claims k = slice_index_or claims k (record { node = 0; rows = [] })

pub record ClaimPasses (program : Program) (blocks : Contraction) (levels entries : List (List (List ℕ))) (c : Claim) : Type 0 where
  pub place : IsPlaced program blocks c.node
  pub zero : All (λ a. rule_6 levels entries place.head (owner_of program c.node) place.chain a) c.rows

pub record Sheet : Type 0 where
  pub small : Program
  pub levels : List (List (List ℕ))
  pub entries : List (List (List ℕ))

abbrev pub sheet : Program → List (List (List ℕ)) → List (List (List ℕ)) → Sheet
sheet small levels entries = record { small = small; levels = levels; entries = entries }

abbrev pub openings_of : Sheet → ℕ → Type 0
openings_of s = rule_2 s.small s.levels

abbrev pub steps_of : Sheet → ℕ → Type 0
steps_of s k = step_rule s.small s.levels (nth_edge s.small k)

abbrev pub calls_of : Sheet → ℕ → Type 0
calls_of s k = call_rule s.small s.levels (nth_edge s.small k)

abbrev pub entries_of : Sheet → ℕ → Type 0
entries_of s k = entry_rule s.small s.levels s.entries (nth_edge s.small k)

abbrev pub AllPass : ℕ → (ℕ → Type 0) → Type 0
AllPass n P = (k : ℕ) → k < n → P k

abbrev pub PassOpenings : Sheet → Type 0
PassOpenings s = AllPass (length s.small.procs) (openings_of s)

abbrev pub PassSteps : Sheet → Type 0
PassSteps s = PassOpenings s × AllPass (length s.small.edges) (steps_of s)

abbrev pub PassCalls : Sheet → Type 0
PassCalls s = PassSteps s × AllPass (length s.small.edges) (calls_of s)

abbrev pub PassStarts : Sheet → Type 0
PassStarts s = PassCalls s × rule_5_first s.small s.entries

abbrev pub PassEntries : Sheet → Type 0
PassEntries s = PassStarts s × AllPass (length s.small.edges) (entries_of s)

abbrev pub IsBreach : Sheet → ℕ → (ℕ → Type 0) → Breach → Type 0
IsBreach s n P (Opening p) = IsFirstWithout (openings_of s) (length s.small.procs) p
IsBreach s n P (Step k) = PassOpenings s × IsFirstWithout (steps_of s) (length s.small.edges) k
IsBreach s n P (Call k) = PassSteps s × IsFirstWithout (calls_of s) (length s.small.edges) k
IsBreach s n P Start = PassCalls s × (rule_5_first s.small s.entries → ⊥)
IsBreach s n P (Entry k) = PassStarts s × IsFirstWithout (entries_of s) (length s.small.edges) k
IsBreach s n P (Claimed k) = PassEntries s × IsFirstWithout P n k

abbrev pub IsVerdict : Sheet → ℕ → (ℕ → Type 0) → Option Breach → Type 0
IsVerdict s n P first = MatchOption first (PassEntries s × AllPass n P) (IsBreach s n P)

abbrev pub ClaimsHoldAt : Program → List Claim → Type 0
ClaimsHoldAt program claims =
    All (λ c. All (λ a. IsRowOn 17 (with_constant (visible_in program (owner_of program c.node))) a → Holds program c.node a) c.rows) claims
