-- The path that a run spells, and that the run follows it. The path is told by one map for each activation, the last one
-- opened first: the map of the level path that the run has made in that activation. So it is a function of the run.
--
--   slot_words lift a memory     for each position below 16 the word in memory of the activation's slot there, else 0
--   opening_at lift a memory     the map of an opening of the activation, with these words in its slots
--   chosen assigns state         the choice for a list of assignments under which it gives each unknown the word that this
--                                state has
--   stepped lift a c n f         the map f, and then what the point c assigns, under the choice that the machine n shows
--   closed lift call b f g       the map g of a caller b, and then this call, whole, whose callee has the map f
--   mapped_by lift c flow m n activations maps, and mapped lift c m n activations maps by the flow of c
--                                the maps after a step from m to n at the point c: a call opens a level path, a
--                                return makes one the callee's part of its caller's, and every other step adds an edge
--   path_of lift run i           the path up to the moment i
--   IsCallTo lift a site         the activation was opened by this call, along a call edge of the program
--   IsOpenPath lift activations maps c
--                                these maps are an open path to the point c: a level path of each activation to the point
--                                where it stands, the first one in the entry procedure, each other one behind a call edge
--   linked lift call state       the state behind what the call assigns before its callee opens
--   state_along lift start activations maps
--                                the state that the path makes of a start
--   RunsFollow                   a run that keeps the discipline up to a moment follows at each moment up to it
--   Follows lift run i           at the moment i the path is an open path to the run's point, and from the start that the
--                                run's first registers give it leads to the words that the machine has
use Rattle.std.specs.Prelude.{◌≡◌, ℕ, zero, suc, ◌≤◌, List, [], ◌∷◌, map, Contains, slice_get, slice_index, Option, None, Some}
use Rattle.std.specs.List.{range_with_len}
use Rattle.std.specs.Option.{option_map_or}
use Rattle.word_rows.specs.Words.{word}
use Rattle.map_modules.specs.Matrices.{apply}
use Rattle.elf_image.specs.declared.image.Image.{Image}
use Rattle.flow_points.specs.declared.code_points.CodePoint.{CodePoint}
use Rattle.flow_points.specs.declared.code_points.Flow.{Flow}
use Rattle.flow_points.specs.declared.code_points.Flow.TheVariants.{Call, Return}
use Rattle.affine_prog.specs.declared.Assign.{Assign}
use Rattle.affine_prog.specs.declared.Assign.TheVariants.{Affine, Any}
use Rattle.affine_prog.specs.declared.Kind.TheVariants.{Call as CallEdge}
use Rattle.affine_prog.specs.Programs.{edge}
use Rattle.affine_prog.specs.Assignments.{matrix_of}
use Rattle.affine_prog.specs.LevelPaths.{LevelPath, opening_map, step_map, call_map}
use Rattle.rv_step.specs.Harts.{Hart}
use Rattle.run_paths.specs.Lifts.{Lift, IsLiftOf, effect, node, number, registers, slots}
use Rattle.run_paths.specs.Activations.{Activation, Site, activations_at, point_at, begun, called, word_of, state_of, start_of}
use Rattle.run_paths.specs.Discipline.{IsRunTo, KeepsDiscipline}

abbrev pub slot_words : Lift → Activation → (ℕ → ℕ) → List ℕ
slot_words lift a memory =
    map (λ k. word (option_map_or (word_of a [] memory) (slice_get lift.names k) 0)) (range_with_len 0 16)

abbrev pub opening_at : Lift → Activation → (ℕ → ℕ) → List ℕ
opening_at lift a memory = opening_map (registers lift) (slots lift a.procedure) (slot_words lift a memory)

abbrev pub chosen : List Assign → List ℕ → List ℕ
chosen [] state = []
chosen (Affine i row ∷ rest) state = chosen rest state
chosen (Any i ∷ rest) state = slice_index state i ∷ chosen rest state

abbrev pub stepped : Lift → Activation → CodePoint → Hart → List ℕ → List ℕ
stepped lift a c n f = step_map (effect lift c) (chosen (effect lift c) (state_of lift a n.registers n.memory)) f

abbrev pub closed : Lift → Option Site → Activation → List ℕ → List ℕ → List ℕ
closed lift None b f g = g
closed lift (Some site) b f g =
    call_map (registers lift) (slots lift b.procedure) (matrix_of (effect lift site.from) []) (step_map [] [] f) g

abbrev pub mapped_by : Lift → CodePoint → Flow → Hart → Hart → List Activation → List (List ℕ) → List (List ℕ)
mapped_by lift c (Call target next) m n activations maps = opening_at lift (called c target next m) n.memory ∷ maps
mapped_by lift c Return m n (a ∷ b ∷ earlier) (f ∷ g ∷ maps) = closed lift a.call b f g ∷ maps
mapped_by lift c Return m n activations maps = maps
mapped_by lift c flow m n (a ∷ earlier) (f ∷ maps) = stepped lift a c n f ∷ maps
mapped_by lift c flow m n activations maps = maps

abbrev pub mapped : Lift → Option CodePoint → Hart → Hart → List Activation → List (List ℕ) → List (List ℕ)
mapped lift None m n activations maps = maps
mapped lift (Some c) m n activations maps = mapped_by lift c c.flow m n activations maps

abbrev pub path_of : Lift → (ℕ → Hart) → ℕ → List (List ℕ)
path_of lift run zero = opening_at lift (begun lift (run 0)) (run 0).memory ∷ []
path_of lift run (suc i) = mapped lift (point_at lift run i) (run i) (run (suc i)) (activations_at lift run i) (path_of lift run i)

pub record IsCallTo (lift : Lift) (a : Activation) (site : Site) : Type 0 where
  pub from : a.call ≡ Some site
  pub to : ℕ
  pub edge_is : Contains lift.program.edges (edge (node lift site.from.point) to (CallEdge (number lift a.procedure) (effect lift site.from)))

abbrev pub IsOpenPath : Lift → List Activation → List (List ℕ) → CodePoint → Type 0
IsOpenPath lift (a ∷ []) (f ∷ []) c =
    (a.call ≡ None) × (a.procedure ≡ lift.points.entry) × LevelPath lift.program (number lift a.procedure) (node lift c.point) f
IsOpenPath lift (a ∷ b ∷ earlier) (f ∷ maps) c =
    LevelPath lift.program (number lift a.procedure) (node lift c.point) f
    × ((site : Site) × IsCallTo lift a site × IsOpenPath lift (b ∷ earlier) maps site.from)
IsOpenPath lift activations maps c = ⊥

abbrev pub linked : Lift → Option Site → List ℕ → List ℕ
linked lift None state = state
linked lift (Some site) state = apply (matrix_of (effect lift site.from) []) state

abbrev pub state_along : Lift → List ℕ → List Activation → List (List ℕ) → List ℕ
state_along lift start (a ∷ earlier) (f ∷ maps) = apply f (linked lift a.call (state_along lift start earlier maps))
state_along lift start activations maps = start

pub record Follows (lift : Lift) (run : ℕ → Hart) (i : ℕ) : Type 0 where
  pub at : CodePoint
  pub is_at : point_at lift run i ≡ Some at
  pub path : IsOpenPath lift (activations_at lift run i) (path_of lift run i) at
  pub last : Activation
  pub earlier : List Activation
  pub are : activations_at lift run i ≡ last ∷ earlier
  pub state : state_along lift (start_of lift (run 0)) (activations_at lift run i) (path_of lift run i)
      ≡ state_of lift last (run i).registers (run i).memory

abbrev pub RunsFollow : Type 0
RunsFollow =
    (image : Image) (lift : Lift) (run : ℕ → Hart) (n : ℕ) → IsLiftOf image lift → IsRunTo image run n
    → KeepsDiscipline lift run n → (i : ℕ) → i ≤ n → Follows lift run i
