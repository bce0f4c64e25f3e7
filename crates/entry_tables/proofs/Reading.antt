-- The line at an address is what is fetched there.
use Rattle.std.proofs.Common.{◌≡◌, ℕ, Option, None, Some, sym, subst, ◌∙◌}
use Rattle.elf_image.specs.Images.{code_at}
use Rattle.elf_image.specs.declared.image.Image.{Image}
use Rattle.elf_image.specs.declared.fetched.Fetched.{Fetched}
use Rattle.rv_instr.specs.declared.Instr.{Instr}
use Rattle.rvc_expand.specs.Lengths.{MeansWithLength}
use Rattle.rvc_expand.proofs.Cited.{one_meaning}
use Rattle.entry_tables.specs.declared.rows.Line.{Line}
use Rattle.entry_tables.specs.Tables.{line_is}
use Rattle.entry_tables.specs.Settling.{IsLineAt}
use Rattle.entry_tables.proofs.Ordering.{some_same}

differ : {X : Type 0} {x : X} → None ≡ Some x → ⊥
differ e = cc

-- no instruction is there, where its word has none
pub no_line : (image : Image) (a : ℕ) (at : Fetched) → code_at image a ≡ Some at
    → ((instr : Instr) → MeansWithLength at.word at.length instr → None ≡ Some instr) → IsLineAt image a None
no_line image a at e only bt instr f means =
    let same : at ≡ bt = cc in
    differ (only instr (subst (λ (g : Fetched). MeansWithLength g.word g.length instr) (sym same) means))

-- the line at an address is what is fetched there
pub line_there : (image : Image) (a : ℕ) (l : Option Line) → IsLineAt image a l → (at : Fetched) (instr : Instr) → code_at image a ≡ Some at
    → MeansWithLength at.word at.length instr → l ≡ Some (line_is at instr)
line_there image a None is at instr e means = absurd (is at instr e means)
line_there image a (Some l) is at instr e means = by is.0 (some_same (sym is.1 ∙ e)) (is.2, is.3)
  where
    by : (bt : Fetched) → bt ≡ at → MeansWithLength bt.word bt.length l.instr × (l.length ≡ bt.length) → Some l ≡ Some (line_is at instr)
    by bt same h =
        let mine : MeansWithLength at.word at.length l.instr × (l.length ≡ at.length) =
        subst (λ (f : Fetched). MeansWithLength f.word f.length l.instr × (l.length ≡ f.length)) same h in
        let meaning : l.instr ≡ instr = one_meaning at.word at.length l.instr instr mine.0 means in
        let long : l.length ≡ at.length = mine.1 in
        (λ i. Some (record { instr = meaning i; length = long i }))
