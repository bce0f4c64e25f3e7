use Rattle.std.proofs.Common.{set, ap, ap₂, List, ℕ, ◌∙◌}
use Rattle.word_rows.specs.Rows.{words_of, plus}
use Rattle.refute_path.proofs.starts.start_state.Goals as goal

pub returns-in-None : goal.returns-in-None
returns-in-None c = rw c.in-None.is (c.with-state.ensures ∙ ap (λ z. set z 16 1) c.zero.ensures)

pub returns-in-Some : goal.returns-in-Some
returns-in-Some c =
    rw c.in-Some.is
    (c.add_scaled.ensures ∙ ap₂ (λ (a b : List ℕ). words_of (plus 1 a b)) (c.with-state.ensures ∙ ap (λ z. set z 16 1) c.zero.ensures)
    (c.with.ensures ∙ ap (λ z. set z c.in-Some.k 1) c.zero-in-Some.ensures))
