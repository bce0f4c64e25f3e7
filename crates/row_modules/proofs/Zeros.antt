-- Forms that vanish, and choices of unknown words.
use Rattle.std.proofs.Common.{◌≡◌, ℕ, ◌+◌, ◌*◌, List, length, replicate, refl, ap, ap₂, sym, ◌∙◌, arith}
use Rattle.word_rows.specs.Words.{word}
use Rattle.word_rows.specs.Rows.{words_of, plus, times, dot}
use Rattle.word_rows.proofs.Laws.{dot-plus, dot-times, dot_comm, dot_sum_zeros, IsRow-zeros, IsRow-plus}
use Rattle.row_modules.specs.Modules.{AreRows, IsCombination, IsModule}
use Rattle.row_modules.specs.Forms.{Vanishes, Solutions}
use Rattle.row_modules.proofs.Closure.{module_least}

-- a form at a sum
pub dot_at_sum : (a : List ℕ) (c : ℕ) (v w : List ℕ) → length v ≡ length w → dot a (words_of (plus c v w)) ≡ word (dot a v + c * dot a w)
dot_at_sum a c v w e =
    dot_comm a (words_of (plus c v w)) ∙ dot-plus c v w a e ∙ ap₂ (λ x y. word (x + c * y)) (dot_comm v a) (dot_comm w a)

pub dot_at_multiple : (a : List ℕ) (c : ℕ) (v : List ℕ) → dot a (words_of (times c v)) ≡ word (c * dot a v)
dot_at_multiple a c v = dot_comm a (words_of (times c v)) ∙ dot-times c v a ∙ ap (λ x. word (c * x)) (dot_comm v a)

dot_at_zeros : (n : ℕ) (a : List ℕ) → dot a (replicate n 0) ≡ 0
dot_at_zeros n a = dot_comm a (replicate n 0) ∙ ap word (dot_sum_zeros n a)

pub solutions_are_module : (n : ℕ) (A : List ℕ → Type 0) → IsModule n (Solutions n A)
solutions_are_module n A = record {
  rows = λ v s. s.row;
  zero_row = record { row = IsRow-zeros n; zero_at = λ a h. dot_at_zeros n a };
  sum = λ c v w s t. record {
    row = IsRow-plus n c v w s.row t.row;
    zero_at = λ a h.
        let z : 0 + c * 0 ≡ 0 = omega arith in
        dot_at_sum a c v w (s.row.width ∙ sym t.row.width) ∙ ap₂ (λ x y. word (x + c * y)) (s.zero_at a h) (t.zero_at a h) ∙ ap word z;
  };
}

-- a form that vanishes on a set vanishes on its module
pub vanishes_on_module : (n : ℕ) (P : List ℕ → Type 0) → AreRows n P → (a : List ℕ) → Vanishes a P → Vanishes a (IsCombination n P)
vanishes_on_module n P rows a h v m =
    (module_least n (Solutions n (λ b. b ≡ a)) (solutions_are_module n (λ b. b ≡ a)) P
    (λ w p. record { row = rows w p; zero_at = λ b e. rw e (h w p) }) v m).zero_at a refl
