use Rattle.std.proofs.Common.{◌≡◌, ℕ, ◌-◌, ◌^◌, slice_index, ap, ◌∙◌, arith, refl}
use Rattle.std.specs.Int.{w64, trailing_zeros}
use Rattle.word_rows.specs.Words.{word}
use Rattle.word_rows.specs.Rows.{words_of, times}
use Rattle.word_rows.proofs.Laws.{lead-zeros, words_of-times_factor}
use Rattle.lead_basis.proofs.Powers.{exponent}
use Rattle.lead_basis.proofs.multiples.closing.Goals as goal

pub returns-in-Some : goal.returns-in-Some
returns-in-Some g c = λ power small is_pivot.
    let at : c.get.result ≡ 2 ^ power = c.get.ensures ∙ ap (λ (k : ℕ). slice_index c.args.row.now k) c.in-Some.ensures.first ∙ is_pivot in
    let zeros : trailing_zeros w64 c.get.result ≡ power = ap (λ (x : ℕ). trailing_zeros w64 x) at ∙ exponent power small in
    let factor : c.closing_factor.result ≡ word (2 ^ (64 - power)) = c.closing_factor.ensures ∙ ap (λ (t : ℕ). word (2 ^ (64 - t))) zeros in
    c.scale.ensures ∙ ap (λ (x : ℕ). words_of (times x c.args.row.now)) factor ∙ words_of-times_factor (2 ^ (64 - power)) c.args.row.now

pub returns-in_default : goal.returns-in_default
returns-in_default g c = λ power small is_pivot.
    let zero = c.lead.ensures.zero.0 (rw c.in_default.is refl) in
    let end = lead-zeros g.row.N in
    absurd (let h = rw zero at c.requires in omega (arith, h, end))
