-- Where the reading of a row ends: at the first term that breaks a rule, or behind the last.
use Rattle.std.proofs.Common.{◌≡◌, ⊎_elim, ℕ, ◌+◌, ◌<◌, ◌≤◌, List, [], length, length-drop, length-take, take, get_or, sym, subst, ap, ◌∙◌, arith}
use Rattle.std.specs.Prelude.{Result, Ok, Err}
use Rattle.std.proofs.lemmas.Bool.{cases_eq}
use Rattle.std.proofs.lemmas.List.{take_all, get_or-take}
use Rattle.std.proofs.lemmas.Option.{slice_get-get_or}
use Rattle.std.proofs.lemmas.List.Elements.{All-get_or, All-more}
use Rattle.report_text.specs.declared.names.Name.{Name}
use Rattle.report_lines.specs.Parts.{HasNo}
use Rattle.report_lines.specs.Terms.{Term}
use Rattle.report_lines.specs.Relations.{IsSeenName, AreRising, relation_words}
use Rattle.report_lines.proofs.Cuts.{one_part}
use Rattle.row_read.specs.declared.refusal.RowRefusal.{RowRefusal}
use Rattle.row_read.specs.declared.refusal.RowRefusal.TheVariants.{UnknownName, Order}
use Rattle.row_read.specs.Rows.{AreFine, IsRowOver, IsRowReading}
use Rattle.row_read.specs.Fronts.{IsFrontTold, IsReadUpTo}
use Rattle.row_read.proofs.FirstTerms.{count_words}
use Rattle.row_read.proofs.Ahead.{IsAhead}

-- the first term that breaks a rule
pub refused_at : (names : List Name) (p : ℕ) (terms : List Term) (c d k place : ℕ) (refusal : RowRefusal) → AreFine names p (take k terms) → k < length terms → place ≡ k + 1
    → IsFrontTold names p (take (k + 1) terms) d place (Err refusal) → IsRowOver names p terms c (Err refusal)
refused_at names p terms c d k place (UnknownName j) fine lt is told = record {
  before = k;
  term = get_or terms k (0, []);
  there = slice_get-get_or terms k (0, []) lt;
  number = told.0 ∙ is;
  fine = fine;
  unknown = λ seen. told.1 (All-more (λ term. IsSeenName names p term.1) terms k (0, []) lt fine.known seen);
}
refused_at names p terms c d k place (Order j) fine lt is told = record {
  before = k;
  term = get_or terms k (0, []);
  there = slice_get-get_or terms k (0, []) lt;
  number = told.0 ∙ is;
  fine = fine;
  known = subst (λ (term : Term). IsSeenName names p term.1) (get_or-take (k + 1) terms k (0, []) (omega arith))
      (All-get_or (λ term. IsSeenName names p term.1) (take (k + 1) terms) k (0, []) (omega (arith, length-take (k + 1) terms)) told.1);
  falls = λ rising. told.2 (subst (λ (n : ℕ). AreRising names (take n terms)) (told.0 ∙ is) rising);
}

-- where a front breaks a rule
pub stopped : (names : List Name) (p : ℕ) (text rest behind : List ℕ) (k at place : ℕ) (refusal : RowRefusal) → (a : IsAhead names p text rest behind k at) → place ≡ k + 1
    → IsFrontTold names p (take (k + 1) a.terms) 0 place (Err refusal) → IsRowReading names p text (Err refusal)
stopped names p text rest behind k at place refusal a is told = record {
  terms = a.terms;
  constant = a.constant;
  fit = a.fit;
  text_is = a.text_is;
  told = refused_at names p a.terms a.constant 0 k place refusal a.fine a.within is told;
}

no_fault : (names : List Name) (p : ℕ) (terms : List Term) (c place : ℕ) (refusal : RowRefusal) → AreFine names p terms → IsFrontTold names p terms c place (Err refusal) → ⊥
no_fault names p terms c place (UnknownName j) fine told = told.1 fine.known
no_fault names p terms c place (Order j) fine told = told.2 fine.rising

-- the whole text
pub ended : (names : List Name) (p : ℕ) (text rest : List ℕ) (k place : ℕ) (result : Result (List ℕ) RowRefusal) → (u : IsReadUpTo names p text rest k) → HasNo 32 rest → place ≡ k + 1
    → IsFrontTold names p u.terms u.constant place result → IsRowReading names p text result
ended names p text rest k place result u clean is told =
    record { terms = u.terms; constant = u.constant; fit = u.fit; text_is = u.text_is; told = by result told }
  where
    last : length u.terms ≤ k + 1
    last =
        let words : List (List ℕ) = relation_words u.terms u.constant in
        omega (arith, length-drop k words, ap (λ (ws : List (List ℕ)). length ws) (u.others ∙ one_part 32 rest clean), (count_words u.terms u.constant).0)

    by : (r : Result (List ℕ) RowRefusal) → IsFrontTold names p u.terms u.constant place r → IsRowOver names p u.terms u.constant r
    by (Ok row) t = t
    by (Err refusal) t =
        ⊎_elim
        (λ e. absurd (no_fault names p u.terms u.constant place refusal (subst (AreFine names p) (take_all k u.terms (omega arith)) u.fine) t))
        (λ apart. refused_at names p u.terms u.constant u.constant k place refusal u.fine (omega (arith, u.within)) is
        (subst (λ (ts : List Term). IsFrontTold names p ts u.constant place (Err refusal)) (sym (take_all (k + 1) u.terms last)) t))
        (cases_eq k (length u.terms))
