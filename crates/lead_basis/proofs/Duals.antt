-- The relations that lead from a position on, as the rows of a basis.
use Rattle.std.proofs.Common.{◌≡◌, ◌≢◌, ℕ, zero, suc, ◌+◌, ◌-◌, ◌*◌, ◌/◌, ◌^◌, ◌<◌, ◌≤◌, inl, inr, IsTrue, false, List, [], ◌∷◌, get_or, slice_index, replicate, reverse, All, Contains, refl, ap, ap₂, sym, ◌∙◌, subst, arith}
use Rattle.std.proofs.Math.Nat.{mul-mod_right}
use Rattle.std.proofs.lemmas.Bool.{cases_eq, cases_lt}
use Rattle.std.proofs.lemmas.Nat.{pow_pos}
use Rattle.std.proofs.lemmas.List.{reverse-reverse}
use Rattle.std.proofs.lemmas.Grind.{same_number_lists}
use Rattle.std.proofs.lemmas.List.Elements.{All-nil, All-cons, All-weaker, All-contains, All-contains_itself}
use Rattle.word_rows.specs.Words.{word}
use Rattle.word_rows.specs.Rows.{words_of, plus, times, dot, lead, pivot, IsRow}
use Rattle.word_rows.proofs.Laws.{get_or_before_lead, lead_from_index, get_or-zeros, IsRow-zeros, dot-plus, dot_sum_zeros}
use Rattle.row_modules.specs.Modules.{IsCombination, IsModule, none}
use Rattle.row_modules.specs.Bases.{Leads, IsLeadingBasis, IsReduced}
use Rattle.row_modules.specs.Forms.{Annihilates}
use Rattle.row_modules.specs.Positions.{has, IsRowOn}
use Rattle.row_modules.proofs.Laws.{first_or_later, nothing_contained, module_multiple, module_least, with_multiple, rows_on_are_module, in_not_out}
use Rattle.lead_basis.proofs.Powers.{factor_of_zero}
use Rattle.lead_basis.proofs.Positions.{index_of_sum, index_of_multiple, index_of_word, take_back, lead_above}
use Rattle.lead_basis.proofs.Leading.{basis_rows}
use Rattle.lead_basis.proofs.Annihilating.{same_annihilators}
use Rattle.lead_basis.specs.Mirrors.{Mirrors}
use Rattle.lead_basis.specs.Relations.{pivot_at, closing_word, bound, IsRelation, Solves}
use Rattle.lead_basis.proofs.Overlaps.{dot_at_one}
use Rattle.lead_basis.proofs.Turned.{turned_index, turned_past, turned_row}
use Rattle.lead_basis.proofs.Pivots.{LeadsAt, found, whole, closing_zero, closing_power}

-- rows is a reduced basis of the relations that lead from p on, with the least pivots
pub record Dual (s : ℕ) (source B : List (List ℕ)) (p : ℕ) (rows : List (List ℕ)) : Type 0 where
  pub basis : IsLeadingBasis 17 rows
  pub reduced : IsReduced rows
  pub from : All (λ r. p ≤ lead r) rows
  pub bounds : All (λ r. pivot r ≡ bound B (16 - lead r)) rows
  pub inside : (a : List ℕ) → Contains rows a → Annihilates s (Contains source) a
  pub all : (a : List ℕ) → Annihilates s (Contains source) a → p ≤ lead a → IsCombination 17 (Contains rows) a

module _ (s : ℕ) (source B : List (List ℕ)) (m : Mirrors s source B) where
  relations_are_module : IsModule 17 (Annihilates s (Contains source))
  relations_are_module = record {
    rows = λ a n. n.on_visible.row;
    zero_row = record { on_visible = (rows_on_are_module 17 s).zero_row; vanishes = λ v h. ap word (dot_sum_zeros 17 v) };
    sum = λ c v w n o. record {
      on_visible = (rows_on_are_module 17 s).sum c v w n.on_visible o.on_visible;
      vanishes = λ x h.
          let e = dot-plus c v w x (n.on_visible.row.width ∙ sym o.on_visible.row.width) in
          e ∙ ap₂ (λ (y z : ℕ). word (y + c * z)) (n.vanishes x h) (o.vanishes x h) ∙ ap word (let z : 0 + c * 0 ≡ 0 = omega arith in z);
    };
  }

  -- the word of a relation at its lead, times the pivot there
  closed_at : (p : ℕ) → p < 17 → (a : List ℕ) → Annihilates s (Contains source) a → p ≤ lead a → (f : LeadsAt B (16 - p)) → word (slice_index a p * 2 ^ f.power) ≡ 0
  closed_at p below a n from f =
      let row = n.on_visible.row in
      let here = f.here in
      let one = dot_at_one (16 - p) (reverse a) f.row (λ k other. elim (cases_lt k (16 - p)) [
        | inl before ↦ let z = get_or_before_lead f.row k (omega arith) in rw z (omega arith)
        | inr after ↦ elim (cases_lt k 17) [
          | inl lt ↦ let z = turned_index 17 a k row lt ∙ get_or_before_lead a (17 - 1 - k) (omega arith) in rw z (omega arith)
          | inr past ↦ let z = turned_past 17 a k row past in rw z (omega arith)
        ]
      ]) in
      let word_is : get_or (reverse a) (16 - p) 0 ≡ get_or a p 0 = turned_index 17 a (16 - p) row (omega arith) ∙ ap (λ (k : ℕ). get_or a k 0) (let e : 17 - 1 - (16 - p) ≡ p = omega arith in e) in
      let pivot_is : get_or f.row (16 - p) 0 ≡ 2 ^ f.power = ap (λ (k : ℕ). get_or f.row k 0) (sym f.here) ∙ f.is_pivot in
      ap word (sym (one ∙ ap₂ (λ (x y : ℕ). x * y) word_is pivot_is)) ∙ m.there a n.on_visible n.vanishes f.row f.member

  pub dual_none : Dual s source B 17 []
  dual_none = record {
    basis = tt;
    reduced = tt;
    from = All-nil (λ r. 17 ≤ lead r);
    bounds = All-nil (λ r. pivot r ≡ bound B (16 - lead r));
    inside = λ a h. absurd (nothing_contained a h);
    all = λ a n past.
        let row = n.on_visible.row in
        none a (same_number_lists a (replicate 17 0) (row.width ∙ sym (IsRow-zeros 17).width) (λ k below. let w = row.width in get_or_before_lead a k (omega arith) ∙ sym (get_or-zeros 17 k)));
  }

  -- a position where no relation leads
  skipped : (p : ℕ) (rows : List (List ℕ)) → p < 17 → Dual s source B (suc p) rows → ((a : List ℕ) → Annihilates s (Contains source) a → p ≤ lead a → slice_index a p ≡ 0) → Dual s source B p rows
  skipped p rows below d zeros = record {
    basis = d.basis;
    reduced = d.reduced;
    from = All-weaker (λ r. suc p ≤ lead r) (λ r. p ≤ lead r) (λ r h. omega arith) rows d.from;
    bounds = d.bounds;
    inside = d.inside;
    all = λ a n from. d.all a n (
        let h = lead_above 17 p a n.on_visible.row below (λ k le. elim (cases_lt k p) [
          | inl lt ↦ get_or_before_lead a k (omega arith)
          | inr ge ↦ let e : k ≡ p = omega arith in ap (λ (i : ℕ). get_or a i 0) e ∙ zeros a n from
        ]) in omega arith);
  }

  pub dual_hidden : (p : ℕ) (rows : List (List ℕ)) → p < 17 → has s p ≡ false → Dual s source B (suc p) rows → Dual s source B p rows
  dual_hidden p rows below out d = skipped p rows below d (λ a n from. n.on_visible.hidden p out)

  pub dual_one : (p : ℕ) (rows : List (List ℕ)) → p < 17 → pivot_at B (16 - p) ≡ 1 → Dual s source B (suc p) rows → Dual s source B p rows
  dual_one p rows below one d = skipped p rows below d (λ a n from. elim (found 17 B (16 - p) m.basis) [
    | inl z ↦ absurd (omega arith)
    | inr f ↦
        let h = closed_at p below a n from f in
        let e : slice_index a p * 2 ^ f.power ≡ slice_index a p = ap (λ (x : ℕ). slice_index a p * x) (sym f.same ∙ one) ∙ times_one (slice_index a p) in
        index_of_word 17 a p n.on_visible.row ∙ ap word (sym e) ∙ h
  ])
    where
      times_one : (x : ℕ) → x * 1 ≡ x
      times_one x = omega arith

  -- the pivot of the relation that leads at p divides the words there
  record Divides (p : ℕ) : Type 0 where
    power : ℕ
    small : power < 64
    is : bound B (16 - p) ≡ 2 ^ power
    quotient : (a : List ℕ) → Annihilates s (Contains source) a → p ≤ lead a → (q : ℕ) × (slice_index a p ≡ q * 2 ^ power)

  divides : (p : ℕ) → p < 17 → pivot_at B (16 - p) ≢ 1 → Divides p
  divides p below ne = elim (found 17 B (16 - p) m.basis) [
    | inl z ↦ record {
      power = 0;
      small = omega arith;
      is = closing_zero (pivot_at B (16 - p)) z;
      quotient = λ a n from. (slice_index a p, times_one (slice_index a p));
    }
    | inr f ↦ record {
      power = 64 - f.power;
      small = let t = f.small in let some : 0 < f.power = positive f.power (λ z. ne (f.same ∙ ap (λ (k : ℕ). 2 ^ k) z)) in omega arith;
      is = closing_power (pivot_at B (16 - p)) f.power f.small f.same;
      quotient = λ a n from. let t = f.small in (slice_index a p / 2 ^ (64 - f.power), factor_of_zero (slice_index a p) (64 - f.power) f.power (omega arith) (closed_at p below a n from f));
    }
  ]
    where
      times_one : (x : ℕ) → x ≡ x * 1
      times_one x = omega arith

      positive : (t : ℕ) → (t ≡ 0 → ⊥) → 0 < t
      positive zero no_zero = absurd (no_zero refl)
      positive (suc t) no_zero = omega arith

  -- no row of the turned basis leads at a position outside s
  bound_hidden : (k : ℕ) → k < 17 → has s k ≡ false → bound B (16 - k) ≡ 1
  bound_hidden k below out = elim (found 17 B (16 - k) m.basis) [
    | inl z ↦ closing_zero (pivot_at B (16 - k)) z
    | inr f ↦
        let z = m.hidden k below out f.row f.member in
        let e = ap (λ (i : ℕ). get_or f.row i 0) f.here in
        let p = f.is_pivot in let some = pow_pos f.power in absurd (omega arith)
  ]

  module _ (p : ℕ) (rows : List (List ℕ)) (c : List ℕ) (below : p < 17) (seen : IsTrue (has s p)) (dv : Divides p) (d : Dual s source B (suc p) rows) (r : IsRelation 17 B (16 - p) (bound B (16 - p)) c) where
    own : IsRow 17 (reverse c)
    own = turned_row 17 c r.is_row

    index : (k : ℕ) → k < 17 → slice_index (reverse c) k ≡ slice_index c (16 - k)
    index k lt = turned_index 17 c k r.is_row lt

    before_p : (k : ℕ) → k < p → slice_index (reverse c) k ≡ 0
    before_p k lt = index k (omega arith) ∙ r.after (16 - k) (omega arith)

    at_p : slice_index (reverse c) p ≡ 2 ^ dv.power
    at_p = index p below ∙ r.at ∙ dv.is

    leads_p : lead (reverse c) ≡ p
    leads_p =
        let w = own.width in let a = at_p in let s = pow_pos dv.power in
        lead_from_index (reverse c) p (omega arith) (λ z. omega arith) before_p

    pivot_p : pivot (reverse c) ≡ 2 ^ dv.power
    pivot_p = ap (λ (k : ℕ). get_or (reverse c) k 0) leads_p ∙ at_p

    after_p : (k : ℕ) → p < k → k < 17 → slice_index (reverse c) k < bound B (16 - k)
    after_p k lt in_row = let e = index k in_row in let h = r.below (16 - k) (omega arith) in omega arith

    on_s : IsRowOn 17 s (reverse c)
    on_s = record {
      row = own;
      hidden = λ k out. elim (cases_lt k 17) [
        | inl lt ↦ elim (cases_lt k p) [
          | inl before ↦ before_p k before
          | inr ge ↦ elim (cases_eq k p) [
            | inl e ↦ absurd (in_not_out s k (rw e seen) out)
            | inr other ↦ let h = after_p k (omega arith) lt in let b = bound_hidden k lt out in omega arith
          ]
        ]
        | inr past ↦ turned_past 17 c k r.is_row past
      ];
    }

    is_relation : Annihilates s (Contains source) (reverse c)
    is_relation = record {
      on_visible = on_s;
      vanishes = m.back (reverse c) on_s (λ v h. ap (λ (x : List ℕ). dot x v) (reverse-reverse c) ∙ r.vanishes v h);
    }

    -- a relation that is 0 at p leads later
    later_than_p : (a : List ℕ) → Annihilates s (Contains source) a → ((k : ℕ) → k < p → slice_index a k ≡ 0) → slice_index a p ≡ 0 → IsCombination 17 (Contains rows) a
    later_than_p a n zeros here =
        let h = lead_above 17 p a n.on_visible.row below (λ k le. elim (cases_lt k p) [
          | inl lt ↦ zeros k lt
          | inr ge ↦ let e : k ≡ p = omega arith in ap (λ (i : ℕ). get_or a i 0) e ∙ here
        ]) in d.all a n (omega arith)

    closing_p : IsCombination 17 (Contains rows) (words_of (times (2 ^ (64 - dv.power)) (reverse c)))
    closing_p =
        let f = 2 ^ (64 - dv.power) in
        later_than_p (words_of (times (2 ^ (64 - dv.power)) (reverse c)))
        (module_multiple 17 (Annihilates s (Contains source)) relations_are_module (2 ^ (64 - dv.power)) (reverse c) is_relation)
        (λ k lt. index_of_multiple (2 ^ (64 - dv.power)) (reverse c) k ∙ ap (λ (x : ℕ). word (2 ^ (64 - dv.power) * x)) (before_p k lt) ∙ ap word (times_zero (2 ^ (64 - dv.power))))
        (index_of_multiple (2 ^ (64 - dv.power)) (reverse c) p ∙ ap (λ (x : ℕ). word (2 ^ (64 - dv.power) * x)) at_p ∙ ap word (sym (whole dv.power dv.small)) ∙ whole_word)
      where
        times_zero : (x : ℕ) → x * 0 ≡ 0
        times_zero x = omega arith

        whole_word : word (2 ^ 64) ≡ 0
        whole_word = refl

    leads_rows : Leads 17 (reverse c) rows
    leads_rows = record {
      is_row = own;
      within = let e = leads_p in omega arith;
      power = dv.power;
      small = dv.small;
      is_pivot = pivot_p;
      later = let e = leads_p in All-weaker (λ x. suc p ≤ lead x) (λ x. lead (reverse c) < lead x) (λ x h. omega arith) rows d.from;
      closing = closing_p;
    }

    below_later : All (λ x. slice_index (reverse c) (lead x) < pivot x) rows
    below_later = All-weaker (Contains rows) (λ x. slice_index (reverse c) (lead x) < pivot x) (λ x h.
        let past : suc p ≤ lead x = All-contains (λ y. suc p ≤ lead y) rows x d.from h in
        let is : pivot x ≡ bound B (16 - lead x) = All-contains (λ y. pivot y ≡ bound B (16 - lead y)) rows x d.bounds h in
        let inside = lead_within rows x d.basis h in
        let g = after_p (lead x) (omega arith) inside in omega arith) rows (All-contains_itself rows)
      where
        lead_within : (rows : List (List ℕ)) (x : List ℕ) → IsLeadingBasis 17 rows → Contains rows x → lead x < 17
        lead_within [] x b h = absurd (nothing_contained x h)
        lead_within (row ∷ rest) x b h = elim (first_or_later row rest x h) [ inl e ↦ rw e b.0.within | inr i ↦ lead_within rest x b.1 i ]

    made_of : (a : List ℕ) → Annihilates s (Contains source) a → p ≤ lead a → IsCombination 17 (Contains (reverse c ∷ rows)) a
    made_of a n from =
        let q = dv.quotient a n from in
        let row = n.on_visible.row in
        let f = (2 ^ 64 - 1) * q.0 in
        let rest = words_of (plus ((2 ^ 64 - 1) * q.0) a (reverse c)) in
        let inside : Annihilates s (Contains source) (words_of (plus ((2 ^ 64 - 1) * q.0) a (reverse c))) = relations_are_module.sum ((2 ^ 64 - 1) * q.0) a (reverse c) n is_relation in
        let zeros : (k : ℕ) → k < p → slice_index (words_of (plus ((2 ^ 64 - 1) * q.0) a (reverse c))) k ≡ 0 = λ k lt.
        index_of_sum 17 ((2 ^ 64 - 1) * q.0) a (reverse c) k row own ∙ ap₂ (λ (x y : ℕ). word (x + (2 ^ 64 - 1) * q.0 * y)) (get_or_before_lead a k (omega arith)) (before_p k lt) ∙ ap word (nothing ((2 ^ 64 - 1) * q.0)) in
        let here : slice_index (words_of (plus ((2 ^ 64 - 1) * q.0) a (reverse c))) p ≡ 0 =
        index_of_sum 17 ((2 ^ 64 - 1) * q.0) a (reverse c) p row own ∙ ap₂ (λ (x y : ℕ). word (x + (2 ^ 64 - 1) * q.0 * y)) q.1 at_p ∙ cancelled q.0 (2 ^ dv.power) in
        let u = later_than_p (words_of (plus ((2 ^ 64 - 1) * q.0) a (reverse c))) inside zeros here in
        let e = take_back 17 q.0 ((2 ^ 64 - 1) * q.0) a (reverse c) row own (both q.0) in
        rw (← e) (with_multiple 17 (reverse c) rows own (basis_rows 17 rows d.basis) q.0 (words_of (plus ((2 ^ 64 - 1) * q.0) a (reverse c))) u)
      where
        nothing : (x : ℕ) → 0 + x * 0 ≡ 0
        nothing x = omega arith

        both : (x : ℕ) → word (x + (2 ^ 64 - 1) * x) ≡ 0
        both x = ap word (let e : x + (2 ^ 64 - 1) * x ≡ 2 ^ 64 * x = omega arith in e) ∙ mul-mod_right (2 ^ 64) x

        cancelled : (x y : ℕ) → word (x * y + (2 ^ 64 - 1) * x * y) ≡ 0
        cancelled x y = ap word (let e : x * y + (2 ^ 64 - 1) * x * y ≡ 2 ^ 64 * (x * y) = omega arith in e) ∙ mul-mod_right (2 ^ 64) (x * y)

    pushed : Dual s source B p (reverse c ∷ rows)
    pushed = record {
      basis = (leads_rows, d.basis);
      reduced = (below_later, d.reduced);
      from = All-cons (λ x. p ≤ lead x) (reverse c) rows (let e = leads_p in omega arith) (All-weaker (λ x. suc p ≤ lead x) (λ x. p ≤ lead x) (λ x h. omega arith) rows d.from);
      bounds = All-cons (λ x. pivot x ≡ bound B (16 - lead x)) (reverse c) rows (pivot_p ∙ sym dv.is ∙ ap (λ (k : ℕ). bound B (16 - k)) (sym leads_p)) d.bounds;
      inside = λ a h. elim (first_or_later (reverse c) rows a h) [ inl e ↦ rw e is_relation | inr i ↦ d.inside a i ];
      all = made_of;
    }

  pub dual_more : (p : ℕ) (rows : List (List ℕ)) (c : List ℕ) → p < 17 → IsTrue (has s p) → pivot_at B (16 - p) ≢ 1 → Dual s source B (suc p) rows → IsRelation 17 B (16 - p) (bound B (16 - p)) c → Dual s source B p (reverse c ∷ rows)
  dual_more p rows c below seen ne d r = pushed p rows c below seen (divides p below ne) d r

  pub dual_row : (p w pivot : ℕ) (rows rows' : List (List ℕ)) (row c : List ℕ) → p < 17 → IsTrue (has s p) → pivot ≡ pivot_at B (16 - p) → pivot ≢ 1 → w ≡ closing_word pivot → row ≡ reverse c → rows' ≡ row ∷ rows → Dual s source B (suc p) rows → IsRelation 17 B (16 - p) w c → Dual s source B p rows'
  dual_row p w pivot rows rows' row c below seen is_pivot ne is_word turns put d r =
      let e : w ≡ bound B (16 - p) = is_word ∙ ap closing_word is_pivot in
      let other : pivot_at B (16 - p) ≢ 1 = λ one. ne (is_pivot ∙ one) in
      let all : rows' ≡ reverse c ∷ rows = put ∙ ap (λ (x : List ℕ). x ∷ rows) turns in
      rw all (dual_more p rows c below seen other d (subst (λ (x : ℕ). IsRelation 17 B (16 - p) x c) e r))

  pub dual_solves : (rows : List (List ℕ)) → Dual s source B 0 rows → Solves s source rows
  dual_solves rows d = record {
    basis = d.basis;
    reduced = d.reduced;
    members = λ a.
        let same = same_annihilators (Contains source) (Contains source) m.are (record { there = λ v i. i; back = λ v i. i }) s a in (
          λ c. same.0 (module_least 17 (Annihilates s (Contains source)) relations_are_module (Contains rows) d.inside a c),
          λ n. d.all a (same.1 n) (omega arith),
        );
  }
