-- Where a name with a given text stands.
use Rattle.std.proofs.Common.{◌≡◌, ◌≢◌, inl, inr, ℕ, ◌<◌, ◌≤◌, Bool, true, false, List, All, length, get_or, Option, Some, None, refl, sym, subst, ap, ◌∙◌, arith}
use Rattle.std.specs.Prelude.{slice_get, IsSomeAnd, ◌⊎◌}
use Rattle.std.specs.Str.{bytes_eq}
use Rattle.std.proofs.lemmas.List.Elements.{All-get_or}
use Rattle.std.proofs.lemmas.List.Sums.{passes_at_first, position_or_len_is}
use Rattle.std.proofs.lemmas.Option.{slice_get-get_or, slice_get_cases}
use Rattle.std.proofs.lemmas.Slice.Eq.{bytes_eq-Decides}
use Rattle.report_text.specs.declared.names.Name.{Name}
use Rattle.report_text.specs.Names.{IsName, IsSeenIn, IsSeenAt}
use Rattle.report_text.specs.Text.{name_text}
use Rattle.report_lines.specs.NameTexts.{IsAddressed}
use Rattle.report_lines.specs.Relations.{IsSeenName, place_in}
use Rattle.report_lines.specs.Places.{IsFirst}
use Rattle.report_lines.proofs.NamesTold.{one_name}

-- what is seen at a position is the name that stands there
pub seen_there : (names : List Name) (p k : ℕ) (d : Name) → IsSeenAt names p k → (k < length names) × IsSeenIn p (get_or names k d)
seen_there names p k d h = by (slice_get_cases names k).1
  where
    by : ((x : Name) × (k < length names) × (slice_get names k ≡ Some x) × (get_or names k x ≡ x)) ⊎ ((length names ≤ k) × (slice_get names k ≡ None))
        → (k < length names) × IsSeenIn p (get_or names k d)
    by (inl some) =
        (some.1, subst (λ (o : Option Name). IsSomeAnd o (IsSeenIn p)) (slice_get-get_or names k d some.1) h)
    by (inr past) = absurd (subst (λ (o : Option Name). IsSomeAnd o (IsSeenIn p)) past.1 h)

pub seen_so : (names : List Name) (p k : ℕ) (d : Name) → k < length names → IsSeenIn p (get_or names k d) → IsSeenAt names p k
seen_so names p k d lt h = subst (λ (o : Option Name). IsSomeAnd o (IsSeenIn p)) (sym (slice_get-get_or names k d lt)) h

equal_from : (xs ys : List ℕ) → bytes_eq xs ys ≡ true → xs ≡ ys
equal_from xs ys e = (bytes_eq-Decides xs ys).0 e

pub differ : (xs ys : List ℕ) → xs ≢ ys → bytes_eq xs ys ≡ false
differ xs ys apart = by (bytes_eq xs ys) refl
  where
    by : (b : Bool) → bytes_eq xs ys ≡ b → b ≡ false
    by true e = absurd (apart (equal_from xs ys e))
    by false e = refl

-- the name at the place of a text has this text
pub named_there : (names : List Name) (text : List ℕ) (d : Name) → place_in names text < length names → name_text (get_or names (place_in names text) d) ≡ text
named_there names text d lt = equal_from _ text (passes_at_first (λ name. bytes_eq (name_text name) text) names d lt)

module _ (names : List Name) (allowed : All IsName names) (addressed : All IsAddressed names) where
  pub place_first : (name : Name) (k : ℕ) (text : List ℕ) → IsFirst names name k → IsName name → IsAddressed name → text ≡ name_text name → k ≡ place_in names text
  place_first name k text stands is_name is_addressed is =
      sym (position_or_len_is (λ n. bytes_eq (name_text n) text) names k name stands.within
      (λ j lt. differ _ text (λ e. stands.before j name lt
      (one_name (get_or names j name) name (All-get_or IsName names j name (omega (arith, stands.within)) allowed) (All-get_or IsAddressed names j name (omega (arith, stands.within)) addressed) is_name is_addressed (e ∙ is))))
      (λ lt. (bytes_eq-Decides _ text).1 (ap name_text (stands.here name lt) ∙ sym is)))

  -- a text that no name has isn't known
  pub not_known : (text : List ℕ) (p : ℕ) (d : Name) → ((name : Name) → IsName name → IsAddressed name → text ≢ name_text name) → IsSeenName names p text → ⊥
  not_known text p d none h =
      let lt = (seen_there names p (place_in names text) d h).0 in
      none (get_or names (place_in names text) d) (All-get_or IsName names _ d lt allowed) (All-get_or IsAddressed names _ d lt addressed)
      (sym (named_there names text d lt))
