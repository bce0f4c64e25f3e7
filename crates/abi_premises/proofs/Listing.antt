-- What is assumed, one point on.
use Rattle.std.proofs.Common.{◌≡◌, ℕ, zero, suc, ◌+◌, ◌<◌, List, [], ◌∷◌, ◌++◌, map, drop, get_or, length, slice_get, Some, refl, sym, ap, subst, ◌∙◌, arith}
use Rattle.std.proofs.lemmas.List.{at_drop_more, append_assoc}
use Rattle.elf_image.specs.declared.image.Image.{Image}
use Rattle.entry_tables.proofs.Finding.{at_there}
use Rattle.entry_tables.specs.declared.rows.Point.{Point}
use Rattle.entry_tables.specs.declared.rows.Rows.{Rows}
use Rattle.abi_premises.specs.declared.premises.Assumption.{Assumption}
use Rattle.abi_premises.specs.Assumed.{assumed_at, assumed_in}

-- one point more
assumed_by_default : (image : Image) (rows : Rows) (points : List Point) (i : ℕ) (d : Point) (all behind total : List Assumption) → i < length points
    → ((point : Point) → slice_get points i ≡ Some point → behind ≡ all ++ assumed_at image rows point)
    → all ++ assumed_in image rows (drop i points) ≡ total → behind ++ assumed_in image rows (drop (i + 1) points) ≡ total
assumed_by_default image rows points i d all behind total within pushed so =
    let rest : List Assumption = assumed_in image rows (drop (i + 1) points) in
    ap (λ (xs : List Assumption). xs ++ rest) (pushed (get_or points i d) (at_there points i d within))
    ∙ append_assoc all (assumed_at image rows (get_or points i d)) rest
    ∙ sym (at_drop_more (λ (xs : List Point). all ++ assumed_in image rows xs) points i d within) ∙ so

pub assumed_more : (image : Image) (rows : Rows) (points : List Point) (i : ℕ) (all behind total : List Assumption) → i < length points
    → ((point : Point) → slice_get points i ≡ Some point → behind ≡ all ++ assumed_at image rows point)
    → all ++ assumed_in image rows (drop i points) ≡ total → behind ++ assumed_in image rows (drop (i + 1) points) ≡ total
assumed_more image rows [] i all behind total within pushed so = absurd (omega (arith, within))
assumed_more image rows (x ∷ points) i all behind total within pushed so = assumed_by_default image rows (x ∷ points) i x all behind total within pushed so
