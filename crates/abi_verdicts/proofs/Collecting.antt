-- The ends of points, one point on.
use Rattle.std.proofs.Common.{◌≡◌, ℕ, ◌+◌, ◌<◌, List, [], ◌∷◌, ◌++◌, drop, get_or, length, Option, Some, slice_get, sym, ap, ◌∙◌, arith}
use Rattle.std.specs.Prelude.{option_to_list}
use Rattle.std.proofs.lemmas.List.{at_drop_more, append_assoc}
use Rattle.elf_image.specs.declared.image.Image.{Image}
use Rattle.entry_tables.proofs.Finding.{at_there}
use Rattle.entry_tables.specs.declared.rows.Point.{Point}
use Rattle.entry_tables.specs.declared.rows.Rows.{Rows}
use Rattle.abi_verdicts.specs.declared.ways.End.{End}
use Rattle.abi_verdicts.specs.Ends.{end_of, ends_in}

one_more : (image : Image) (rows : Rows) (points : List Point) (i : ℕ) (d : Point) (all behind total : List End) (o : Option End) → i < length points
    → ((point : Point) → slice_get points i ≡ Some point → o ≡ end_of image rows point) → behind ≡ all ++ option_to_list o
    → all ++ ends_in image rows (drop i points) ≡ total → behind ++ ends_in image rows (drop (i + 1) points) ≡ total
one_more image rows points i d all behind total o within is pushed so =
    let rest : List End = ends_in image rows (drop (i + 1) points) in
    let same : o ≡ end_of image rows (get_or points i d) = is (get_or points i d) (at_there points i d within) in
    let here : all ++ (option_to_list (end_of image rows (get_or points i d)) ++ rest) ≡ total =
    sym (at_drop_more (λ (xs : List Point). all ++ ends_in image rows xs) points i d within) ∙ so in
    ap (λ (xs : List End). xs ++ rest) (pushed ∙ ap (λ (p : Option End). all ++ option_to_list p) same)
    ∙ append_assoc all (option_to_list (end_of image rows (get_or points i d))) rest ∙ here

pub one_end_more : (image : Image) (rows : Rows) (points : List Point) (i : ℕ) (all behind total : List End) (o : Option End) → i < length points
    → ((point : Point) → slice_get points i ≡ Some point → o ≡ end_of image rows point) → behind ≡ all ++ option_to_list o
    → all ++ ends_in image rows (drop i points) ≡ total → behind ++ ends_in image rows (drop (i + 1) points) ≡ total
one_end_more image rows [] i all behind total o within is pushed so = absurd (omega (arith, within))
one_end_more image rows (x ∷ points) i all behind total o within is pushed so = one_more image rows (x ∷ points) i x all behind total o within is pushed so
