-- Made files are accepted. Crates above may cite it.
use Rattle.std.proofs.Common.{◌≡◌, ◌≢◌, ℕ, ◌+◌, ◌*◌, ◌^◌, ◌<◌, ◌≤◌, List, [], ◌∷◌, length, map, get_or, Some, None, All, AllPairs, Contains, refl, ap, sym, subst, subst₂, ◌∙◌, arith, inl, inr}
use Rattle.std.proofs.lemmas.List.{get_or-map, length-map}
use Rattle.std.proofs.lemmas.List.Elements.{All-contains, All-map, Contains-get_or}
use Rattle.std.proofs.lemmas.List.Kept.{AllPairs-from_increasing}
use Rattle.elf_write.specs.Headers.{words_text}
use Rattle.elf_write.proofs.Laws.{words_length}
use Rattle.elf_image.specs.Fields.{e_entry}
use Rattle.elf_image.specs.Refusals.{refusal_of}
use Rattle.elf_image.specs.declared.image.Image.{Image}
use Rattle.rv_decode.proofs.Table.{in_range}
use Rattle.flow_points.specs.Flows.{fetches_of}
use Rattle.flow_points.specs.Walks.{FlowWalk, point, start}
use Rattle.flow_points.specs.Refusals.{IsFlowRefusal, IsRefusal}
use Rattle.flow_points.specs.PointLists.{ArePoints, ArePointsOf, FlowPoints, HasCode, IsBefore, entries_of, places_of}
use Rattle.flow_points.specs.declared.code_points.CodePoint.{CodePoint}
use Rattle.flow_points.specs.declared.code_points.Point.{Point}
use Rattle.flow_points.proofs.Cited.{from_map}
use Rattle.flow_points.proofs.PointLaws.{ascending, only_procedures}
use Rattle.refusals.specs.declared.flow.FlowRefusal.{FlowRefusal}
use Rattle.gen_elf.specs.Generated.{IsGenerated, address_of, code_of, file_size}
use Rattle.run_paths.proofs.Lifted.{points_have_code}
use Rattle.analyser_core.specs.Accepted.{IsCrowded, IsImageOf}
use Rattle.made_files.specs.Accepted.{IsAcceptedFile}
use Rattle.made_files.proofs.SmallHeaders.{entry_is, file, file_length, not_refused}
use Rattle.made_files.proofs.SmallFetches.{address, first_fetched, has_words, whole_word}
use Rattle.made_files.proofs.MadeCode.{as_many, code_length, means_at}
use Rattle.made_files.proofs.MadePoints.{IsMadePoint, in_procedure, in_start}
use Rattle.made_files.proofs.MadeFlows.{GoesOn, goes_on_made}
use Rattle.made_files.proofs.FewPoints.{all_made, ascending_below, few, no_refusal}

-- a point's procedure begins at a point
starts_too : (n : ℕ) (p : Point) → IsMadePoint n p → IsMadePoint n (start p.proc_entry)
starts_too n p (in_start k low is) =
    in_start 0 (omega arith) (ap (λ (q : Point). start q.proc_entry) is)
starts_too n p (in_procedure i j some most low is) =
    let same : address_of i ≡ address_of i + 4 * 0 = omega arith in
    in_procedure i 0 some most (omega arith) (ap (λ (q : Point). start q.proc_entry) is ∙ ap (point (address_of i)) same)

before_other : (p q : Point) → IsBefore p q → p ≢ q
before_other p q (inl less) e = let same = ap (λ (r : Point). r.proc_entry) e in omega (arith, less, same)
before_other p q (inr less) e = let same = ap (λ (r : Point). r.address) e in omega (arith, less.1, same)

some_item : {X : Type 0} (xs : List X) → 0 < length xs → X
some_item [] some = absurd (omega (arith, some))
some_item (x ∷ xs) some = x

pairs_mapped : {X Y : Type 0} (R : Y → Y → Type 0) (f : X → Y) (xs : List X) → AllPairs (λ x y. R (f x) (f y)) xs → AllPairs R (map f xs)
pairs_mapped R f xs pairs i j d less within =
    let inside : j < length xs = omega (arith, within, length-map xs f) in
    let c = some_item xs (omega (arith, inside)) in
    subst₂ R (sym (get_or-map f xs i c d (omega (arith, less, inside)))) (sym (get_or-map f xs j c d inside)) (pairs i j c less inside)

-- what gives made points that are apart is few
few_of : {X : Type 0} (n : ℕ) (f : X → Point) (xs : List X) → All (λ x. IsMadePoint n (f x)) xs → AllPairs (λ x y. f x ≢ f y) xs
    → length xs ≤ 3 + 8 * n
few_of n f xs made apart =
    let low = few n (map f xs) (All-map (IsMadePoint n) f xs made) (pairs_mapped (λ p q. p ≢ q) f xs apart) in
    omega (arith, low, length-map xs f)

module _ (n : ℕ) (bytes : List ℕ) (made : IsGenerated n bytes) where
  abbrev words : List ℕ
  words = made.whole.words

  many : length words ≡ 3 + 8 * n
  many = as_many words (code_of n) made.whole.mean ∙ code_length n

  sized : file_size n ≡ 120 + 4 * length words
  sized = omega (arith, many)

  small : file_size n < 2 ^ 32
  small = omega (arith, made.in_range.1)

  bytes_are : bytes ≡ file (file_size n) (words_text words)
  bytes_are = made.whole.added

  word_fits : (k : ℕ) → k < length words → get_or words k 0 < 2 ^ 32
  word_fits k within = (in_range _ _ (means_at words (code_of n) k made.whole.mean within)).1

  accepted : refusal_of bytes ≡ None
  accepted =
      let first : 0 < length words = omega (arith, many) in
      let at = first_fetched words (file_size n) sized small 0 first (word_fits 0 first) in
      let text : file_size n ≡ 120 + length (words_text words) = omega (arith, sized, words_length words) in
      ap refusal_of bytes_are ∙ not_refused (file_size n) (words_text words) text small (whole_word (get_or words 0 0)) at

  begins : IsMadePoint n (point (address 0) (address 0))
  begins = in_start 0 (omega arith) refl

  module _ (image : Image) (of : IsImageOf bytes image) where
    goes : (p : Point) → IsMadePoint n p → GoesOn n (fetches_of image) p
    goes = goes_on_made n made.in_range.1 made.in_range.0 (fetches_of image) words made.whole.mean
        (has_words words (file_size n) sized small image (of ∙ bytes_are) word_fits)

    enters : image.entry ≡ address 0
    enters = image.enters ∙ ap e_entry (of ∙ bytes_are) ∙ entry_is (file_size n) (words_text words)

    pub flows : (refusal : FlowRefusal) → IsFlowRefusal image refusal → ⊥
    flows refusal is =
        no_refusal n made.in_range.1 (fetches_of image) goes begins refusal
        (subst (λ (entry : ℕ). IsRefusal (fetches_of image) entry refusal) enters is)

    pub points_made : (points : FlowPoints) → ArePointsOf image points → All (λ c. IsMadePoint n c.point) points.points
    points_made points are k d within =
        all_made n made.in_range.1 (fetches_of image) goes begins _
        (subst (λ (entry : ℕ). FlowWalk (fetches_of image) entry (get_or points.points k d).point) enters (are.only k d within))

    points_apart : (points : FlowPoints) → ArePointsOf image points → AllPairs (λ c d. c.point ≢ d.point) points.points
    points_apart points are i j d less within = before_other _ _ (are.ascending i j d less within)

    few_points : (points : FlowPoints) → ArePointsOf image points → length points.points ≤ 3 + 8 * n
    few_points points are =
        few_of n (λ (c : CodePoint). c.point) points.points (points_made points are) (points_apart points are)

    few_procedures : (points : FlowPoints) → ArePointsOf image points → length points.procedures ≤ 3 + 8 * n
    few_procedures points are =
        few_of n start points.procedures
        (λ k d within. procedure_made (get_or points.procedures k d) (Contains-get_or points.procedures k d within))
        (λ i j d less within e. let up = AllPairs-from_increasing points.procedures (ascending points code) i j d less within in
        let same = ap (λ (p : Point). p.address) e in omega (arith, up, same))
      where
        code : HasCode points
        code = points_have_code image points are

        procedure_made : (p : ℕ) → Contains points.procedures p → IsMadePoint n (start p)
        procedure_made p there =
            let found = from_map (λ (c : CodePoint). c.point.proc_entry) points.points p (only_procedures points p code there) in
            subst (λ (q : ℕ). IsMadePoint n (start q)) found.2
            (starts_too n found.0.point (All-contains (λ (c : CodePoint). IsMadePoint n c.point) points.points found.0 (points_made points are) found.1))

  few_heads : (list : List ℕ) → IsCrowded bytes list → ⊥
  few_heads list crowded =
      let taken = crowded.accepted.accepted in
      let points = few_points crowded.accepted.image taken.is_image crowded.points taken.has_points.are in
      let procedures = few_procedures crowded.accepted.image taken.is_image crowded.points taken.has_points.are in
      let nodes = crowded.lifted.nodes in
      let heads = crowded.many_heads.heads in
      let numbers = crowded.many_heads.numbers in
      let bound = ascending_below heads crowded.program.nodes numbers.order (λ u there. ((numbers.all u).0 there).node) in
      let high = crowded.many_heads.many in
      let most = made.in_range.1 in
      omega (arith, points, procedures, nodes, bound, high, most)

  pub made_accepted : IsAcceptedFile bytes
  made_accepted = record {
    short = let whole = ap length bytes_are ∙ file_length (file_size n) (words_text words) in
        let text = words_length words in let most = made.in_range.1 in omega (arith, whole, text, many, most);
    is_image = accepted;
    flows = λ image refusal of. flows image of refusal;
    few_heads = few_heads;
  }
