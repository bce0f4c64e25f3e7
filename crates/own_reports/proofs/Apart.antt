-- A file and a list that have a report aren't refused.
use Rattle.std.proofs.Common.{◌≡◌, ◌<◌, ℕ, List, length, refl, ap, ap₂, sym, ◌∙◌, arith, subst}
use Rattle.std.proofs.lemmas.List.Kept.{AllPairs-from_increasing}
use Rattle.elf_image.specs.Refusals.{refusal_of}
use Rattle.elf_image.specs.declared.image.Image.{Image}
use Rattle.flow_points.specs.Flows.{fetches_of}
use Rattle.flow_points.specs.Refusals.{IsFlowRefusal}
use Rattle.flow_points.specs.PointLists.{ArePointsOf, FlowPoints}
use Rattle.affine_prog.specs.declared.Program.{Program}
use Rattle.affine_lift.specs.Lifting.{IsLifted}
use Rattle.affine_lift.specs.Tracking.{IsTracked, IsTrackRefusal, Scope, scope_of}
use Rattle.affine_lift.proofs.OneProgram.{one_program}
use Rattle.block_program.specs.InnerNodes.{NumbersHeads}
use Rattle.refusals.specs.declared.track.TrackRefusal.{TrackRefusal}
use Rattle.refusals.specs.declared.track.TrackRefusal.TheVariants as tracks
use Rattle.report_text.specs.declared.names.Name.{Name}
use Rattle.report_text.specs.declared.reports.Report.{Report}
use Rattle.run_paths.proofs.Lifted.{points_have_code}
use Rattle.analyser_core.specs.Accepted.{IsAcceptedAs, IsRefusal}
use Rattle.analyser_core.specs.Heads.{HasFewHeads, HasManyHeads}
use Rattle.analyser_core.specs.Reports.{IsReportOver}
use Rattle.analyser_core.specs.declared.cert_line.CertLine.{CertLine}
use Rattle.analyser_core.specs.declared.refusal.Refusal.{Refusal}
use Rattle.analyser_core.specs.declared.refusal.Refusal.TheVariants.{Elf, Flow, Track, Heads, Memory}
use Rattle.own_reports.proofs.OneImage.{one_image}
use Rattle.own_reports.proofs.OneList.{one_list}
use Rattle.own_reports.proofs.OnePoints.{one_points}

one_heads : (program : Program) (xs ys : List ℕ) → NumbersHeads program xs → NumbersHeads program ys → xs ≡ ys
one_heads program xs ys h k =
    one_list (λ (a : ℕ) b. a < b) (λ a b l m. omega (arith, l, m)) xs ys (AllPairs-from_increasing xs h.order)
    (AllPairs-from_increasing ys k.order) (λ u there. (k.all u).1 ((h.all u).0 there)) (λ u there. (h.all u).1 ((k.all u).0 there))

few_not_many : (program : Program) → HasFewHeads program → HasManyHeads program → ⊥
few_not_many program few many =
    let same = ap length (one_heads program few.heads many.heads few.numbers many.numbers) in
    let low = few.few in let high = many.many in omega (arith, same, low, high)

abbrev pub ReadInOneWay : Type 0
ReadInOneWay = (scope : Scope) (text : List ℕ) (a b : List Name) → IsTracked scope text a → IsTracked scope text b → a ≡ b

abbrev pub RefusedForMemory : Type 0
RefusedForMemory = (scope : Scope) (text : List ℕ) (names : List Name) (refusal : TrackRefusal) → IsTracked scope text names
    → IsTrackRefusal scope text refusal → refusal ≡ tracks.Memory

module _ (bytes list : List ℕ) (points : FlowPoints) (names : List Name) (is : IsAcceptedAs bytes list points names) where
  pub same_image : (other : Image) → other.file ≡ bytes → is.image ≡ other
  same_image other of = one_image is.image other (is.accepted.is_image ∙ sym of)

  pub same_points : (other : Image) (q : FlowPoints) → other.file ≡ bytes → ArePointsOf other q → points ≡ q
  same_points other q of are =
      one_points (fetches_of is.image) is.image.entry points q is.accepted.has_points.are
      (subst (λ (i : Image). ArePointsOf i q) (sym (same_image other of)) are)

  pub same_scope : (other : Image) (q : FlowPoints) → other.file ≡ bytes → ArePointsOf other q
      → scope_of is.image.symbols points.procedures ≡ scope_of other.symbols q.procedures
  same_scope other q of are =
      ap₂ scope_of (ap (λ (i : Image). i.symbols) (same_image other of)) (ap (λ (p : FlowPoints). p.procedures) (same_points other q of are))

module _ (one_list_read : ReadInOneWay) (for_memory : RefusedForMemory) (bytes list : List ℕ) where
  pub same_names : (p q : FlowPoints) (n m : List Name) (h : IsAcceptedAs bytes list p n) (k : IsAcceptedAs bytes list q m) → n ≡ m
  same_names p q n m h k =
      let scopes = same_scope bytes list p n h k.image q k.accepted.is_image k.accepted.has_points.are in
      one_list_read (scope_of h.image.symbols p.procedures) list n m h.accepted.is_tracked
      (subst (λ (s : Scope). IsTracked s list m) (sym scopes) k.accepted.is_tracked)

  pub same_program : (p q : FlowPoints) (n m : List Name) (f g : Program) → IsAcceptedAs bytes list p n → IsAcceptedAs bytes list q m
      → IsLifted p n f → IsLifted q m g → f ≡ g
  same_program p q n m f g h k first second =
      let points = same_points bytes list p n h k.image q k.accepted.is_image k.accepted.has_points.are in
      let has = points_have_code h.image p h.accepted.has_points.are in
      one_program p n f g has first
      (subst (λ (ns : List Name). IsLifted p ns g) (sym (same_names p q n m h k))
      (subst (λ (r : FlowPoints). IsLifted r m g) (sym points) second))

  pub refused_for_memory : (report : Report) (certs : List CertLine) (refusal : Refusal) → IsReportOver bytes list report certs
      → IsRefusal bytes list refusal → refusal ≡ Memory
  refused_for_memory report certs (Elf why) over is =
      let h = over.lifted.accepted in
      let none = ap refusal_of (sym h.accepted.is_image) ∙ h.image.accepted in absurd (cc)
  refused_for_memory report certs (Flow why) over (other, of, bad) =
      let h = over.lifted.accepted in
      absurd (h.accepted.has_points.accepted why
      (subst (λ (i : Image). IsFlowRefusal i why) (sym (same_image bytes list over.points over.names h other of)) bad))
  refused_for_memory report certs (Track why) over (other, q, of, has, bad, away) =
      let h = over.lifted.accepted in
      let scopes = same_scope bytes list over.points over.names h other q of has.are in
      absurd (away (for_memory (scope_of h.image.symbols over.points.procedures) list over.names why h.accepted.is_tracked
      (subst (λ (s : Scope). IsTrackRefusal s list why) (sym scopes) bad)))
  refused_for_memory report certs (Heads limit) over (is, crowded) =
      let same = same_program over.points crowded.points over.names crowded.names over.program crowded.program over.lifted.accepted
      crowded.accepted over.lifted.lifted crowded.lifted in
      absurd (few_not_many over.program over.few_heads (subst HasManyHeads (sym same) crowded.many_heads))
  refused_for_memory report certs Memory over is = refl
