use Rattle.std.proofs.Common.{ℕ, ◌≤◌, List, Contains, subst, arith}
use Rattle.row_modules.specs.Forms.{Annihilates}
use Rattle.row_modules.specs.Modules.{IsCombination, Generates}
use Rattle.row_modules.proofs.Laws.{generator}
use Rattle.lead_basis.specs.Mirrors.{Mirrors}
use Rattle.lead_basis.proofs.Leading.{basis_rows}
use Rattle.lead_basis.proofs.annihilator.annihilator_of.Goals as goal

pub from_rows-requires : goal.from_rows-requires
from_rows-requires g c =
    let m = subst (λ (x : List (List ℕ)). Mirrors c.args.visible x c.in_ok-mirrored.mirrored) c.rows.ensures c.in_ok-mirrored.ensures in
    let some : 1 ≤ 17 = omega arith in
    let within : 17 ≤ 512 = omega arith in
    (omega arith, (omega arith, (some, (within, (c.in_ok-rows.ensures c.args.source.now m).basis))))

pub returns-clause-reduced : goal.returns-clause-reduced
returns-clause-reduced g c =
    let m = subst (λ (x : List (List ℕ)). Mirrors c.args.visible x c.in_ok-mirrored.mirrored) c.rows.ensures c.in_ok-mirrored.ensures in
    rw c.from_rows.ensures (c.in_ok-rows.ensures c.args.source.now m).reduced

pub returns-clause-generates : goal.returns-clause-generates
returns-clause-generates g c =
    let m = subst (λ (x : List (List ℕ)). Mirrors c.args.visible x c.in_ok-mirrored.mirrored) c.rows.ensures c.in_ok-mirrored.ensures in
    let s = c.in_ok-rows.ensures c.args.source.now m in
    let rows = c.in_ok-rows.rows.items in
    let all : Generates 17 c.in_ok-rows.rows.items (Annihilates c.args.visible (IsCombination 17 (Contains c.args.source.now))) = record {
      inside = λ a h. (s.members a).0 (generator 17 (Contains c.in_ok-rows.rows.items) (basis_rows 17 c.in_ok-rows.rows.items s.basis) a h);
      all = λ a n. (s.members a).1 n;
    } in
    rw c.from_rows.ensures all

pub returns-clause-module : goal.returns-clause-module
returns-clause-module g c =
    let m = subst (λ (x : List (List ℕ)). Mirrors c.args.visible x c.in_ok-mirrored.mirrored) c.rows.ensures c.in_ok-mirrored.ensures in
    rw c.from_rows.ensures (c.in_ok-rows.ensures c.args.source.now m).members
