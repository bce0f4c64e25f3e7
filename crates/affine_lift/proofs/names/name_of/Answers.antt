use Rattle.std.proofs.Common.{refl, arith}
use Rattle.affine_lift.specs.Tracking.{register, slot, by_place, unknown_name, bad_slot}
use Rattle.affine_lift.proofs.NamesRead.{no_distance, no_place_name, no_register_name, slot_text}
use Rattle.affine_lift.proofs.names.name_of.Goals as goal

pub returns-in-Some-register_named-clause-named : goal.returns-in-Some-register_named-clause-named
returns-in-Some-register_named-clause-named c =
    let is = c.in-Some-register_named.ensures in
    let allowed = is.allowed in
    register c.in-Some-register_named.register c.in_default.ensures is.register (λ e. omega (arith, e, allowed)) refl

pub returns-in-None-clause-refused : goal.returns-in-None-clause-refused
returns-in-None-clause-refused c = λ procedures names.
    unknown_name (no_register_name c.args.symbols.now c.args.item.now c.in_default.ensures c.in-None.ensures.register) refl

pub returns-in_default-place_of-clause-refused : goal.returns-in_default-place_of-clause-refused
returns-in_default-place_of-clause-refused c = λ procedures names.
    let parts = c.in-Some.ensures in
    let none = c.in_default-place_of.ensures in
    unknown_name (no_place_name c.args.symbols.now c.args.item.now c.in-Some.before.now parts.0 parts.1 none) refl

pub returns-in-Some-distance_of-clause-named : goal.returns-in-Some-distance_of-clause-named
returns-in-Some-distance_of-clause-named c =
    let p = c.in-Some-place_of.proc_entry in
    let rest = c.in-Some.rest.now in
    let parts = c.in-Some.ensures in
    let place = c.in-Some-place_of.ensures in
    let distance = c.in-Some-distance_of.ensures in
    let text = slot_text c.args.symbols.now c.args.item.now c.in-Some.before.now rest p parts.0 parts.1 parts.2 place in
    slot p c.in-Some-distance_of.below rest text distance.0 distance.1 refl

pub returns-in-None-distance_of-clause-refused : goal.returns-in-None-distance_of-clause-refused
returns-in-None-distance_of-clause-refused c = λ procedures names.
    let p = c.in-Some-place_of.proc_entry in
    let rest = c.in-Some.rest.now in
    let parts = c.in-Some.ensures in
    let place = c.in-Some-place_of.ensures in
    let text = slot_text c.args.symbols.now c.args.item.now c.in-Some.before.now rest p parts.0 parts.1 parts.2 place in
    bad_slot (by_place p rest text)
    (no_distance c.args.width c.args.symbols.now c.args.item.now p rest text c.in-None-distance_of.ensures) refl
