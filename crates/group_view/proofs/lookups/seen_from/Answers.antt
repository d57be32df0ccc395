use Rattle.std.proofs.Common.{◌<◌, sym, subst, arith}
use Rattle.group_view.specs.Parts.{lived_version, stored_versions}
use Rattle.group_view.specs.Views.{endings_of}
use Rattle.group_view.proofs.Finds.{IsWalk, shows_here, steps_left, walk_begins, walk_ends, walk_falls, walk_goes_on, walk_key}
use Rattle.group_view.proofs.lookups.seen_from.Goals as goal

pub loop-at-init : goal.loop-at-init
loop-at-init c = walk_begins c.args.store.now (endings_of c.args.buffer.now) c.args.key c.args.s c.args.last c.requires

pub returns-then-is_visible-clause-found : goal.returns-then-is_visible-clause-found
returns-then-is_visible-clause-found c =
    let store = c.args.store.now in
    let buffer = endings_of c.args.buffer.now in
    let walk = subst (IsWalk store buffer c.args.key c.args.s) c.in-Some.is c.loop-at.invariant in
    shows_here buffer c.args.key c.args.s (stored_versions store) c.in-Some.position (lived_version c.stored_version.result) c.stored_version.ensures
    (walk_key store buffer c.args.key c.args.s c.in-Some.position (lived_version c.stored_version.result) walk c.stored_version.ensures) (sym c.if-is_visible.ensures)

pub loop-at-smaller : goal.loop-at-smaller
loop-at-smaller c =
    let store = c.args.store.now in
    let buffer = endings_of c.args.buffer.now in
    let walk = subst (IsWalk store buffer c.args.key c.args.s) c.in-Some.is c.loop-at.invariant in
    subst (λ o. steps_left c.earlier-at.result < steps_left o) (sym c.in-Some.is)
    (walk_falls store buffer c.args.key c.args.s c.in-Some.position (lived_version c.stored_version.result) walk c.stored_version.ensures c.earlier-at.result c.earlier-at.ensures)

pub loop-at-preserved : goal.loop-at-preserved
loop-at-preserved c =
    let store = c.args.store.now in
    let buffer = endings_of c.args.buffer.now in
    let walk = subst (IsWalk store buffer c.args.key c.args.s) c.in-Some.is c.loop-at.invariant in
    walk_goes_on store buffer c.args.key c.args.s c.in-Some.position (lived_version c.stored_version.result) walk c.stored_version.ensures c.earlier-at.result (sym c.if-is_visible.ensures) c.earlier-at.ensures

pub returns-then-ended_by-s-clause-none : goal.returns-then-ended_by-s-clause-none
returns-then-ended_by-s-clause-none c =
    let store = c.args.store.now in
    let buffer = endings_of c.args.buffer.now in
    let walk = subst (IsWalk store buffer c.args.key c.args.s) c.in-Some.is c.loop-at.invariant in
    walk_ends store buffer c.args.key c.args.s c.in-Some.position (lived_version c.stored_version.result) walk c.stored_version.ensures c.ended_by.result (sym c.if-is_visible.ensures) c.ended_by.ensures (omega arith)
