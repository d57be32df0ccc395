use Rattle.std.proofs.Common.{refl}
use Rattle.group_view.specs.Parts.{lived_version}
use Rattle.group_view.specs.Views.{version_at}
use Rattle.row_work.proofs.Known.{none_read, some_read}
use Rattle.row_work.proofs.reading.key_shown.Goals as goal

pub returns-then-has : goal.returns-then-has
returns-then-has c =
    let pinned = c.args.pinned.now in
    let place = c.args.place in
    some_read pinned place c.args.shown.now c.requires.known c.has.result c.has.ensures c.if-has.true (version_at pinned.view place) refl (lived_version c.version.result) c.version.ensures

pub returns-else-has : goal.returns-else-has
returns-else-has c =
    let pinned = c.args.pinned.now in
    let place = c.args.place in
    none_read pinned place c.args.shown.now c.requires.known c.has.result c.has.ensures c.if-has.false (version_at pinned.view place) refl
