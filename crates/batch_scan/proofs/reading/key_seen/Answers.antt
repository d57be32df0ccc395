use Rattle.std.proofs.Common.{◌∙◌, true, false, not, refl, sym, ap}
use Rattle.edit_laws.specs.Edits.{writes_key}
use Rattle.group_book.specs.Book.{is_visible}
use Rattle.group_view.specs.Parts.{lived_version}
use Rattle.group_view.specs.Views.{endings_of, version_at}
use Rattle.batch_scan.proofs.Seen.{key_read_is, mine_by}
use Rattle.batch_scan.proofs.reading.key_seen.Goals as goal
use Rattle.batch_scan.proofs.reading.key_seen.Goals.{else-seen-via-then-seen+else-is_none, else-seen-via-else-seen}

pub returns-then-is_none : goal.returns-then-is_none
returns-then-is_none c =
    let pinned = c.args.pinned.now in
    let version = lived_version c.version-version.result in
    let seen = ap (λ b. is_visible (endings_of b) pinned.snapshot version) (sym c.buffer.ensures) ∙ sym c.is_visible-seen.ensures in
    sym (key_read_is pinned (version_at pinned.view c.args.place) version true false c.version-version.ensures (seen ∙ c.if-seen.true)
    (mine_by pinned.own version.key c.find.result c.find.ensures.place ∙ c.is_none.ensures ∙ ap not c.if-is_none.true))

pub returns-else-seen : goal.returns-else-seen
returns-else-seen c =
    let pinned = c.args.pinned.now in
    let version = lived_version c.version-version.result in
    let seen = ap (λ b. is_visible (endings_of b) pinned.snapshot version) (sym c.buffer.ensures) ∙ sym c.is_visible-seen.ensures in
    elim c.else-seen.branch [
      | else-seen-via-then-seen+else-is_none w ↦
          sym (key_read_is pinned (version_at pinned.view c.args.place) version true true c.version-version.ensures (seen ∙ w.if-seen.true)
          (mine_by pinned.own version.key w.find.result w.find.ensures.place ∙ w.is_none.ensures ∙ ap not w.if-is_none.false))
      | else-seen-via-else-seen w ↦
          sym (key_read_is pinned (version_at pinned.view c.args.place) version false (writes_key pinned.own version.key) c.version-version.ensures (seen ∙ w.if-seen.false) refl)
    ]
