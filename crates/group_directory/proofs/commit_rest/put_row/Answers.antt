use Rattle.std.proofs.Common.{refl, sym, ap, ◌∙◌, None, suc}
use Rattle.group_book.specs.Commits.{has_live, new_version}
use Rattle.group_view.specs.declared.groups.Group.{Group}
use Rattle.group_view.specs.Parts.{Rowed}
use Rattle.group_view.specs.Books.{versions_of, rowed_in_content}
use Rattle.group_directory.specs.Committing.{IsRoomy}
use Rattle.std.proofs.lemmas.List.{map-append}
use Rattle.group_directory.proofs.ChangeLemmas.{live_here, all_here, book_put, held_open, held_shut, origins_more, put_packed, less_room, opened_open, opened_shut, live_more}
use Rattle.group_directory.proofs.commit_rest.put_row.Goals as goal

pub put_version-requires-clause-dead : goal.put_version-requires-clause-dead
put_version-requires-clause-dead c =
    sym (ap (has_live c.args.key) (live_here c.args.list.now c.args.at c.at_mut-group.result.now c.requires.held c.requires.opened c.at_mut-group.ensures.value)) ∙ c.requires.dead

pub returns-then-not-put_version-clause-book : goal.returns-then-not-put_version-clause-book
returns-then-not-put_version-clause-book c =
    book_put c.args.list.now c.args.at c.at_mut-group.result.now c.put_version.new.content None c.args.list.now.buffer c.requires.held c.requires.opened c.at_mut-group.ensures.value
    c.args.group_rows (new_version c.args.begin c.args.key) c.put_version.ensures.content refl

pub returns-then-not-put_version-clause-held : goal.returns-then-not-put_version-clause-held
returns-then-not-put_version-clause-held c =
    held_shut c.args.list.now c.args.at c.at_mut-group.result.now c.put_version.new.content None c.args.list.now.buffer c.requires.held c.requires.opened c.at_mut-group.ensures.value
    (sym c.put_version.ensures.state ∙ c.if-not-put_version.true) c.put_version.ensures.fitting refl

pub returns-then-not-put_version-clause-origins : goal.returns-then-not-put_version-clause-origins
returns-then-not-put_version-clause-origins c =
    origins_more c.args.list.now c.args.at c.at_mut-group.result.now c.put_version.new.content None c.args.list.now.buffer c.requires.held c.requires.opened c.at_mut-group.ensures.value
    (record { version = new_version c.args.begin c.args.key; row = c.args.row }) c.put_version.ensures.rows

pub returns-then-not-put_version-clause-room : goal.returns-then-not-put_version-clause-room
returns-then-not-put_version-clause-room c = λ pool rows room.
    let roomy = all_here c.args.list.now c.args.at c.at_mut-group.result.now c.requires.held c.requires.opened c.at_mut-group.ensures.value (λ (group : Group). IsRoomy c.args.group_rows (suc rows) group.content) room.opened in
    less_room c.args.list.now c.args.at c.at_mut-group.result.now c.put_version.new.content None c.args.list.now.buffer c.requires.held c.requires.opened c.at_mut-group.ensures.value
    c.args.group_rows rows pool (c.put_version.ensures.room rows roomy) c.put_version.ensures.places room

pub returns-then-not-put_version-clause-live : goal.returns-then-not-put_version-clause-live
returns-then-not-put_version-clause-live c = λ other apart dead. ap (has_live other) (opened_shut c.args.list.now c.args.at c.at_mut-group.result.now c.put_version.new.content None c.args.list.now.buffer c.requires.held c.requires.opened c.at_mut-group.ensures.value (sym c.put_version.ensures.state ∙ c.if-not-put_version.true))

pub returns-else-not-put_version-clause-book : goal.returns-else-not-put_version-clause-book
returns-else-not-put_version-clause-book c =
    book_put c.args.list.now c.args.at c.at_mut-group.result.now c.put_version.new.content c.args.list.now.opened c.args.list.now.buffer c.requires.held c.requires.opened c.at_mut-group.ensures.value
    c.args.group_rows (new_version c.args.begin c.args.key) c.put_version.ensures.content refl

pub returns-else-not-put_version-clause-held : goal.returns-else-not-put_version-clause-held
returns-else-not-put_version-clause-held c =
    held_open c.args.list.now c.args.at c.at_mut-group.result.now c.put_version.new.content c.args.list.now.opened c.args.list.now.buffer c.requires.held c.requires.opened c.at_mut-group.ensures.value
    (sym c.put_version.ensures.state ∙ c.if-not-put_version.false) c.requires.opened

pub returns-else-not-put_version-clause-origins : goal.returns-else-not-put_version-clause-origins
returns-else-not-put_version-clause-origins c =
    origins_more c.args.list.now c.args.at c.at_mut-group.result.now c.put_version.new.content c.args.list.now.opened c.args.list.now.buffer c.requires.held c.requires.opened c.at_mut-group.ensures.value
    (record { version = new_version c.args.begin c.args.key; row = c.args.row }) c.put_version.ensures.rows

pub returns-else-not-put_version-clause-room : goal.returns-else-not-put_version-clause-room
returns-else-not-put_version-clause-room c = λ pool rows room.
    let roomy = all_here c.args.list.now c.args.at c.at_mut-group.result.now c.requires.held c.requires.opened c.at_mut-group.ensures.value (λ (group : Group). IsRoomy c.args.group_rows (suc rows) group.content) room.opened in
    less_room c.args.list.now c.args.at c.at_mut-group.result.now c.put_version.new.content c.args.list.now.opened c.args.list.now.buffer c.requires.held c.requires.opened c.at_mut-group.ensures.value
    c.args.group_rows rows pool (c.put_version.ensures.room rows roomy) c.put_version.ensures.places room

pub returns-else-not-put_version-clause-live : goal.returns-else-not-put_version-clause-live
returns-else-not-put_version-clause-live c = λ other apart dead.
    let was = sym (ap (has_live other) (live_here c.args.list.now c.args.at c.at_mut-group.result.now c.requires.held c.requires.opened c.at_mut-group.ensures.value)) ∙ dead in
    ap (has_live other) (opened_open c.args.list.now c.args.at c.at_mut-group.result.now c.put_version.new.content c.args.list.now.opened c.args.list.now.buffer c.requires.held c.requires.opened c.at_mut-group.ensures.value (sym c.put_version.ensures.state ∙ c.if-not-put_version.false)
    ∙ ap versions_of c.put_version.ensures.rows ∙ map-append (λ (rowed : Rowed). rowed.version) (rowed_in_content c.at_mut-group.result.now.content) _)
    ∙ live_more c.args.key other c.args.begin (versions_of (rowed_in_content c.at_mut-group.result.now.content)) apart was

pub returns-then-not-put_version-clause-packed : goal.returns-then-not-put_version-clause-packed
returns-then-not-put_version-clause-packed c =
    put_packed c.args.list.now c.args.at c.at_mut-group.result.now c.put_version.new.content None c.args.list.now.buffer c.requires.held c.requires.opened c.at_mut-group.ensures.value
    c.args.group_rows (new_version c.args.begin c.args.key) c.put_version.ensures.content

pub returns-else-not-put_version-clause-packed : goal.returns-else-not-put_version-clause-packed
returns-else-not-put_version-clause-packed c =
    put_packed c.args.list.now c.args.at c.at_mut-group.result.now c.put_version.new.content c.args.list.now.opened c.args.list.now.buffer c.requires.held c.requires.opened c.at_mut-group.ensures.value
    c.args.group_rows (new_version c.args.begin c.args.key) c.put_version.ensures.content
