use Rattle.std.proofs.Common.{refl, ◌∙◌}
use Rattle.delta_store.proofs.ChunkLemmas.{on_ok}
use Rattle.group_view.specs.declared.groups.Group.{Group}
use Rattle.group_directory.specs.Committing.{IsReadyFor, IsRoomy}
use Rattle.group_directory.proofs.OpenLemmas.{roomy-shut}
use Rattle.group_directory.proofs.ChangeLemmas.{book_same, held_open, same_listed, same_packed, open_kind_is, all_changed, open_here, ready-shut}
use Rattle.group_directory.proofs.commit_room.make_room_in_open.Goals as goal

pub returns-in-Some-clause-book : goal.returns-in-Some-clause-book
returns-in-Some-clause-book c =
    book_same c.args.list.now c.in-Some.at c.at_mut-group.result.now c.make_room_in.new.content c.args.list.now.opened c.args.list.now.buffer c.requires c.in-Some.is c.at_mut-group.ensures.value c.make_room_in.ensures.content refl

pub returns-in-Some-clause-held : goal.returns-in-Some-clause-held
returns-in-Some-clause-held c =
    held_open c.args.list.now c.in-Some.at c.at_mut-group.result.now c.make_room_in.new.content c.args.list.now.opened c.args.list.now.buffer c.requires c.in-Some.is c.at_mut-group.ensures.value
    (c.make_room_in.ensures.state ∙ open_here c.args.list.now c.in-Some.at c.at_mut-group.result.now c.requires c.in-Some.is c.at_mut-group.ensures.value) c.in-Some.is

pub returns-in-Some-clause-listed : goal.returns-in-Some-clause-listed
returns-in-Some-clause-listed c =
    same_listed c.args.list.now c.in-Some.at c.at_mut-group.result.now c.make_room_in.new.content c.args.list.now.opened c.args.list.now.buffer c.requires c.in-Some.is c.at_mut-group.ensures.value
    (c.make_room_in.ensures.state ∙ open_here c.args.list.now c.in-Some.at c.at_mut-group.result.now c.requires c.in-Some.is c.at_mut-group.ensures.value) c.make_room_in.ensures.rowed

pub returns-in-Some-clause-room : goal.returns-in-Some-clause-room
returns-in-Some-clause-room c =
    on_ok c.make_room_in.result
    (λ roomy. all_changed c.args.list.now c.in-Some.at c.at_mut-group.result.now c.make_room_in.new.content c.args.list.now.opened c.args.list.now.buffer c.requires c.in-Some.is c.at_mut-group.ensures.value
    (λ (group : Group). IsRoomy c.args.group_rows c.args.rows group.content) (λ group shut. roomy-shut c.args.group_rows c.args.rows group.content shut) roomy) c.make_room_in.ensures.room

pub returns-in-Some-clause-ready : goal.returns-in-Some-clause-ready
returns-in-Some-clause-ready c =
    on_ok c.make_room_in.result
    (λ ready. all_changed c.args.list.now c.in-Some.at c.at_mut-group.result.now c.make_room_in.new.content c.args.list.now.opened c.args.list.now.buffer c.requires c.in-Some.is c.at_mut-group.ensures.value
    (λ (group : Group). IsReadyFor c.args.replaced.now group.content) (λ group shut. ready-shut c.args.replaced.now group.content shut) ready) c.make_room_in.ensures.ready

pub returns-in-Some-clause-packed : goal.returns-in-Some-clause-packed
returns-in-Some-clause-packed c =
    same_packed c.args.list.now c.in-Some.at c.at_mut-group.result.now c.make_room_in.new.content c.args.list.now.opened c.args.list.now.buffer c.requires c.in-Some.is c.at_mut-group.ensures.value
    (open_kind_is c.make_room_in.new.content (c.make_room_in.ensures.state ∙ open_here c.args.list.now c.in-Some.at c.at_mut-group.result.now c.requires c.in-Some.is c.at_mut-group.ensures.value))
