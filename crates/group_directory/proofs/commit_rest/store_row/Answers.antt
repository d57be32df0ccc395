use Rattle.group_directory.proofs.PutLemmas.{ready_to_open}
use Rattle.group_directory.proofs.commit_rest.store_row.Goals as goal

pub open_place-at-requires-clause-ready : goal.open_place-at-requires-clause-ready
open_place-at-requires-clause-ready c = ready_to_open c.args.group_rows 0 0 c.args.list.now c.args.pool.now.items c.requires.held c.requires.room

pub put_row-requires-clause-room : goal.put_row-requires-clause-room
put_row-requires-clause-room c = let room = c.open_place-at.ensures.room c.args.group_rows 0 c.requires.rows c.requires.room in room.opened
