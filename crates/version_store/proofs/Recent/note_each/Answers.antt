use Rattle.std.proofs.Common.{pos}
use Rattle.cs_types.specs.declared.Key.{Key}
use Rattle.version_store.proofs.RunLaws.{still_older}
use Rattle.version_store.proofs.Recent.note_each.Goals as goal

pub note-requires-clause-newer : goal.note-requires-clause-newer
note-requires-clause-newer c =
    let none : Key = record { 0 = pos 0 } in
    still_older c.args.keys.now c.requires.ascending c.args.change c.args.self.now.changes c.loop-key.self.changes c.loop-key.key-index none c.loop-key-test.true c.loop-key.invariant.changes c.requires.newer
