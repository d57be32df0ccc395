use Rattle.std.proofs.Common.{sym, ap, subst, ◌∙◌, ◌+◌, ◌<◌, None, arith}
use Rattle.std.specs.Option.{ForSome}
use Rattle.std.specs.FinMap as finite
use Rattle.cs_types.specs.declared.Key.{Key}
use Rattle.edit_laws.specs.Edits.{edits_of}
use Rattle.txn_table.specs.Txns.{txn_of, with}
use Rattle.version_store.specs.Newest.{Changes}
use Rattle.group_directory.specs.declared.directory.Directory.{Directory}
use Rattle.group_directory.specs.Laws.{noted_by}
use Rattle.group_directory.proofs.CommitLaws.{keys_ascend, notes_older, retold}
use Rattle.group_directory.proofs.directory.Directory.commit_keys.Goals as goal

pub write_groups-requires-clause-given : goal.write_groups-requires-clause-given
write_groups-requires-clause-given c = let given = c.requires.given in (given.0, c.args.session, given.1, given.2, given.3)

pub note-requires-clause-ascending : goal.note-requires-clause-ascending
note-requires-clause-ascending c =
    let given = c.requires.given in
    keys_ascend c.args.self.now given.0 given.2 c.args.session c.args.keys.now c.args.replaced.now c.args.parcel given.1 given.3

pub note-requires-clause-older : goal.note-requires-clause-older
note-requires-clause-older c =
    let given = c.requires.given in
    let left = c.in_ok-write_groups.ensures in
    subst (λ (noted : Changes). (key : Key) → ForSome (finite.get noted key) (λ other. other.commit < c.args.self.now.clock + 1)) (sym left.noted)
    (notes_older c.args.self.now given.0 given.2 (c.args.self.now.clock + 1) (omega arith))

pub returns-clause-stands : goal.returns-clause-stands
returns-clause-stands c = λ changes list txn j is has.
    let here = sym c.get.ensures ∙ c.in-Some.is in
    let left = c.in_ok-write_groups.ensures in
    let gone = c.remove.ensures.txns ∙ ap (λ (directory : Directory). with (txn_of directory.txns) c.args.session None) left.rest in
    c.note.ensures.stands _ (λ recent noted. retold _ changes (c.args.self.now.clock + 1) (edits_of list) c.in-Some.txn txn (sym here ∙ has)
    (left.stands changes c.args.session c.in-Some.txn.number list c.remove.new.self recent j is gone
    (noted ∙ ap (λ (was : Changes). noted_by (record { commit = c.args.self.now.clock + 1; txn = c.in-Some.txn.number }) was c.args.keys.now) left.noted)))
