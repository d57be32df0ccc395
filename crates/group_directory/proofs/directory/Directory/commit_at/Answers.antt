use Rattle.std.proofs.Common.{sym, ap, subst, ◌∙◌, ◌<◌, length}
use Rattle.std.specs.Option.{ForSome}
use Rattle.std.specs.FinMap as finite
use Rattle.cs_types.specs.declared.Key.{Key}
use Rattle.txn_table.specs.Txns.{txn_of}
use Rattle.version_store.specs.Newest.{Changes}
use Rattle.group_directory.specs.declared.directory.Directory.{Directory}
use Rattle.group_directory.specs.Laws.{noted_by}
use Rattle.group_directory.proofs.CommitLaws.{keys_ascend, notes_older}
use Rattle.group_directory.proofs.TxnLaws.{none_gone}
use Rattle.group_directory.proofs.directory.Directory.commit_at.Goals as goal

pub write_groups-requires-clause-given : goal.write_groups-requires-clause-given
write_groups-requires-clause-given c = let given = c.requires.given in (given.0, 0, given.1, given.2, given.3 0)

pub write_groups-requires-clause-ids : goal.write_groups-requires-clause-ids
write_groups-requires-clause-ids c = sym (c.is_full.ensures c.args.number c.args.ends.now) ∙ c.if-is_full.false

pub note-requires-clause-ascending : goal.note-requires-clause-ascending
note-requires-clause-ascending c =
    let given = c.requires.given in
    keys_ascend c.args.self.now given.0 given.2 0 c.args.keys.now c.args.ends.now c.args.parcel given.1 (given.3 0)

pub note-requires-clause-older : goal.note-requires-clause-older
note-requires-clause-older c =
    let given = c.requires.given in
    let left = c.in_ok-write_groups.ensures in
    subst (λ (noted : Changes). (key : Key) → ForSome (finite.get noted key) (λ other. other.commit < c.args.number)) (sym left.noted) (notes_older c.args.self.now given.0 given.2 c.args.number c.requires.number)

pub returns-clause-stands : goal.returns-clause-stands
returns-clause-stands c = λ changes list j is.
    let left = c.in_ok-write_groups.ensures in
    let nobody = length c.args.self.now.txns.txns in
    let gone = ap (λ (directory : Directory). txn_of directory.txns) left.rest ∙ none_gone c.args.self.now.txns in
    c.note.ensures.stands _ (λ recent noted. left.stands changes nobody c.args.txn list c.write_groups.new.self.txns recent j (is nobody) gone
    (noted ∙ ap (λ (was : Changes). noted_by (record { commit = c.args.number; txn = c.args.txn }) was c.args.keys.now) left.noted))
