use Rattle.std.proofs.Common.{refl}
use Rattle.group_directory.proofs.CommitLaws.{replaced_ascend, entries_later, rest_up, rest_live, stands_above, stands_kept, on_err}
use Rattle.group_directory.proofs.directory.Directory.write_groups.Goals as goal

pub commit-requires-clause-replaced : goal.commit-requires-clause-replaced
commit-requires-clause-replaced c =
    let given = c.requires.given in
    replaced_ascend c.args.self.now given.0 given.3 given.1 c.args.keys.now c.args.ends.now c.args.parcel given.2 given.4

pub commit-requires-clause-later : goal.commit-requires-clause-later
commit-requires-clause-later c = let given = c.requires.given in entries_later c.args.self.now given.0 given.3 c.args.number c.requires.number

pub commit-requires-clause-rest : goal.commit-requires-clause-rest
commit-requires-clause-rest c =
    let given = c.requires.given in
    rest_up c.args.self.now given.0 given.3 given.1 c.args.keys.now c.args.ends.now c.args.parcel given.2 given.4

pub commit-requires-clause-live : goal.commit-requires-clause-live
commit-requires-clause-live c =
    let given = c.requires.given in
    rest_live c.args.self.now given.0 given.3 given.1 c.args.keys.now c.args.ends.now c.args.parcel given.2 given.4

pub returns-in_err-reserve_all-clause-refused : goal.returns-in_err-reserve_all-clause-refused
returns-in_err-reserve_all-clause-refused c = λ changes j.
    on_err _ c.from_residual.result (stands_kept c.args.self.now changes j c.args.self.now.list c.reserve_all.new.self j.held refl refl refl refl c.reserve_all.ensures.changes)

pub returns-in_err-commit-clause-refused : goal.returns-in_err-commit-clause-refused
returns-in_err-commit-clause-refused c = λ changes j.
    let kept = c.in_err-commit.ensures in
    on_err _ c.from_residual-in_err-commit.result (stands_kept c.args.self.now changes j c.commit.new.list c.reserve_all.new.self kept.held kept.claims kept.same kept.listed kept.kept c.reserve_all.ensures.changes)

pub returns-clause-stands : goal.returns-clause-stands
returns-clause-stands c = λ changes session txn list txns recent j is gone noted.
    let done = c.in_ok-commit.ensures in
    stands_above c.args.self.now changes j session c.args.keys.now c.args.ends.now c.args.parcel list is txn c.commit.new.list txns recent c.args.number c.requires.number
    done.held done.claims done.book done.origins done.packed gone noted
