use Rattle.std.proofs.Common.{◌≡◌, ◌+◌, [], length, sym, ◌∙◌, arith}
use Rattle.std.proofs.lemmas.Bool.Decides.{nat_tests}
use Rattle.std.proofs.lemmas.List.{nil_from_length}
use Rattle.group_directory.proofs.CommitLaws.{none_written, stands_none}
use Rattle.group_directory.proofs.StandLaws.{stands_removed}
use Rattle.group_directory.proofs.directory.Directory.load.Goals as goal

pub returns-then-is_empty-clause-stands : goal.returns-then-is_empty-clause-stands
returns-then-is_empty-clause-stands c = λ changes list txn j is has.
    let none : length c.args.keys.now ≡ 0 = grind (arith, nat_tests, c.is_empty.ensures, c.if-is_empty.true) in
    stands_none _ changes (c.args.self.now.clock + 1) txn.number list (none_written c.args.keys.now list (nil_from_length c.args.keys.now none) is.keys)
    (stands_removed c.args.self.now changes j c.remove.new.self c.args.session c.remove.ensures.txns)

pub commit_keys-requires-clause-ids : goal.commit_keys-requires-clause-ids
commit_keys-requires-clause-ids c = sym (c.is_full.ensures (c.args.self.now.clock + 1) []) ∙ c.if-is_full.false
