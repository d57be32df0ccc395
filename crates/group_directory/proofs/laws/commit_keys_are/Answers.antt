use Rattle.std.proofs.Common.{◌≡◌}
use Rattle.std.proofs.lemmas.List.Elements.{recursion_from_All}
use Rattle.write_set.specs.declared.write.Write.{Write}
use Rattle.txn_table.specs.Txns.{own_of}
use Rattle.group_book.specs.Commits.{is_in_table}
use Rattle.group_directory.proofs.KeyLaws.{keys_are, sorted_keys, replaced_are, inserted_are}
use Rattle.group_directory.proofs.laws.commit_keys_are.Goals as goal

pub returns-clause-keys : goal.returns-clause-keys
returns-clause-keys c = keys_are

pub returns-clause-ascend : goal.returns-clause-ascend
returns-clause-ascend c = sorted_keys

pub returns-clause-replaced : goal.returns-clause-replaced
returns-clause-replaced c = λ changes clock txn says. replaced_are changes clock (own_of txn) (recursion_from_All (λ (write : Write). write.replaces ≡ is_in_table changes clock write.key) (own_of txn) says)

pub returns-clause-inserted : goal.returns-clause-inserted
returns-clause-inserted c = inserted_are
