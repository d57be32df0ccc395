use Rattle.std.proofs.Common.{◌≡◌, sym, ap, subst, ◌∙◌, ◌+◌, ◌++◌, List}
use Rattle.cs_model.specs.Steps.{numbered}
use Rattle.edit_laws.specs.Edits.{edits_of}
use Rattle.write_set.specs.declared.write.Write.{Write}
use Rattle.write_set.specs.Writes.{Ascend, write_keys}
use Rattle.txn_table.specs.Txns.{txn_of, own_of}
use Rattle.group_directory.specs.Calls.{replaced_in}
use Rattle.group_directory.specs.Stands.{Stands}
use Rattle.group_directory.proofs.CommitLaws.{stands_none}
use Rattle.group_directory.proofs.StandLaws.{stands_removed}
use Rattle.group_directory.proofs.TxnLaws.{own_commits}
use Rattle.group_directory.proofs.directory.Directory.commit.Goals as goal

pub returns-then-is_empty-clause-stands : goal.returns-then-is_empty-clause-stands
returns-then-is_empty-clause-stands c = λ changes txn j is.
    stands_none _ changes (c.args.self.now.clock + 1) txn.number txn.own (sym (ap own_of is) ∙ ap own_of (sym c.get.ensures ∙ c.in-Some.is) ∙ c.is_empty.ensures.value.0 c.if-is_empty.true)
    (stands_removed c.args.self.now changes j c.remove.new.self c.args.session c.remove.ensures.txns)

pub commit_keys-requires-clause-given : goal.commit_keys-requires-clause-given
commit_keys-requires-clause-given c =
    let changes = c.requires.stands.0 in
    let j = c.requires.stands.1 in
    let agree = j.txns in
    let own_is : own_of (txn_of c.args.self.now.txns c.args.session) ≡ c.in-Some.txn.own = ap own_of (sym c.get.ensures ∙ c.in-Some.is) in (
      changes,
      own_of (txn_of c.args.self.now.txns c.args.session),
      j,
      record {
        order = subst Ascend (sym own_is) c.is_empty.ensures.order;
        keys = c.deref.ensures.value ∙ c.in_ok-keys.ensures ∙ ap write_keys (sym own_is);
        replaced = c.deref-2.ensures.value ∙ c.in_ok-replaced.ensures ∙ ap replaced_in (sym own_is);
        may = own_commits (txn_of c.args.self.now.txns) changes c.args.self.now.clock c.args.session agree;
        parcel = c.requires.parcel;
      },
    )

pub commit_keys-requires-clause-ids : goal.commit_keys-requires-clause-ids
commit_keys-requires-clause-ids c = sym (c.is_full.ensures (c.args.self.now.clock + 1) c.deref-2.result.now) ∙ c.if-is_full.false

pub returns-clause-stands : goal.returns-clause-stands
returns-clause-stands c = λ changes txn j is.
    let agree = j.txns in
    let own_is : own_of (txn_of c.args.self.now.txns c.args.session) ≡ c.in-Some.txn.own = ap own_of (sym c.get.ensures ∙ c.in-Some.is) in
    let done = c.in_ok-number.ensures.stands changes (own_of (txn_of c.args.self.now.txns c.args.session)) txn j (record {
      order = subst Ascend (sym own_is) c.is_empty.ensures.order;
      keys = c.deref.ensures.value ∙ c.in_ok-keys.ensures ∙ ap write_keys (sym own_is);
      replaced = c.deref-2.ensures.value ∙ c.in_ok-replaced.ensures ∙ ap replaced_in (sym own_is);
      may = own_commits (txn_of c.args.self.now.txns) changes c.args.self.now.clock c.args.session agree;
      parcel = c.requires.parcel;
    }) is in
    subst (λ (own : List Write). Stands c.commit_keys.new.self (changes ++ numbered (c.args.self.now.clock + 1) txn.number (edits_of own))) (ap own_of is) done
