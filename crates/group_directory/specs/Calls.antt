-- What a commit asks for and gives.
use Rattle.std.specs.Prelude.{◌≡◌, ℕ, ◌+◌, List, [], ◌∷◌, map, filter, Option, None, Some}
use Rattle.cs_types.specs.declared.Key.{Key}
use Rattle.cs_model.specs.Changes.{Change}
use Rattle.edit_laws.specs.Edits.{edits_of}
use Rattle.write_set.specs.declared.write.Write.{Write}
use Rattle.write_set.specs.Writes.{Ascend, write_keys}
use Rattle.txn_table.specs.Txns.{txn_of}
use Rattle.group_view.specs.declared.claim.Parcel.{Parcel}
use Rattle.group_view.specs.Books.{book_of}
use Rattle.group_view.specs.Lists.{listed, packed_in}
use Rattle.group_view.specs.Parcels as parcels
use Rattle.group_directory.specs.declared.directory.Directory.{Directory}
use Rattle.group_directory.specs.Laws.{sizes_of, MayCommit}

-- the keys of own writes whose rows they replace or delete
abbrev pub replaced_in : List Write → List Key
replaced_in own = map (λ (write : Write). write.key) (filter (λ (write : Write). write.replaces) own)

-- the number of a commit of writes, or of their keys; none where there is nothing to commit
abbrev pub commit_number : {T : Type 0} → ℕ → List T → Option ℕ
commit_number clock [] = None
commit_number clock (write ∷ own) = Some (clock + 1)

-- the parcel is one of own writes, with the directory's sizes
abbrev pub IsParcelFor : Directory → List Write → Parcel → Type 0
IsParcelFor directory own parcel = parcels.IsParcelFor directory.schema.value (sizes_of directory) (edits_of own) parcel

-- the writes may be committed by the session, by key; these are their keys, the keys whose rows they replace, and a parcel of them
pub record IsCommitOf (directory : Directory) (changes : List Change) (session : ℕ) (written ended : List Key) (made : Parcel) (writes : List Write) : Type 0 where
  pub order : Ascend writes
  pub keys : written ≡ write_keys writes
  pub replaced : ended ≡ replaced_in writes
  pub may : MayCommit (txn_of directory.txns) changes directory.clock session writes
  pub parcel : IsParcelFor directory writes made

-- nothing has changed but room: the groups, the transactions, what is noted and the clock are as before
pub record IsAsBefore (old new : Directory) : Type 0 where
  pub book : book_of new.list ≡ book_of old.list
  pub groups : listed new.list.groups.items ≡ listed old.list.groups.items
  pub packed : packed_in new.list.groups.items ≡ packed_in old.list.groups.items
  pub txns : new.txns ≡ old.txns
  pub noted : new.recent.changes ≡ old.recent.changes
  pub clock : new.clock ≡ old.clock
