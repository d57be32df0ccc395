-- The outcomes of what was begun.
use Rattle.std.proofs.Common.{◌≡◌, ℕ, Bool, true, false, ◌&&◌, ◌||◌, cond, List, [], length, get_or, map, filter, sym, ap, ◌∙◌, subst}
use Rattle.std.specs.Prelude.{Option, None, Some, Result, Ok, Err}
use Rattle.std.specs.List.{All}
use Rattle.std.proofs.lemmas.List.{length-map}
use Rattle.std.proofs.lemmas.List.Elements.{All-contains_itself}
use Rattle.cs_types.specs.declared.Key.{Key}
use Rattle.cs_model.specs.Answers.{writes}
use Rattle.cs_model.specs.Changes.{Edit, Table}
use Rattle.cs_model.specs.Kinds.{is_insert}
use Rattle.cs_model.specs.Obstacles.{has_row, is_present, keys_of, stands_twice}
use Rattle.write_set.specs.declared.write.Write.{Write}
use Rattle.write_set.specs.Writes.{Ascend, write_keys}
use Rattle.edit_laws.specs.Edits.{edit_of, edits_of}
use Rattle.log_laws.specs.Started.{Begun, snapshot_table, seen_by}
use Rattle.group_book.specs.Commits.{Sizes}
use Rattle.group_book.proofs.Lists.{every_one}
use Rattle.group_view.specs.declared.claim.Parcel.{Parcel}
use Rattle.group_view.specs.declared.view.Pinned.{Pinned}
use Rattle.row_work.specs.Inserts.{AreInserted}
use Rattle.row_work.specs.Keyed.{Replaces}
use Rattle.row_work.proofs.Fits.{Fits}
use Rattle.row_work.proofs.Kept.{every_key}
use Rattle.row_work.proofs.Loads.{none_kept}
use Rattle.statement_core.specs.Begun.{MayWork, Pins}
use Rattle.statement_core.specs.Outcomes.{width_of, GivesWrites, IsParcelled}
use Rattle.statement_work.proofs.Seen.{read_is, shown_is}

module _ (sizes : Sizes) (begun : Begun) (pinned : Pinned) (pins : Pins begun pinned) (work : MayWork begun) where
  replaced : (list : List Write) → All (Replaces (width_of begun) pinned) list → All (λ (write : Write). write.replaces ≡ has_row (snapshot_table begun) write.key) list
  replaced list all = λ i d there. all i d there ∙ ap (λ (t : Table). has_row t (get_or list i d).key) (shown_is begun pinned pins work)

  -- of a write that makes no key stand twice
  pub changes_give : (list : List Write) (present : List Key) (affected : ℕ) → is_insert begun.bound ≡ false → writes begun.schema (seen_by begun) begun.bound ≡ Ok (edits_of list) → All (Fits begun.schema) (edits_of list)
      → Ascend list → All (Replaces (width_of begun) pinned) list → present ≡ [] → affected ≡ length list → (parcel : Option Parcel) → IsParcelled sizes begun list present parcel → GivesWrites sizes begun list present affected parcel
  changes_give list present affected other defined fits order replaces none count parcel parcelled = record {
    edits = edits_of list;
    defined = defined;
    fit = λ i d there. (fits i d there).0;
    whole = λ i d there. (fits i d there).1;
    are = record {
      order = order;
      each = All-contains_itself (edits_of list);
      every = every_key list;
      replaces = replaced list replaces;
      twice = none ∙ sym (none_kept (is_present begun.bound (edits_of list) (seen_by begun)) (write_keys list)
          (every_one (λ key. is_present begun.bound (edits_of list) (seen_by begun) key ≡ false) (λ key. ap (λ t. t && (has_row (seen_by begun) key || stands_twice (keys_of (edits_of list)) key)) other) (write_keys list)));
      count = count ∙ sym (length-map list edit_of);
      parcelled = parcelled;
    };
  }

  -- of an INSERT
  pub insert_gives : (edits : List Edit) (list : List Write) (present : List Key) (affected : ℕ) → is_insert begun.bound ≡ true → writes begun.schema (seen_by begun) begun.bound ≡ Ok edits → All (Fits begun.schema) edits
      → AreInserted (width_of begun) pinned edits list present affected → (parcel : Option Parcel) → IsParcelled sizes begun list present parcel → GivesWrites sizes begun list present affected parcel
  insert_gives edits list present affected is defined fits inserted parcel parcelled = record {
    edits = edits;
    defined = defined;
    fit = λ i d there. (fits i d there).0;
    whole = λ i d there. (fits i d there).1;
    are = record {
      order = inserted.keyed.order;
      each = inserted.keyed.each;
      every = inserted.keyed.every;
      replaces = replaced list inserted.replaces;
      twice =
          inserted.present
          ∙ ap (λ (t : Table). filter (λ key. has_row t key || stands_twice (keys_of edits) key) (write_keys list)) (read_is begun pinned pins work)
          ∙ ap (λ (t : Bool). filter (λ key. t && (has_row (seen_by begun) key || stands_twice (keys_of edits) key)) (write_keys list)) (sym is);
      count = inserted.affected;
      parcelled = parcelled;
    };
  }
