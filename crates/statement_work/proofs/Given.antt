-- Outcomes that the definitions give of what was begun.
use Rattle.std.proofs.Common.{◌≡◌, ◌≢◌, ◌∙◌, ℕ, ℤ, List, [], ◌∷◌, length, map, true, false, refl, sym, ap, subst}
use Rattle.std.specs.Prelude.{Option, None, Some, Result, Ok, Err, Contains}
use Rattle.std.specs.declared.alloc.Global.{Global}
use Rattle.std.specs.declared.vec.Vec.{Vec}
use Rattle.std.specs.List.{All}
use Rattle.std.proofs.lemmas.List.{length-map}
use Rattle.std.proofs.lemmas.List.Elements.{All-contains, All-map, All-weaker}
use Rattle.cs_types.specs.declared.Key.{Key}
use Rattle.cs_types.specs.declared.Schema.{Schema}
use Rattle.cs_types.specs.declared.Value.{Value}
use Rattle.cs_types.specs.Rows.{key_in}
use Rattle.cs_model.specs.declared.entry.Bound.{Bound}
use Rattle.cs_model.specs.declared.entry.Bound.TheVariants as bound
use Rattle.cs_model.specs.declared.entry.Refusal.{Refusal}
use Rattle.cs_model.specs.declared.entry.Refusal.TheVariants.{Valued}
use Rattle.cs_model.specs.declared.entry.Reply.{Reply}
use Rattle.cs_model.specs.declared.entry.Reply.TheVariants as reply
use Rattle.cs_model.specs.Answers as spec
use Rattle.cs_model.specs.Answers.{writes}
use Rattle.cs_model.specs.Changes.{Edit, Table}
use Rattle.cs_model.specs.Kinds.{is_write}
use Rattle.write_set.specs.declared.write.Write.{Write}
use Rattle.write_set.specs.Writes.{write_keys}
use Rattle.edit_laws.specs.Edits.{edits_of}
use Rattle.log_laws.specs.Started.{Begun, seen_by}
use Rattle.group_book.specs.Commits.{Sizes}
use Rattle.group_view.specs.declared.claim.Parcel.{Parcel}
use Rattle.group_view.specs.Parcels.{IsParcelFor}
use Rattle.row_work.specs.Inserts.{write_of}
use Rattle.row_work.proofs.Fits.{Fits}
use Rattle.row_work.proofs.Loads.{write_keys_are}
use Rattle.row_work.proofs.RowWrites.{edits_as}
use Rattle.statement_core.specs.declared.started.Outcome.TheVariants as outcome
use Rattle.statement_core.specs.Outcomes.{GivesOn, GivesWrites, IsDecided, IsParcelled, IsValued}
use Rattle.tuple_mover.specs.Inserts.{FitsIn}
use Rattle.statement_work.specs.Clerks.{NeedsParcel}
use Rattle.statement_work.proofs.Parcelled.{fits_in}

-- ---- refusals

decided_write : (schema : Schema) (b : Bound) (table : Table) (r : Reply) → is_write b ≡ true → IsValued (writes schema table b) r → IsDecided schema b table r
decided_write schema bound.Begin table r write valued = absurd (cc write)
decided_write schema bound.Commit table r write valued = absurd (cc write)
decided_write schema bound.Rollback table r write valued = absurd (cc write)
decided_write schema bound.Nothing table r write valued = absurd (cc write)
decided_write schema (bound.Statistics on) table r write valued = absurd (cc write)
decided_write schema (bound.Insert plan) table r write valued = valued
decided_write schema (bound.Update plan) table r write valued = valued
decided_write schema (bound.Delete condition) table r write valued = valued
decided_write schema (bound.Select query) table r write valued = absurd (cc write)
decided_write schema bound.GroupReport table r write valued = absurd (cc write)
decided_write schema bound.SegmentReport table r write valued = absurd (cc write)
decided_write schema (bound.Reorganize all) table r write valued = absurd (cc write)
decided_write schema (bound.Refused refusal) table r write valued = absurd (cc write)

-- the refusal that a write is defined to have
pub refusal_gives : (sizes : Sizes) (begun : Begun) (number row column : ℕ) → begun.short ≡ false → is_write begun.bound ≡ true → writes begun.schema (seen_by begun) begun.bound ≡ Err (Valued number row column)
    → GivesOn sizes begun (outcome.Answer (reply.Refused (Valued number row column)))
refusal_gives sizes begun number row column long write is =
    (long, decided_write begun.schema begun.bound (seen_by begun) (reply.Refused (Valued number row column)) write (subst (λ wanted. IsValued wanted (reply.Refused (Valued number row column))) (sym is) refl), tt)

-- ---- parcels

pub some_parcelled : (sizes : Sizes) (begun : Begun) (schema : Schema) (list : List Write) (present : List Key) (parcel : Parcel) → begun.implicit ≡ true → begun.schema ≡ schema → present ≡ [] → IsParcelFor schema sizes (edits_of list) parcel → IsParcelled sizes begun list present (Some parcel)
some_parcelled sizes begun schema list present parcel implicit same none is = (implicit, none, subst (λ s. IsParcelFor s sizes (edits_of list) parcel) (sym same) is)

-- writes that are among edits which fit, as a parcel takes them
pub among_fit : (schema : Schema) (edits : List Edit) (list : List Write) → All (Fits schema) edits → All (Contains edits) (edits_of list) → All (FitsIn schema) (edits_of list)
among_fit schema edits list fit among =
    fits_in schema (edits_of list) (λ i d there. (All-contains (Fits schema) edits _ fit (among i d there)).0)

-- rows that are put at new keys, by their keys and their parcel
pub load_gives : (sizes : Sizes) (begun : Begun) (schema : Schema) (rows : List (List Value)) (keys : Vec Key Global) (parcel : Parcel) → begun.implicit ≡ true → begun.schema ≡ schema → keys.items ≡ map (key_in schema.key) rows
    → IsParcelFor schema sizes (spec.edits_of schema rows) parcel → NeedsParcel sizes begun (map (write_of schema) rows) [] (length rows) → GivesOn sizes begun (outcome.Load keys parcel)
load_gives sizes begun schema rows keys parcel implicit same are is needs =
    let list = map (write_of schema) rows in
    let each : keys.items ≡ write_keys list = are ∙ sym (write_keys_are schema rows) in
    let long : length keys.items ≡ length rows = ap length are ∙ length-map rows (key_in schema.key) in
    let here = subst (λ own. IsParcelFor schema sizes own parcel) (edits_as schema rows) is in
    let gives = needs.gives (Some parcel) (some_parcelled sizes begun schema list [] parcel implicit same refl here) in (
      needs.long,
      needs.write,
      list,
      record { keys = each; fresh = All-map (λ (write : Write). write.replaces ≡ false) (write_of schema) rows (λ i d there. refl) },
      subst (λ (count : ℕ). GivesWrites sizes begun list [] count (Some parcel)) (sym long) gives,
    )
