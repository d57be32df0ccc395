use Rattle.std.proofs.Common.{◌∙◌, ◌+◌, ◌++◌, ◌∷◌, [], pos, length, get_or, rules, ap, sym, subst}
use Rattle.std.specs.Prelude.{Some}
use Rattle.std.specs.List.{All}
use Rattle.std.proofs.lemmas.List.{map-append}
use Rattle.std.proofs.lemmas.List.Elements.{All-push}
use Rattle.std.proofs.lemmas.Option.{get_or_from_slice_get, slice_get-get_or}
use Rattle.cs_model.specs.Answers.{at_key, updated_entry, updated_row}
use Rattle.cs_model.specs.Changes.{Edit}
use Rattle.write_set.specs.declared.write.Write.{Write}
use Rattle.edit_laws.specs.Edits.{edit_of, edits_of}
use Rattle.row_work.specs.declared.choose.Chosen.{Chosen}
use Rattle.row_work.specs.declared.choose.Source.TheVariants.{Shown}
use Rattle.row_work.specs.Keyed.{Replaces}
use Rattle.row_work.proofs.Kept.{keys_more, refused_at, stands_at}
use Rattle.row_work.proofs.Written.{rows_more, rows_refused}
use Rattle.row_work.proofs.update.updated_rows.Goals as goal

-- what a slice is read with past its end
abbrev d : Chosen
d = record { key = record { 0 = pos 0 }; source = Shown (record { group = 0; position = 0 }) }

pub returns-in_err-after-clause-gives : goal.returns-in_err-after-clause-gives
returns-in_err-after-clause-gives c = λ rows is.
    let schema = c.args.schema.now in
    let sets = c.args.sets.now in
    let width = length schema.columns in
    let pinned = c.args.pinned.now in
    let list = c.args.chosen.now in
    let i = c.loop-i.i in
    let one = get_or list i d in
    let found = stands_at width pinned list rows i d is c.loop-i-test.true in
    let entry = found.0 in
    let own = found.3 in
    let refused = c.in_err-after.ensures entry.1 (ap (λ (e : Edit). e.1) own) in
    let told = rows_refused (updated_entry schema sets) rows (edits_of c.loop-i.writes) i entry c.in_err-after.field-0.0 found.1 found.2
    (refused_at (i + 1) entry.0 (updated_row schema sets entry.1) c.in_err-after.field-0.0 refused) (c.loop-i.invariant.gives rows is) in
    search (rules, told)

pub loop-i-preserved : goal.loop-i-preserved
loop-i-preserved c =
    let schema = c.args.schema.now in
    let sets = c.args.sets.now in
    let width = length schema.columns in
    let pinned = c.args.pinned.now in
    let list = c.args.chosen.now in
    let i = c.loop-i.i in
    let one = get_or list i d in
    let writes = c.loop-i.writes in
    let after = c.in_ok-after.after in
    let replaces = c.is_in_snapshot.result in
    let write : Write = record { key = one.key; row = Some after; replaces = replaces } in
    let pushed = c.in_ok-push.ensures.ok in
    record {
      gives = λ rows is.
          let found = stands_at width pinned list rows i d is c.loop-i-test.true in
          let entry = found.0 in
          let own = found.3 in
          let made = c.in_ok-after.ensures entry.1 (ap (λ (e : Edit). e.1) own) in
          let key = ap (λ (e : Edit). e.0) own in
          rows_more (updated_entry schema sets) rows (edits_of writes) (edits_of c.push.new.self) i entry (entry.0, Some after) found.1 found.2 (ap (at_key entry.0) made)
          (ap edits_of pushed ∙ map-append edit_of writes (write ∷ []) ∙ ap (λ k. edits_of writes ++ (k, Some after) ∷ []) key) (c.loop-i.invariant.gives rows is);
      keys = keys_more writes c.push.new.self list i one (Some after) replaces c.loop-i-test.true (sym (get_or_from_slice_get list i one one (slice_get-get_or list i d c.loop-i-test.true))) pushed c.loop-i.invariant.keys;
      replaces = λ n. subst (All (Replaces n pinned)) (sym pushed) (All-push (Replaces n pinned) writes write (c.loop-i.invariant.replaces n) (c.is_in_snapshot.ensures n));
    }
