use Rattle.std.proofs.Common.{◌≡◌, ◌+◌, ◌-◌, ◌<◌, ◌∙◌, ◌++◌, List, [], length, drop, take, sym, ap, subst, arith}
use Rattle.std.specs.List.{All}
use Rattle.std.proofs.lemmas.List.{append-nil, length-drop, length-map}
use Rattle.std.proofs.lemmas.List.Elements.{All-push, All-drop}
use Rattle.cs_types.specs.declared.Key.{Key}
use Rattle.cs_types.specs.declared.Value.{Value}
use Rattle.cs_types.specs.Rows.{key_in}
use Rattle.cs_types.specs.Schemas.{IsRowOf}
use Rattle.cs_model.specs.Answers.{edits_of}
use Rattle.row_group.specs.Groups.{Group}
use Rattle.group_book.specs.Commits.{Sizes, inserted_by}
use Rattle.group_view.specs.declared.claim.Parcel.{Parcel}
use Rattle.group_view.specs.Parcels.{IsParcelFor}
use Rattle.tuple_mover.specs.Inserts.{rows_given, AreRowsOf, IsDirectOf}
use Rattle.tuple_mover.proofs.ParcelLemmas.{rest_parcel}
use Rattle.tuple_mover.proofs.ColumnLemmas.{part-rows, part-more, count-inserted, rows-fit}
use Rattle.tuple_mover.proofs.column_parcels.parcel_in_parts.Goals as goal

pub column_group-requires-clause-rows : goal.column_group-requires-clause-rows
column_group-requires-clause-rows c =
    let (rows, are) = c.requires.rows in
    let schema = c.args.schema.now in
    let keys = c.args.keys.now in
    let from = c.loop-from.from in
    let count = c.part_len-count.result in
    let parts = c.in_ok-part.part.items in
    let some : count ≡ from + count - from = omega arith in (
      take count (drop from rows),
      subst (λ n. AreRowsOf schema (take n (drop from keys)) parts (take count (drop from rows))) some
          (part-rows schema keys c.args.columns.now parts rows from count are c.in_ok-part.ensures),
    )

pub loop-from-preserved : goal.loop-from-preserved
loop-from-preserved c =
    let schema = c.args.schema.now in
    let sizes : Sizes = record { group_rows = c.args.group_rows; direct_rows = c.args.direct_rows } in
    let keys = c.args.keys.now in
    let from = c.loop-from.from in
    let count = c.part_len-count.result in
    let parts = c.in_ok-part.part.items in
    let groups : List Group = c.loop-from.groups.items in
    let group : Group = c.in_ok-column_group.field-0 in
    let some : count ≡ from + count - from = omega arith in
    let is_based = λ (group : Group). group.base ≡ 0 in
    let made = λ (rows : List (List Value)) (are : AreRowsOf schema keys c.args.columns.now rows).
    let made : IsDirectOf schema (edits_of schema (take count (drop from rows))) group =
    c.in_ok-column_group.ensures (take count (drop from rows))
    (subst (λ n. AreRowsOf schema (take n (drop from keys)) parts (take count (drop from rows))) some
    (part-rows schema keys c.args.columns.now parts rows from count are c.in_ok-part.ensures)) in
    made in
    let (rows, are) = c.requires.rows in
    let one = made rows are in
    record {
      within = omega (arith, c.loop-from.invariant.within, c.part_len-count.ensures);
      parcel = λ rows are (tail : Parcel) rest.
          let many : length keys ≡ length rows = ap length are.keyed ∙ length-map rows (key_in schema.key) in
          subst (λ (groups : List Group). IsParcelFor schema sizes (edits_of schema rows) (record { groups = groups ++ tail.groups; rest = tail.rest })) (sym c.in_ok-push.ensures.items)
          (part-more schema c.requires.schema sizes c.requires.groups c.requires.direct keys rows from count groups group many are.fit
          (omega (arith, c.part_len-count.ensures)) (omega (arith, c.loop-from-test.true)) (made rows are) (c.loop-from.invariant.parcel rows are) tail rest);
      base = subst (λ (groups : List Group). All is_based groups) (sym c.in_ok-push.ensures.items) (All-push is_based groups group c.loop-from.invariant.base one.base);
    }

pub returns-clause-parcel : goal.returns-clause-parcel
returns-clause-parcel c = λ rows are.
    let schema = c.args.schema.now in
    let sizes : Sizes = record { group_rows = c.args.group_rows; direct_rows = c.args.direct_rows } in
    let left = drop c.loop-from.from rows in
    let many : length c.args.keys.now ≡ length rows = ap length are.keyed ∙ length-map rows (key_in schema.key) in
    let few : length (inserted_by (edits_of schema left)) < c.args.direct_rows =
    omega (arith, count-inserted schema left, length-drop c.loop-from.from rows, many, c.loop-from-test.false) in
    let groups : c.loop-from.groups.items ++ [] ≡ c.from_vec.result = append-nil c.loop-from.groups.items ∙ sym c.from_vec.ensures in
    let rest : rows_given (edits_of schema left) ≡ c.from_vec-2.result = sym (c.in_ok-rest.ensures schema rows are) ∙ sym c.from_vec-2.ensures in
    subst (λ (rest : List (Key × List Value)). IsParcelFor schema sizes (edits_of schema rows) (record { groups = c.from_vec.result; rest = rest })) rest
    (subst (λ (groups : List Group). IsParcelFor schema sizes (edits_of schema rows) (record { groups = groups; rest = rows_given (edits_of schema left) })) groups
    (c.loop-from.invariant.parcel rows are (record { groups = []; rest = rows_given (edits_of schema left) })
    (rest_parcel schema sizes (edits_of schema left) (rows-fit schema left (All-drop (IsRowOf schema) c.loop-from.from rows are.fit)) few)))
