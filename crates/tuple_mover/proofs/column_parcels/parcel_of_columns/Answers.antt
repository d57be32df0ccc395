use Rattle.std.proofs.Common.{◌≡◌, ◌∙◌, ◌++◌, ◌∷◌, [], List, length, sym, ap, subst, arith}
use Rattle.std.specs.Result.{IfOk}
use Rattle.std.proofs.lemmas.List.{length-map}
use Rattle.cs_types.specs.declared.Key.{Key}
use Rattle.cs_types.specs.declared.Value.{Value}
use Rattle.cs_types.specs.Rows.{key_in}
use Rattle.cs_model.specs.Answers.{edits_of}
use Rattle.row_group.specs.Groups.{Group}
use Rattle.group_book.specs.Commits.{Sizes}
use Rattle.group_view.specs.declared.claim.Parcel.{Parcel}
use Rattle.group_view.specs.Parcels.{IsParcelFor}
use Rattle.tuple_mover.proofs.ColumnLemmas.{same-rows, whole-parcel}
use Rattle.tuple_mover.proofs.column_parcels.parcel_of_columns.Goals as goal

pub returns-then-count-direct_rows-clause-parcel :
    goal.returns-then-count-direct_rows-clause-parcel
returns-then-count-direct_rows-clause-parcel c = λ rows held.
    let (own, are) = c.requires.rows in
    let schema = c.args.schema.now in
    let sizes : Sizes = record { group_rows = c.args.group_rows; direct_rows = c.args.direct_rows } in
    let parcel = rw c.deref.ensures.value at c.parcel_in_parts.ensures.parcel in
    subst (λ (rows : List (List Value)). IfOk c.parcel_in_parts.result (IsParcelFor schema sizes (edits_of schema rows)))
    (same-rows (length schema.columns) own rows c.args.columns.items (omega (arith, c.requires.schema.key_there)) are.held held) (parcel own are)

pub returns-clause-parcel : goal.returns-clause-parcel
returns-clause-parcel c = λ rows held.
    let (own, are) = c.requires.rows in
    let schema = c.args.schema.now in
    let sizes : Sizes = record { group_rows = c.args.group_rows; direct_rows = c.args.direct_rows } in
    let group : Group = c.in_ok-column_group.field-0 in
    let some : length own ≡ length c.args.keys.now = sym (ap length are.keyed ∙ length-map own (key_in schema.key)) in
    let groups : c.push.new.self ≡ group ∷ [] = c.in_ok-push.ensures.ok ∙ ap (λ (groups : List Group). groups ++ group ∷ []) c.new-groups.ensures in
    let parcel : Parcel = record { groups = c.push.new.self; rest = c.new.result } in
    let whole = whole-parcel schema c.requires.schema sizes c.requires.groups c.requires.direct own group are.fit (c.in_ok-column_group.ensures own are)
    (omega (arith, some, c.if-count-direct_rows.false)) (omega (arith, some, c.if-group_rows-count.false)) in
    subst (λ (rows : List (List Value)). IsParcelFor schema sizes (edits_of schema rows) parcel) (same-rows (length schema.columns) own rows c.args.columns.items (omega (arith, c.requires.schema.key_there)) are.held held)
    (subst (λ (rest : List (Key × List Value)). IsParcelFor schema sizes (edits_of schema own) (record { groups = c.push.new.self; rest = rest })) (sym c.new.ensures)
    (subst (λ (groups : List Group). IsParcelFor schema sizes (edits_of schema own) (record { groups = groups; rest = [] })) (sym groups) whole))
