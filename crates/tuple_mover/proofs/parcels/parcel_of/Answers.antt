use Rattle.std.proofs.Common.{◌≡◌, ◌∙◌, ℕ, ◌++◌, ◌<◌, List, [], length, get_or, take, drop, sym, ap, subst, arith}
use Rattle.std.proofs.lemmas.List.{append-nil}
use Rattle.std.proofs.lemmas.List.Elements.{All-push}
use Rattle.std.specs.List.{All}
use Rattle.cs_types.specs.declared.Key.{Key}
use Rattle.cs_types.specs.declared.Value.{Value}
use Rattle.cs_model.specs.Changes.{Edit}
use Rattle.edit_laws.specs.Edits.{edits_of}
use Rattle.write_set.specs.declared.write.Write.{Write}
use Rattle.row_group.specs.Groups.{Group}
use Rattle.group_book.specs.Commits.{Sizes, inserted_by}
use Rattle.group_view.specs.declared.claim.Parcel.{Parcel}
use Rattle.group_view.specs.Parcels.{IsParcelFor}
use Rattle.tuple_mover.specs.Inserts.{rows_given, FitsIn, IsDirectOf}
use Rattle.tuple_mover.proofs.ParcelLemmas.{rest_parcel, parcel_step, edits-split, fit-front, fit-back, split-count}
use Rattle.tuple_mover.proofs.parcels.parcel_of.Goals as goal

pub direct_group-requires-clause-fit : goal.direct_group-requires-clause-fit
direct_group-requires-clause-fit c =
    let n = c.place_past.result in
    let writes = c.loop-left.writes.now in
    subst (λ (part : List Write). (k : ℕ) (d : Edit) → k < length (edits_of part) → FitsIn c.args.schema.now (get_or (edits_of part) k d)) (sym c.split_at.ensures.front)
    (fit-front (FitsIn c.args.schema.now) (edits_of (take n writes)) (edits_of (drop n writes)) (edits_of writes) (edits-split n writes) c.loop-left.invariant.fit)

pub loop-left-preserved : goal.loop-left-preserved
loop-left-preserved c =
    let schema = c.args.schema.now in
    let sizes : Sizes = record { group_rows = c.args.group_rows; direct_rows = c.args.direct_rows } in
    let n = c.place_past.result in
    let writes = c.loop-left.writes.now in
    let front = c.split_at.result.0.now in
    let back = c.split_at.result.1.now in
    let both : edits_of front ++ edits_of back ≡ edits_of writes =
    ap (λ (part : List Write). edits_of part ++ edits_of back) c.split_at.ensures.front ∙ ap (λ (part : List Write). edits_of (take n writes) ++ edits_of part) c.split_at.ensures.back ∙ edits-split n writes in
    let count : length (inserted_by (edits_of front)) ≡ c.part_len-count.result = ap (λ (part : List Write). length (inserted_by (edits_of part))) c.split_at.ensures.front ∙ c.place_past.ensures.count in
    let counts = split-count (edits_of front) (edits_of back) (edits_of writes) both in
    let left = c.loop-left.invariant.left in
    let group : Group = c.in_ok-direct_group.field-0 in
    let direct : IsDirectOf schema (edits_of front) group = c.in_ok-direct_group.ensures in
    let is_based = λ (group : Group). group.base ≡ 0 in
    record {
      left = omega (arith, counts, count, left);
      fit = fit-back (FitsIn schema) (edits_of front) (edits_of back) (edits_of writes) both c.loop-left.invariant.fit;
      parcel = λ (tail : Parcel) (rest : IsParcelFor schema sizes (edits_of back) tail).
          subst (λ (groups : List Group). IsParcelFor schema sizes (edits_of c.args.own.now) (record { groups = groups ++ tail.groups; rest = tail.rest })) (sym c.in_ok-push.ensures.items)
          (parcel_step schema c.requires.schema sizes c.requires.groups c.requires.direct (edits_of c.args.own.now) (edits_of writes) (edits_of front) (edits_of back) c.loop-left.groups.items group both
          (fit-front (FitsIn schema) (edits_of front) (edits_of back) (edits_of writes) both c.loop-left.invariant.fit) c.in_ok-direct_group.ensures
          (omega (arith, left, c.loop-left-test.true)) (omega (arith, left, count, c.part_len-count.ensures)) c.loop-left.invariant.parcel tail rest);
      base = subst (λ (groups : List Group). All is_based groups) (sym c.in_ok-push.ensures.items)
          (All-push is_based c.loop-left.groups.items group c.loop-left.invariant.base direct.base);
    }

pub returns-clause-parcel : goal.returns-clause-parcel
returns-clause-parcel c =
    let schema = c.args.schema.now in
    let sizes : Sizes = record { group_rows = c.args.group_rows; direct_rows = c.args.direct_rows } in
    let writes = c.loop-left.writes.now in
    let left = c.loop-left.invariant.left in
    let few : length (inserted_by (edits_of writes)) < c.args.direct_rows = omega (arith, left, c.loop-left-test.false) in
    let groups : c.loop-left.groups.items ++ [] ≡ c.from_vec.result = append-nil c.loop-left.groups.items ∙ sym c.from_vec.ensures in
    let rest : rows_given (edits_of writes) ≡ c.from_vec-2.result = sym c.in_ok-entries_of.ensures ∙ sym c.from_vec-2.ensures in
    subst (λ (rows : List (Key × List Value)). IsParcelFor schema sizes (edits_of c.args.own.now) (record { groups = c.from_vec.result; rest = rows })) rest
    (subst (λ (groups : List Group). IsParcelFor schema sizes (edits_of c.args.own.now) (record { groups = groups; rest = rows_given (edits_of writes) })) groups
    (c.loop-left.invariant.parcel (record { groups = []; rest = rows_given (edits_of writes) }) (rest_parcel schema sizes (edits_of writes) c.loop-left.invariant.fit few)))

pub returns-clause-base : goal.returns-clause-base
returns-clause-base c =
    subst (λ (groups : List Group). All (λ (group : Group). group.base ≡ 0) groups) (sym c.from_vec.ensures) c.loop-left.invariant.base
