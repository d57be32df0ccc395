use Rattle.std.proofs.Common.{◌≡◌, ◌∙◌, ◌<◌, List, length, false, refl, subst, arith}
use Rattle.std.specs.List.{All}
use Rattle.std.proofs.lemmas.Option.{slice_get_read}
use Rattle.cs_types.specs.declared.Key.{Key}
use Rattle.cs_model.specs.Answers.{inserted}
use Rattle.cs_model.specs.Obstacles.{has_row}
use Rattle.row_work.specs.Reads.{shown_by}
use Rattle.row_work.proofs.Loads.{is_load_of}
use Rattle.row_work.proofs.load.loaded.Goals as goal

pub returns : goal.returns
returns c =
    let schema = c.args.schema.now in
    let pinned = c.args.pinned.now in
    let columns = c.in-Some.columns.items in
    let given = rw c.in-Some.is at c.in_ok-columns.ensures in
    let keys = rw c.in-Some-2.is at c.in_ok-keys.ensures in
    let inside : schema.key < length columns = omega (arith, given.2.many, c.requires.table.key_there) in
    let at = slice_get_read columns (length columns) schema.key c.index.result.now refl inside c.index.ensures in
    let absent = c.in_ok-are_absent.ensures c.if-not-branch.false in
    is_load_of schema pinned (inserted schema c.args.plan.now) (record { keys = c.in-Some-2.keys; columns = c.in-Some.columns }) c.index.result.now
    (c.is_empty.ensures.value.0 c.if-not-is_empty.false) given at (keys.0 ∙ c.deref.ensures.value) keys.1
    (λ width. subst (λ (list : List Key). All (λ key. has_row (shown_by width pinned) key ≡ false) list) c.deref-2.ensures.value (absent width))
