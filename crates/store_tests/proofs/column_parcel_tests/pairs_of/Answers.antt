use Rattle.std.proofs.Common.{◌≡◌, ◌∷◌, ◌++◌, ◌∙◌, [], ℤ, List, Option, length, sym, ap, subst}
use Rattle.std.specs.List.{All}
use Rattle.std.specs.declared.alloc.Global.{Global}
use Rattle.std.specs.declared.vec.Vec.{Vec}
use Rattle.cs_model.specs.Changes.{Edit}
use Rattle.tuple_mover.specs.Inserts.{AreRowsOf, FitsIn}
use Rattle.tuple_mover.proofs.ColumnLemmas.{rows-fit}
use Rattle.store_tests.proofs.ColumnRows.{one-more, same-came, all-came, writes-came}
use Rattle.store_tests.proofs.column_parcel_tests.pairs_of.Goals as goal

pub loop-number-preserved : goal.loop-number-preserved
loop-number-preserved c = λ schema columns.
    let (rows, are) = c.loop-number.invariant schema columns in
    let row = c.in_ok-row.row in (
      rows ++ row ∷ [],
      same-came schema _ _ _ _ _ _ _ _ (rows ++ row ∷ []) c.in_ok-push.ensures.items c.in_ok-push-2.ensures.items c.in_ok-push-3.ensures.items c.in_ok-push-4.ensures.items
          (one-more schema c.loop-number.keys.items c.loop-number.numbers.items c.loop-number.others.items c.loop-number.writes.items rows _ c.beside-second.result row are
          c.in_ok-row.ensures.row (c.in_ok-row.ensures.fit schema columns)),
    )

pub returns-clause-columns : goal.returns-clause-columns
returns-clause-columns c = λ schema columns key.
    let (rows, are) = c.loop-number.invariant schema columns in
    let numbers : Vec (Option ℤ) Global = c.loop-number.numbers in
    let others : Vec (Option ℤ) Global = c.loop-number.others in
    let both : c.push-3.new.self.items ≡ numbers ∷ others ∷ [] =
    c.in_ok-push-6.ensures.items
    ∙ ap (λ (all : List (Vec (Option ℤ) Global)). all ++ others ∷ []) (c.in_ok-push-5.ensures.items ∙ ap (λ (all : List (Vec (Option ℤ) Global)). all ++ numbers ∷ []) c.new-columns.ensures.items) in (
      rows,
      subst (λ (all : List (Vec (Option ℤ) Global)). AreRowsOf schema c.loop-number.keys.items all rows) (sym both)
          (all-came schema c.loop-number.keys.items numbers others c.loop-number.writes.items rows (ap length columns) key are),
    )

pub returns-clause-writes : goal.returns-clause-writes
returns-clause-writes c = λ schema columns key.
    let (rows, are) = c.loop-number.invariant schema columns in
    subst (λ (edits : List Edit). All (FitsIn schema) edits)
    (sym (writes-came schema c.loop-number.keys.items c.loop-number.numbers.items c.loop-number.others.items c.loop-number.writes.items rows key are)) (rows-fit schema rows are.fit)
