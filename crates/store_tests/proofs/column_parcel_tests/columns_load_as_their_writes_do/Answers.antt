use Rattle.std.proofs.Common.{List, sym, subst}
use Rattle.cs_types.specs.declared.Key.{Key}
use Rattle.cs_types.specs.declared.Value.{Value}
use Rattle.tuple_mover.specs.Inserts.{AreRowsOf}
use Rattle.store_tests.proofs.column_parcel_tests.columns_load_as_their_writes_do.Goals as goal

pub parcel_of_columns-requires-clause-rows : goal.parcel_of_columns-requires-clause-rows
parcel_of_columns-requires-clause-rows g c =
    subst (λ (keys : List Key). (rows : List (List Value)) × AreRowsOf c.in_ok-schema.schema keys c.in_ok-coming.coming.columns.items rows) (sym c.deref-in-loop-count.ensures.value)
    (c.in_ok-coming.ensures.columns c.in_ok-schema.schema c.in_ok-schema.ensures.columns c.in_ok-schema.ensures.key)
