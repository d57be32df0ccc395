-- Rows that come with their columns, one by one.
use Rattle.std.proofs.Common.{◌≡◌, ℕ, ℤ, zero, suc, List, [], ◌∷◌, ◌++◌, map, length, Option, Some, None, refl, sym, ap, subst, ◌∙◌, arith, false}
use Rattle.std.specs.List.{All, slice_get}
use Rattle.std.specs.declared.alloc.Global.{Global}
use Rattle.std.specs.declared.vec.Vec.{Vec}
use Rattle.std.proofs.lemmas.List.{map-append}
use Rattle.std.proofs.lemmas.List.Elements.{All-push}
use Rattle.cs_types.specs.declared.Key.{Key}
use Rattle.cs_types.specs.declared.Schema.{Schema}
use Rattle.cs_types.specs.declared.Value.{Value}
use Rattle.cs_types.specs.declared.Value.TheVariants.{Number}
use Rattle.cs_types.specs.Rows.{cell_at, key_in, number_cell}
use Rattle.cs_types.specs.Schemas.{IsRowOf}
use Rattle.cs_model.specs.Answers.{edits_of as edits_at}
use Rattle.cs_model.specs.Changes.{Edit}
use Rattle.edit_laws.specs.Edits.{edit_of, edits_of}
use Rattle.write_set.specs.declared.write.Write.{Write}
use Rattle.tuple_mover.specs.Inserts.{AreRowsOf}

-- so far these rows came, each of a number and of what stands beside it
pub record AreComing (schema : Schema) (keys : List Key) (numbers others : List (Option ℤ)) (writes : List Write) (rows : List (List Value)) : Type 0 where
  pub fit : All (IsRowOf schema) rows
  pub wide : All (λ (row : List Value). length row ≡ 2) rows
  pub first : map (λ (row : List Value). cell_at row 0) rows ≡ map number_cell numbers
  pub second : map (λ (row : List Value). cell_at row 1) rows ≡ map number_cell others
  pub keyed : keys ≡ map (key_in 0) rows
  pub written : edits_of writes ≡ map (λ (row : List Value). (key_in 0 row, Some row)) rows

pub one-more : (schema : Schema) (keys : List Key) (numbers others : List (Option ℤ)) (writes : List Write) (rows : List (List Value)) (n : ℤ) (beside : Option ℤ) (row : List Value)
    → AreComing schema keys numbers others writes rows → row ≡ Number n ∷ number_cell beside ∷ [] → IsRowOf schema row
    → AreComing schema (keys ++ record { 0 = n } ∷ []) (numbers ++ Some n ∷ []) (others ++ beside ∷ []) (writes ++ record { key = record { 0 = n }; row = Some row; replaces = false } ∷ []) (rows ++ row ∷ [])
one-more schema keys numbers others writes rows n beside row are is fits = record {
  fit = All-push (IsRowOf schema) rows row are.fit fits;
  wide = All-push (λ (row : List Value). length row ≡ 2) rows row are.wide (ap length is);
  first = map-append (λ (row : List Value). cell_at row 0) rows (row ∷ []) ∙ ap (λ cells. cells ++ cell_at row 0 ∷ []) are.first
      ∙ ap (λ (row : List Value). map number_cell numbers ++ cell_at row 0 ∷ []) is ∙ sym (map-append number_cell numbers (Some n ∷ []));
  second = map-append (λ (row : List Value). cell_at row 1) rows (row ∷ []) ∙ ap (λ cells. cells ++ cell_at row 1 ∷ []) are.second
      ∙ ap (λ (row : List Value). map number_cell others ++ cell_at row 1 ∷ []) is ∙ sym (map-append number_cell others (beside ∷ []));
  keyed =
      let key : Key = record { 0 = n } in
      ap (λ (keys : List Key). keys ++ key ∷ []) are.keyed
      ∙ ap (λ (row : List Value). map (key_in 0) rows ++ key_in 0 row ∷ []) (sym is) ∙ sym (map-append (key_in 0) rows (row ∷ []));
  written =
      let edit : List Value → Edit = λ row. (key_in 0 row, Some row) in
      let key : Key = record { 0 = n } in
      let write : Write = record { key = key; row = Some row; replaces = false } in
      map-append edit_of writes (write ∷ []) ∙ ap (λ (edits : List Edit). edits ++ (key, Some row) ∷ []) are.written
      ∙ ap (λ (other : List Value). map edit rows ++ (key_in 0 other, Some row) ∷ []) (sym is) ∙ sym (map-append edit rows (row ∷ []));
}

pub same-came : (schema : Schema) (keys keys' : List Key) (numbers numbers' others others' : List (Option ℤ)) (writes writes' : List Write) (rows : List (List Value)) → keys' ≡ keys → numbers' ≡ numbers → others' ≡ others → writes' ≡ writes
    → AreComing schema keys numbers others writes rows → AreComing schema keys' numbers' others' writes' rows
same-came schema keys keys' numbers numbers' others others' writes writes' rows k n o w are =
    subst (λ (keys : List Key). AreComing schema keys numbers' others' writes' rows) (sym k)
    (subst (λ (numbers : List (Option ℤ)). AreComing schema keys numbers others' writes' rows) (sym n)
    (subst (λ (others : List (Option ℤ)). AreComing schema keys numbers others writes' rows) (sym o)
    (subst (λ (writes : List Write). AreComing schema keys numbers others writes rows) (sym w) are)))

-- columns of these numbers, and of what stands beside them
pub all-came : (schema : Schema) (keys : List Key) (numbers others : Vec (Option ℤ) Global) (writes : List Write) (rows : List (List Value)) → length schema.columns ≡ 2 → schema.key ≡ 0
    → AreComing schema keys numbers.items others.items writes rows → AreRowsOf schema keys (numbers ∷ others ∷ []) rows
all-came schema keys numbers others writes rows two key are = record {
  fit = are.fit;
  held = record {
    many = sym two;
    wide = subst (λ n. All (λ (row : List Value). length row ≡ n) rows) (sym two) are.wide;
    cells = column_at;
  };
  keyed = are.keyed ∙ ap (λ k. map (key_in k) rows) (sym key);
}
  where
    column_at : (i : ℕ) (column : Vec (Option ℤ) Global) → slice_get (numbers ∷ others ∷ []) i ≡ Some column → map (λ (row : List Value). cell_at row i) rows ≡ map number_cell column.items
    column_at zero column found = let same : numbers ≡ column = cc in are.first ∙ ap (λ (column : Vec (Option ℤ) Global). map number_cell column.items) same
    column_at (suc zero) column found = let same : others ≡ column = cc in are.second ∙ ap (λ (column : Vec (Option ℤ) Global). map number_cell column.items) same
    column_at (suc (suc i)) column found = absurd cc

pub writes-came : (schema : Schema) (keys : List Key) (numbers others : List (Option ℤ)) (writes : List Write) (rows : List (List Value)) → schema.key ≡ 0 → AreComing schema keys numbers others writes rows → edits_of writes ≡ edits_at schema rows
writes-came schema keys numbers others writes rows key are = are.written ∙ ap (λ k. map (λ (row : List Value). (key_in k row, Some row)) rows) (sym key)
