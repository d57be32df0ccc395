-- What an INSERT writes, as the writes of its rows.
use Rattle.std.proofs.Common.{◌≡◌, ◌∙◌, ℕ, ◌+◌, List, [], ◌∷◌, map, refl, ap, subst}
use Rattle.std.specs.Prelude.{Result, Ok, Err, Some}
use Rattle.cs_types.specs.declared.Schema.{Schema}
use Rattle.cs_types.specs.declared.Value.{Value}
use Rattle.cs_types.specs.Rows.{cell_at, key_in, IsNumber}
use Rattle.cs_types.specs.Schemas.{IsSchema}
use Rattle.cs_types.proofs.RowLemmas.{row_has_key}
use Rattle.cs_model.specs.declared.entry.Refusal.{Refusal}
use Rattle.cs_model.specs.declared.entry.Refusal.TheVariants.{Valued}
use Rattle.cs_model.specs.declared.expr.Expr.{Expr}
use Rattle.cs_model.specs.Answers as spec
use Rattle.cs_model.specs.Answers.{inserted_row, row_onto, rows_from}
use Rattle.cs_model.specs.Changes.{Edit}
use Rattle.edit_laws.specs.Edits.{edits_of}
use Rattle.write_set.specs.declared.write.Write.{Write}
use Rattle.row_work.specs.declared.refusal.WriteRefusal.{WriteRefusal}
use Rattle.row_work.specs.declared.refusal.WriteRefusal.TheVariants as refusal
use Rattle.row_work.specs.Gives.{GivesEdits, GivesRows, RefusesRow}
use Rattle.row_work.specs.Inserts.{as_write, write_of}
use Rattle.row_work.proofs.Written.{inserted_is_row}

module _ (schema : Schema) where
  abbrev as_writes : Result (List (List Value)) Refusal → Result (List Write) Refusal
  as_writes (Ok rows) = Ok (map (write_of schema) rows)
  as_writes (Err e) = Err e

  onto : (n : ℕ) (row : Result (List Value) (ℕ × ℕ)) (rows : Result (List (List Value)) Refusal) → row_onto n (as_write schema row) (as_writes rows) ≡ as_writes (row_onto n row rows)
  onto n (Err e) rows = refl
  onto n (Ok row) (Ok rows) = refl
  onto n (Ok row) (Err e) = refl

  as_all : {X : Type 0} (row_of : X → Result (List Value) (ℕ × ℕ)) (n : ℕ) (plan : List X) → rows_from (λ x. as_write schema (row_of x)) n plan ≡ as_writes (rows_from row_of n plan)
  as_all row_of n [] = refl
  as_all row_of n (x ∷ plan) = ap (row_onto n (as_write schema (row_of x))) (as_all row_of (n + 1) plan) ∙ onto n (row_of x) (rows_from row_of (n + 1) plan)

  pub edits_as : (rows : List (List Value)) → spec.edits_of schema rows ≡ edits_of (map (write_of schema) rows)
  edits_as [] = refl
  edits_as (row ∷ rows) = ap (λ (edits : List Edit). (key_in schema.key row, Some row) ∷ edits) (edits_as rows)

  gives : (wanted : Result (List (List Value)) Refusal) (r : Result (List Write) WriteRefusal) → GivesRows (as_writes wanted) r → GivesEdits (spec.edits_by schema wanted) r
  gives (Ok rows) (Ok writes) is = let same : map (write_of schema) rows ≡ writes = cc in ap Ok (edits_as rows ∙ ap edits_of same)
  gives (Ok rows) (Err (refusal.Value number row column)) is = absurd (cc)
  gives (Ok rows) (Err refusal.Memory) is = tt
  gives (Err e) (Ok writes) is = absurd (cc)
  gives (Err e) (Err (refusal.Value number row column)) is = let same : e ≡ Valued number row column = cc in ap Err same
  gives (Err e) (Err refusal.Memory) is = tt

  -- the writes of all rows are the edits that are wanted
  pub given_edits : {X : Type 0} (row_of : X → Result (List Value) (ℕ × ℕ)) (n : ℕ) (plan : List X) (r : Result (List Write) WriteRefusal) → GivesRows (rows_from (λ x. as_write schema (row_of x)) n plan) r
      → GivesEdits (spec.edits_by schema (rows_from row_of n plan)) r
  given_edits row_of n plan r is = gives (rows_from row_of n plan) r (subst (λ (wanted : Result (List Write) Refusal). GivesRows wanted r) (as_all row_of n plan) is)

-- a row that is refused has no write
pub refused_as : (schema : Schema) (n : ℕ) (wanted : Result (List Value) (ℕ × ℕ)) (e : WriteRefusal) → RefusesRow n wanted e → RefusesRow n (as_write schema wanted) e
refused_as schema n wanted (refusal.Value number row column) h = (ap (as_write schema) h.0, h.1)
refused_as schema n wanted refusal.Memory h = tt

-- a row that is written has a key
pub has_number : (schema source : Schema) (columns : List ℕ) (read : List Value) (exprs : List Expr) (cells : List Value) → IsSchema schema → inserted_row schema source columns read exprs ≡ Ok cells → IsNumber (cell_at cells schema.key)
has_number schema source columns read exprs cells is written = row_has_key schema cells is (inserted_is_row schema source columns read exprs cells written).row
