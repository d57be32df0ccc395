-- What the columns and the tables of a group have.
use Rattle.std.proofs.Common.{◌≡◌, ℕ, ◌+◌, ◌*◌, ◌^◌, ◌<◌, ◌≤◌, List, [], ◌∷◌, length, map, refl, ◌∙◌, ap, arith}
use Rattle.std.specs.List.{All}
use Rattle.std.proofs.lemmas.List.Elements.{All-nil, All-cons}
use Rattle.std.proofs.Math.Nat.{le-mul_of_pos_right, mul_comm}
use Rattle.cs_model.specs.declared.plan.Item.{Item}
use Rattle.row_group.specs.Groups.{Group}
use Rattle.batch_aggregate.specs.Tallies.{tally_of}
use Rattle.code_tallies.specs.declared.chosen.Chosen.{Chosen}
use Rattle.code_tallies.specs.declared.column.Column.{Column}
use Rattle.code_tallies.specs.declared.table.Table.{Table}
use Rattle.code_tallies.specs.Shown.{rows_at}
use Rattle.code_tallies.specs.Keys.{key_count, HasKeys, AreColumnsOf}
use Rattle.code_tallies.specs.Tables.{tally_in, HasEntry, key_positions, AreTablesOf}
use Rattle.code_tallies.proofs.KeyNumbers.{count-fewer}

some_keys : (columns : List Column) → 0 < key_count columns
some_keys [] = omega arith
some_keys (c ∷ cs) = omega (arith, some_keys cs, count-fewer c cs)

last_few : (c : Column) (cs : List Column) → c.last + 1 ≤ key_count (c ∷ cs)
last_few c cs =
    let more : c.last + 1 ≤ (c.last + 1) * key_count cs = le-mul_of_pos_right (c.last + 1) (some_keys cs) in
    let same : (c.last + 1) * key_count cs ≡ key_count (c ∷ cs) = mul_comm (c.last + 1) (key_count cs) in
    omega (arith, more, same)

pub columns-keys : (group : Group) (places : List ℕ) (columns : List Column) → AreColumnsOf group places columns → key_count columns < 2 ^ 60 → HasKeys (length group.rows) columns
columns-keys group [] [] are few = tt
columns-keys group [] (c ∷ cs) are few = absurd are
columns-keys group (p ∷ ps) [] are few = absurd are
columns-keys group (p ∷ ps) (c ∷ cs) are few =
    let long : length group.rows ≤ c.segment.now.length = omega (arith, are.0.counted) in
    let last : c.last < 2 ^ 60 = omega (arith, last_few c cs, few) in
    let fewer : key_count cs < 2 ^ 60 = omega (arith, count-fewer c cs, few) in
    (long, last, are.0.most, are.0.known, columns-keys group ps cs are.1 fewer)

pub tables-entries : (group : Group) (chosen : Chosen) (items : List Item) (tables : List Table) → AreTablesOf group chosen items tables → (k : ℕ) → k < chosen.size → All (HasEntry k) tables
tables-entries group chosen [] [] are k within = All-nil (HasEntry k)
tables-entries group chosen [] (t ∷ ts) are k within = absurd are
tables-entries group chosen (i ∷ is) [] are k within = absurd are
tables-entries group chosen (i ∷ is) (t ∷ ts) are k within = All-cons (HasEntry k) t ts (are.0.long k within) (tables-entries group chosen is ts are.1 k within)

pub tables-tallies : (group : Group) (chosen : Chosen) (items : List Item) (tables : List Table) → AreTablesOf group chosen items tables → (k : ℕ) → k < chosen.size →
    map (λ table. tally_in (length (key_positions chosen k)) table k) tables ≡ map (tally_of (rows_at group (key_positions chosen k))) items
tables-tallies group chosen [] [] are k within = refl
tables-tallies group chosen [] (t ∷ ts) are k within = absurd are
tables-tallies group chosen (i ∷ is) [] are k within = absurd are
tables-tallies group chosen (i ∷ is) (t ∷ ts) are k within =
    ap (λ x. x ∷ map (λ table. tally_in (length (key_positions chosen k)) table k) ts) (are.0.tallies k within)
    ∙ ap (λ xs. tally_of (rows_at group (key_positions chosen k)) i ∷ xs) (tables-tallies group chosen is ts are.1 k within)
