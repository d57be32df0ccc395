-- The cells of a key number are those of the rows that have it.
use Rattle.std.proofs.Common.{◌≡◌, ℕ, ◌+◌, ◌*◌, ◌/◌, ◌%◌, ◌<◌, ◌≤◌, List, [], ◌∷◌, length, refl, ◌∙◌, ap, subst, arith}
use Rattle.std.proofs.lemmas.Nat.{div-mul-add, mul-add-lt}
use Rattle.std.proofs.Math.Nat.{mul-add-mod_self_right, mod-eq_of_lt, mul_comm, le-mul_of_pos_right}
use Rattle.cs_types.specs.Rows.{cell_at}
use Rattle.cs_model.specs.Groups.{cells_of}
use Rattle.column_segment.specs.Bodies.{cell_of_code}
use Rattle.row_group.specs.Groups.{Group}
use Rattle.code_tallies.specs.declared.column.Column.{Column}
use Rattle.code_tallies.specs.Shown.{cells_at}
use Rattle.code_tallies.specs.Columns.{code_at}
use Rattle.code_tallies.specs.Keys.{key_at, key_count, cells_of_key, AreColumnsOf}

-- the last digit of a number, and the rest of it
last_digit : (rest radix code : ℕ) → code < radix → (rest * radix + code) % radix ≡ code
last_digit rest radix code below = mul-add-mod_self_right rest radix code ∙ mod-eq_of_lt below

pub cells-of-key : (group : Group) (places : List ℕ) (columns : List Column) (i : ℕ) → AreColumnsOf group places columns → i < length group.rows →
    cells_of_key columns (key_at columns i) ≡ cells_of places (cells_at group i)
cells-of-key group [] [] i are within = refl
cells-of-key group [] (c ∷ cs) i are within = absurd are
cells-of-key group (p ∷ ps) [] i are within = absurd are
cells-of-key group (p ∷ ps) (c ∷ cs) i are within =
    let code : ℕ = code_at c i in
    let most : code ≤ c.last = are.0.most i within in
    let below : code < c.last + 1 = omega (arith, most) in
    let digit : key_at (c ∷ cs) i % (c.last + 1) ≡ code = last_digit (key_at cs i) (c.last + 1) code below in
    let rest : key_at (c ∷ cs) i / (c.last + 1) ≡ key_at cs i = div-mul-add (key_at cs i) (c.last + 1) code below in
    ap (λ n. cell_of_code c.segment.now.body n ∷ cells_of_key cs (key_at (c ∷ cs) i / (c.last + 1))) digit
    ∙ ap (λ n. cell_of_code c.segment.now.body code ∷ cells_of_key cs n) rest
    ∙ ap (λ v. v ∷ cells_of_key cs (key_at cs i)) (are.0.each i within)
    ∙ ap (λ vs. cell_at (cells_at group i) p ∷ vs) (cells-of-key group ps cs i are.1 within)

-- fewer columns have fewer key numbers
pub count-fewer : (c : Column) (cs : List Column) → key_count cs ≤ key_count (c ∷ cs)
count-fewer c cs =
    let more : key_count cs ≤ key_count cs * (c.last + 1) = le-mul_of_pos_right (key_count cs) (omega arith) in
    more

-- a key number and a code more stay below the count of key numbers
pub joined-below : (c : Column) (cs : List Column) (key code : ℕ) → key < key_count cs → code ≤ c.last → key * (c.last + 1) + code < key_count (c ∷ cs)
joined-below c cs key code low most =
    subst (λ m. key * (c.last + 1) + code < m) (mul_comm (c.last + 1) (key_count cs)) (mul-add-lt key (c.last + 1) code (key_count cs) low (omega (arith, most)))
