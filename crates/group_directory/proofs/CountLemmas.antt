-- How many stores a commit opens, by division.
use Rattle.std.proofs.Common.{◌≡◌, ℕ, zero, suc, ◌<◌, ◌≤◌, ◌+◌, ◌-◌, ◌*◌, ◌/◌, ◌%◌, ◌⊎◌, inl, inr, min, refl, ap, ◌∙◌, arith}
use Rattle.std.proofs.lemmas.Bool.{cases_lt}
use Rattle.std.proofs.lemmas.Nat.{mul-le}
use Rattle.std.proofs.lemmas.Grind.{div_ceil_times}
use Rattle.group_directory.specs.Committing.{stores_opened}

-- the stores take all rows, and the last of them is not left out
record Takes (group_rows free rows stores : ℕ) : Type 0 where
  enough : rows ≤ free + stores * group_rows
  least : (stores ≡ 0) ⊎ (free + stores * group_rows < rows + group_rows)

one_store : (stores group_rows : ℕ) → (1 + stores) * group_rows ≡ group_rows + stores * group_rows
one_store stores group_rows = omega arith

no_rows : (group_rows : ℕ) → 0 * group_rows ≡ 0
no_rows group_rows = omega arith

takes : (group_rows free rows : ℕ) → 1 ≤ group_rows → Takes group_rows free rows (stores_opened group_rows free rows)
takes group_rows free zero some = record { enough = omega arith; least = inl refl }
takes group_rows zero (suc rows) some =
    let rest = takes group_rows (group_rows - 1) rows some in
    let more = one_store (stores_opened group_rows (group_rows - 1) rows) group_rows in
    record { enough = omega (arith, rest.enough, more, some); least = inr (step rest.least more) }
  where
    step : (stores_opened group_rows (group_rows - 1) rows ≡ 0) ⊎ (group_rows - 1 + stores_opened group_rows (group_rows - 1) rows * group_rows < rows + group_rows)
        → (1 + stores_opened group_rows (group_rows - 1) rows) * group_rows ≡ group_rows + stores_opened group_rows (group_rows - 1) rows * group_rows
        → 0 + (1 + stores_opened group_rows (group_rows - 1) rows) * group_rows < suc rows + group_rows
    step (inl none) more = let nothing : stores_opened group_rows (group_rows - 1) rows * group_rows ≡ 0 = ap (λ (n : ℕ). n * group_rows) none ∙ no_rows group_rows in omega (arith, more, nothing)
    step (inr less) more = omega (arith, more, less, some)
takes group_rows (suc free) (suc rows) some =
    let rest = takes group_rows free rows some in
    record { enough = omega (arith, rest.enough); least = step rest.least }
  where
    step : (stores_opened group_rows free rows ≡ 0) ⊎ (free + stores_opened group_rows free rows * group_rows < rows + group_rows)
        → (stores_opened group_rows free rows ≡ 0) ⊎ (suc free + stores_opened group_rows free rows * group_rows < suc rows + group_rows)
    step (inl none) = inl none
    step (inr less) = inr (omega (arith, less))

at_most : (group_rows rows a b : ℕ) → rows ≤ b * group_rows → a * group_rows < rows + group_rows → a ≤ b
at_most group_rows rows a b enough least = step (cases_lt b a)
  where
    step : (b < a) ⊎ (a ≤ b) → a ≤ b
    step (inr le) = le
    step (inl less) = let more = mul-le (1 + b) group_rows a group_rows (omega (arith, less)) (omega arith) in absurd (omega (arith, more, one_store b group_rows, enough, least))

pub stores_by_division : (group_rows free rows : ℕ) → 1 ≤ group_rows → (rows - free) / group_rows + min 1 ((rows - free) % group_rows) ≡ stores_opened group_rows free rows
stores_by_division group_rows free rows some =
    let is = takes group_rows free rows some in
    let ceil = div_ceil_times (rows - free) group_rows (omega (arith, some)) in
    step is.enough is.least ceil.0 ceil.1
  where
    stores : ℕ
    stores = stores_opened group_rows free rows

    count : ℕ
    count = (rows - free) / group_rows + min 1 ((rows - free) % group_rows)

    step : rows ≤ free + stores * group_rows → (stores ≡ 0) ⊎ (free + stores * group_rows < rows + group_rows) → rows - free ≤ count * group_rows → count * group_rows < rows - free + group_rows → count ≡ stores
    step enough (inl none) low high =
        let nothing : stores * group_rows ≡ 0 = ap (λ (n : ℕ). n * group_rows) none ∙ no_rows group_rows in
        let little = at_most group_rows (rows - free) count stores (omega (arith, enough)) high in
        omega (arith, little, none)
    step enough (inr least) low high =
        let little = at_most group_rows (rows - free) count stores (omega (arith, enough)) high in
        let big = at_most group_rows (rows - free) stores count low (between (cases_lt rows free)) in
        omega (arith, little, big)
      where
        between : (rows < free) ⊎ (free ≤ rows) → stores * group_rows < rows - free + group_rows
        between (inl less) = omega (arith, less, least)
        between (inr le) = omega (arith, le, least)
