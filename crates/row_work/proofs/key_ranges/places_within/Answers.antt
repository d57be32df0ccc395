use Rattle.std.proofs.Common.{◌≡◌, ℕ, inl, inr, max, arith}
use Rattle.std.specs.Prelude.{◌⊎◌}
use Rattle.std.proofs.lemmas.Bool.{cases_lt}
use Rattle.row_work.proofs.Ranges.{places_are}
use Rattle.row_work.proofs.key_ranges.places_within.Goals as goal

one_of : (from end m : ℕ) → m ≡ max end from → (m ≡ from) ⊎ (m ≡ end)
one_of from end m is = elim (cases_lt from end) [ inl less ↦ inr (omega (arith, less, is)) | inr more ↦ inl (omega (arith, more, is)) ]

pub returns : goal.returns
returns c =
    let from = c.first_of-from.result in
    let end = c.first_of-end.result in
    places_are c.args.packed.now c.args.bounds from end c.first_of-from.ensures c.first_of-end.ensures c.max.result (omega (arith, c.max.ensures)) (omega (arith, c.max.ensures)) (one_of from end c.max.result c.max.ensures)
