-- What contracts see of a chunk.
use Rattle.std.specs.Prelude.{ℕ, List, refl}
use Rattle.std.specs.Coded.{Coded, code_by, coded×, coded_ℕ, coded_list}

-- its items, and how many items of the list stand before them
pub record Placed (T : Type 0) : Type 0 where
  pub from : ℕ
  pub items : List T

-- a chunk is stored as the pair of the two
abbrev pub placed_code : {T : Type 0} → Coded T → Coded (Placed T)
placed_code {T} code = code_by (ℕ × List T) (coded× coded_ℕ (coded_list code)) (λ chunk. (chunk.from, chunk.items)) (λ two. record { from = two.0; items = two.1 }) (λ _. refl)
