-- What a core was made with.
use Rattle.std.specs.Prelude.{◌≤◌, ℕ}
use Rattle.group_book.specs.Commits.{Sizes}
use Rattle.statement_core.specs.declared.started.Terms.{Terms}

-- how large groups are
abbrev pub sizes_of : Terms → Sizes
sizes_of terms = record { group_rows = terms.group_rows; direct_rows = terms.direct_rows }

-- a group has at most 2 to 1,048,576 versions, and from 1 to 1,048,576 rows on a commit loads them directly
pub record AreTermsOf (group_rows direct_rows : ℕ) : Type 0 where
  pub least_group : 2 ≤ group_rows
  pub most_group : group_rows ≤ 1048576
  pub least_direct : 1 ≤ direct_rows
  pub most_direct : direct_rows ≤ 1048576

abbrev pub AreTerms : Terms → Type 0
AreTerms terms = AreTermsOf terms.group_rows terms.direct_rows
