-- What becomes of groups of which one is lent for writing.
use Rattle.std.specs.Prelude.{ℕ, slice_set}
use Rattle.std.specs.Borrow.{Lends, MutBor, Fml}
use Rattle.group_view.specs.declared.groups.Group.{Group}
use Rattle.group_view.specs.Shares.{Grouped}
use Rattle.group_view.specs.contracts.held.Groups as groups
use Rattle.group_view.specs.contracts.groups.Group as group

-- the groups, with another one at the place
abbrev pub with_group : Grouped → ℕ → Group → Grouped
with_group groups place group = record groups { items = slice_set groups.items place group }

-- the groups end with what is left behind the reference at the place
abbrev pub LendsGroup : MutBor Grouped → ℕ → MutBor Group → Fml
LendsGroup s place r = Lends groups.the_row group.the_row s r (with_group s.now place)
