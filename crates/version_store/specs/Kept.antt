-- What runs keep of their loads.
use Rattle.std.specs.Prelude.{◌≡◌, ◌+◌, ◌<◌, ◌≤◌, ◌^◌, [], length, vec_len, vec_capacity}
use Rattle.version_store.specs.declared.runs.Runs.TheInside.{Inside}
use Rattle.version_store.specs.Loads.{newest_first, AreInOrder}

-- the loads are in order, and their keys are counted; and one more finds the room that is kept for it
pub record AreKept (runs : Inside) : Type 0 where
  pub order : AreInOrder runs.runs.items
  pub counted : runs.keys ≡ length (newest_first runs.runs.items)
  pub few : runs.keys + runs.room ≤ 2 ^ 62
  pub free : runs.next.items ≡ []
  pub room : runs.room ≤ vec_capacity runs.next
  pub place : 0 < runs.room → vec_len runs.runs < vec_capacity runs.runs
