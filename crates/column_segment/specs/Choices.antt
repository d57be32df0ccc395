-- The choice among the ways to keep cells, as the costs of each.
use Rattle.std.specs.Prelude.{◌≡◌, ◌+◌, ◌*◌, ◌/◌, ◌<◌, ◌≤◌, ℕ, List}
use Rattle.bit_pack.specs.Codes.{packed}
use Rattle.segment_value.specs.declared.Scale.{Scale}
use Rattle.segment_dict.specs.declared.Dict.{Dict}
use Rattle.segment_rle.specs.Runs.{AreRunsOf}
use Rattle.column_segment.specs.declared.body.SegmentBody.{SegmentBody}
use Rattle.column_segment.specs.declared.body.SegmentBody.TheVariants.{ValuePacked, ValueRuns, DictPacked, DictRuns}
use Rattle.column_segment.specs.declared.choice.Costs.{Costs}

-- what so many codes and runs cost at a width, beside what the scale or the dictionary costs
abbrev pub AreCosts : ℕ → ℕ → ℕ → ℕ → Costs → Type 0
AreCosts base length width runs costs =
    (costs.width ≡ width) × (costs.packed ≡ base + (length * width + 63) / 64) × (costs.runs ≡ base + 2 * runs)

-- codes of a scale in their cheaper layout, packed where both cost as much
abbrev pub IsValueBody : Scale → List ℕ → Costs → SegmentBody → Type 0
IsValueBody scale codes costs (ValuePacked kept width words) = (kept ≡ scale) × (width ≡ costs.width) × (words ≡ packed width codes) × (costs.packed ≤ costs.runs)
IsValueBody scale codes costs (ValueRuns kept runs) = (kept ≡ scale) × AreRunsOf codes runs.codes runs.ends × (costs.runs < costs.packed)
IsValueBody scale codes costs (DictPacked dict width words) = ⊥
IsValueBody scale codes costs (DictRuns dict runs) = ⊥

-- codes of a dictionary in their cheaper layout, packed where both cost as much
abbrev pub IsDictBody : Dict → List ℕ → Costs → SegmentBody → Type 0
IsDictBody dict codes costs (ValuePacked scale width words) = ⊥
IsDictBody dict codes costs (ValueRuns scale runs) = ⊥
IsDictBody dict codes costs (DictPacked kept width words) = (kept ≡ dict) × (width ≡ costs.width) × (words ≡ packed width codes) × (costs.packed ≤ costs.runs)
IsDictBody dict codes costs (DictRuns kept runs) = (kept ≡ dict) × AreRunsOf codes runs.codes runs.ends × (costs.runs < costs.packed)
