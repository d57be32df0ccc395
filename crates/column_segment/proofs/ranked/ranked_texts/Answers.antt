use Rattle.std.proofs.Common.{ℕ, List, map}
use Rattle.std.proofs.lemmas.Result.{IfOk-weaker}
use Rattle.cs_types.specs.Rows.{cell_at}
use Rattle.column_segment.specs.declared.segment.Segment.{Segment}
use Rattle.column_segment.specs.Cells.{seen}
use Rattle.column_segment.specs.Ranks.{AreMovedRanks}
use Rattle.column_segment.specs.Segments.{IsSegmentOf}
use Rattle.column_segment.proofs.Moved.{cells-moved, text-moved, coded-moved}
use Rattle.column_segment.proofs.ranked.ranked_texts.Goals as goal

pub dict_segment-requires : goal.dict_segment-requires
dict_segment-requires c =
    let cells = map seen c.args.cells.now in
    let (order, moved) = c.requires.picked in (
      map (cell_at cells) order,
      coded-moved cells c.in_ok-dict.dict c.args.ranks.now order c.args.codes.now moved.some moved.all c.in_ok-dict.ensures.dict c.in_ok-dict.ensures.codes moved.picked,
      text-moved cells (map (cell_at cells) order) (cells-moved cells order moved.all) c.requires.text,
    )

pub returns : goal.returns
returns c =
    let cells = map seen c.args.cells.now in
    let Wanted : Segment → Type 0 = λ s. (order : List ℕ) → AreMovedRanks cells c.args.ranks.now order c.args.codes.now → IsSegmentOf (map (cell_at cells) order) s.length s.body s.least s.greatest s.nulls in
    IfOk-weaker c.dict_segment.result _ Wanted
    (λ (s : Segment) is order moved.
    is (map (cell_at cells) order)
    (coded-moved cells c.in_ok-dict.dict c.args.ranks.now order c.args.codes.now moved.some moved.all c.in_ok-dict.ensures.dict c.in_ok-dict.ensures.codes moved.picked)
    (text-moved cells (map (cell_at cells) order) (cells-moved cells order moved.all) c.requires.text)) c.dict_segment.ensures
