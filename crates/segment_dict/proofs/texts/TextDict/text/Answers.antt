use Rattle.std.proofs.Common.{arith}
use Rattle.std.proofs.lemmas.List.{get_or_read}
use Rattle.segment_dict.proofs.TextLemmas.{text_at}
use Rattle.segment_dict.proofs.texts.TextDict.text.Goals as goal

pub slice_bounds-result-count : goal.slice_bounds-result-count
slice_bounds-result-count c =
    let there = text_at 0 _ _ c.args.place c.args.self.now.joined c.requires in
    let end = get_or_read c.args.self.now.ends c.args.place c.at.result.now c.requires c.at.ensures.item 0 in
    omega (arith, there.begins, c.start.ensures, end)

pub slice_bounds-result-start : goal.slice_bounds-result-start
slice_bounds-result-start c =
    let there = text_at 0 _ _ c.args.place c.args.self.now.joined c.requires in
    let end = get_or_read c.args.self.now.ends c.args.place c.at.result.now c.requires c.at.ensures.item 0 in
    omega (arith, there.begins, c.start.ensures, end)

pub slice_bounds-result-end : goal.slice_bounds-result-end
slice_bounds-result-end c =
    let there = text_at 0 _ _ c.args.place c.args.self.now.joined c.requires in
    let end = get_or_read c.args.self.now.ends c.args.place c.at.result.now c.requires c.at.ensures.item 0 in
    rw c.as_slice.ensures (omega (arith, there.within, end))

pub returns : goal.returns
returns c =
    let there = text_at 0 _ _ c.args.place c.args.self.now.joined c.requires in
    let end = get_or_read c.args.self.now.ends c.args.place c.at.result.now c.requires c.at.ensures.item 0 in
    rw (c.as_slice.ensures, c.start.ensures, end) there.is
