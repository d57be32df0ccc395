use Rattle.std.proofs.Common.{rules, ◌≡◌, ◌<◌, length, ap, arith}
use Rattle.shared_list.specs.Chunks.{IsChunk}
use Rattle.shared_list.proofs.Edits.{more_join, more_stand}
use Rattle.shared_list.proofs.chunks.chunks_of.Goals as goal

pub loop-alloc-preserved : goal.loop-alloc-preserved
loop-alloc-preserved g c =
    let left = c.loop-alloc.left.items in
    let front = c.split_off.new.self.items in
    let back = c.in_ok-items.items.items in
    let from = c.saturating_sub-from.result in
    let chunks = c.loop-alloc.chunks.items in
    let new = c.push.new.self.items in
    let chunk = c.new-in-loop-alloc.result in
    let before = c.loop-alloc.invariant in
    let cut = c.in_ok-items.ensures in
    let long : length front ≡ from = search rules in
    let items : chunk.items ≡ back = search rules in
    let some : 0 < length back = search rules in
    let is : IsChunk from chunk = record { from = c.new-in-loop-alloc.ensures.from; some = let n = ap length items in omega (arith, n, some) } in
    record {
      stand = more_stand left front back from cut.items cut.tail chunks new chunk items c.in_ok-push.ensures.items long is before.stand;
      items = more_join left front back from cut.items cut.tail chunks new chunk items c.in_ok-push.ensures.items _ before.items;
    }
