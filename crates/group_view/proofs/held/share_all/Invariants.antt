use Rattle.std.proofs.Common.{◌≡◌, ◌*◌, ◌≤◌, map, take, All, vec_len}
use Rattle.group_view.specs.Contents.{IsFittingContent}
use Rattle.group_view.specs.Seen.{seen}
use Rattle.group_view.specs.Shares.{AreShared, IsShareOf}
use Rattle.group_view.proofs.held.share_all.Given as goal

abbrev pub invariant-loop-chunk : goal.invariant-loop-chunk
invariant-loop-chunk l = record {
  alike : map seen l.groups ≡ map seen l.initial.groups;
  kept : All (λ group. IsFittingContent group.content) l.groups;
  shared : AreShared (map seen l.groups) l.shares.items;
  len : l.chunk ≤ vec_len l.shares;
  shown : IsShareOf (take (128 * l.chunk) (map seen l.initial.groups)) l.shown;
}
