use Rattle.std.proofs.Common.{◌≡◌, map, take, drop, All}
use Rattle.group_view.specs.Contents.{IsFittingContent}
use Rattle.group_view.specs.Seen.{seen}
use Rattle.group_view.specs.Shares.{IsShareOf}
use Rattle.group_view.proofs.held.shown_between.Given as goal

abbrev pub invariant-loop-place : goal.invariant-loop-place
invariant-loop-place l = record {
  alike : map seen l.groups ≡ map seen l.initial.groups;
  kept : All (λ group. IsFittingContent group.content) l.groups;
  share : IsShareOf (drop l.from (take l.place (map seen l.initial.groups))) l.parts.items;
}
