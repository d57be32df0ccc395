use Rattle.std.proofs.Common.{◌≡◌, map, filter, take, All}
use Rattle.group_view.specs.Lists.{IsFittingContent}
use Rattle.group_view.specs.Parts.{packed_parts, IsFitting}
use Rattle.group_view.specs.Seen.{entry_of, packed_seen, part_entry, seen}
use Rattle.group_directory.specs.Sharing.{picks}
use Rattle.group_directory.proofs.share.share_sources.Given as goal

abbrev pub invariant-loop-group : goal.invariant-loop-group
invariant-loop-group l = record {
  alike : map seen l.groups ≡ map seen l.initial.groups;
  kept : All (λ group. IsFittingContent group.content) l.groups;
  parts : map part_entry l.parts.items ≡ map entry_of (filter (picks l.sources) (take l.group-index (map seen l.initial.groups)));
  packed : packed_parts l.parts.items ≡ packed_seen (filter (picks l.sources) (take l.group-index (map seen l.initial.groups)));
  fitting : All (λ part. IsFitting part.1) l.parts.items;
}
