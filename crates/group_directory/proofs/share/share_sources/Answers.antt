use Rattle.std.proofs.Common.{◌≡◌, Vec, Global, ℕ, ◌<◌, ◌++◌, List, map, length, get_or, true, false, sym, ap, subst, ◌∙◌, arith}
use Rattle.std.specs.List.{All}
use Rattle.std.proofs.lemmas.List.{append-nil, get_or_default, map-append, set-get_or}
use Rattle.std.proofs.lemmas.Grind.{flat_map-append}
use Rattle.std.proofs.lemmas.List.Elements.{All-set}
use Rattle.group_view.specs.declared.parts.GroupPart.{GroupPart}
use Rattle.group_view.specs.Parts.{packed_parts, IsFitting}
use Rattle.group_view.specs.Seen.{Seen, entry_of, packed_seen, part_entry, seen}
use Rattle.group_directory.specs.Sharing.{picks}
use Rattle.group_directory.proofs.Held.{Fits}
use Rattle.group_directory.proofs.Mapped.{map-set_alike}
use Rattle.group_directory.proofs.Shared.{next_picks, not_picked, picked_more, picked_shown}
use Rattle.group_directory.proofs.share.share_sources.Goals.{then-is_next+in_ok-add_part, else-is_next}
use Rattle.group_directory.proofs.share.share_sources.Goals as goal

abbrev Parts : Type 0
Parts = Vec (ℕ × GroupPart) Global

abbrev FitsPart : ℕ × GroupPart → Type 0
FitsPart part = IsFitting part.1

pub returns-in_err-add_part-clause-seen : goal.returns-in_err-add_part-clause-seen
returns-in_err-add_part-clause-seen c =
    map-set_alike seen c.loop-group.groups c.loop-group.group-index c.group-item.result c.add_part.new.group c.add_part.ensures.seen ∙ c.loop-group.invariant.alike

pub loop-group-preserved : goal.loop-group-preserved
loop-group-preserved c =
    let sources = c.args.sources.now in
    let all = map seen c.args.groups.now in
    let gs = c.loop-group.groups in
    let i = c.loop-group.group-index in
    let g = get_or c.loop-group.groups c.loop-group.group-index c.group-item.result in
    let parts = c.loop-group.parts.items in
    let held = c.loop-group.invariant in
    let inside : i < length gs = omega arith in
    let here = get_or_default gs i c.group-item.result g inside in
    let next = next_picks sources all gs i c.len.result g parts c.requires.named held.alike inside here held.parts (c.len.ensures ∙ c.loop-group.parts.ok.0) in
    elim c.if-is_next.branch [
      | then-is_next+in_ok-add_part w ↦
          let picked : picks sources (seen g) ≡ true = sym next.0 ∙ sym c.is_next.ensures ∙ w.if-is_next.true in
          record {
            alike = ap (map seen) w.groups-is ∙ map-set_alike seen gs i c.group-item.result w.add_part.new.group w.in_ok-add_part.ensures.seen ∙ held.alike;
            kept = subst (All Fits) (sym w.groups-is) (All-set Fits gs i w.add_part.new.group w.in_ok-add_part.ensures.kept held.kept);
            parts =
                ap (λ (l : Parts). map part_entry l.items) w.parts-is ∙ w.in_ok-add_part.ensures.parts
                ∙ ap (λ (l : List Seen). map part_entry parts ++ map entry_of l) (picked_shown sources all i (seen g) c.requires.named next.1 next.2 picked)
                ∙ picked_more (map entry_of) (map-append entry_of) (picks sources) all gs i g (map part_entry parts) held.alike inside here held.parts;
            packed =
                ap (λ (l : Parts). packed_parts l.items) w.parts-is ∙ w.in_ok-add_part.ensures.packed
                ∙ ap (λ (l : List Seen). packed_parts parts ++ packed_seen l) (picked_shown sources all i (seen g) c.requires.named next.1 next.2 picked)
                ∙ picked_more packed_seen (flat_map-append (λ (s : Seen). s.packed)) (picks sources) all gs i g (packed_parts parts) held.alike inside here held.packed;
            fitting = subst (λ (l : Parts). All FitsPart l.items) (sym w.parts-is) (w.in_ok-add_part.ensures.fitting held.fitting);
          }
      | else-is_next w ↦
          let picked : picks sources (seen g) ≡ false = sym next.0 ∙ sym c.is_next.ensures ∙ w.if-is_next.false in
          record {
            alike = ap (map seen) (w.groups-is ∙ set-get_or gs i c.group-item.result) ∙ held.alike;
            kept = subst (All Fits) (sym (w.groups-is ∙ set-get_or gs i c.group-item.result)) held.kept;
            parts =
                ap (λ (l : Parts). map part_entry l.items) w.parts-is ∙ sym (append-nil (map part_entry parts))
                ∙ ap (λ (l : List Seen). map part_entry parts ++ map entry_of l) (sym (not_picked sources (seen g) picked))
                ∙ picked_more (map entry_of) (map-append entry_of) (picks sources) all gs i g (map part_entry parts) held.alike inside here held.parts;
            packed =
                ap (λ (l : Parts). packed_parts l.items) w.parts-is ∙ sym (append-nil (packed_parts parts))
                ∙ ap (λ (l : List Seen). packed_parts parts ++ packed_seen l) (sym (not_picked sources (seen g) picked))
                ∙ picked_more packed_seen (flat_map-append (λ (s : Seen). s.packed)) (picks sources) all gs i g (packed_parts parts) held.alike inside here held.packed;
            fitting = subst (λ (l : Parts). All FitsPart l.items) (sym w.parts-is) held.fitting;
          }
    ]
