use Rattle.std.proofs.Common.{◌<◌, ◌≤◌, ◌∙◌, map, arith, length, get_or}
use Rattle.std.proofs.lemmas.List.{get_or_default}
use Rattle.std.proofs.lemmas.List.Elements.{All-set}
use Rattle.group_view.specs.declared.groups.Group.{Group}
use Rattle.group_view.specs.Contents.{IsFittingContent}
use Rattle.group_view.specs.Seen.{seen}
use Rattle.group_view.proofs.ShareLemmas.{share_more, seen_set}
use Rattle.group_view.proofs.held.shown_between.Goals as goal

pub returns-in_err-add_share-clause-seen : goal.returns-in_err-add_share-clause-seen
returns-in_err-add_share-clause-seen c = seen_set c.loop-place.groups c.loop-place.place c.index-groups-place.result c.add_share.new.group c.add_share.ensures.seen ∙ c.loop-place.invariant.alike

pub loop-place-preserved : goal.loop-place-preserved
loop-place-preserved c =
    let groups = c.loop-place.groups in
    let i = c.loop-place.place in
    let d = c.index-groups-place.result in
    let group = get_or groups i d in
    let made = c.in_ok-add_share.ensures in
    let held = c.loop-place.invariant in
    let inside : i < length groups = omega (arith, c.loop-place-test.true, c.requires.within, c.loop-place.auto.groups) in
    let begun : c.args.from ≤ i = omega (arith, c.loop-place.auto.place) in
    record {
      alike = seen_set groups i d c.add_share.new.group made.seen ∙ held.alike;
      kept = All-set (λ (g : Group). IsFittingContent g.content) groups i c.add_share.new.group made.kept held.kept;
      share =
          share_more (map seen c.args.groups.now) groups c.args.from i group c.loop-place.parts.items c.add_share.new.parts.items held.alike begun inside
          (get_or_default groups i d group inside) made.parts made.packed (made.fitting held.share.fitting) held.share;
    }
