use Rattle.std.proofs.Common.{None, List, ℕ, map, sym, subst, ◌∙◌}
use Rattle.group_directory.specs.Lending.{Keeps}
use Rattle.group_view.specs.Seen.{seen}
use Rattle.group_directory.specs.Sharing.{AreNamed}
use Rattle.group_directory.proofs.ClaimLaws.{flush_named, stands_flush, sound_flush, taken_flush, stands_shared, as_before}
use Rattle.group_directory.proofs.CommitLaws.{on_err}
use Rattle.group_directory.proofs.directory.Directory.lend_flush.Goals as goal

pub claim_flush-requires-clause-named : goal.claim_flush-requires-clause-named
claim_flush-requires-clause-named c =
    subst (λ (ids : List ℕ). AreNamed ids (map seen c.args.self.now.list.groups.items)) (sym (c.as_slice.ensures ∙ c.in_ok-sources.ensures.sources))
    (flush_named c.args.self.now c.requires.stands.0 c.requires.stands.1 c.args.turn c.requires.turn c.requires.flush)

pub returns-in_err-claim-clause-same : goal.returns-in_err-claim-clause-same
returns-in_err-claim-clause-same c = on_err _ c.from_residual-in_err-claim.result (as_before c.args.self.now c.claim_flush.new.list c.in_err-claim.ensures.same)

pub returns-in_err-claim-clause-claims : goal.returns-in_err-claim-clause-claims
returns-in_err-claim-clause-claims c = let same = c.in_err-claim.ensures.same in on_err _ c.from_residual-in_err-claim.result same.claims

pub returns-in_err-claim-clause-stands : goal.returns-in_err-claim-clause-stands
returns-in_err-claim-clause-stands c = λ changes j. stands_shared c.args.self.now changes j c.claim_flush.new.list c.in_err-claim.ensures.same

pub returns-clause-taken : goal.returns-clause-taken
returns-clause-taken c =
    let kept = subst (λ (ids : List ℕ). Keeps c.args.self.now.schema.value c.args.turn None ids c.in_ok-sources.field-0.entries c.args.self.now.list c.claim_flush.new.list c.in_ok-claim.claim) (c.as_slice.ensures ∙ c.in_ok-sources.ensures.sources) c.in_ok-claim.ensures.kept in
    taken_flush c.args.self.now c.requires.stands.0 c.requires.stands.1 c.args.turn c.requires.turn c.requires.flush c.in_ok-sources.field-0.entries c.in_ok-sources.ensures.entries c.claim_flush.new.list c.in_ok-claim.claim kept

pub returns-clause-sound : goal.returns-clause-sound
returns-clause-sound c = λ changes j.
    let kept = subst (λ (ids : List ℕ). Keeps c.args.self.now.schema.value c.args.turn None ids c.in_ok-sources.field-0.entries c.args.self.now.list c.claim_flush.new.list c.in_ok-claim.claim) (c.as_slice.ensures ∙ c.in_ok-sources.ensures.sources) c.in_ok-claim.ensures.kept in
    sound_flush c.args.self.now changes j c.args.turn c.requires.turn c.requires.flush c.in_ok-sources.field-0.entries c.in_ok-sources.ensures.entries c.claim_flush.new.list c.in_ok-claim.claim kept

pub returns-clause-stands : goal.returns-clause-stands
returns-clause-stands c = λ changes j.
    let kept = subst (λ (ids : List ℕ). Keeps c.args.self.now.schema.value c.args.turn None ids c.in_ok-sources.field-0.entries c.args.self.now.list c.claim_flush.new.list c.in_ok-claim.claim) (c.as_slice.ensures ∙ c.in_ok-sources.ensures.sources) c.in_ok-claim.ensures.kept in
    stands_flush c.args.self.now changes j c.args.turn c.requires.turn c.requires.flush c.in_ok-sources.field-0.entries c.in_ok-sources.ensures.entries c.claim_flush.new.list c.in_ok-claim.claim kept
