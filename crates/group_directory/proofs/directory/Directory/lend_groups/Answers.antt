use Rattle.group_directory.proofs.ClaimLaws.{making, are_named, stands_made, sound_made, taken_made, stands_shared, as_before}
use Rattle.group_directory.proofs.CommitLaws.{on_err}
use Rattle.group_directory.proofs.directory.Directory.lend_groups.Goals as goal

pub claim_groups-requires-clause-named : goal.claim_groups-requires-clause-named
claim_groups-requires-clause-named c =
    let made = making c.args.self.now c.requires.stands.0 c.requires.stands.1 c.args.turn c.requires.turn c.args.sources.now c.requires.makes c.requires.sources in
    are_named c.args.self.now c.requires.stands.0 c.requires.stands.1 c.args.turn c.requires.turn c.args.sources.now made.takes made.rises

pub returns-in_err-claim-clause-same : goal.returns-in_err-claim-clause-same
returns-in_err-claim-clause-same c = on_err _ c.from_residual.result (as_before c.args.self.now c.claim_groups.new.list c.in_err-claim.ensures.same)

pub returns-in_err-claim-clause-claims : goal.returns-in_err-claim-clause-claims
returns-in_err-claim-clause-claims c = let same = c.in_err-claim.ensures.same in on_err _ c.from_residual.result same.claims

pub returns-in_err-claim-clause-stands : goal.returns-in_err-claim-clause-stands
returns-in_err-claim-clause-stands c = λ changes j. stands_shared c.args.self.now changes j c.claim_groups.new.list c.in_err-claim.ensures.same

pub returns-clause-taken : goal.returns-clause-taken
returns-clause-taken c =
    taken_made c.args.self.now c.requires.stands.0 c.requires.stands.1 c.args.turn c.requires.turn c.args.sources.now c.requires.makes c.requires.sources c.claim_groups.new.list c.in_ok-claim.claim c.in_ok-claim.ensures.kept

pub returns-clause-sound : goal.returns-clause-sound
returns-clause-sound c = λ changes j. sound_made c.args.self.now changes j c.args.turn c.requires.turn c.args.sources.now c.requires.makes c.requires.sources c.claim_groups.new.list c.in_ok-claim.claim c.in_ok-claim.ensures.kept

pub returns-clause-stands : goal.returns-clause-stands
returns-clause-stands c = λ changes j. stands_made c.args.self.now changes j c.args.turn c.requires.turn c.args.sources.now c.requires.makes c.requires.sources c.claim_groups.new.list c.in_ok-claim.claim c.in_ok-claim.ensures.kept
