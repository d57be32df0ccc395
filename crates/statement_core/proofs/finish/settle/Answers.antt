use Rattle.std.proofs.Common.{◌≡◌, ◌∙◌, refl, ap, sym, subst}
use Rattle.cs_types.specs.declared.Schema.{Schema}
use Rattle.cs_model.specs.declared.entry.Bound.{Bound}
use Rattle.cs_model.specs.declared.entry.Bound.TheVariants as bound
use Rattle.group_log.specs.Followed.{ShowsBook}
use Rattle.statement_core.specs.declared.started.Outcome.TheVariants as outcome
use Rattle.statement_core.specs.CoreState.{groups_of, settings_of, state_of}
use Rattle.statement_core.specs.Outcomes.{told}
use Rattle.statement_core.specs.Settled.{Ends, IsDoneAt}
use Rattle.statement_core.proofs.Decided.{write_of_table}
use Rattle.statement_core.proofs.Ending.{ends_settled}
use Rattle.statement_core.proofs.Finishing.{never_short, none_of_table, needs_none_of, is_commit, left_ends, over_of, with_outcome, answered_ends, writing_of, loading_of}
use Rattle.statement_core.proofs.Leaving.{settled_never, never_left}
use Rattle.statement_core.proofs.Reorganizes.{table_other}
use Rattle.statement_core.proofs.finish.settle.Goals as goal

pub returns-in-Nothing-clause-ends : goal.returns-in-Nothing-clause-ends
returns-in-Nothing-clause-ends c = λ begin changes half d.
    let held = c.args.held.now in
    let half' = record half { bound = c.args.bound.now } in
    let d' = with_outcome begin changes held c.args.session half' c.args.outcome outcome.Nothing c.in-Nothing.is d in
    let still = c.plain.ensures.still in
    ends_settled begin.schema changes held c.plain.new.held c.args.session half' c.plain.result (still.stands changes d.stands) still.same
    (never_short half'.bound half'.short d.why (none_of_table half'.bound (needs_none_of begin changes held c.args.session half' d')))
    (λ k. subst (λ (s : Schema). ShowsBook s changes (groups_of held) c.plain.result) d.schema (c.plain.ensures.shows changes d.stands k)) (c.plain.ensures.settles begin.schema changes half)

pub returns-in-Nothing-clause-left : goal.returns-in-Nothing-clause-left
returns-in-Nothing-clause-left c = λ groups is.
    let done = c.requires.done in
    let begin = done.0 in
    let changes = done.1 in
    let held = c.args.held.now in
    let half = record done.2 { bound = c.args.bound.now } in
    let other = over_of begin changes held c.args.session half (with_outcome begin changes held c.args.session half c.args.outcome outcome.Nothing c.in-Nothing.is done.3) in
    let settles = c.plain.ensures.settles begin.schema changes done.2 in
    absurd (settled_never groups begin.schema (state_of changes held) c.args.session half c.plain.result other settles.reply is)

pub plain-requires-clause-over : goal.plain-requires-clause-over
plain-requires-clause-over c =
    let done = c.requires.done in
    let half = record done.2 { bound = c.args.bound.now } in
    over_of done.0 done.1 c.args.held.now c.args.session half (with_outcome done.0 done.1 c.args.held.now c.args.session half c.args.outcome outcome.Nothing c.in-Nothing.is done.3)

pub returns-in-Answer-clause-ends : goal.returns-in-Answer-clause-ends
returns-in-Answer-clause-ends c = λ begin changes half d.
    let held = c.args.held.now in
    let half' = record half { bound = c.args.bound.now } in
    let d' = with_outcome begin changes held c.args.session half' c.args.outcome (outcome.Answer c.in-Answer.reply) c.in-Answer.is d in
    let still = c.answered.ensures.still in
    subst (λ r. Ends begin.schema changes held c.args.session half' r c.answered.new.held) (sym c.answered.ensures.reply)
    (answered_ends begin changes held c.args.session half' c.in-Answer.reply d' c.answered.new.held (still.stands changes d.stands) still.same (c.answered.ensures.state changes))

pub returns-in-Answer-clause-given : goal.returns-in-Answer-clause-given
returns-in-Answer-clause-given c = λ given is.
    let held = c.args.held.now in
    let both : outcome.Answer c.in-Answer.reply ≡ outcome.Answer given = sym c.in-Answer.is ∙ is in
    let same : c.in-Answer.reply ≡ given = cc both in
    c.answered.ensures.reply ∙ ap (told (settings_of held.settings c.args.session)) same

pub returns-in-Writes-clause-ends : goal.returns-in-Writes-clause-ends
returns-in-Writes-clause-ends c = λ begin changes half d.
    let held = c.args.held.now in
    let half' = record half { bound = c.args.bound.now } in
    let x = c.in-Writes in
    let d' = with_outcome begin changes held c.args.session half' c.args.outcome (outcome.Writes x.writes x.present x.affected x.parcel) x.is d in
    c.wrote.ensures begin changes half' (writing_of begin changes held c.args.session half' x.writes x.present x.affected x.parcel d')

pub wrote-requires-clause-may : goal.wrote-requires-clause-may
wrote-requires-clause-may c =
    let done = c.requires.done in
    let held = c.args.held.now in
    let half = record done.2 { bound = c.args.bound.now } in
    let x = c.in-Writes in
    let d' = with_outcome done.0 done.1 held c.args.session half c.args.outcome (outcome.Writes x.writes x.present x.affected x.parcel) x.is done.3 in
    record { begin = done.0; changes = done.1; half = half; is = writing_of done.0 done.1 held c.args.session half x.writes x.present x.affected x.parcel d' }

pub returns-in-Writes-clause-left : goal.returns-in-Writes-clause-left
returns-in-Writes-clause-left c = λ groups is.
    let done = c.requires.done in
    let begin = done.0 in
    let changes = done.1 in
    let held = c.args.held.now in
    let half = record done.2 { bound = c.args.bound.now } in
    let x = c.in-Writes in
    let d' = with_outcome begin changes held c.args.session half c.args.outcome (outcome.Writes x.writes x.present x.affected x.parcel) x.is done.3 in
    let w = writing_of begin changes held c.args.session half x.writes x.present x.affected x.parcel d' in
    absurd (never_left groups begin.schema changes held c.args.session half c.wrote.result c.wrote.new.held (c.wrote.ensures begin changes half w) (table_other half.bound (write_of_table half.bound w.writes)) is)

pub returns-in-Load-clause-ends : goal.returns-in-Load-clause-ends
returns-in-Load-clause-ends c = λ begin changes half d.
    let held = c.args.held.now in
    let half' = record half { bound = c.args.bound.now } in
    let x = c.in-Load in
    let d' = with_outcome begin changes held c.args.session half' c.args.outcome (outcome.Load x.keys x.parcel) x.is d in
    c.loaded.ensures begin changes half' (loading_of begin changes held c.args.session half' x.keys x.parcel d')

pub loaded-requires-clause-may : goal.loaded-requires-clause-may
loaded-requires-clause-may c =
    let done = c.requires.done in
    let held = c.args.held.now in
    let half = record done.2 { bound = c.args.bound.now } in
    let x = c.in-Load in
    let d' = with_outcome done.0 done.1 held c.args.session half c.args.outcome (outcome.Load x.keys x.parcel) x.is done.3 in
    (done.0, done.1, half, loading_of done.0 done.1 held c.args.session half x.keys x.parcel d')

pub returns-in-Load-clause-left : goal.returns-in-Load-clause-left
returns-in-Load-clause-left c = λ groups is.
    let done = c.requires.done in
    let begin = done.0 in
    let changes = done.1 in
    let held = c.args.held.now in
    let half = record done.2 { bound = c.args.bound.now } in
    let x = c.in-Load in
    let d' = with_outcome begin changes held c.args.session half c.args.outcome (outcome.Load x.keys x.parcel) x.is done.3 in
    let load = loading_of begin changes held c.args.session half x.keys x.parcel d' in
    let w = load.is in
    absurd (never_left groups begin.schema changes held c.args.session half c.loaded.result c.loaded.new.held (c.loaded.ensures begin changes half load) (table_other half.bound (write_of_table half.bound w.writes)) is)

pub returns-in-Commit-clause-ends : goal.returns-in-Commit-clause-ends
returns-in-Commit-clause-ends c = λ begin changes half d.
    let held = c.args.held.now in
    let half' = record half { bound = c.args.bound.now } in
    let d' = with_outcome begin changes held c.args.session half' c.args.outcome (outcome.Commit c.in-Commit.parcel) c.in-Commit.is d in
    let is = is_commit begin changes held c.args.session half' c.in-Commit.parcel d' in
    subst (λ (x : Bound). Ends begin.schema changes held c.args.session (record half { bound = x }) c.unwind.result c.unwind.new.held) (sym is)
    (c.unwind.ensures begin changes half (subst (λ (x : Bound). IsDoneAt begin changes held c.args.session (record half { bound = x }) (outcome.Commit c.in-Commit.parcel)) is d'))

pub unwind-requires-clause-done : goal.unwind-requires-clause-done
unwind-requires-clause-done c =
    let done = c.requires.done in
    let held = c.args.held.now in
    let half = record done.2 { bound = c.args.bound.now } in
    let d' = with_outcome done.0 done.1 held c.args.session half c.args.outcome (outcome.Commit c.in-Commit.parcel) c.in-Commit.is done.3 in
    let commit = is_commit done.0 done.1 held c.args.session half c.in-Commit.parcel d' in
    (done.0, done.1, half, subst (λ (x : Bound). IsDoneAt done.0 done.1 held c.args.session (record half { bound = x }) (outcome.Commit c.in-Commit.parcel)) commit d')

pub returns-in-Left-clause-ends : goal.returns-in-Left-clause-ends
returns-in-Left-clause-ends c = λ begin changes half d.
    let held = c.args.held.now in
    let half' = record half { bound = c.args.bound.now } in
    let groups = c.in-Left.groups in
    let d' = with_outcome begin changes held c.args.session half' c.args.outcome (outcome.Left groups) c.in-Left.is d in
    left_ends begin changes held c.args.session half' groups d'

pub returns-in-Commit-clause-left : goal.returns-in-Commit-clause-left
returns-in-Commit-clause-left c = λ groups is.
    let done = c.requires.done in
    let begin = done.0 in
    let changes = done.1 in
    let held = c.args.held.now in
    let half = record done.2 { bound = c.args.bound.now } in
    let d' = with_outcome begin changes held c.args.session half c.args.outcome (outcome.Commit c.in-Commit.parcel) c.in-Commit.is done.3 in
    let commit = is_commit begin changes held c.args.session half c.in-Commit.parcel d' in
    absurd (never_left groups begin.schema changes held c.args.session (record half { bound = bound.Commit }) c.unwind.result c.unwind.new.held
    (c.unwind.ensures begin changes half (subst (λ (x : Bound). IsDoneAt begin changes held c.args.session (record half { bound = x }) (outcome.Commit c.in-Commit.parcel)) commit d')) refl is)
