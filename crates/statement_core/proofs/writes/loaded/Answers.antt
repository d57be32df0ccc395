use Rattle.std.proofs.Common.{◌≡◌, [], length, refl, sym, ap, subst, ◌∙◌, arith, rules, None, Some, Err}
use Rattle.cs_model.specs.declared.entry.Reply.TheVariants.{Affected, Refused}
use Rattle.cs_model.specs.State.{State}
use Rattle.cs_model.specs.Steps.{refused}
use Rattle.group_directory.specs.declared.committing.CommitRefusal.{CommitRefusal}
use Rattle.statement_core.specs.CoreState.{state_of}
use Rattle.statement_core.proofs.Ending.{ends_refused}
use Rattle.statement_core.proofs.Stills.{still_then}
use Rattle.statement_core.proofs.Written.{Rising, keys_up, snap, taken, judged_as, refused_reply, opened, loads_bare, commit_of, ends_loaded, ends_unloaded}
use Rattle.statement_core.proofs.writes.loaded.Goals as goal

pub obstacle-requires-clause-snapshot : goal.obstacle-requires-clause-snapshot
obstacle-requires-clause-snapshot c =
    let y = c.requires.may in
    let load = y.3 in
    taken y.0 y.1 c.args.held.now c.args.session y.2 load.list [] (length c.args.keys.items) (Some c.args.parcel) load.is

pub obstacle-requires-clause-keys : goal.obstacle-requires-clause-keys
obstacle-requires-clause-keys c =
    let y = c.requires.may in
    let load = y.3 in
    let are = load.are in
    subst Rising (sym (c.deref.ensures.value ∙ are.keys)) (keys_up y.0 y.1 c.args.held.now c.args.session y.2 load.list [] (length c.args.keys.items) (Some c.args.parcel) load.is)

pub returns-in-Some : goal.returns-in-Some
returns-in-Some c = λ begin changes half load.
    let held = c.args.held.now in
    let s = c.args.session in
    let keys = c.args.keys.items in
    let n = length c.args.keys.items in
    let p = Some c.args.parcel in
    let are = load.are in
    let w = load.is in
    let judged = judged_as begin changes held s half load.list [] n p w c.deref.result.now [] c.obstacle.result (Some c.in-Some.refusal) (c.deref.ensures.value ∙ are.keys) refl c.in-Some.is
    (c.obstacle.ensures (state_of changes held) w.begun.snapshot w.stands refl (snap begin changes held s half load.list [] n p w)) in
    let still = c.refuse.ensures.still in
    ends_refused begin.schema changes held c.refuse.new.held s half c.refuse.result c.in-Some.refusal (still.stands changes w.stands) still.same w.found c.refuse.ensures.reply
    (refused_reply begin changes held s half load.list [] n p w c.in-Some.refusal judged) (c.refuse.ensures.state changes)

pub load-requires-clause-open : goal.load-requires-clause-open
load-requires-clause-open c =
    let y = c.requires.may in
    let load = y.3 in
    opened y.0 y.1 c.args.held.now c.args.session y.2 load.list [] (length c.args.keys.items) (Some c.args.parcel) load.is

pub load-requires-clause-bare : goal.load-requires-clause-bare
load-requires-clause-bare c =
    let y = c.requires.may in
    let load = y.3 in
    let held = c.args.held.now in
    let s = c.args.session in
    let n = length c.args.keys.items in
    let p = Some c.args.parcel in
    let are = load.are in
    let w = load.is in
    let none : c.obstacle.result ≡ None = search rules in
    let clear = judged_as y.0 y.1 held s y.2 load.list [] n p w c.deref.result.now [] c.obstacle.result None (c.deref.ensures.value ∙ are.keys) refl none
    (c.obstacle.ensures (state_of y.1 held) w.begun.snapshot w.stands refl (snap y.0 y.1 held s y.2 load.list [] n p w)) in
    loads_bare y.0 y.1 held s y.2 load.list [] n p w clear c.args.parcel refl

pub load-requires-clause-given : goal.load-requires-clause-given
load-requires-clause-given c =
    let y = c.requires.may in
    let load = y.3 in
    let held = c.args.held.now in
    let s = c.args.session in
    let n = length c.args.keys.items in
    let p = Some c.args.parcel in
    let are = load.are in
    let w = load.is in
    let none : c.obstacle.result ≡ None = search rules in
    let clear = judged_as y.0 y.1 held s y.2 load.list [] n p w c.deref.result.now [] c.obstacle.result None (c.deref.ensures.value ∙ are.keys) refl none
    (c.obstacle.ensures (state_of y.1 held) w.begun.snapshot w.stands refl (snap y.0 y.1 held s y.2 load.list [] n p w)) in
    (y.1, load.list, w.stands, commit_of y.0 y.1 held s y.2 load.list [] n p w clear c.deref-2.result.now (record { keys = c.deref-2.ensures.value ∙ are.keys; fresh = are.fresh }) c.args.parcel refl)

pub returns-in-Ok : goal.returns-in-Ok
returns-in-Ok c = λ begin changes half load.
    let held = c.args.held.now in
    let s = c.args.session in
    let n = length c.args.keys.items in
    let p = Some c.args.parcel in
    let are = load.are in
    let w = load.is in
    let none : c.obstacle.result ≡ None = search rules in
    let clear = judged_as begin changes held s half load.list [] n p w c.deref.result.now [] c.obstacle.result None (c.deref.ensures.value ∙ are.keys) refl none
    (c.obstacle.ensures (state_of changes held) w.begun.snapshot w.stands refl (snap begin changes held s half load.list [] n p w)) in
    let count : c.len.result ≡ n = omega (arith, c.len.ensures, c.args.keys.ok.0) in
    ends_loaded begin changes held s half load.list [] n p w clear c.deref-2.result.now (record { keys = c.deref-2.ensures.value ∙ are.keys; fresh = are.fresh }) c.args.parcel refl c.load.new.held (Affected c.len.result) (ap Affected count)
    (λ txn has. c.in-Ok.ensures.ok changes load.list txn w.stands (commit_of begin changes held s half load.list [] n p w clear c.deref-2.result.now (record { keys = c.deref-2.ensures.value ∙ are.keys; fresh = are.fresh }) c.args.parcel refl) has)

pub returns : goal.returns
returns c = λ begin changes half load.
    let held = c.args.held.now in
    let s = c.args.session in
    let n = length c.args.keys.items in
    let p = Some c.args.parcel in
    let are = load.are in
    let w = load.is in
    let none : c.obstacle.result ≡ None = search rules in
    let clear = judged_as begin changes held s half load.list [] n p w c.deref.result.now [] c.obstacle.result None (c.deref.ensures.value ∙ are.keys) refl none
    (c.obstacle.ensures (state_of changes held) w.begun.snapshot w.stands refl (snap begin changes held s half load.list [] n p w)) in
    let still = still_then held c.load.new.held c.refuse-in-Err.new.held c.in-Err.ensures.still c.refuse-in-Err.ensures.still in
    ends_unloaded begin changes held s half load.list [] n p w clear c.deref-2.result.now (record { keys = c.deref-2.ensures.value ∙ are.keys; fresh = are.fresh }) c.args.parcel refl c.refuse-in-Err.new.held c.refuse-in-Err.result c.in-Err.refusal (still.stands changes w.stands) still.same
    (c.refuse-in-Err.ensures.reply ∙ ap Refused c.refusal_of.ensures)
    (c.refuse-in-Err.ensures.state changes ∙ ap (λ (x : State). refused x s c.refusal_of.result) (c.in-Err.ensures.err changes) ∙ ap (refused (state_of changes held) s) c.refusal_of.ensures)
    (λ full. c.load.ensures.full changes load.list w.stands (commit_of begin changes held s half load.list [] n p w clear c.deref-2.result.now (record { keys = c.deref-2.ensures.value ∙ are.keys; fresh = are.fresh }) c.args.parcel refl) (c.in-Err.is ∙ ap (λ (x : CommitRefusal). Err x) full))
