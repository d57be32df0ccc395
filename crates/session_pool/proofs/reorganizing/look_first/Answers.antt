use Rattle.std.proofs.Common.{sym, ◌∙◌, subst, IfOk}
use Rattle.cs_model.specs.declared.work.Actor.TheVariants.{Session}
use Rattle.group_log.specs.Followed.{ground_of}
use Rattle.statement_core.specs.Reorganizes.{IsClosing}
use Rattle.session_pool.specs.Events.{entries_in}
use Rattle.session_pool.specs.Sections.{After}
use Rattle.session_pool.proofs.Course.{close_may, closed_way, marked_way, none_way}
use Rattle.session_pool.proofs.Working.{works_none}
use Rattle.session_pool.proofs.reorganizing.look_first.Goals as goal

pub returns-then-not-closes-clause-works : goal.returns-then-not-closes-clause-works
returns-then-not-closes-clause-works g c = works_none c.args.session c.args.pass c.requires.told

pub close-pass-requires-clause-may : goal.close-pass-requires-clause-may
close-pass-requires-clause-may g c = λ found is.
    close_may (ground_of g.J.Made.schema g.J.Made.sizes) c.args.session c.args.pass c.requires.number c.requires.told found is c.args.course.now c.requires.begun (sym c.closes.ensures ∙ c.if-not-closes.false)

pub returns-in_default-clause-way : goal.returns-in_default-clause-way
returns-in_default-clause-way g c =
    let seen = entries_in c.close-pass.result.0.seen in
    let ok = subst (λ r. IfOk r (λ closed. After c.args.pass (λ found. IsClosing (ground_of g.J.Made.schema g.J.Made.sizes) (entries_in found) (Session c.args.session) closed seen))) c.in-Ok.is c.close-pass.ensures.closes in
    let closing = subst (λ closed. IsClosing (ground_of g.J.Made.schema g.J.Made.sizes) (entries_in ok.0) (Session c.args.session) closed seen) c.in_default.is ok.2 in
    none_way (ground_of g.J.Made.schema g.J.Made.sizes) c.args.session c.args.pass c.requires.number c.requires.told ok.0 ok.1 c.args.course.now seen c.requires.begun closing

pub returns-clause-way : goal.returns-clause-way
returns-clause-way g c =
    let seen = entries_in c.close-pass.result.0.seen in
    let ok = subst (λ r. IfOk r (λ closed. After c.args.pass (λ found. IsClosing (ground_of g.J.Made.schema g.J.Made.sizes) (entries_in found) (Session c.args.session) closed seen))) c.in-Ok.is c.close-pass.ensures.closes in
    let closing = subst (λ closed. IsClosing (ground_of g.J.Made.schema g.J.Made.sizes) (entries_in ok.0) (Session c.args.session) closed seen) c.in-Some.is ok.2 in
    marked_way c.closed-marked.result c.closed-marked.ensures.ok
    (closed_way (ground_of g.J.Made.schema g.J.Made.sizes) c.args.session c.args.pass c.requires.number c.requires.told ok.0 ok.1 c.args.course.now c.closed-marked.new.self c.in-Some.id seen c.requires.begun closing)
