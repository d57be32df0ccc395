use Rattle.std.proofs.Common.{subst, sym, Contains}
use Rattle.session_pool.proofs.Passes.{start_adds, start_free, start_numbers, finish_free, finish_numbers, adds_statement, has_number}
use Rattle.session_pool.proofs.session.statement.Goals as goal

pub outcome_of-pass-requires-clause-number : goal.outcome_of-pass-requires-clause-number
outcome_of-pass-requires-clause-number g c κs within =
    let mid = c.start-pass.result.0.own in
    let starts = start_adds c.args.session c.bound_of-bound.result c.args.pass.own mid c.start-pass.result.1 c.in-Ok.started c.in-Ok.is c.start-pass.ensures.own in
    has_number mid c.args.session (start_numbers c.args.session c.bound_of-bound.result c.args.pass.own mid c.in-Ok.started c.requires.numbers starts)

pub outcome_of-pass-requires-clause-free : goal.outcome_of-pass-requires-clause-free
outcome_of-pass-requires-clause-free g c κs within =
    let mid = c.start-pass.result.0.own in
    let starts = start_adds c.args.session c.bound_of-bound.result c.args.pass.own mid c.start-pass.result.1 c.in-Ok.started c.in-Ok.is c.start-pass.ensures.own in
    start_free c.args.session c.bound_of-bound.result c.args.pass.own mid c.in-Ok.started c.requires.numbers starts

pub finish-pass-requires-clause-number : goal.finish-pass-requires-clause-number
finish-pass-requires-clause-number g c =
    let mid = c.start-pass.result.0.own in
    let starts = start_adds c.args.session c.bound_of-bound.result c.args.pass.own mid c.start-pass.result.1 c.in-Ok.started c.in-Ok.is c.start-pass.ensures.own in
    subst (λ ns. Contains ns c.args.session) (sym c.outcome_of-pass.ensures.works.numbers) (has_number mid c.args.session (start_numbers c.args.session c.bound_of-bound.result c.args.pass.own mid c.in-Ok.started c.requires.numbers starts))

pub returns-clause-numbers : goal.returns-clause-numbers
returns-clause-numbers g c =
    let mid = c.start-pass.result.0.own in
    let starts = start_adds c.args.session c.bound_of-bound.result c.args.pass.own mid c.start-pass.result.1 c.in-Ok.started c.in-Ok.is c.start-pass.ensures.own in
    let works = c.outcome_of-pass.ensures.works in
    finish_numbers c.args.session c.bound_of-bound.result c.args.pass.own mid c.in-Ok.started c.requires.numbers starts c.outcome_of-pass.result.0.own c.finish-pass.result.own works.numbers works.works works.list works.are c.finish-pass.ensures.own

pub returns-clause-free : goal.returns-clause-free
returns-clause-free g c =
    let mid = c.start-pass.result.0.own in
    let starts = start_adds c.args.session c.bound_of-bound.result c.args.pass.own mid c.start-pass.result.1 c.in-Ok.started c.in-Ok.is c.start-pass.ensures.own in
    let works = c.outcome_of-pass.ensures.works in
    finish_free c.args.session c.bound_of-bound.result c.args.pass.own mid c.in-Ok.started c.requires.numbers starts c.outcome_of-pass.result.0.own c.finish-pass.result.own works.numbers works.works works.list works.are c.finish-pass.ensures.own

pub returns-clause-turns : goal.returns-clause-turns
returns-clause-turns g c =
    let mid = c.start-pass.result.0.own in
    let starts = start_adds c.args.session c.bound_of-bound.result c.args.pass.own mid c.start-pass.result.1 c.in-Ok.started c.in-Ok.is c.start-pass.ensures.own in
    let works = c.outcome_of-pass.ensures.works in
    adds_statement c.args.session c.bound_of-bound.result c.args.pass.own mid c.in-Ok.started c.requires.numbers starts c.outcome_of-pass.result.0.own c.finish-pass.result.own works.numbers works.works works.list works.are c.finish-pass.ensures.own
