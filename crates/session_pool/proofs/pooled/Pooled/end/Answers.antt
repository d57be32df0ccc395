use Rattle.std.proofs.Common.{None, refl, sym, ap, ◌∙◌}
use Rattle.cs_model.specs.declared.entry.Entry.TheVariants.{End}
use Rattle.cs_model.specs.Actors.{entries_of, is_begun, has_ended}
use Rattle.session_pool.proofs.Events.{event_of, entries_are}
use Rattle.session_pool.proofs.Pools.{keeps_end, grown}
use Rattle.session_pool.proofs.pooled.Pooled.end.Goals as goal

pub end-requires-clause-rests : goal.end-requires-clause-rests
end-requires-clause-rests g c =
    let p = c.self.inside in
    ap (λ log. is_begun (entries_of c.args.session log)) (sym (entries_are p.lent.items p.core.log c.args.self.now c.self.view_is)) ∙ c.requires.rests

pub end-requires-clause-going : goal.end-requires-clause-going
end-requires-clause-going g c =
    let p = c.self.inside in
    ap (λ log. has_ended (entries_of c.args.session log)) (sym (entries_are p.lent.items p.core.log c.args.self.now c.self.view_is)) ∙ c.requires.going

pub invariant_of-self : goal.invariant_of-self
invariant_of-self g c =
    let p = c.self.inside in
    let x = c.end.ensures in
    keeps_end g.J.Made.schema g.J.Made.sizes g.J.Made.sessions g.J.Made.lines p.lent.items p.core c.self.invariant c.end.new.self c.args.session c.requires.known c.args.self.now c.self.view_is c.requires.free x.claims (record { log = x.log; schema = x.schema; sizes = x.sizes; sessions = x.sessions })

pub returns : goal.returns
returns g c =
    let p = c.self.inside in record {
      events = (event_of (End c.args.session) None, grown g.J.Made.schema g.J.Made.sizes g.J.Made.sessions g.J.Made.lines p.lent.items p.core c.self.invariant c.end.new.self.log c.args.self.now (End c.args.session) c.self.view_is c.end.ensures.log, refl, refl);
    }
