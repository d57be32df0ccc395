use Rattle.std.proofs.Common.{◌≡◌, refl, ap, ◌∙◌, Some, rules}
use Rattle.txn_table.specs.Txns.{txn_of, depth_of}
use Rattle.statement_core.specs.CoreState.{state_of}
use Rattle.statement_core.specs.Outcomes.{told}
use Rattle.statement_core.proofs.States.{implicit_ends}
use Rattle.statement_core.proofs.finish.answered.Goals as goal

pub returns-then-eq : goal.returns-then-eq
returns-then-eq c =
    let own = txn_of c.args.held.now.directory.txns c.args.session in
    let flat : depth_of own ≡ Some 0 = search rules in
    record {
      reply = c.told-answer.ensures ∙ ap (λ on. told on c.args.reply) c.is_told.ensures;
      state = λ changes. c.roll_back.ensures.state changes ∙ implicit_ends (state_of changes c.args.held.now) c.args.session own c.args.reply refl flat c.requires.bare c.in_default.not-Refused;
      still = c.roll_back.ensures.still;
    }
