use Rattle.std.proofs.Common.{◌≡◌, ℕ, List, refl, ap, ◌∙◌, inl, inr, Err}
use Rattle.cs_model.specs.Changes.{Change}
use Rattle.cs_model.specs.declared.entry.Reply.{Reply}
use Rattle.cs_model.specs.declared.entry.Reply.TheVariants.{Refused}
use Rattle.cs_model.specs.State.{State}
use Rattle.cs_model.specs.Steps.{refused}
use Rattle.group_directory.specs.declared.committing.CommitRefusal.{CommitRefusal}
use Rattle.group_directory.specs.declared.committing.CommitRefusal.TheVariants.{Full, Memory}
use Rattle.statement_core.specs.declared.core_state.CoreState.{CoreState}
use Rattle.statement_core.specs.CoreState.{state_of}
use Rattle.statement_core.specs.Settled.{refusal_of, CommitGives, IsPast, IsRefusedFor}
use Rattle.statement_core.proofs.Stills.{still_then}
use Rattle.statement_core.proofs.writes.commit_with.Goals as goal

pub returns-in-Ok : goal.returns-in-Ok
returns-in-Ok c = λ changes j. inl (record { reply = refl; leaves = c.in-Ok.ensures.ok changes j })

gives_by : (changes : List Change) (old new : CoreState) (session : ℕ) (given r : Reply) (why : CommitRefusal) → IsRefusedFor changes old session (refusal_of why) r new → (why ≡ Full → IsPast changes old session) → CommitGives changes old session given r new
gives_by changes old new session given r Full refused past = inr (inr (refused, past refl))
gives_by changes old new session given r Memory refused past = inr (inl refused)

pub returns-in-Err : goal.returns-in-Err
returns-in-Err c = λ changes j.
    let held = c.args.held.now in
    gives_by changes held c.refuse.new.held c.args.session c.args.reply c.refuse.result c.in-Err.refusal (record {
      reply = c.refuse.ensures.reply ∙ ap Refused c.refusal_of.ensures;
      state = c.refuse.ensures.state changes ∙ ap (λ (x : State). refused x c.args.session c.refusal_of.result) (c.in-Err.ensures.err changes) ∙ ap (refused (state_of changes held) c.args.session) c.refusal_of.ensures;
      still = still_then held c.commit.new.held c.refuse.new.held c.in-Err.ensures.still c.refuse.ensures.still;
    }) (λ full. let p = c.commit.ensures.full changes j (c.in-Err.is ∙ ap (λ (x : CommitRefusal). Err x) full) in record { some = p.0; past = p.1 })
