use Rattle.tsql_binder.specs.Meaning.{bound_of}
use Rattle.script_turns.proofs.Texts.{read_found, read_only, unread_found, unread_only, ready_of}
use Rattle.script_turns.proofs.binding.bind_text.Goals as goal

pub returns-in-Ok-clause-found : goal.returns-in-Ok-clause-found
returns-in-Ok-clause-found c =
    read_found c.args.schema.now c.args.text.now c.in-Ok.statement c.meaning.result c.in-Ok.ensures.found (c.meaning.ensures (bound_of c.args.schema.now c.in-Ok.statement) c.bind.ensures.gives)

pub returns-in-Ok-clause-only : goal.returns-in-Ok-clause-only
returns-in-Ok-clause-only c =
    read_only c.args.schema.now c.args.text.now c.in-Ok.statement c.meaning.result c.in-Ok.ensures.only c.in-Ok.ensures.place (c.meaning.ensures (bound_of c.args.schema.now c.in-Ok.statement) c.bind.ensures.gives)

pub returns-in-Err-clause-found : goal.returns-in-Err-clause-found
returns-in-Err-clause-found c = unread_found c.args.schema.now c.args.text.now c.unread.result (c.unread.ensures.refused c.args.text.now c.in-Err.ensures.refused)

pub returns-in-Err-clause-only : goal.returns-in-Err-clause-only
returns-in-Err-clause-only c =
    unread_only c.args.schema.now c.args.text.now c.in-Err.refusal c.unread.result c.in-Err.ensures.only c.in-Err.ensures.place c.unread.ensures.only

pub returns-in-Ok-clause-ready : goal.returns-in-Ok-clause-ready
returns-in-Ok-clause-ready c =
    ready_of c.args.schema.now c.args.text.now c.meaning.result
    (read_found c.args.schema.now c.args.text.now c.in-Ok.statement c.meaning.result c.in-Ok.ensures.found (c.meaning.ensures (bound_of c.args.schema.now c.in-Ok.statement) c.bind.ensures.gives))

pub returns-in-Err-clause-ready : goal.returns-in-Err-clause-ready
returns-in-Err-clause-ready c = ready_of c.args.schema.now c.args.text.now c.unread.result (unread_found c.args.schema.now c.args.text.now c.unread.result (c.unread.ensures.refused c.args.text.now c.in-Err.ensures.refused))
