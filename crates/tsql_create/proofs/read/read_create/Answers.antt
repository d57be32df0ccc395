use Rattle.std.proofs.Common.{List, length, subst}
use Rattle.tsql_tokens.specs.declared.token.Token.{Token}
use Rattle.tsql_grammar.specs.Words.{symbols_of}
use Rattle.tsql_grammar.specs.Places.{to_end}
use Rattle.tsql_create.specs.Setup.{create}
use Rattle.tsql_create.specs.Creates.{JudgesCreate}
use Rattle.tsql_create.proofs.CreateClauses.{ok_found, ok_only, ok_refused, ok_place, err_only, err_place}
use Rattle.tsql_create.proofs.read.read_create.Goals as goal

pub returns-in-Ok-clause-found : goal.returns-in-Ok-clause-found
returns-in-Ok-clause-found c =
    let read = subst (λ (z : List Token). JudgesCreate (length c.args.text.now) (symbols_of c.args.text.now z) c.read_tokens.result (to_end ((create c.args.text.now).reads (symbols_of c.args.text.now z)))) c.as_slice.ensures c.read_tokens.ensures in
    ok_found c.args.text.now c.in-Ok.tokens c.in-Ok.ensures.found c.read_tokens.result read

pub returns-in-Ok-clause-only : goal.returns-in-Ok-clause-only
returns-in-Ok-clause-only c =
    let read = subst (λ (z : List Token). JudgesCreate (length c.args.text.now) (symbols_of c.args.text.now z) c.read_tokens.result (to_end ((create c.args.text.now).reads (symbols_of c.args.text.now z)))) c.as_slice.ensures c.read_tokens.ensures in
    ok_only c.args.text.now c.in-Ok.tokens c.in-Ok.ensures.found c.in-Ok.ensures.only c.read_tokens.result read

pub returns-in-Ok-clause-refused : goal.returns-in-Ok-clause-refused
returns-in-Ok-clause-refused c =
    let read = subst (λ (z : List Token). JudgesCreate (length c.args.text.now) (symbols_of c.args.text.now z) c.read_tokens.result (to_end ((create c.args.text.now).reads (symbols_of c.args.text.now z)))) c.as_slice.ensures c.read_tokens.ensures in
    ok_refused c.args.text.now c.in-Ok.tokens c.in-Ok.ensures.found c.read_tokens.result read

pub returns-in-Ok-clause-place : goal.returns-in-Ok-clause-place
returns-in-Ok-clause-place c =
    let read = subst (λ (z : List Token). JudgesCreate (length c.args.text.now) (symbols_of c.args.text.now z) c.read_tokens.result (to_end ((create c.args.text.now).reads (symbols_of c.args.text.now z)))) c.as_slice.ensures c.read_tokens.ensures in
    ok_place c.args.text.now c.in-Ok.tokens c.in-Ok.ensures.found c.in-Ok.ensures.only c.in-Ok.ensures.place c.read_tokens.result read

pub returns-in-Err-clause-only : goal.returns-in-Err-clause-only
returns-in-Err-clause-only c =
    err_only c.args.text.now c.in-Err.refusal c.by_tokens.result c.by_tokens.ensures.at c.by_tokens.ensures.memory c.in-Err.ensures.only

pub returns-in-Err-clause-place : goal.returns-in-Err-clause-place
returns-in-Err-clause-place c =
    err_place c.args.text.now c.in-Err.refusal c.by_tokens.result c.by_tokens.ensures.at c.by_tokens.ensures.memory c.in-Err.ensures.only c.in-Err.ensures.place
