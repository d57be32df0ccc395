use Rattle.std.proofs.Common.{false, length, sym, arith, rules}
use Rattle.tsql_tokens.specs.Cutting.{cut}
use Rattle.tsql_tokens.proofs.Steps.{kept_none, kept_over, kept, kept_all}
use Rattle.tsql_tokens.proofs.lexer.cut.Goals as goal

pub returns-in_default : goal.returns-in_default
returns-in_default c =
    kept_none c.more.found c.more.at c.more.after_name c.more.open c.more.rest.now (cut (length c.args.text.now) 0 false 0 c.args.text.now)
    (search rules) (sym c.in_default.ensures.found) c.more.invariant.same

pub returns-in-Some-over_limit : goal.returns-in-Some-over_limit
returns-in-Some-over_limit c =
    kept_over c.more.found c.more.at c.more.after_name c.more.open c.more.rest.now (cut (length c.args.text.now) 0 false 0 c.args.text.now)
    c.in-Some.piece.lexeme c.in-Some.piece.bytes.now c.in-Some.piece.after.now c.in-Some-over_limit.part.now
    (search rules) (sym c.in-Some.ensures.found) (sym c.in-Some-over_limit.ensures.rest) c.more.invariant.same

pub more-preserved : goal.more-preserved
more-preserved c =
    let piece = c.in-Some.piece in
    let same = kept c.more.found c.more.at c.more.after_name c.more.open c.more.rest.now (cut (length c.args.text.now) 0 false 0 c.args.text.now)
    c.in-Some.piece.lexeme c.in-Some.piece.bytes.now c.in-Some.piece.after.now
    (search rules) (sym c.in-Some.ensures.found) (sym c.in_default-over_limit.ensures.rest) c.more.invariant.same in
    let kind = c.kind_of-kind.ensures in
    record {
      place = omega (arith, c.in-Some.ensures.size);
      parentheses = omega (arith, c.in-Some.ensures.shorter);
      same = rw (c.in_ok-add.ensures, c.is_name-after_name.ensures, c.open_after-open.ensures.value, kind) same;
    }

pub returns : goal.returns
returns c = kept_all c.more.found c.more.at c.more.after_name c.more.open c.more.rest.now (cut (length c.args.text.now) 0 false 0 c.args.text.now) (search rules) c.more.invariant.same
