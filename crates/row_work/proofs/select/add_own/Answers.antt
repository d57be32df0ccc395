use Rattle.std.proofs.Common.{◌∙◌, ◌+◌, ◌++◌, List, take, ap, sym, subst}
use Rattle.std.specs.Prelude.{slice_get}
use Rattle.std.specs.List.{filter_map}
use Rattle.std.specs.Map.{values_of}
use Rattle.std.specs.Option.{option_and_then}
use Rattle.cs_types.specs.declared.Key.{Key}
use Rattle.cs_types.specs.declared.Value.{Value}
use Rattle.batch_aggregate.specs.Standing.{StandsFor}
use Rattle.row_work.specs.Reads.{own_row}
use Rattle.row_work.proofs.Scanned.{more_none, more_some, read_more}
use Rattle.row_work.proofs.select.add_own.Goals as goal
use Rattle.row_work.proofs.select.add_own.Goals.{in-Some+in_ok-add, in_default}

pub loop-i-preserved : goal.loop-i-preserved
loop-i-preserved c =
    let own = c.args.own.now in
    let n = c.loop-i.i in
    let write = c.get-write.result.now in
    let front = filter_map own_row (take n own) in
    let last = option_and_then own_row (slice_get own n) in
    let entry : List Value → Key × List Value = λ row. (write.key, row) in
    let made = sym (ap (option_and_then own_row) c.get-write.ensures) in
    let more = read_more own_row own n in
    elim c.match-write.branch [
      | in-Some+in_ok-add w ↦ record {
        schema = ap (λ p. p.schema.now) w.partial-is ∙ w.in_ok-add.ensures.schema ∙ c.loop-i.invariant.schema;
        query = ap (λ p. p.query.now) w.partial-is ∙ w.in_ok-add.ensures.query ∙ c.loop-i.invariant.query;
        added = λ rows stands. subst (λ p. StandsFor p (rows ++ values_of (filter_map own_row (take (n + 1) own)))) (sym w.partial-is)
            (subst (λ l. StandsFor w.add.new.self (rows ++ values_of l)) (sym more)
            (more_some (StandsFor c.loop-i.partial) (StandsFor w.add.new.self) front entry write.row _ last made w.in-Some.is (λ front_rows before. rw w.in_ok-add.was at (w.add.ensures.added front_rows before)) rows
            (c.loop-i.invariant.added rows stands)));
      }
      | in_default w ↦ record {
        schema = ap (λ p. p.schema.now) w.partial-is ∙ c.loop-i.invariant.schema;
        query = ap (λ p. p.query.now) w.partial-is ∙ c.loop-i.invariant.query;
        added = λ rows stands. subst (λ p. StandsFor p (rows ++ values_of (filter_map own_row (take (n + 1) own)))) (sym w.partial-is)
            (subst (λ l. StandsFor c.loop-i.partial (rows ++ values_of l)) (sym more)
            (more_none (StandsFor c.loop-i.partial) (StandsFor c.loop-i.partial) front entry write.row last made w.in_default.is (λ front_rows before. before) rows (c.loop-i.invariant.added rows stands)));
      }
    ]
