use Rattle.std.proofs.Common.{◌≡◌, ◌∙◌, ◌+◌, ◌++◌, List, take, get_or, pos, ap, sym, subst, refl}
use Rattle.std.specs.Prelude.{Option, None, Some, slice_get}
use Rattle.std.specs.Borrow.{Bor}
use Rattle.std.specs.List.{filter_map}
use Rattle.std.specs.Map.{values_of}
use Rattle.std.specs.Option.{option_and_then, option_map}
use Rattle.std.proofs.lemmas.Option.{slice_get-get_or}
use Rattle.cs_types.specs.declared.Key.{Key}
use Rattle.cs_types.specs.declared.Value.{Value}
use Rattle.batch_aggregate.specs.Standing.{StandsFor}
use Rattle.row_work.specs.declared.choose.Source.{Source}
use Rattle.row_work.specs.Named.{entry_at}
use Rattle.row_work.specs.Reads.{read_by}
use Rattle.row_work.proofs.Scanned.{more_none, more_some, read_more}
use Rattle.row_work.proofs.select.add_at_keys.Goals as goal
use Rattle.row_work.proofs.select.add_at_keys.Goals.{in-Some+in_ok-add, in_default}

-- what a slice is read with past its end
abbrev d : Key
d = record { 0 = pos 0 }

joined : {A X Y : Type 0} (f : A → X) (g : X → Y) (o : Option A) → option_map (λ a. g (f a)) o ≡ option_map g (option_map f o)
joined f g None = refl
joined f g (Some a) = refl

pub loop-key-preserved : goal.loop-key-preserved
loop-key-preserved c =
    let pinned = c.args.pinned.now in
    let f = entry_at (read_by c.args.width pinned) in
    let keys = c.args.keys.now in
    let n = c.loop-key.key-index in
    let key = get_or keys n d in
    let front = filter_map f (take n keys) in
    let last = option_and_then f (slice_get keys n) in
    let row_of_read : Source × Bor (List Value) → List Value = λ found. found.1.now in
    let under : List Value → Key × List Value = λ row. (key, row) in
    let entry : Source × Bor (List Value) → Key × List Value = λ found. (key, found.1.now) in
    let at = ap (option_and_then f) (slice_get-get_or keys n d c.loop-key-test.true) in
    let more = read_more f keys n in
    elim c.match-branch-2.branch [
      | in-Some+in_ok-add w ↦
          let made = joined row_of_read under _ ∙ ap (option_map under) c.in_ok-_source.ensures.row ∙ sym at in
          record {
            schema = ap (λ p. p.schema.now) w.partial-is ∙ w.in_ok-add.ensures.schema ∙ c.loop-key.invariant.schema;
            query = ap (λ p. p.query.now) w.partial-is ∙ w.in_ok-add.ensures.query ∙ c.loop-key.invariant.query;
            added = λ rows stands. subst (λ p. StandsFor p (rows ++ values_of (filter_map f (take (n + 1) keys)))) (sym w.partial-is)
                (subst (λ l. StandsFor w.add.new.self (rows ++ values_of l)) (sym more)
                (more_some (StandsFor c.loop-key.partial) (StandsFor w.add.new.self) front entry _ _ last made w.in-Some.is (λ front_rows before. rw w.in_ok-add.was at (w.add.ensures.added front_rows before)) rows
                (c.loop-key.invariant.added rows stands)));
          }
      | in_default w ↦
          let made = joined row_of_read under _ ∙ ap (option_map under) c.in_ok-_source.ensures.row ∙ sym at in
          record {
            schema = ap (λ p. p.schema.now) w.partial-is ∙ c.loop-key.invariant.schema;
            query = ap (λ p. p.query.now) w.partial-is ∙ c.loop-key.invariant.query;
            added = λ rows stands. subst (λ p. StandsFor p (rows ++ values_of (filter_map f (take (n + 1) keys)))) (sym w.partial-is)
                (subst (λ l. StandsFor c.loop-key.partial (rows ++ values_of l)) (sym more)
                (more_none (StandsFor c.loop-key.partial) (StandsFor c.loop-key.partial) front entry _ last made w.in_default.is (λ front_rows before. before) rows (c.loop-key.invariant.added rows stands)));
          }
    ]
