-- A new table may begin a log.
use Rattle.std.proofs.Common.{refl, arith, ◌<◌, ◌≤◌}
use Rattle.std.proofs.lemmas.List.Elements.{All-nil}
use Rattle.cs_types.specs.declared.Schema.{Schema}
use Rattle.cs_model.specs.Changes.{Change}
use Rattle.cs_model.specs.State.{start, begin_of}
use Rattle.log_laws.specs.Laws.{IsSound, MayBegin}

pub sound_start : IsSound start
sound_start = record {
  owners = λ a b key ne h. absurd (cc h);
  drawn = λ session. tt;
  txns = All-nil (λ (change : Change). change.txn < 1);
  snapshots = λ session. tt;
  commits = All-nil (λ (change : Change). change.commit ≤ 0);
  ascend = λ i j d le lt. absurd (omega (arith, lt));
  once = λ commit key. omega arith;
  by_key = λ session. tt;
  pinned = λ session. tt;
  unchanged = λ session. tt;
  halves = λ session. tt;
}

pub may_begin : (schema : Schema) → MayBegin (begin_of schema)
may_begin schema = record { sound = sound_start; closed = λ session. refl; rests = λ session. refl; settings = λ session. refl }
