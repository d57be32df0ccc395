use Rattle.std.proofs.Common.{◌≡◌, take, count_by}
use Rattle.cs_model.specs.Actors.{is_end}
use Rattle.log_summary.specs.Summary.{is_ok, is_refused, is_short_event}
use Rattle.log_summary.proofs.counts.Counts.of.Given as goal

abbrev pub invariant-loop-entry : goal.invariant-loop-entry
invariant-loop-entry l = record {
  ok : l.counts.ok ≡ count_by is_ok (take l.entry-index l.log);
  refused : l.counts.refused ≡ count_by is_refused (take l.entry-index l.log);
  ends : l.counts.ends ≡ count_by is_end (take l.entry-index l.log);
  short : l.counts.short ≡ count_by is_short_event (take l.entry-index l.log);
}
