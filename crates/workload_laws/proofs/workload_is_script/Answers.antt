use Rattle.std.specs.List.{range_with_len}
use Rattle.workload_laws.proofs.Workloads.{is_script, all_whole, few_bytes}
use Rattle.workload_laws.proofs.workload_is_script.Goals as goal

pub returns : goal.returns
returns c = record {
  script = λ number sessions statements low high. is_script number sessions low high statements;
  whole = λ number sessions statements. all_whole number sessions (range_with_len 0 statements);
  size = few_bytes;
}
