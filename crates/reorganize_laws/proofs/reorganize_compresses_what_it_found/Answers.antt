use Rattle.reorganize_laws.proofs.Law.{compresses, leaves_so}
use Rattle.reorganize_laws.proofs.reorganize_compresses_what_it_found.Goals as goal

pub returns-clause-told : goal.returns-clause-told
returns-clause-told c = leaves_so

pub returns-clause-compresses : goal.returns-clause-compresses
returns-clause-compresses c = λ origin before rest session left m book leaving g x r. compresses origin g before rest session left m book leaving x r
