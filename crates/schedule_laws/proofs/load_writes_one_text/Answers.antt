use Rattle.schedule_laws.proofs.Loads.{one_load}
use Rattle.schedule_laws.proofs.load_writes_one_text.Goals as goal

pub returns : goal.returns
returns c = λ number sessions statements sizes whole other low high rows direct x five y lines. one_load sizes rows direct number sessions statements whole other low high x five y lines
