use Rattle.cs_model.proofs.LikeLaw.{like_tells}
use Rattle.cs_model.proofs.laws.like_is_tested.Goals as goal

pub returns : goal.returns
returns c = like_tells
