use Rattle.std.proofs.Common.{refl}
use Rattle.group_log.proofs.Follow.{follows_leads, followed_on}
use Rattle.group_log.proofs.followed_goes_on.Goals as goal

pub returns : goal.returns
returns c = record {
  legal = λ origin log m book x. follows_leads origin origin.begin.state m origin.book book log x;
  new = λ schema sizes. (refl, refl);
  on = followed_on;
}
