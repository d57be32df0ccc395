use Rattle.group_book.proofs.Ledger.{adds_up}
use Rattle.group_log.proofs.Keeping.{changes_of}
use Rattle.group_log.proofs.Since.{sound_now, since_reaches, since_log}
use Rattle.group_log.proofs.followed_counts_add_up.Goals as goal

pub returns : goal.returns
returns c = λ origin log m book g x.
    let since = since_log origin log m book g x in
    let sound = sound_now origin.begin origin.sizes.group_rows m book since in
    adds_up origin.sizes.group_rows book m.changes m.clock since.floor (changes_of m sound) (since_reaches origin.begin origin.sizes.group_rows m book since) since.stands
