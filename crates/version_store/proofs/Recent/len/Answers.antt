use Rattle.std.proofs.Common.{◌≡◌, ◌+◌, ◌≤◌, ap, subst, ◌++◌, length, length-append, arith}
use Rattle.std.specs.FinMap as map
use Rattle.version_store.specs.Newest.{Newest}
use Rattle.version_store.specs.Loads.{newest_first}
use Rattle.version_store.proofs.Laid.{len_at_most}
use Rattle.version_store.proofs.Recent.len.Goals as goal

pub returns-clause-held : goal.returns-clause-held
returns-clause-held c =
    let held : length c.self.inside.changes.entries + length (newest_first c.self.inside.runs.loads) ≡ c.args.self.now.held = ap (λ (n : Newest). n.held) c.self.view_is in
    omega (arith, held, c.len.ensures.len, c.len-2.ensures.keys)

pub returns-clause-keys : goal.returns-clause-keys
returns-clause-keys c =
    let most = len_at_most (c.self.inside.changes.entries ++ newest_first c.self.inside.runs.loads) in
    let sum = length-append c.self.inside.changes.entries (newest_first c.self.inside.runs.loads) in
    subst (λ (n : Newest). map.len n.changes ≤ c.len.result + c.len-2.result) c.self.view_is (omega (arith, most, sum, c.len.ensures.len, c.len-2.ensures.keys))
