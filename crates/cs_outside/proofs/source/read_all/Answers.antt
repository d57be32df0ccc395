use Rattle.std.proofs.Common.{ℕ, ◌++◌, ◌<◌, ◌≤◌, length, take, refl, arith, length-append}
use Rattle.std.proofs.lemmas.Grind.{common_steps}
use Rattle.cs_outside.proofs.Known.{takes_append}
use Rattle.cs_outside.proofs.source.read_all.Goals as goal

pub returns-then-n-limit-clause-came : goal.returns-then-n-limit-clause-came
returns-then-n-limit-clause-came g c =
    let more = take c.in-Ok.n c.read.new.buf in
    let long : c.args.limit < length (c.loop-bytes.bytes.items ++ more) =
    grind (arith, common_steps, length-append {A = ℕ}, c.in-Ok.ensures.bound.1) in
    (c.loop-bytes.bytes.items ++ more, takes_append _ _ _ _ _ c.loop-bytes.invariant.came c.in-Ok.ensures.ok, (λ e. long, λ l. refl))

pub returns-then-is_err-clause-came : goal.returns-then-is_err-clause-came
returns-then-is_err-clause-came g c =
    let more = take c.in-Ok.n c.read.new.buf in
    let short : length (c.loop-bytes.bytes.items ++ more) ≤ c.args.limit =
    grind (arith, common_steps, length-append {A = ℕ}, c.in-Ok.ensures.bound.1) in
    (c.loop-bytes.bytes.items ++ more, takes_append _ _ _ _ _ c.loop-bytes.invariant.came c.in-Ok.ensures.ok, (λ e. absurd (cc), λ l. absurd (omega (arith, short, l))))
