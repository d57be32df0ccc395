use Rattle.std.proofs.Common.{◌∷◌, [], refl, ap, map, string_bytes, rules}
use Rattle.cs_outside.proofs.arguments.after_first.Goals as goal

pub returns-in_default : goal.returns-in_default
returns-in_default g c = ([], (_, (_, refl, c.in_default.ensures.steps)), search rules)

pub returns : goal.returns
returns g c =
    let i = c.into_iter-word-iterator.ensures.into_iter_gives in
    let ran = rw i at c.loop-word.yielded_by in
    (c.in-Some._name ∷ c.loop-word.yielded, (_, (_, (_, c.in-Some.ensures.steps, ran), c.in-None.ensures.steps)), ap (map string_bytes) c.loop-word.invariant)
