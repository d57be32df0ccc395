use Rattle.std.proofs.Common.{◌≡◌, [], ◌∷◌, ◌++◌, Some, ap, ◌∙◌}
use Rattle.history_gate.proofs.Ends.{opened}
use Rattle.history_gate.proofs.gate.Gate.new.Goals as goal

pub new-requires-2 : goal.new-requires-2
new-requires-2 g c =
    let items : c.push.new.self.items ≡ Some c.args.value ∷ [] = c.in_default-push.ensures.items ∙ ap (λ l. l ++ Some c.args.value ∷ []) c.new-slots.ensures.items in
    rw items (opened g.V.Stands.number g.V.Stands.list c.args.seats c.args.value c.requires.seats c.ranges.seats.fits c.requires.empty)
