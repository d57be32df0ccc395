use Rattle.std.proofs.Common.{◌≡◌, ◌∙◌, ℕ, length, sym, ap, subst}
use Rattle.row_group.specs.Groups.{Group, AreByKey, ArePlacesOf}
use Rattle.row_group.proofs.GroupLemmas.{each_position, places_below, places_above}
use Rattle.row_group.proofs.packed.Packed.find_near.Goals as goal

pub returns-in-Less : goal.returns-in-Less
returns-in-Less c =
    let group = c.args.self.now in
    let by_key = subst AreByKey c.self.view_is c.self.invariant.by_key in
    places_below group c.args.key (each_position group by_key) c.in-Less.ensures

pub returns-in-Greater : goal.returns-in-Greater
returns-in-Greater c =
    let group = c.args.self.now in
    let by_key = subst AreByKey c.self.view_is c.self.invariant.by_key in
    let last : length group.places ≡ c.len-end.result = sym (c.len-end.ensures ∙ ap (λ (group : Group). length group.places) c.self.view_is) in
    subst (λ (n : ℕ). ArePlacesOf group c.args.key n n) last (places_above group c.args.key (each_position group by_key) c.in-Greater.ensures)
