use Rattle.std.proofs.Common.{◌≡◌, ◌≤◌, ℕ, List, [], ◌∷◌, ◌++◌, length, reverse, take, refl, sym, ap, ◌∙◌, arith}
use Rattle.std.specs.declared.alloc.Global.{Global}
use Rattle.std.specs.declared.sync.Arc.{Arc}
use Rattle.std.proofs.lemmas.List.{append-nil, take_all, drop_all}
use Rattle.delete_bitmap.specs.declared.Marks.{Marks}
use Rattle.group_view.specs.declared.groups.Group.{Group}
use Rattle.group_directory.specs.Installing.{marked_by}
use Rattle.group_directory.proofs.installs.mark_sources.Goals as goal

none_marked : (marks : List (ℕ × Arc Marks Global)) → marked_by marks [] ≡ []
none_marked [] = refl
none_marked (mark ∷ marks) = refl

pub returns : goal.returns
returns c =
    let gs = c.loop-group.groups in
    let i = c.loop-group.group-index in
    let long : length gs ≤ i = omega arith in
    sym (take_all i gs long) ∙ sym (append-nil (take i gs)) ∙ ap (λ (l : List Group). take i gs ++ l) (sym (none_marked (reverse c.loop-group.left.items)))
    ∙ ap (λ (l : List Group). take i gs ++ marked_by (reverse c.loop-group.left.items) l) (sym (drop_all i gs long)) ∙ c.loop-group.invariant
