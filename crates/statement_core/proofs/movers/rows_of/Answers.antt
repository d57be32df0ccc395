use Rattle.std.proofs.Common.{◌≡◌, length, ap, subst, ◌∙◌, rules, Option, None, Some}
use Rattle.row_group.specs.declared.packed.Packed.{Packed}
use Rattle.group_directory.specs.Committing.{NewGroup}
use Rattle.group_view.specs.Claims.{IsMadeOf}
use Rattle.statement_core.proofs.Turns.{rows_made, rows_none}
use Rattle.statement_core.proofs.movers.rows_of.Goals as goal

pub returns-in-Group-Some-default : goal.returns-in-Group-Some-default
returns-in-Group-Some-default c = λ held makes is.
    let arm = c.in-Group-Some-default in
    let given = rw arm.is at is in
    let same : arm.group ≡ Some (arm.packed, arm.group-0-1) = search rules in
    c.len.ensures ∙ ap (λ (p : Packed). length p.rows) c.deref.ensures ∙ rows_made held arm.packed arm.group-0-1 (subst (λ (o : Option NewGroup). IsMadeOf held.1 o) same given.1)

pub returns-in-Group-None-default : goal.returns-in-Group-None-default
returns-in-Group-None-default c = λ held makes is.
    let arm = c.in-Group-None-default in
    let given = rw arm.is at is in
    let same : arm.group ≡ None = search rules in
    rows_none held (subst (λ (o : Option NewGroup). IsMadeOf held.1 o) same given.1)
