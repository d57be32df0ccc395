use Rattle.std.proofs.Common.{◌≡◌, ◌&&◌, ◌||◌, ap, ◌∙◌, arith, rules}
use Rattle.tsql_trees.specs.declared.leaf.NameTree.{NameTree}
use Rattle.cs_base.specs.Names.{same_name}
use Rattle.bind_faults.specs.Least.{earlier, least, fault_if}
use Rattle.bind_faults.proofs.Columns.{one_more_name}
use Rattle.bind_faults.proofs.column.again_fault.Goals as goal
use Rattle.bind_faults.proofs.column.again_fault.Goals.{then-seen, else-seen, then-seen-2, else-seen-2}

pub loop-one-preserved : goal.loop-one-preserved
loop-one-preserved g c =
    let name = g.T.Named.name_of c.one-item.result in
    let same : c.is_same_name-same.result ≡ same_name c.args.column.now.name name.bytes =
    c.is_same_name-same.ensures
    ∙ ap (λ z. same_name z c.as_slice-in-loop-one.result.now) c.as_slice.ensures
    ∙ ap (same_name c.args.column.now.name) (c.as_slice-in-loop-one.ensures ∙ ap (λ (n : NameTree). n.bytes) c.name-name.ensures) in
    let again : c.if-seen.fault_if ≡ (c.loop-one.seen && c.is_same_name-same.result) =
    elim c.if-seen.branch [ then-seen w ↦ search rules | else-seen w ↦ search rules ] in
    let seen : c.if-seen-2.seen ≡ (c.loop-one.seen || c.is_same_name-same.result) =
    elim c.if-seen-2.branch [ then-seen-2 w ↦ search rules | else-seen-2 w ↦ search rules ] in
    one_more_name g.T.Named.name_of c.args.column.now c.args.named.now c.loop-one.one-index c.one-item.result (omega arith) c.one-item.is c.loop-one.seen c.if-seen-2.seen c.loop-one.found c.earlier-found.result _
    (seen ∙ ap (λ z. c.loop-one.seen || z) same)
    (c.earlier-found.ensures
    ∙ ap (earlier c.loop-one.found) (c.fault_if.ensures
    ∙ ap (λ z. least (fault_if z 50001 c.name-name.result.now.place)) (again ∙ ap (λ z. c.loop-one.seen && z) same)
    ∙ ap (λ (n : NameTree). least (fault_if (c.loop-one.seen && same_name c.args.column.now.name name.bytes) 50001 n.place)) c.name-name.ensures))
    c.loop-one.invariant
