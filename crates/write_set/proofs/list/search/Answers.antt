use Rattle.std.proofs.Common.{◌≡◌, ◌∙◌, None, Some, slice_get, get_or, length, refl, sym, ap, rules, true≢false}
use Rattle.std.specs.Ordering.{is_lt}
use Rattle.std.proofs.lemmas.Bool.Decides.{Decides-int_eq}
use Rattle.std.proofs.lemmas.List.{get_or_default}
use Rattle.std.proofs.lemmas.List.Sorted.{IsPartitionPoint-from_clause}
use Rattle.std.proofs.lemmas.Option.{get_or_from_slice_get, slice_get_read}
use Rattle.cs_types.specs.Keys.{key_cmp}
use Rattle.write_set.specs.declared.write.Write.{Write}
use Rattle.write_set.proofs.Puts.{below_first, gap_at}
use Rattle.write_set.proofs.list.search.Goals as goal

pub returns-in_default-clause-absent : goal.returns-in_default-clause-absent
returns-in_default-clause-absent c =
    let writes = c.args.list.now in
    let key = c.args.key in
    let place = c.partition_point-place.result in
    let point = IsPartitionPoint-from_clause (λ (w : Write). is_lt (key_cmp w.key key)) writes place c.partition_point-place.ensures.partitioned (below_first writes c.requires key) (λ a r f called. search rules) in
    gap_at writes c.requires key place c.partition_point-place.ensures.bound point
    (λ d there same.
    true≢false
    (sym ((Decides-int_eq c.in-Some.write.now.key.0 key.0).1 (ap (λ (w : Write). w.key.0) (sym (get_or_from_slice_get writes place c.in-Some.write.now d (sym c.in-Some.ensures.value))) ∙ ap (λ k. k.0) same))
    ∙ sym c.if-eq.ensures))

pub returns-in_default-2-clause-absent : goal.returns-in_default-2-clause-absent
returns-in_default-2-clause-absent c =
    let writes = c.args.list.now in
    let key = c.args.key in
    let place = c.partition_point-place.result in
    let point = IsPartitionPoint-from_clause (λ (w : Write). is_lt (key_cmp w.key key)) writes place c.partition_point-place.ensures.partitioned (below_first writes c.requires key) (λ a r f called. search rules) in
    let none : None ≡ slice_get writes place = search rules in
    gap_at writes c.requires key place c.partition_point-place.ensures.bound point
    (λ d there same. no_item (none ∙ slice_get_read writes (length writes) place (get_or writes place d) refl there (get_or_default writes place d (get_or writes place d) there)))
  where
    no_item : {x : Write} → None ≡ Some x → ⊥
    no_item e = cc
