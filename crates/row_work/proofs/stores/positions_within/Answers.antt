use Rattle.std.proofs.Common.{ℕ, ◌+◌, ◌++◌, ◌∷◌, [], ◌∙◌, IsPermutation, get_or, map, take, ap, sym, subst, arith}
use Rattle.std.proofs.lemmas.List.{take_all}
use Rattle.std.proofs.lemmas.Option.{slice_get-get_or}
use Rattle.cs_types.specs.declared.Key.{Key}
use Rattle.delta_store.specs.Index.{no_pair}
use Rattle.delta_store.specs.Places.{AreNewest}
use Rattle.group_view.specs.Parts.{stored_versions}
use Rattle.row_work.specs.Stores.{positions_of}
use Rattle.row_work.proofs.Stored.{all_between, found_more, is_read_in, next_key, none_first, none_more, pair_place}
use Rattle.row_work.proofs.stores.positions_within.Goals as goal
use Rattle.row_work.proofs.stores.positions_within.Goals.{in-Some+in_ok-push, in_default}

pub loop-key-init : goal.loop-key-init
loop-key-init c = rw c.in_ok-positions.ensures.items (none_first c.args.pinned.now (stored_versions c.args.store.now))

pub position_of-requires : goal.position_of-requires
position_of-requires c =
    let bounds = c.args.bounds in
    let newest = c.deref-key-items.result.now in
    let n = c.loop-key.key-index in
    let are = subst (AreNewest c.args.store.now bounds.least bounds.greatest) (sym c.deref-key-items.ensures.value) c.in_ok-newest.ensures in
    pair_place c.args.store.now bounds.least bounds.greatest newest are n (get_or newest n no_pair) (slice_get-get_or newest n no_pair c.loop-key-test.true)

pub loop-key-preserved : goal.loop-key-preserved
loop-key-preserved c =
    let pinned = c.args.pinned.now in
    let bounds = c.args.bounds in
    let versions = stored_versions c.args.store.now in
    let newest = c.deref-key-items.result.now in
    let n = c.loop-key.key-index in
    let are = subst (AreNewest c.args.store.now bounds.least bounds.greatest) (sym c.deref-key-items.ensures.value) c.in_ok-newest.ensures in
    let pair = get_or newest n no_pair in
    let keys = map (λ (other : Key × ℕ). other.0) (take n newest) in
    let next = next_key newest n pair are.order (slice_get-get_or newest n no_pair c.loop-key-test.true) in
    elim c.match-position_of.branch [
      | in-Some+in_ok-push w ↦
          subst (λ list. IsPermutation list.items (positions_of (is_read_in pinned (map (λ (other : Key × ℕ). other.0) (take (n + 1) newest))) versions)) (sym w.positions-is)
          (subst (λ list. IsPermutation list (positions_of (is_read_in pinned (map (λ (other : Key × ℕ). other.0) (take (n + 1) newest))) versions)) (sym w.in_ok-push.ensures.items)
          (subst (λ all. IsPermutation (c.loop-key.positions.items ++ w.in-Some.position ∷ []) (positions_of (is_read_in pinned all) versions)) (sym next.keys)
          (found_more pinned versions keys pair.0 c.requires next.fresh w.in-Some.position (rw w.in-Some.is at c.position_of.ensures.found) c.loop-key.positions.items c.loop-key.invariant)))
      | in_default w ↦
          subst (λ list. IsPermutation list.items (positions_of (is_read_in pinned (map (λ (other : Key × ℕ). other.0) (take (n + 1) newest))) versions)) (sym w.positions-is)
          (subst (λ all. IsPermutation c.loop-key.positions.items (positions_of (is_read_in pinned all) versions)) (sym next.keys)
          (subst (IsPermutation c.loop-key.positions.items) (sym (none_more pinned versions keys pair.0 (rw w.in_default.is at c.position_of.ensures.none))) c.loop-key.invariant))
    ]

pub returns : goal.returns
returns c =
    let pinned = c.args.pinned.now in
    let bounds = c.args.bounds in
    let versions = stored_versions c.args.store.now in
    let newest = c.deref-key-items.result.now in
    let n = c.loop-key.key-index in
    let are = subst (AreNewest c.args.store.now bounds.least bounds.greatest) (sym c.deref-key-items.ensures.value) c.in_ok-newest.ensures in
    let all = take_all n newest (omega (arith, c.loop-key-test.false)) in
    subst (IsPermutation c.loop-key.positions.items) (ap (λ pairs. positions_of (is_read_in pinned (map (λ (pair : Key × ℕ). pair.0) pairs)) versions) all ∙ all_between pinned c.args.store.now bounds newest are) c.loop-key.invariant
