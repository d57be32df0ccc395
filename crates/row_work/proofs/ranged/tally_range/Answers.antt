use Rattle.std.proofs.Common.{◌≡◌, ◌∙◌, ◌-◌, ◌<◌, ◌&&◌, ℕ, List, false, length, get_or, take, drop, ap, refl, sym, subst, arith}
use Rattle.std.specs.List.{All}
use Rattle.std.proofs.lemmas.Bool.{eqb-true}
use Rattle.std.proofs.lemmas.Result.{IfOk-weaker}
use Rattle.cs_types.specs.declared.Schema.{Schema}
use Rattle.cs_model.specs.declared.plan.Query.{Query}
use Rattle.cs_model.specs.Queries.{keeps}
use Rattle.row_group.specs.Rows.{PackedRow}
use Rattle.code_tallies.specs.Shown.{cells_at}
use Rattle.batch_scan.specs.Hidden.{is_one_of}
use Rattle.batch_scan.specs.Reads.{read_flags}
use Rattle.row_work.specs.Bounds.{KeepsRange}
use Rattle.row_work.proofs.ShownRange.{exact_are, flags_long, keeps_in, part_within, shown_set, stands_in, stands_still}
use Rattle.row_work.proofs.ranged.tally_range.Goals as goal

-- no row is of the keys that the filter keeps
pub returns-then-is_empty-clause-tallied : goal.returns-then-is_empty-clause-tallied
returns-then-is_empty-clause-tallied c = λ answered stands yes.
    let group = c.args.packed.now in
    let from = c.places_within-places.result.from in
    let to = c.places_within-places.result.to in
    let wide = subst (λ (n : ℕ). All (λ (row : PackedRow). length row.cells ≡ n) group.rows) (omega (arith, c.width.ensures.value, c.len.ensures, c.if-width-len.false)) c.width.ensures.rows in
    let empty : length (take (to - from) (drop from group.places)) ≡ 0 = ap (λ (list : List ℕ). length (take (to - from) (drop from list))) (sym c.places.ensures.value) ∙ eqb-true (length (take (to - from) (drop from c.places.result.now))) 0 (sym c.if-is_empty.ensures) in
    stands_still c.args.schema.now c.args.query.now.filter c.args.pinned.now group c.args.marks.now c.requires.fits c.places.ensures.by_key c.in-Some.bounds from to c.places_within-places.ensures empty
    wide c.requires.rows (subst (KeepsRange c.args.schema.now c.args.query.now.filter) (sym (exact_are c.args.range.is_exact c.in-Some.bounds c.args.range.bounds c.in-Some.ensures).1) (c.requires.range.exact (exact_are c.args.range.is_exact c.in-Some.bounds c.args.range.bounds c.in-Some.ensures).0)) c.args.query.now c.args.partial.now answered c.requires.of_schema c.requires.of_query refl stands

pub among-requires-clause-shown : goal.among-requires-clause-shown
among-requires-clause-shown c =
    shown_set (read_flags c.args.pinned.now c.args.packed.now c.args.marks.now) c.in_ok-shown.shown c.len-3.result c.in_ok-shown.ensures (flags_long c.args.pinned.now c.args.packed.now c.args.marks.now c.requires.fits ∙ sym c.len-3.ensures)

pub among-requires-clause-within : goal.among-requires-clause-within
among-requires-clause-within c =
    let group = c.args.packed.now in
    let from = c.places_within-places.result.from in
    let to = c.places_within-places.result.to in
    subst (λ (list : List ℕ). All (λ p. p < c.len-3.result) (take (to - from) (drop from list))) (sym c.places.ensures.value)
    (subst (λ (n : ℕ). All (λ p. p < n) (take (to - from) (drop from group.places))) (sym c.len-3.ensures) (part_within group c.places.ensures.by_key c.in-Some.bounds from to c.places_within-places.ensures))

pub tally_group-requires : goal.tally_group-requires
tally_group-requires c =
    let group = c.args.packed.now in
    let schema = c.args.schema.now in
    let query = c.args.query.now in
    let old = c.args.partial.now in
    let pinned = c.args.pinned.now in
    let marks = c.args.marks.now in
    let from = c.places_within-places.result.from in
    let to = c.places_within-places.result.to in
    let flags = read_flags pinned group marks in
    let set = c.in_ok-set.set in
    let each = subst (λ (list : List ℕ). (p : ℕ) → p < c.len-3.result → get_or set p false ≡ (is_one_of (take (to - from) (drop from list)) p && get_or flags p false)) c.places.ensures.value
    (c.in_ok-set.ensures.each flags c.in_ok-shown.ensures (flags_long pinned group marks c.requires.fits ∙ sym c.len-3.ensures)) in
    let rows = subst (λ (n : ℕ). (p : ℕ) → p < n → get_or set p false ≡ (is_one_of (take (to - from) (drop from group.places)) p && get_or flags p false)) c.len-3.ensures each in
    let wide = subst (λ (n : ℕ). All (λ (row : PackedRow). length row.cells ≡ n) group.rows) (omega (arith, c.width.ensures.value, c.len.ensures, c.if-width-len.false)) c.width.ensures.rows in
    λ i within on.
    keeps_in schema query.filter pinned group marks c.requires.fits c.places.ensures.by_key c.in-Some.bounds from to c.places_within-places.ensures set (c.in_ok-set.ensures.length ∙ c.len-3.ensures) rows wide c.requires.rows (subst (KeepsRange c.args.schema.now c.args.query.now.filter) (sym (exact_are c.args.range.is_exact c.in-Some.bounds c.args.range.bounds c.in-Some.ensures).1) (c.requires.range.exact (exact_are c.args.range.is_exact c.in-Some.bounds c.args.range.bounds c.in-Some.ensures).0)) i within on
    ∙ sym (ap (λ (s : Schema). keeps s query.filter (cells_at group i)) c.requires.of_schema)
    ∙ sym (ap (λ (q : Query). keeps old.schema.now q.filter (cells_at group i)) c.requires.of_query)

pub returns-clause-tallied : goal.returns-clause-tallied
returns-clause-tallied c = λ answered stands.
    let group = c.args.packed.now in
    let schema = c.args.schema.now in
    let query = c.args.query.now in
    let pinned = c.args.pinned.now in
    let marks = c.args.marks.now in
    let from = c.places_within-places.result.from in
    let to = c.places_within-places.result.to in
    let flags = read_flags pinned group marks in
    let set = c.in_ok-set.set in
    let each = subst (λ (list : List ℕ). (p : ℕ) → p < c.len-3.result → get_or set p false ≡ (is_one_of (take (to - from) (drop from list)) p && get_or flags p false)) c.places.ensures.value
    (c.in_ok-set.ensures.each flags c.in_ok-shown.ensures (flags_long pinned group marks c.requires.fits ∙ sym c.len-3.ensures)) in
    let rows = subst (λ (n : ℕ). (p : ℕ) → p < n → get_or set p false ≡ (is_one_of (take (to - from) (drop from group.places)) p && get_or flags p false)) c.len-3.ensures each in
    let wide = subst (λ (n : ℕ). All (λ (row : PackedRow). length row.cells ≡ n) group.rows) (omega (arith, c.width.ensures.value, c.len.ensures, c.if-width-len.false)) c.width.ensures.rows in
    IfOk-weaker c.tally_group.result _ _
    (λ done is yes'.
    stands_in schema query.filter pinned group marks c.requires.fits c.places.ensures.by_key c.in-Some.bounds from to c.places_within-places.ensures set (c.in_ok-set.ensures.length ∙ c.len-3.ensures) rows wide c.requires.rows (subst (KeepsRange c.args.schema.now c.args.query.now.filter) (sym (exact_are c.args.range.is_exact c.in-Some.bounds c.args.range.bounds c.in-Some.ensures).1) (c.requires.range.exact (exact_are c.args.range.is_exact c.in-Some.bounds c.args.range.bounds c.in-Some.ensures).0)) query
    c.tally_group.new.partial answered (c.tally_group.ensures.schema ∙ c.requires.of_schema) (c.tally_group.ensures.query ∙ c.requires.of_query) refl (is yes'))
    (c.tally_group.ensures.tallied answered stands)
