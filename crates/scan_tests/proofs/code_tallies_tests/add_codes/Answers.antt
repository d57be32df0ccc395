use Rattle.std.proofs.Common.{◌∙◌, ap, sym, false, get_or, Bool, List, []}
use Rattle.std.specs.Prelude.{Option, Some}
use Rattle.std.proofs.lemmas.List.{get_or-map}
use Rattle.cs_types.specs.declared.Schema.{Schema}
use Rattle.cs_model.specs.declared.plan.Query.{Query}
use Rattle.cs_model.specs.declared.pred.Pred.{Pred}
use Rattle.cs_model.specs.Queries.{keeps}
use Rattle.row_group.specs.Rows.{PackedRow}
use Rattle.code_tallies.specs.Shown.{cells_at}
use Rattle.scan_tests.proofs.code_tallies_tests.add_codes.Goals as goal

pub tally_group-requires-in-Some : goal.tally_group-requires-in-Some
tally_group-requires-in-Some c = λ i within shown.
    let schema = c.args.schema.now in
    let cells = cells_at c.args.packed.now i in
    let filter = c.args.partial.now.query.now.filter in
    let kept = λ (row : PackedRow). keeps schema (Some c.in-Some.pred) row.cells in
    ap (λ (l : List Bool). get_or l i false) c.in_ok-sieve-in-Some.ensures
    ∙ get_or-map kept c.args.packed.now.rows i (record { cells = []; begin = 0 }) false within
    ∙ ap (λ (f : Option Pred). keeps schema f cells) (sym (ap (λ (q : Query). q.filter) c.requires.query ∙ c.in-Some.is))
    ∙ ap (λ (s : Schema). keeps s filter cells) (sym c.requires.schema)
