use Rattle.std.proofs.Common.{◌≡◌, inl, inr, Some, IsTrue, sym, ◌∙◌, ap, subst, arith}
use Rattle.std.specs.List.{slice_get}
use Rattle.std.proofs.lemmas.Bool.{cases_lt}
use Rattle.std.proofs.lemmas.Option.{slice_get_within}
use Rattle.cs_types.specs.declared.Column.{Column}
use Rattle.cs_types.specs.declared.Value.{Value}
use Rattle.cs_types.specs.Rows.{cell_at}
use Rattle.cs_types.specs.Schemas.{may_hold}
use Rattle.segment_tests.proofs.row_group_tests.fits.Goals as goal

pub loop-i-preserved : goal.loop-i-preserved
loop-i-preserved c = λ k column l e. elim (cases_lt k c.loop-i.i) [
  | inl before ↦ c.loop-i.invariant k column before e
  | inr n ↦
      let there : c.loop-i.i ≡ k = omega arith in
      let found : Some c.at.result.now ≡ Some column = sym c.at.ensures.value ∙ ap (slice_get c.args.schema.now.columns) there ∙ e in
      let is : c.at.result.now ≡ column = cc in
      subst (λ (other : Column). IsTrue (may_hold other (cell_at c.args.row.now k))) is
      (subst (λ i. IsTrue (may_hold c.at.result.now (cell_at c.args.row.now i))) there
      (subst (λ (value : Value). IsTrue (may_hold c.at.result.now value)) c.cell.ensures (sym c.if-not-holds.ensures)))
]

pub returns : goal.returns
returns c = record {
  short = omega arith;
  held = λ i column e. let l = slice_get_within c.args.schema.now.columns i column e in c.loop-i.invariant i column (omega (arith, l)) e;
}
