use Rattle.std.proofs.Common.{◌<◌, ◌≤◌, ◌∙◌, ◌++◌, ◌∷◌, [], length, map, not, ap, arith}
use Rattle.std.specs.List.{filter}
use Rattle.std.proofs.lemmas.List.{take_all}
use Rattle.cs_types.specs.declared.row.Version.{Version}
use Rattle.row_group.specs.Rows.{ended_by, row_of}
use Rattle.row_group.specs.Packings.{Packing}
use Rattle.row_group.proofs.PackerLemmas.{kept-more}
use Rattle.row_group.proofs.packer.kept.Goals as goal

pub loop-version-preserved : goal.loop-version-preserved
loop-version-preserved c =
    let items = c.as_slice-version-items.result.now in
    let old = c.loop-version.packer in
    let v = c.version-item.result in
    let place = c.loop-version.version-index in
    let test = λ (v : Version). not (ended_by c.args.floor v.end) in
    let there : place < length items = omega arith in
    record {
      width = ap (λ (p : Packing). p.width) c.in_ok-keep.ensures ∙ c.loop-version.invariant.width;
      rows = ap (λ (p : Packing). p.rows) c.in_ok-keep.ensures
          ∙ ap (λ width. old.rows ++ map (row_of width) (filter test (v ∷ []))) c.loop-version.invariant.width
          ∙ ap (λ (x : Version). old.rows ++ map (row_of c.args.width) (filter test (x ∷ []))) c.version-item.is
          ∙ kept-more c.args.width c.args.floor items place v old.rows there c.loop-version.invariant.rows;
    }

pub returns : goal.returns
returns c =
    let items = c.as_slice-version-items.result.now in
    let test = λ (v : Version). not (ended_by c.args.floor v.end) in
    let all : length items ≤ c.loop-version.version-index = omega arith in
    let rows = c.loop-version.invariant.rows
    ∙ ap (λ vs. map (row_of c.args.width) (filter test vs)) (take_all c.loop-version.version-index items all ∙ c.as_slice-version-items.ensures) in
    (λ i. record { width = c.loop-version.invariant.width i; rows = rows i })
