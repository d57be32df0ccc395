use Rattle.std.proofs.Common.{◌≡◌, List, sym, ap, subst, ◌∙◌}
use Rattle.std.specs.Prelude.{IfOk}
use Rattle.std.proofs.lemmas.Result.{IfOk-weaker}
use Rattle.cs_types.specs.declared.Schema.{Schema}
use Rattle.cs_model.specs.declared.entry.Reply.{Reply}
use Rattle.cs_model.specs.Changes.{Change}
use Rattle.cs_model.specs.Text.{IsPrintableReply}
use Rattle.group_directory.specs.declared.directory.Directory.{Directory}
use Rattle.group_directory.specs.Stands.{Stands}
use Rattle.group_log.specs.Followed.{ShowsBook}
use Rattle.group_reports.specs.Segments.{compressed, AreHeld, ArePackedParts, IsSegmentReport}
use Rattle.statement_core.specs.CoreState.{groups_of}
use Rattle.statement_core.proofs.Reports.{look_packed, look_held, look_shows, ok_when_fit}
use Rattle.statement_core.proofs.finish.look_at_segments.Goals as goal

pub segment_lines-requires-clause-packed : goal.segment_lines-requires-clause-packed
segment_lines-requires-clause-packed c =
    let old = c.args.held.now in
    let view = c.in_ok-view.view in
    let same : c.deref.result.now ≡ old.directory.schema.value = c.deref.ensures ∙ ap (λ (d : Directory). d.schema.value) c.look.ensures.rest in
    let stands = c.requires.stands in
    subst (λ (schema : Schema). ArePackedParts schema view.groups) (sym same) (look_packed old.directory view stands.0 stands.1 c.in_ok-view.ensures.look)

pub returns-clause-shows : goal.returns-clause-shows
returns-clause-shows c =
    let old = c.args.held.now in
    let view = c.in_ok-view.view in
    let same : c.deref.result.now ≡ old.directory.schema.value = c.deref.ensures ∙ ap (λ (d : Directory). d.schema.value) c.look.ensures.rest in
    IfOk-weaker c.segment_lines.result (IsSegmentReport c.deref.result.now (compressed view.groups))
    (λ (reply : Reply). (changes : List Change) → Stands old.directory changes → ShowsBook old.directory.schema.value changes (groups_of old) reply)
    (λ reply h changes j. look_shows old.directory view changes j c.in_ok-view.ensures.look reply (subst (λ (schema : Schema). IsSegmentReport schema (compressed view.groups) reply) same h)) c.segment_lines.ensures.lines

pub returns-clause-printable : goal.returns-clause-printable
returns-clause-printable c =
    let old = c.args.held.now in
    let view = c.in_ok-view.view in
    let same : c.deref.result.now ≡ old.directory.schema.value = c.deref.ensures ∙ ap (λ (d : Directory). d.schema.value) c.look.ensures.rest in
    ok_when_fit old.directory c.segment_lines.result
    (λ changes j fit. subst (λ (schema : Schema). IfOk c.segment_lines.result (IsPrintableReply schema)) same
    (c.segment_lines.ensures.printable (subst (λ (schema : Schema). AreHeld schema (compressed view.groups)) (sym same) (look_held old.directory view changes j c.in_ok-view.ensures.look fit))))
