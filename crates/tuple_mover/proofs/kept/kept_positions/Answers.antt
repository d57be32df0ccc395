use Rattle.std.proofs.Common.{◌∙◌, ◌<◌, ◌≤◌, ◌+◌, List, take, true, false, length, sym, ap, subst, arith}
use Rattle.std.proofs.lemmas.List.{take_all}
use Rattle.group_book.specs.Book.{Version}
use Rattle.group_view.specs.Parts.{Rowed, end_of_mark, packed_versions}
use Rattle.group_view.specs.Views.{endings_of}
use Rattle.group_view.proofs.Versions.{length-packed_versions, packed_is}
use Rattle.tuple_mover.specs.Kept.{kept_of, StandIn}
use Rattle.tuple_mover.proofs.KeptLemmas.{kept-there, stand-more, stand-out}
use Rattle.tuple_mover.proofs.kept.kept_positions.Goals as goal
use Rattle.tuple_mover.proofs.kept.kept_positions.Goals.{then-not-is_left_out+in_ok-push, else-not-is_left_out}

pub loop-position-preserved : goal.loop-position-preserved
loop-position-preserved c =
    let group = c.args.packed.now in
    let marks = c.args.marks.now in
    let versions = packed_versions group.key group.rows marks in
    let buffer = endings_of c.args.buffer.now in
    let i = c.loop-position.position in
    let there : i < length versions = omega (arith, length-packed_versions group.key group.rows marks c.requires, c.len-position-end.ensures) in
    let version : Version = record { key = c.key_at-key.result; begin = c.begin-begin.result; end = end_of_mark c.end.result } in
    let is = packed_is group marks i there c.key_at-key.result c.begin-begin.result c.end.result c.key_at-key.ensures c.begin-begin.ensures c.end.ensures in
    elim c.if-not-is_left_out.branch [
      | then-not-is_left_out+in_ok-push w ↦
          let one = kept-there c.args.floor buffer versions i version is false w.if-not-is_left_out.ensures in
          subst (StandIn versions (kept_of c.args.floor buffer (take (i + 1) versions))) (sym (ap (λ positions. positions.items) w.positions-is ∙ w.in_ok-push.ensures.items))
          (stand-more c.args.floor buffer versions i there c.loop-position.positions.items c.loop-position.invariant one)
      | else-not-is_left_out w ↦
          let none = kept-there c.args.floor buffer versions i version is true w.if-not-is_left_out.ensures in
          subst (StandIn versions (kept_of c.args.floor buffer (take (i + 1) versions))) (sym (ap (λ positions. positions.items) w.positions-is))
          (stand-out c.args.floor buffer versions i there c.loop-position.positions.items c.loop-position.invariant none)
    ]

pub returns : goal.returns
returns c =
    let group = c.args.packed.now in
    let versions = packed_versions group.key group.rows c.args.marks.now in
    let all : length versions ≤ c.loop-position.position = omega (arith, length-packed_versions group.key group.rows c.args.marks.now c.requires, c.len-position-end.ensures) in
    subst (λ (some : List Rowed). StandIn versions (kept_of c.args.floor (endings_of c.args.buffer.now) some) c.loop-position.positions.items) (take_all c.loop-position.position versions all) c.loop-position.invariant
