use Rattle.std.proofs.Common.{◌∙◌, ◌+◌, take, refl, sym, subst, arith}
use Rattle.std.specs.List.{All, Contains}
use Rattle.std.proofs.lemmas.List.{take_all}
use Rattle.std.proofs.lemmas.Option.{slice_get_read}
use Rattle.cs_model.specs.Cells.{loose_at}
use Rattle.row_work.proofs.Constants.{listed_none, listed_some, Listed}
use Rattle.row_work.proofs.NamedRows.{among_either}
use Rattle.row_work.proofs.named.keys_of.Goals as goal
use Rattle.row_work.proofs.named.keys_of.Goals.{in-Some+in_ok-push, in_default}

pub loop-constant-preserved : goal.loop-constant-preserved
loop-constant-preserved c = λ schema key row table stands.
    let x = loose_at schema row schema.key in
    let constants = c.args.constants.now in
    let n = c.loop-constant.constant-index in
    let constant = c.constant-item.result in
    let there = slice_get_read constants _ n constant refl c.loop-constant-test.true c.constant-item.is in
    let own = c.key_of_constant.ensures schema key row table stands in
    let before = c.loop-constant.invariant schema key row table stands in
    elim c.match-key_of_constant.branch [
      | in-Some+in_ok-push w ↦
          subst (λ keys. All (Listed x key keys.items) (take (n + 1) constants)) (sym w.keys-is)
          (subst (λ keys. All (Listed x key keys) (take (n + 1) constants)) (sym w.in_ok-push.ensures.items)
          (listed_some x key w.in-Some.key c.loop-constant.keys.items constants n constant there (λ is. sym w.in-Some.is ∙ own is) before))
      | in_default w ↦
          subst (λ keys. All (Listed x key keys.items) (take (n + 1) constants)) (sym w.keys-is)
          (listed_none x key c.loop-constant.keys.items constants n constant there (λ is. sym w.in_default.is ∙ own is) before)
    ]

pub returns : goal.returns
returns c = λ schema table key row stands is.
    let x = loose_at schema row schema.key in
    let constants = c.args.constants.now in
    let n = c.loop-constant.constant-index in
    let keys = c.loop-constant.keys.items in
    among_either (Contains keys key) x constants
    (subst (All (Listed x key keys)) (take_all n constants (omega (arith, c.loop-constant-test.false))) (c.loop-constant.invariant schema key row table stands)) is
