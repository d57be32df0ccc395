use Rattle.std.proofs.Common.{◌≡◌, ◌<◌, length, sym, ap, ◌∙◌, subst, arith, inl, inr, Option}
use Rattle.std.proofs.lemmas.Bool.{cases_lt}
use Rattle.txn_table.specs.declared.txn.Txn.{Txn}
use Rattle.txn_table.specs.Txns.{txn_at, Owns, OwnsAs}
use Rattle.txn_table.proofs.PlaceSet.{txn_at-within, txn_at-past, no_owner}
use Rattle.txn_table.proofs.places.holder_in.Goals as goal

pub loop-i-preserved-then-i-but : goal.loop-i-preserved-then-i-but
loop-i-preserved-then-i-but c = λ other l apart. elim (cases_lt other c.loop-i.i) [
  | inl before ↦ c.loop-i.invariant other before apart
  | inr here ↦ absurd (apart (omega arith))
]

pub returns-in-Some-clause-some : goal.returns-in-Some-clause-some
returns-in-Some-clause-some c =
    let within : c.loop-i.i < length c.args.places.now = omega arith in
    let read = txn_at-within c.args.places.now c.loop-i.i c.index-places-i.result within in
    (c.loop-i.i, c.if-i-but.false, subst (λ (t : Option Txn). OwnsAs t c.args.key c.in-Some.number) (c.index-places-i.is ∙ sym read) c.in-Some.ensures.some)

pub loop-i-preserved : goal.loop-i-preserved
loop-i-preserved c = λ other l apart. elim (cases_lt other c.loop-i.i) [
  | inl before ↦ c.loop-i.invariant other before apart
  | inr after ↦
      let within : c.loop-i.i < length c.args.places.now = omega arith in
      let here : other ≡ c.loop-i.i = omega arith in
      let read = txn_at-within c.args.places.now c.loop-i.i c.index-places-i.result within in
      λ owns. c.in-None.ensures.none (subst (λ (t : Option Txn). Owns t c.args.key) (ap (txn_at c.args.places.now) here ∙ read ∙ sym c.index-places-i.is) owns)
]

pub returns-clause-none : goal.returns-clause-none
returns-clause-none c = λ other apart owns. elim (cases_lt other (length c.args.places.now)) [
  | inl within ↦ c.loop-i.invariant other (omega arith) apart owns
  | inr over ↦ no_owner c.args.key (subst (λ (t : Option Txn). Owns t c.args.key) (txn_at-past c.args.places.now other over) owns)
]
