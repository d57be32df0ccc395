use Rattle.std.proofs.Common.{◌≡◌, ◌<◌, length, sym, ap, ◌∙◌, arith, inl, inr}
use Rattle.std.proofs.lemmas.Bool.{cases_lt}
use Rattle.txn_table.specs.Txns.{txn_at, own_of}
use Rattle.txn_table.proofs.PlaceSet.{txn_at-within, txn_at-past}
use Rattle.txn_table.proofs.places.others_write_in.Goals as goal

pub loop-session-preserved-then-session-but : goal.loop-session-preserved-then-session-but
loop-session-preserved-then-session-but c = λ other l apart. elim (cases_lt other c.loop-session.session) [
  | inl before ↦ c.loop-session.invariant other before apart
  | inr here ↦ absurd (apart (omega arith))
]

pub loop-session-preserved : goal.loop-session-preserved
loop-session-preserved c = λ other l apart. elim (cases_lt other c.loop-session.session) [
  | inl before ↦ c.loop-session.invariant other before apart
  | inr after ↦
      let within : c.loop-session.session < length c.args.places.now = omega arith in
      let here : other ≡ c.loop-session.session = omega arith in
      let read = txn_at-within c.args.places.now c.loop-session.session c.index-places-session.result within in
      ap (λ session. own_of (txn_at c.args.places.now session)) here ∙ ap own_of (read ∙ sym c.index-places-session.is) ∙ c.writes_nothing.ensures.0 c.if-not-writes_nothing.false
]

pub returns-clause-none : goal.returns-clause-none
returns-clause-none c = λ is other apart. elim (cases_lt other (length c.args.places.now)) [
  | inl within ↦ c.loop-session.invariant other (omega arith) apart
  | inr over ↦ ap own_of (txn_at-past c.args.places.now other over)
]
