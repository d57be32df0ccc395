-- What of a pool may cross threads, a type at a time: one search through all of a core runs out of steps.
use mathlib.Core.List.{List, [], ◌∷◌}
use Prim.Native.Nat.{ℕ}
use mir.Syntax.{Ty}
use denote.Exit.{no}
use denote.Param.{param, arg}
use denote.Struct.Declared.{shape}
use denote.Struct.Tuple.{TupleAt, type_at, field_at}
use denote.Struct.Field.{u32-field, bool-field}
use denote.RattleType.{RattleType}
use denote.Ref.{NamedLft}
use denote.Param.Send.{IsSend, IsSync, param_send, arg_send, recorded_send, struct_send, sendable}
use Rattle.std.proofs.Crossing.{crosses}
use Rattle.cs_model.proofs.expr.Expr.TheLaws.TheKnot as expr
use Rattle.cs_model.proofs.pred.Pred.TheLaws.TheKnot as pred
use Rattle.cs_model.specs.contracts.entry.Bound as Bound
use Rattle.cs_model.specs.contracts.entry.Entry as Entry
use Rattle.group_directory.proofs.directory.Directory.TheSendSync as directory
use Rattle.statement_core.proofs.seats.Seats.TheSendSync as seats
use Rattle.statement_core.proofs.started.Terms.TheSendSync as terms
use Rattle.statement_core.specs.contracts.core_state.HalfDone as HalfDone
use Rattle.statement_core.specs.contracts.core_state.CoreState as CoreState
use Rattle.statement_core.specs.contracts.core_calls.Core as Core
use Rattle.history_gate.specs.declared.stands.Stands as Stands
use Rattle.history_gate.specs.contracts.gate.Gate as Gate
use Rattle.history_gate.specs.contracts.pass.Pass as Pass
use Rattle.history_gate.proofs.gate.Gate.TheSendSync as gate
use Rattle.history_gate.proofs.pass.Pass.TheSendSync as pass
use Rattle.session_pool.specs.declared.pooled.Made as Made
use Rattle.session_pool.specs.contracts.pooled.Pooled as Pooled
use Rattle.session_pool.specs.contracts.event.Event as Event
use Rattle.session_pool.specs.contracts.threads.Shared as Shared
use Rattle.session_pool.proofs.signals.Signals.TheSendSync as signals
use Rattle.script_reader.proofs.script.Script.TheSendSync as script
use Rattle.session_pool.specs.Events.{number_in}

pub bound_send : IsSend Bound.the_row
bound_send = search (crosses, expr.crosses, pred.crosses, sendable) depth 60 fits 20000

pub bound_sync : IsSync Bound.the_row
bound_sync = search (crosses, expr.crosses, pred.crosses, sendable) depth 60 fits 20000

pub bound_field_send : IsSend (Bound.the_field).row
bound_field_send = search (crosses, expr.crosses, pred.crosses, sendable) depth 60 fits 20000

pub bound_field_sync : IsSync (Bound.the_field).row
bound_field_sync = search (crosses, expr.crosses, pred.crosses, sendable) depth 60 fits 20000

ruleset bounds = (bound_send, bound_sync, bound_field_send, bound_field_sync)

pub entry_send : IsSend Entry.the_row
entry_send = search (bounds, crosses, sendable) depth 60 fits 20000

pub half_send : IsSend HalfDone.the_row
half_send = search (bounds, crosses, sendable) depth 60 fits 20000

pub state_send : IsSend (CoreState.the_field).row
state_send = search (directory.the_field_send, seats.the_send, half_send, sendable) depth 60 fits 20000

pub core_send : IsSend Core.the_row
core_send = search (entry_send, terms.the_send, terms.the_sync, state_send, crosses, sendable) depth 60 fits 20000

pub pooled_send : (J : RattleType) (m : Made.Ghosts J.Denot) → IsSend J → IsSend (Pooled.the_row J m)
pooled_send J m s = search (core_send, crosses, sendable) depth 60

-- ---- what a thread takes, and what it gives back

module _ (J : RattleType) (m : Made.Ghosts J.Denot) where
  -- what the gate's value stands for
  abbrev stands : Stands.Ghosts (Pooled.the_row J m).Denot (Event.the_row).Denot
  stands = record { list = λ p. p; number = λ e. number_in e }

  pub gate_sync : IsSend J → IsSync (Gate.the_row (Pooled.the_row J m) Event.the_row stands)
  gate_sync j = gate.the_sync (Pooled.the_row J m) Event.the_row stands (pooled_send J m j)

  pub pass_send : IsSend J → IsSend (Pass.the_row (Pooled.the_row J m) Event.the_row stands)
  pass_send j = pass.the_send (Pooled.the_row J m) Event.the_row stands (pooled_send J m j)

  pub shared_sync : (l : NamedLft) (D : RattleType) → IsSend J → IsSync D → IsSync (Shared.the_row l J D m)
  shared_sync l D j d = search (gate_sync, signals.the_sync, script.the_sync, sendable) depth 60

pub u32_send : IsSend (u32-field).row
u32_send = search sendable

pub bool_send : IsSend (bool-field).row
bool_send = search sendable

-- a closure over four things, as an argument
pub closure_of_four : (i : ℕ) (δ : Ty) (ν : List ℕ) (A B C D : RattleType) → IsSend A → IsSend B → IsSend C → IsSend D → IsSend (param i (arg δ no (TupleAt ν (A ∷ B ∷ C ∷ D ∷ []))))
closure_of_four i δ ν A B C D a b c d =
    let Ts : List RattleType = A ∷ B ∷ C ∷ D ∷ [] in
    param_send i (arg δ no (TupleAt ν Ts)) (arg_send δ no (TupleAt ν Ts) (recorded_send (field_at ν Ts).row _ _ (type_at ν Ts).to_one (struct_send (shape (type_at ν Ts)) (a, (b, (c, (d, tt)))))))

-- a pair, as a result
pub pair_of : (i : ℕ) (δ : Ty) (ν : List ℕ) (A B : RattleType) → IsSend A → IsSend B → IsSend (param i (arg δ no (TupleAt ν (A ∷ B ∷ []))))
pair_of i δ ν A B a b =
    let Ts : List RattleType = A ∷ B ∷ [] in
    param_send i (arg δ no (TupleAt ν Ts)) (arg_send δ no (TupleAt ν Ts) (recorded_send (field_at ν Ts).row _ _ (type_at ν Ts).to_one (struct_send (shape (type_at ν Ts)) (a, (b, tt)))))

-- a struct, as a result
pub one_of : (i : ℕ) (δ : Ty) (A : RattleType) → IsSend A → IsSend (param i (arg δ no A))
one_of i δ A a = param_send i (arg δ no A) (arg_send δ no A a)
