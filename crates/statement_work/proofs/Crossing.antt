-- What of a scan may cross threads, a type at a time.
use mathlib.Core.List.{List, [], ◌∷◌}
use Prim.Native.Nat.{ℕ}
use mir.Syntax.{Ty}
use denote.Exit.{no}
use denote.Param.{param, arg}
use denote.Struct.Declared.{shape}
use denote.Struct.Tuple.{TupleAt, type_at, field_at}
use denote.Struct.Field.{u32-field, usize-field}
use denote.RattleType.{RattleType}
use denote.Ref.{NamedLft}
use denote.Param.Send.{IsSend, IsSync, param_send, arg_send, recorded_send, struct_send, sendable}
use Rattle.std.proofs.Crossing.{crosses}
use Rattle.cs_model.proofs.expr.Expr.TheLaws.TheKnot as expr
use Rattle.cs_model.proofs.pred.Pred.TheLaws.TheKnot as pred
use Rattle.cs_model.specs.contracts.plan.Query as Query
use Rattle.batch_aggregate.specs.contracts.partial.Partial as Partial
use Rattle.batch_aggregate.specs.contracts.entries.Entries as Entries
use Rattle.batch_aggregate.proofs.entries.Entries.TheSendSync as entries
use Rattle.cs_types.proofs.Schema.TheSendSync as schema
use Rattle.group_view.proofs.view.Pinned.TheSendSync as pinned
use Rattle.cs_base.specs.contracts.memory.Memory as Memory
use Rattle.std.specs.contracts.result.Result as Result
use Rattle.statement_work.specs.contracts.workers.Scan as Scan

pub query_sync : IsSync Query.the_row
query_sync = search (crosses, expr.crosses, pred.crosses, sendable) depth 60 fits 20000

pub entries_field_send : IsSend (Entries.the_field).row
entries_field_send = search (entries.the_field_send, crosses, sendable) depth 60 fits 20000

pub partial_send : (l : NamedLft) → IsSend (Partial.the_row l)
partial_send l = search (query_sync, schema.the_sync, entries_field_send, crosses, sendable) depth 60 fits 20000

pub scan_sync : (l : NamedLft) (T : RattleType) → IsSync T → IsSync (Scan.the_row l T)
scan_sync l T t = search (query_sync, schema.the_sync, pinned.the_sync, crosses, sendable) depth 60 fits 20000

pub found_send : (l : NamedLft) → IsSend (Result.the_row (Partial.the_row l) Memory.the_row)
found_send l = search (partial_send, sendable) depth 60 fits 20000

pub u32_send : IsSend (u32-field).row
u32_send = search sendable

pub usize_send : IsSend (usize-field).row
usize_send = search sendable

-- a closure over four things, as an argument
pub closure_of_four : (i : ℕ) (δ : Ty) (ν : List ℕ) (A B C D : RattleType) → IsSend A → IsSend B → IsSend C → IsSend D → IsSend (param i (arg δ no (TupleAt ν (A ∷ B ∷ C ∷ D ∷ []))))
closure_of_four i δ ν A B C D a b c d =
    let Ts : List RattleType = A ∷ B ∷ C ∷ D ∷ [] in
    param_send i (arg δ no (TupleAt ν Ts)) (arg_send δ no (TupleAt ν Ts) (recorded_send (field_at ν Ts).row _ _ (type_at ν Ts).to_one (struct_send (shape (type_at ν Ts)) (a, (b, (c, (d, tt)))))))

-- a value, as a result
pub one_of : (i : ℕ) (δ : Ty) (A : RattleType) → IsSend A → IsSend (param i (arg δ no A))
one_of i δ A a = param_send i (arg δ no A) (arg_send δ no A a)
