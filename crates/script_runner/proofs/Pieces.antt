-- What the events of a step say of its actor, and of the others.
use Rattle.std.proofs.Common.{◌≡◌, ℕ, List, [], ◌∷◌, ◌++◌, refl, sym, ap, subst, ◌∙◌, cond, inl, inr, Bool, true, false, append_assoc}
use Rattle.std.specs.Prelude.{◌==◌, not, All, Option, None, Some}
use Rattle.std.proofs.lemmas.List.{append-nil}
use Rattle.std.proofs.lemmas.List.Elements.{All-head, All-tail}
use Rattle.cs_model.specs.declared.entry.Entry.{Entry}
use Rattle.cs_model.specs.declared.entry.Entry.TheVariants.{Start, Finish, End, Mover}
use Rattle.cs_model.specs.declared.work.Actor.{Actor}
use Rattle.cs_model.specs.declared.work.Actor.TheVariants as actor
use Rattle.cs_model.specs.declared.work.Work.{Work}
use Rattle.cs_model.specs.State.{Begin}
use Rattle.cs_model.specs.Actors.{actor_of, entries_of, is_begun, has_ended}
use Rattle.group_book.specs.Turns.{same_actor}
use Rattle.group_log.specs.Followed.{Ground}
use Rattle.script_reader.specs.declared.script.Step.{Step}
use Rattle.script_reader.specs.declared.script.Step.TheVariants.{Whole, Begun, Finished, Turn, Claiming, Installing}
use Rattle.script_reader.specs.Scripts as reader
use Rattle.script_reader.specs.Scripts.{taken_by}
use Rattle.script_turns.specs.Turns.{IsStart, IsFinishOf}
use Rattle.script_turns.proofs.Entries.{begun_after, one_begun, one_going, start_does, finish_does}
use Rattle.script_runner.specs.Schedule.{IsFinishing, IsPiece, IsOwnWork, ArePieces}
use Rattle.statement_core.specs.Turns.{BeginsTurn, EndsTurn, IsFirst}
use Rattle.log_laws.proofs.Entries.{ended_stays}

-- ---- works of movers and of sessions

abbrev pub IsWork : Entry → Type 0
IsWork (Start s b short) = ⊥
IsWork (Finish s r) = ⊥
IsWork (End s) = ⊥
IsWork (Mover by work) = Unit {0}

abbrev pub AreWorks : List Entry → Type 0
AreWorks [] = Unit {0}
AreWorks (e ∷ es) = IsWork e × AreWorks es

work_own : (session : ℕ) (e : Entry) → IsOwnWork session e → IsWork e
work_own session (Start s b short) own = own
work_own session (Finish s r) own = own
work_own session (End s) own = own
work_own session (Mover by work) own = tt

pub works_own : (session : ℕ) (moves : List Entry) → All (IsOwnWork session) moves → AreWorks moves
works_own session [] own = tt
works_own session (e ∷ moves) own = (work_own session e (All-head (IsOwnWork session) e moves own), works_own session moves (All-tail (IsOwnWork session) e moves own))

-- the same of movers alone
abbrev pub IsByMover : Actor → Type 0
IsByMover (actor.Session session) = ⊥
IsByMover (actor.Mover mover) = Unit {0}

abbrev pub IsMoverWork : Entry → Type 0
IsMoverWork (Start s b short) = ⊥
IsMoverWork (Finish s r) = ⊥
IsMoverWork (End s) = ⊥
IsMoverWork (Mover by work) = IsByMover by

abbrev pub AreMoverWorks : List Entry → Type 0
AreMoverWorks [] = Unit {0}
AreMoverWorks (e ∷ es) = IsMoverWork e × AreMoverWorks es

pub work_mover : (e : Entry) → IsMoverWork e → IsWork e
work_mover (Start s b short) w = w
work_mover (Finish s r) w = w
work_mover (End s) w = w
work_mover (Mover by work) w = tt

pub works_movers : (piece : List Entry) → AreMoverWorks piece → AreWorks piece
works_movers [] w = tt
works_movers (e ∷ es) w = (work_mover e w.0, works_movers es w.1)

works_append : (first last : List Entry) → AreWorks first → AreWorks last → AreWorks (first ++ last)
works_append [] last a b = b
works_append (e ∷ first) last a b = (a.0, works_append first last a.1 b)

movers_first : (mover : ℕ) (work : Option Work) (piece : List Entry) → IsFirst (actor.Mover mover) work piece → AreMoverWorks piece
movers_first mover None piece h = subst AreMoverWorks (sym h) tt
movers_first mover (Some work) piece (inl e) = subst AreMoverWorks (sym e) (tt, tt)
movers_first mover (Some work) piece (inr e) = subst AreMoverWorks (sym e) (tt, tt)

-- a work leaves what each session has half done
pub work_begun : (log : List Entry) (e : Entry) (s : ℕ) → IsWork e → is_begun (entries_of s (log ++ e ∷ [])) ≡ is_begun (entries_of s log)
work_begun log (Start n b short) s w = absurd w
work_begun log (Finish n r) s w = absurd w
work_begun log (End n) s w = absurd w
work_begun log (Mover by work) s w = begun_after log (Mover by work) s ∙ at (actor_of (Mover by work) == s)
  where
    at : (t : Bool) → cond t (is_begun (entries_of s log)) (is_begun (entries_of s log)) ≡ is_begun (entries_of s log)
    at true = refl
    at false = refl

work_going : (log : List Entry) (e : Entry) (s : ℕ) → IsWork e → has_ended (entries_of s (log ++ e ∷ [])) ≡ has_ended (entries_of s log)
work_going log (Start n b short) s w = absurd w
work_going log (Finish n r) s w = absurd w
work_going log (End n) s w = absurd w
work_going log (Mover by work) s w = ended_stays log (Mover by work) s refl

works_begun : (log piece : List Entry) (s : ℕ) → AreWorks piece → is_begun (entries_of s (log ++ piece)) ≡ is_begun (entries_of s log)
works_begun log [] s w = ap (λ es. is_begun (entries_of s es)) (append-nil log)
works_begun log (e ∷ es) s w = ap (λ xs. is_begun (entries_of s xs)) (sym (append_assoc log (e ∷ []) es)) ∙ works_begun (log ++ e ∷ []) es s w.1 ∙ work_begun log e s w.0

works_going : (log piece : List Entry) (s : ℕ) → AreWorks piece → has_ended (entries_of s (log ++ piece)) ≡ has_ended (entries_of s log)
works_going log [] s w = ap (λ es. has_ended (entries_of s es)) (append-nil log)
works_going log (e ∷ es) s w = ap (λ xs. has_ended (entries_of s xs)) (sym (append_assoc log (e ∷ []) es)) ∙ works_going (log ++ e ∷ []) es s w.1 ∙ work_going log e s w.0

-- ---- the events of a step

-- works, and then a Finish
abbrev pub IsPlainFinish : ℕ → List Entry → Type 0
IsPlainFinish session piece = (moves : List Entry) × (b : Entry) × (piece ≡ moves ++ b ∷ []) × AreWorks moves × IsFinishOf session b

-- the events of a step, but for what moves tell: a Start, a Finish with works before it, or both; or works of movers
abbrev pub IsPlain : Begin → List Entry → Step → List Entry → Type 0
IsPlain begin before (Whole session text) piece = (a : Entry) × (rest : List Entry) × (piece ≡ a ∷ rest) × IsStart begin before session text a × IsPlainFinish session rest
IsPlain begin before (Begun session text) piece = (a : Entry) × (piece ≡ a ∷ []) × IsStart begin before session text a
IsPlain begin before (Finished session) piece = IsPlainFinish session piece
IsPlain begin before (Turn mover) piece = AreWorks piece
IsPlain begin before (Claiming mover) piece = AreWorks piece
IsPlain begin before (Installing mover) piece = AreWorks piece

plain_finish : (origin : Ground) (before : List Entry) (session : ℕ) (piece : List Entry) → IsFinishing origin before session piece → IsPlainFinish session piece
plain_finish origin before session piece f = let are = f.3 in (f.0, f.1, f.2, works_own session f.0 are.own, f.4)

pub begins_works : (origin : Ground) (before : List Entry) (mover : ℕ) (piece : List Entry) → BeginsTurn origin before (actor.Mover mover) piece → AreMoverWorks piece
begins_works origin before mover piece h = movers_first mover _ piece h.first

pub ends_works : (origin : Ground) (before : List Entry) (mover : ℕ) (piece : List Entry) → EndsTurn origin before (actor.Mover mover) piece → AreMoverWorks piece
ends_works origin before mover piece (inl h) = subst AreMoverWorks (sym h.entry) (tt, tt)
ends_works origin before mover piece (inr (inl h)) = subst AreMoverWorks (sym h.entry) (tt, tt)
ends_works origin before mover piece (inr (inr h)) = subst AreMoverWorks (sym h.none) tt

pub plain : (origin : Ground) (before : List Entry) (step : Step) (piece : List Entry) → IsPiece origin before step piece → IsPlain origin.begin before step piece
plain origin before (Whole session text) piece p = (p.0, p.1, p.2, p.3, plain_finish origin (before ++ p.0 ∷ []) session p.1 p.4)
plain origin before (Begun session text) piece p = p
plain origin before (Finished session) piece p = plain_finish origin before session piece p
plain origin before (Turn mover) piece p =
    subst AreWorks (sym p.joined)
    (works_append p.first p.last (works_movers p.first (begins_works origin before mover p.first p.begins)) (works_movers p.last (ends_works origin (before ++ p.first) mover p.last p.ends)))
plain origin before (Claiming mover) piece p = works_movers piece (begins_works origin before mover piece p)
plain origin before (Installing mover) piece p = works_movers piece (ends_works origin before mover piece p)

-- ---- what they leave half done, and who goes on

finish_begun : (log piece : List Entry) (s session : ℕ) → IsPlainFinish session piece → is_begun (entries_of s (log ++ piece)) ≡ cond (session == s) false (is_begun (entries_of s log))
finish_begun log piece s session f =
    ap (λ es. is_begun (entries_of s es)) (ap (λ es. log ++ es) f.2 ∙ sym (append_assoc log f.0 (f.1 ∷ [])))
    ∙ one_begun (log ++ f.0) f.1 s session false (finish_does session f.1 f.4)
    ∙ ap (λ b. cond (session == s) false b) (works_begun log f.0 s f.3)

finish_going : (log piece : List Entry) (s session : ℕ) → IsPlainFinish session piece → has_ended (entries_of s (log ++ piece)) ≡ has_ended (entries_of s log)
finish_going log piece s session f =
    ap (λ es. has_ended (entries_of s es)) (ap (λ es. log ++ es) f.2 ∙ sym (append_assoc log f.0 (f.1 ∷ [])))
    ∙ one_going (log ++ f.0) f.1 s session false (finish_does session f.1 f.4)
    ∙ works_going log f.0 s f.3

-- a first entry, and the rest after it
behind : (log piece rest : List Entry) (a : Entry) → piece ≡ a ∷ rest → log ++ piece ≡ (log ++ a ∷ []) ++ rest
behind log piece rest a is = ap (λ es. log ++ es) is ∙ sym (append_assoc log (a ∷ []) rest)

pub piece_begun : (begin : Begin) (step : Step) (piece log : List Entry) (s : ℕ) → IsPlain begin log step piece
    → is_begun (entries_of s (log ++ piece)) ≡ cond (same_actor (taken_by step) (actor.Session s)) (reader.is_begun (Some step)) (is_begun (entries_of s log))
piece_begun begin (Whole session text) piece log s p =
    ap (λ es. is_begun (entries_of s es)) (behind log piece p.1 p.0 p.2)
    ∙ finish_begun (log ++ p.0 ∷ []) p.1 s session p.4
    ∙ ap (λ b. cond (session == s) false b) (one_begun log p.0 s session true (start_does begin log session text p.0 p.3))
    ∙ at (session == s)
  where
    at : (t : Bool) → cond t false (cond t true (is_begun (entries_of s log))) ≡ cond t false (is_begun (entries_of s log))
    at true = refl
    at false = refl
piece_begun begin (Begun session text) piece log s p =
    ap (λ es. is_begun (entries_of s (log ++ es))) p.1 ∙ one_begun log p.0 s session true (start_does begin log session text p.0 p.2)
piece_begun begin (Finished session) piece log s p = finish_begun log piece s session p
piece_begun begin (Turn mover) piece log s p = works_begun log piece s p
piece_begun begin (Claiming mover) piece log s p = works_begun log piece s p
piece_begun begin (Installing mover) piece log s p = works_begun log piece s p

pub piece_going : (begin : Begin) (step : Step) (piece log : List Entry) (s : ℕ) → IsPlain begin log step piece → has_ended (entries_of s (log ++ piece)) ≡ has_ended (entries_of s log)
piece_going begin (Whole session text) piece log s p =
    ap (λ es. has_ended (entries_of s es)) (behind log piece p.1 p.0 p.2)
    ∙ finish_going (log ++ p.0 ∷ []) p.1 s session p.4
    ∙ one_going log p.0 s session true (start_does begin log session text p.0 p.3)
piece_going begin (Begun session text) piece log s p =
    ap (λ es. has_ended (entries_of s (log ++ es))) p.1 ∙ one_going log p.0 s session true (start_does begin log session text p.0 p.2)
piece_going begin (Finished session) piece log s p = finish_going log piece s session p
piece_going begin (Turn mover) piece log s p = works_going log piece s p
piece_going begin (Claiming mover) piece log s p = works_going log piece s p
piece_going begin (Installing mover) piece log s p = works_going log piece s p

pub pieces_push : (origin : Ground) (before : List Entry) (steps : List Step) (entries : List Entry) (step : Step) (piece : List Entry) → ArePieces origin before steps entries → IsPiece origin (before ++ entries) step piece
    → ArePieces origin before (steps ++ step ∷ []) (entries ++ piece)
pieces_push origin before [] entries step piece e p = (
  piece,
  [],
  ap (λ es. es ++ piece) e ∙ sym (append-nil piece),
  subst (λ es. IsPiece origin es step piece) (ap (λ es. before ++ es) e ∙ append-nil before) p,
  refl,
)
pieces_push origin before (first ∷ steps) entries step piece e p = (
  e.0,
  e.1 ++ piece,
  ap (λ es. es ++ piece) e.2 ∙ append_assoc e.0 e.1 piece,
  e.3,
  pieces_push origin (before ++ e.0) steps e.1 step piece e.4 (subst (λ es. IsPiece origin es step piece) (ap (λ es. before ++ es) e.2 ∙ sym (append_assoc before e.0 e.1)) p),
)

-- ---- a step that may follow

pub is_not : (b : Bool) → not b ≡ true → b ≡ false
is_not true e = absurd (cc)
is_not false e = refl
