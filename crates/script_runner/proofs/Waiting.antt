-- What was started stands ready, one entry more.
use Rattle.std.proofs.Common.{◌≡◌, ℕ, List, [], ◌∷◌, ◌++◌, refl, sym, ap, subst, ◌∙◌, cond, Bool, true, false, arith, append_assoc}
use Rattle.std.proofs.lemmas.List.{append-nil}
use Rattle.std.specs.Prelude.{All, Option, None, Some, ◌==◌, ◌&&◌}
use Rattle.std.proofs.lemmas.List.Elements.{All-head, All-tail}
use Rattle.std.proofs.lemmas.Bool.Decides.{nat_tests}
use Rattle.cs_model.specs.declared.entry.Bound.{Bound}
use Rattle.cs_model.specs.declared.entry.Reply.{Reply}
use Rattle.cs_model.specs.declared.entry.Entry.{Entry}
use Rattle.cs_model.specs.declared.entry.Entry.TheVariants.{Start, Finish, End, Mover}
use Rattle.cs_types.specs.declared.Schema.{Schema}
use Rattle.cs_model.specs.State.{Begin, begin_of, with}
use Rattle.cs_model.specs.declared.work.Actor.TheVariants as actor
use Rattle.cs_model.specs.Actors.{actor_of, number_of, is_turn, entries_of, begun_by, is_begun}
use Rattle.group_log.specs.Reorganizing.{works_of}
use Rattle.statement_core.proofs.Works.{works_others}
use Rattle.group_book.specs.Commits.{Sizes}
use Rattle.statement_core.specs.declared.started.Started.{Started}
use Rattle.log_laws.specs.Started.{IsStartEntry}
use Rattle.statement_core.specs.Awaiting.{Awaits}
use Rattle.script_runner.specs.Running.{IsWaiting, Waits}
use Rattle.statement_core.proofs.Awaiting.{awaits_on}
use Rattle.script_turns.proofs.Entries.{Does, begun_after, finish_does, start_of_does}
use Rattle.script_runner.specs.Schedule.{IsOwnWork}
use Rattle.script_runner.proofs.Pieces.{AreMoverWorks, IsMoverWork, work_begun, work_mover}

and_false : (b : Bool) → (b && false) ≡ false
and_false true = refl
and_false false = refl

-- a statement waits as before where the entry is no turn of its session, and no work of it
waiting_on : (sizes : Sizes) (begin : Begin) (log : List Entry) (e : Entry) (s : ℕ) (o : Option Started) → (is_turn e && (actor_of e == s)) ≡ false → works_of s (e ∷ []) ≡ [] → IsWaiting sizes begin log s o
    → IsWaiting sizes begin (log ++ e ∷ []) s o
waiting_on sizes begin log e s None other none k = k
waiting_on sizes begin log e s (Some started) other none k = awaits_on sizes begin log e s started other none k

-- it waits where it is half done
abbrev IsWaitingIf : Sizes → Begin → List Entry → ℕ → Option Started → Type 0
IsWaitingIf sizes begin log s o = is_begun (entries_of s log) ≡ true → IsWaiting sizes begin log s o

-- another session's statement waits as before
others_wait : (sizes : Sizes) (begin : Begin) (log : List Entry) (e : Entry) (n s : ℕ) (o o' : Option Started) → (n == s) ≡ false → actor_of e ≡ n → o' ≡ o
    → IsWaitingIf sizes begin log s o → IsWaitingIf sizes begin (log ++ e ∷ []) s o'
others_wait sizes begin log e n s o o' other actor is waits begun =
    let apart : (actor_of e == s) ≡ false = ap (λ k. k == s) actor ∙ other in
    let was : is_begun (entries_of s log) ≡ true = sym (begun_after log e s ∙ ap (λ t. cond t (begun_by (is_begun (entries_of s log)) e) (is_begun (entries_of s log))) apart) ∙ begun in
    subst (λ x. IsWaiting sizes begin (log ++ e ∷ []) s x) (sym is)
    (waiting_on sizes begin log e s o (ap (λ b. is_turn e && b) apart ∙ and_false (is_turn e)) (works_others s (e ∷ []) (ap (λ b. cond b (e ∷ []) []) apart)) (waits was))

waits_start : (sizes : Sizes) (begin : Begin) (log : List Entry) (e : Entry) (n : ℕ) (waiting after : ℕ → Option Started) (started : Started) → Waits sizes begin log waiting → Does n true e
    → IsWaiting sizes begin (log ++ e ∷ []) n (Some started) → after ≡ with waiting n (Some started) → Waits sizes begin (log ++ e ∷ []) after
waits_start sizes begin log e n waiting after started waits d is put = λ s begun. at s (s == n) refl begun
  where
    at : (s : ℕ) (t : Bool) → (s == n) ≡ t → is_begun (entries_of s (log ++ e ∷ [])) ≡ true → IsWaiting sizes begin (log ++ e ∷ []) s (after s)
    at s true t begun =
        let same : n ≡ s = grind (arith, nat_tests) in
        let has : after s ≡ Some started = (λ i. put i s) ∙ ap (λ b. cond b (Some started) (waiting s)) t in
        subst (λ o. IsWaiting sizes begin (log ++ e ∷ []) s o) (sym has) (subst (λ k. IsWaiting sizes begin (log ++ e ∷ []) k (Some started)) same is)
    at s false t begun =
        let other : (n == s) ≡ false = grind (arith, nat_tests) in
        let has : after s ≡ waiting s = (λ i. put i s) ∙ ap (λ b. cond b (Some started) (waiting s)) t in
        others_wait sizes begin log e n s (waiting s) (after s) other d.actor has (waits s) begun

-- after a Finish of session n that one waits no more, and the others as before
waits_finish : (sizes : Sizes) (begin : Begin) (log : List Entry) (e : Entry) (n : ℕ) (waiting after : ℕ → Option Started) → ((s : ℕ) → (n == s) ≡ false → IsWaitingIf sizes begin log s (waiting s)) → Does n false e
    → after ≡ with waiting n None → Waits sizes begin (log ++ e ∷ []) after
waits_finish sizes begin log e n waiting after waits d put = λ s begun. at s (s == n) refl begun
  where
    at : (s : ℕ) (t : Bool) → (s == n) ≡ t → is_begun (entries_of s (log ++ e ∷ [])) ≡ true → IsWaiting sizes begin (log ++ e ∷ []) s (after s)
    at s true t begun =
        let same : (n == s) ≡ true = grind (arith, nat_tests) in
        let its : (actor_of e == s) ≡ true = ap (λ k. k == s) d.actor ∙ same in
        let none : is_begun (entries_of s (log ++ e ∷ [])) ≡ false = begun_after log e s ∙ ap (λ b. cond b (begun_by (is_begun (entries_of s log)) e) (is_begun (entries_of s log))) its ∙ d.begun (is_begun (entries_of s log)) in
        absurd (cc (none, begun))
    at s false t begun =
        let other : (n == s) ≡ false = grind (arith, nat_tests) in
        let has : after s ≡ waiting s = (λ i. put i s) ∙ ap (λ b. cond b None (waiting s)) t in
        others_wait sizes begin log e n s (waiting s) (after s) other d.actor has (waits s other) begun

-- so it is after works of session n
own_actor : (n : ℕ) (e : Entry) → IsOwnWork n e → actor_of e ≡ n
own_actor n (Start s b short) own = absurd own
own_actor n (Finish s r) own = absurd own
own_actor n (End s) own = absurd own
own_actor n (Mover by work) own = ap number_of own

moves_wait : (sizes : Sizes) (begin : Begin) (log moves : List Entry) (n s : ℕ) (o : Option Started) → All (IsOwnWork n) moves → (n == s) ≡ false → IsWaitingIf sizes begin log s o → IsWaitingIf sizes begin (log ++ moves) s o
moves_wait sizes begin log [] n s o own other waits = subst (λ es. IsWaitingIf sizes begin es s o) (sym (append-nil log)) waits
moves_wait sizes begin log (e ∷ moves) n s o own other waits =
    subst (λ es. IsWaitingIf sizes begin es s o) (append_assoc log (e ∷ []) moves)
    (moves_wait sizes begin (log ++ e ∷ []) moves n s o (All-tail (IsOwnWork n) e moves own) other
    (others_wait sizes begin log e n s o o other (own_actor n e (All-head (IsOwnWork n) e moves own)) refl waits))

-- ---- a Start, a Finish

pub waits_begun : (sizes : Sizes) (schema : Schema) (log new : List Entry) (n : ℕ) (b : Bound) (waiting after : ℕ → Option Started) (started : Started) → Waits sizes (begin_of schema) log waiting
    → (e : Entry) × (new ≡ log ++ e ∷ []) × IsStartEntry n b started.short e → Awaits sizes (begin_of schema) new n started → after ≡ with waiting n (Some started) → Waits sizes (begin_of schema) new after
waits_begun sizes schema log new n b waiting after started waits x is put =
    subst (λ es. Waits sizes (begin_of schema) es after) (sym x.1)
    (waits_start sizes (begin_of schema) log x.0 n waiting after started waits (start_of_does n b started.short x.0 x.2)
    (subst (λ es. Awaits sizes (begin_of schema) es n started) x.1 is) put)

pub waits_finished : (sizes : Sizes) (begin : Begin) (log moves new : List Entry) (n : ℕ) (r : Reply) (waiting after : ℕ → Option Started) → Waits sizes begin log waiting → All (IsOwnWork n) moves
    → new ≡ (log ++ moves) ++ Finish n r ∷ [] → after ≡ with waiting n None → Waits sizes begin new after
waits_finished sizes begin log moves new n r waiting after waits own is put =
    subst (λ es. Waits sizes begin es after) (sym is)
    (waits_finish sizes begin (log ++ moves) (Finish n r) n waiting after (λ s other. moves_wait sizes begin log moves n s (waiting s) own other (waits s)) (finish_does n (Finish n r) refl) put)

-- what waits in the seat of a session that has begun a statement
pub waits_there : (sizes : Sizes) (begin : Begin) (log : List Entry) (waiting : ℕ → Option Started) (s : ℕ) (started : Started) → Waits sizes begin log waiting → is_begun (entries_of s log) ≡ true → waiting s ≡ Some started
    → IsWaiting sizes begin log s (Some started)
waits_there sizes begin log waiting s started waits begun e = subst (λ o. IsWaiting sizes begin log s o) e (waits s begun)

-- ---- no statement half done, and an End

pub waits_first : (sizes : Sizes) (begin : Begin) (log : List Entry) (waiting : ℕ → Option Started) → log ≡ [] → Waits sizes begin log waiting
waits_first sizes begin log waiting e = λ s begun. let none : is_begun (entries_of s log) ≡ false = ap (λ es. is_begun (entries_of s es)) e in absurd (cc (none, begun))

-- no Start was made
pub waits_same : (sizes : Sizes) (begin : Begin) (log new : List Entry) (waiting after : ℕ → Option Started) → Waits sizes begin log waiting → new ≡ log → after ≡ waiting → Waits sizes begin new after
waits_same sizes begin log new waiting after waits is same = subst (λ es. Waits sizes begin es after) (sym is) (subst (Waits sizes begin log) (sym same) waits)

pub waits_end : (sizes : Sizes) (begin : Begin) (log new : List Entry) (n : ℕ) (waiting : ℕ → Option Started) → Waits sizes begin log waiting → new ≡ log ++ End n ∷ [] → Waits sizes begin new waiting
waits_end sizes begin log new n waiting waits is = subst (λ es. Waits sizes begin es waiting) (sym is) (λ s begun. at s (n == s) refl begun)
  where
    at : (s : ℕ) (t : Bool) → (n == s) ≡ t → is_begun (entries_of s (log ++ End n ∷ [])) ≡ true → IsWaiting sizes begin (log ++ End n ∷ []) s (waiting s)
    at s true t begun =
        let none : is_begun (entries_of s (log ++ End n ∷ [])) ≡ false = begun_after log (End n) s ∙ ap (λ b. cond b false (is_begun (entries_of s log))) t in
        absurd (cc (none, begun))
    at s false t begun = others_wait sizes begin log (End n) n s (waiting s) (waiting s) t refl refl (waits s) begun

-- ---- works of movers

-- a work is no turn of a session
no_turn : (e : Entry) (s : ℕ) → IsMoverWork e → (is_turn e && (actor_of e == s)) ≡ false
no_turn (Start n b short) s w = absurd w
no_turn (Finish n r) s w = absurd w
no_turn (End n) s w = absurd w
no_turn (Mover by work) s w = refl

-- nor is a mover's a session's work
no_work : (e : Entry) (s : ℕ) → IsMoverWork e → works_of s (e ∷ []) ≡ []
no_work (Start n b short) s w = absurd w
no_work (Finish n r) s w = absurd w
no_work (End n) s w = absurd w
no_work (Mover (actor.Session n) work) s w = absurd w
no_work (Mover (actor.Mover m) work) s w = refl

work_waits : (sizes : Sizes) (begin : Begin) (log : List Entry) (e : Entry) (waiting : ℕ → Option Started) → IsMoverWork e → Waits sizes begin log waiting → Waits sizes begin (log ++ e ∷ []) waiting
work_waits sizes begin log e waiting w waits = λ s begun. waiting_on sizes begin log e s (waiting s) (no_turn e s w) (no_work e s w) (waits s (sym (work_begun log e s (work_mover e w)) ∙ begun))

-- what was started waits as before after works of movers
works_wait : (sizes : Sizes) (begin : Begin) (log piece : List Entry) (waiting : ℕ → Option Started) → AreMoverWorks piece → Waits sizes begin log waiting → Waits sizes begin (log ++ piece) waiting
works_wait sizes begin log [] waiting w waits = subst (λ es. Waits sizes begin es waiting) (sym (append-nil log)) waits
works_wait sizes begin log (e ∷ es) waiting w waits =
    subst (λ xs. Waits sizes begin xs waiting) (append_assoc log (e ∷ []) es) (works_wait sizes begin (log ++ e ∷ []) es waiting w.1 (work_waits sizes begin log e waiting w.0 waits))

pub waits_works : (sizes : Sizes) (begin : Begin) (log new piece : List Entry) (waiting : ℕ → Option Started) → Waits sizes begin log waiting → new ≡ log ++ piece → AreMoverWorks piece → Waits sizes begin new waiting
waits_works sizes begin log new piece waiting waits is w = subst (λ es. Waits sizes begin es waiting) (sym is) (works_wait sizes begin log piece waiting w waits)
