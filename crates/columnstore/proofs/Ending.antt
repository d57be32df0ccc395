-- What the status says, from what was asked for and what was written of it.
use Rattle.std.proofs.Common.{◌≡◌, ◌≢◌, ℕ, List, [], take, drop, codes, refl, sym, ap, subst, inl, inr, ◌∙◌, IfOk}
use Rattle.std.specs.Prelude.{Option, None, Some, Result, Ok, Err, IfErr, MatchResult, String}
use Rattle.std.specs.declared.alloc.Global.{Global}
use Rattle.std.specs.declared.io.Error.{Error}
use Rattle.std.specs.declared.io.ErrorKind.TheVariants.{OutOfMemory}
use Rattle.std.specs.IoError.{error_kind}
use Rattle.std.proofs.lemmas.List.{take-append-drop, append-nil}
use Rattle.cs_base.specs.Counts.{Rose}
use Rattle.cs_outside.specs.Outside.{Takes, Adds}
use Rattle.cs_outside.specs.Words.{AreWords}
use Rattle.command_words.specs.declared.order.Order.{Order}
use Rattle.command_words.specs.declared.order.Order.TheVariants.{Replay, Run, Generate, Load}
use Rattle.command_words.specs.declared.order.RunOptions.{RunOptions}
use Rattle.group_book.specs.Commits.{Sizes}
use Rattle.columnstore.specs.declared.way.Way.{Way}
use Rattle.columnstore.specs.declared.way.Way.TheVariants.{ByLine, OnThreads}
use Rattle.columnstore.specs.declared.status.Status.{Status}
use Rattle.columnstore.specs.declared.status.Status.TheVariants as status
use Rattle.columnstore.specs.Outcome.{sizes_in, order_of, AsksScript, answered, Asks, IsFront, EndsFor, RefusesWords, IsWrittenOrStopped, EndsForWords, refused, served}
use Rattle.columnstore.specs.Written.{after_fault, IsWritten}

pub none_taken : (left : Option (List ℕ)) → Takes left left []
none_taken None = refl
none_taken (Some bytes) = refl

module _ (way : Way) (sizes : Sizes) (came : List ℕ) (left : Option (List ℕ)) where
  no_usage : (whole : List ℕ) → AsksScript way sizes came left status.Usage whole → ⊥
  no_usage whole (answered l e h) = h

  no_read_fault : (whole : List ℕ) → AsksScript way sizes came left status.ReadFault whole → ⊥
  no_read_fault whole (answered l e h) = h

  no_write_fault : (whole : List ℕ) → AsksScript way sizes came left status.WriteFault whole → ⊥
  no_write_fault whole (answered l e h) = h

-- where the whole text is written, the order ends with the status that goes with it
asked : (order : Order) (came : List ℕ) (left : Option (List ℕ)) (s : Status) (whole : List ℕ) (before now : ℕ) → Asks order came left s whole → EndsFor order came left whole before now s
asked (Replay options) came left status.Done whole before now a = a
asked (Replay options) came left status.Usage whole before now a = no_usage ByLine (sizes_in options) came left whole a
asked (Replay options) came left status.Script whole before now a = a
asked (Replay options) came left status.ReadFault whole before now a = absurd (no_read_fault ByLine (sizes_in options) came left whole a)
asked (Replay options) came left status.WriteFault whole before now a = absurd (no_write_fault ByLine (sizes_in options) came left whole a)
asked (Replay options) came left status.Memory whole before now a = inr (whole, a, inl refl)
asked (Run options movers) came left status.Done whole before now a = a
asked (Run options movers) came left status.Usage whole before now a = no_usage (OnThreads movers) (sizes_in options) came left whole a
asked (Run options movers) came left status.Script whole before now a = a
asked (Run options movers) came left status.ReadFault whole before now a = absurd (no_read_fault (OnThreads movers) (sizes_in options) came left whole a)
asked (Run options movers) came left status.WriteFault whole before now a = absurd (no_write_fault (OnThreads movers) (sizes_in options) came left whole a)
asked (Run options movers) came left status.Memory whole before now a = inr (whole, a, inl refl)
asked (Generate drawn) came left s whole before now a = subst (λ z. EndsFor (Generate drawn) came left whole before now z) (sym a.0) (refl, a.1)
asked (Load drawn options) came left s whole before now a = subst (λ z. EndsFor (Load drawn options) came left whole before now z) (sym a.0) (refl, a.1)

-- the order to run a script in a way asks for what a run in that way writes
pub asks_script : (options : RunOptions) (way : Way) (came : List ℕ) (left : Option (List ℕ)) (s : Status) (whole : List ℕ) → AsksScript way (sizes_in options) came left s whole
    → Asks (order_of options way) came left s whole
asks_script options ByLine came left s whole a = a
asks_script options (OnThreads movers) came left s whole a = a

-- where a read failed, nothing was added
pub fault_ends : (options : RunOptions) (way : Way) (came : List ℕ) (left : Option (List ℕ)) (before now : ℕ)
    → EndsFor (order_of options way) came left [] before now status.ReadFault
fault_ends options ByLine came left before now = (refl, refl)
fault_ends options (OnThreads movers) came left before now = (refl, refl)

-- the status and what comes of it where a write of the whole text fails
module _ (order : Order) (came : List ℕ) (left : Option (List ℕ)) (whole added : List ℕ) (before now : ℕ) (front : IsFront added whole) (rose : Rose before now) where
  fault_of : (s : Status) → s ≢ status.Memory → Asks order came left s whole → EndsFor order came left added before now status.WriteFault
  fault_of s other a = (s, whole, other, a, front)

  faulted : (s : Status) → Asks order came left s whole → EndsFor order came left added before now (after_fault s)
  faulted status.Done a = fault_of status.Done (λ is. cc) a
  faulted status.Usage a = fault_of status.Usage (λ is. cc) a
  faulted status.Script a = fault_of status.Script (λ is. cc) a
  faulted status.ReadFault a = fault_of status.ReadFault (λ is. cc) a
  faulted status.WriteFault a = fault_of status.WriteFault (λ is. cc) a
  faulted status.Memory a = inr (whole, a, inr (rose, front))

-- how an order ends, from what it asks to be written and what was written of it
pub ending : (order : Order) (came : List ℕ) (left : Option (List ℕ)) (s result : Status) (whole : List ℕ) (old new : Option (List ℕ)) (before now : ℕ)
    → Asks order came left s whole → IsWritten old new before now whole s result → (added : List ℕ) × Adds old new added × EndsFor order came left added before now result
ending order came left s result whole old new before now a (inl w) =
    (whole, w.1, subst (λ r. EndsFor order came left whole before now r) (sym w.0) (asked order came left s whole before now a))
ending order came left s result whole old new before now a (inr w) =
    let added = take w.1.0 whole in
    let front : IsFront added whole = (drop w.1.0 whole, sym (take-append-drop w.1.0 whole)) in
    (added, w.1.2, subst (λ r. EndsFor order came left added before now r) (sym w.0) (faulted order came left whole added before now front w.2 s a))

-- the refusal of words, from what was written of it
pub refusing : (result : Status) (old new : Option (List ℕ)) (before now : ℕ) → IsWritten old new before now (codes "usage refused\n") status.Usage result
    → (added : List ℕ) × Adds old new added × RefusesWords added result
refusing result old new before now (inl w) = (codes "usage refused\n", w.1, inl (w.0, refl))
refusing result old new before now (inr w) =
    (take w.1.0 (codes "usage refused\n"), w.1.2, inr (w.0, (drop w.1.0 (codes "usage refused\n"), sym (take-append-drop w.1.0 (codes "usage refused\n")))))

pub none_added : (held : Option (List ℕ)) → Adds held held []
none_added None = refl
none_added (Some bytes) = ap Some (sym (append-nil bytes))

-- ---- draws

module _ {O E : Type 0} (held : O → Option (List ℕ)) (faults : O → ℕ) (old new : O) where
  -- a text that was made was written, or there was no memory for one
  abbrev IsDrawnBy : Result (List ℕ) E → Status → Type 0
  IsDrawnBy text result =
      MatchResult text (λ line. IsWritten (held old) (held new) (faults old) (faults new) line status.Done result) (λ _. (result ≡ status.Memory) × (new ≡ old))

  pub drawing : (order : Order) (left : Option (List ℕ)) (text : Result (List ℕ) E) (result : Status) → IfOk text (λ line. Asks order [] left status.Done line) → IsDrawnBy text result
      → (added : List ℕ) × Adds (held old) (held new) added × EndsFor order [] left added (faults old) (faults new) result
  drawing order left (Ok line) result asks w = ending order [] left status.Done result line (held old) (held new) (faults old) (faults new) asks w
  drawing order left (Err e) result asks w =
      ([], subst (λ z. Adds (held old) (held z) []) (sym w.1) (none_added (held old)), subst (λ z. EndsFor order [] left [] (faults old) (faults new) z) (sym w.0) (inl refl))

  -- what is made without the input is written with Done
  pub with_done : (P : List ℕ → Type 0) (text : Result (List ℕ) E) → IfOk text P → IfOk text (λ line. (status.Done ≡ status.Done) × P line)
  with_done P (Ok line) is = (refl, is)
  with_done P (Err e) is = tt

  pub drawn_stops : (text : Result (List ℕ) E) (result : Status) → IsDrawnBy text result → IsWrittenOrStopped result
  drawn_stops (Ok line) result (inl w) = subst IsWrittenOrStopped (sym w.0) tt
  drawn_stops (Ok line) result (inr w) = subst IsWrittenOrStopped (sym w.0) tt
  drawn_stops (Err e) result w = subst IsWrittenOrStopped (sym w.0) tt

  pub drawn_rose : (text : Result (List ℕ) E) (result : Status) → IsDrawnBy text result → result ≡ status.WriteFault → Rose (faults old) (faults new)
  drawn_rose (Ok line) result (inl w) is = let done : status.Done ≡ status.WriteFault = sym w.0 ∙ is in absurd (cc)
  drawn_rose (Ok line) result (inr w) is = w.2
  drawn_rose (Err e) result w is = let memory : status.Memory ≡ status.WriteFault = sym w.0 ∙ is in absurd (cc)

pub no_read : (result : Status) → IsWrittenOrStopped result → result ≡ status.ReadFault → ⊥
no_read result stops is = subst IsWrittenOrStopped is stops

-- where there are no words, memory does not give out
no_words : (came : List ℕ) (left : Option (List ℕ)) (added : List ℕ) (before now : ℕ) → EndsForWords [] came left added before now status.Memory → ⊥
no_words came left added before now (refused none nothing (inl w)) = cc
no_words came left added before now (refused none nothing (inr w)) = cc
no_words came left added before now (served order is drawn ends) = let said = is.said in cc

-- nor does it where the arguments are none for another cause than want of memory
pub no_text : {S : Type 0} (steps : S → Option (String Global) → S → Type 0) (args : Result S Error) (words : List (List ℕ)) (came : List ℕ) (left : Option (List ℕ)) (added : List ℕ) (before now : ℕ) (s : Status) → AreWords steps args words
    → EndsForWords words came left added before now s → IfErr args (λ error. error_kind error ≢ OutOfMemory → s ≢ status.Memory)
no_text steps (Ok args) words came left added before now s are ends = tt
no_text steps (Err error) words came left added before now s are ends =
    λ other is. no_words came left added before now (subst (λ ws. EndsForWords ws came left added before now status.Memory) are.1 (subst (EndsForWords words came left added before now) is ends))
