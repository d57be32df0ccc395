-- The works of a session among entries, and the works of a turn.
use Rattle.std.proofs.Common.{◌≡◌, ℕ, List, [], ◌∷◌, ◌++◌, refl, sym, ap, subst, ◌∙◌, cond, Bool, true, false, None, Some}
use Rattle.std.specs.Prelude.{◌==◌, ◌&&◌}
use Rattle.std.proofs.lemmas.Bool.{eq-eqb}
use Rattle.std.proofs.lemmas.Grind.{flat_map-append}
use Rattle.std.proofs.lemmas.List.{append-nil}
use Rattle.std.proofs.lemmas.List.Elements.{filter-append}
use Rattle.std.proofs.lemmas.Option.{none-some, same_Some}
use Rattle.cs_model.specs.declared.entry.Entry.{Entry}
use Rattle.cs_model.specs.declared.entry.Entry.TheVariants.{Start, Finish, End, Mover}
use Rattle.cs_model.specs.declared.work.Actor.TheVariants as actor
use Rattle.cs_model.specs.declared.work.Work.{Work}
use Rattle.cs_model.specs.Actors.{actor_of, entries_of, is_turn, turns_of}
use Rattle.group_book.specs.Book.{Choice, Claim, Book}
use Rattle.group_book.specs.Book.Choice.{Compress, Flush, Rebuild, Merge, Settle, Clear, Idle}
use Rattle.group_book.specs.Choices.{allowed, choice_work, install_work}
use Rattle.group_log.specs.Reorganizing.{work_by, works_of}
use Rattle.statement_core.specs.Courses.{IsTurnWork}

-- ---- among entries

pub works_more : (session : ℕ) (first rest : List Entry) → works_of session (first ++ rest) ≡ works_of session first ++ works_of session rest
works_more session first rest = flat_map-append (work_by session) first rest

-- entries without a work of the session
pub works_still : (session : ℕ) (first rest : List Entry) → works_of session rest ≡ [] → works_of session (first ++ rest) ≡ works_of session first
works_still session first rest none = works_more session first rest ∙ ap (λ works. works_of session first ++ works) none ∙ append-nil (works_of session first)

-- entries before which there was none
pub works_first : (session : ℕ) (first rest : List Entry) → works_of session first ≡ [] → works_of session (first ++ rest) ≡ works_of session rest
works_first session first rest none = works_more session first rest ∙ ap (λ works. works ++ works_of session rest) none

pub turns_still : (session : ℕ) (first rest : List Entry) → turns_of session first ≡ [] → turns_of session rest ≡ [] → turns_of session (first ++ rest) ≡ []
turns_still session first rest none still =
    filter-append (λ entry. is_turn entry && (actor_of entry == session)) first rest ∙ ap (λ turns. turns ++ turns_of session rest) none ∙ still

nothing_first : {X : Type 0} (first rest : List X) → first ++ rest ≡ [] → first ≡ []
nothing_first [] rest none = refl
nothing_first (x ∷ first) rest none = absurd (cc none)

pub turns_first : (session : ℕ) (first rest : List Entry) → turns_of session (first ++ rest) ≡ [] → turns_of session first ≡ []
turns_first session first rest none =
    nothing_first (turns_of session first) (turns_of session rest) (sym (filter-append (λ entry. is_turn entry && (actor_of entry == session)) first rest) ∙ none)

pub work_one : (session : ℕ) (w : Work) → works_of session (Mover (actor.Session session) w ∷ []) ≡ w ∷ []
work_one session w = ap (λ t. cond t (w ∷ []) [] ++ []) (eq-eqb session session refl)

-- ---- the entries of others

work_none : (session : ℕ) (entry : Entry) → (actor_of entry == session) ≡ false → work_by session entry ≡ []
work_none session (Start s bound short) other = refl
work_none session (Finish s r) other = refl
work_none session (End s) other = refl
work_none session (Mover (actor.Session s) w) other = ap (λ t. cond t (w ∷ []) []) other
work_none session (Mover (actor.Mover m) w) other = refl

pub works_others : (session : ℕ) (entries : List Entry) → entries_of session entries ≡ [] → works_of session entries ≡ []
works_others session [] none = refl
works_others session (entry ∷ entries) none = at (actor_of entry == session) refl none (works_others session entries)
  where
    at : (t : Bool) → (actor_of entry == session) ≡ t → cond t (entry ∷ entries_of session entries) (entries_of session entries) ≡ []
        → (entries_of session entries ≡ [] → works_of session entries ≡ []) → works_of session (entry ∷ entries) ≡ []
    at true is e rest = absurd (cc e)
    at false is e rest = ap (λ works. works ++ works_of session entries) (work_none session entry is) ∙ rest e

turn_none : (session : ℕ) (entry : Entry) (turns : List Entry) → (actor_of entry == session) ≡ false → cond (is_turn entry && (actor_of entry == session)) (entry ∷ turns) turns ≡ turns
turn_none session entry turns other = ap (λ t. cond (is_turn entry && t) (entry ∷ turns) turns) other ∙ at (is_turn entry)
  where
    at : (t : Bool) → cond (t && false) (entry ∷ turns) turns ≡ turns
    at true = refl
    at false = refl

pub turns_others : (session : ℕ) (entries : List Entry) → entries_of session entries ≡ [] → turns_of session entries ≡ []
turns_others session [] none = refl
turns_others session (entry ∷ entries) none = at (actor_of entry == session) refl none (turns_others session entries)
  where
    at : (t : Bool) → (actor_of entry == session) ≡ t → cond t (entry ∷ entries_of session entries) (entries_of session entries) ≡ []
        → (entries_of session entries ≡ [] → turns_of session entries ≡ []) → turns_of session (entry ∷ entries) ≡ []
    at true is e rest = absurd (cc e)
    at false is e rest = turn_none session entry (turns_of session entries) is ∙ rest e

-- ---- the works of a turn

pub choice_turns : (made : Choice) (floor : ℕ) (book : Book) (w : Work) → choice_work made floor book ≡ Some w → IsTurnWork true w
choice_turns (Compress source) floor book w e = subst (IsTurnWork true) (same_Some _ _ e) (record { begins = refl; well = refl; closes = refl })
choice_turns Flush floor book w e = subst (IsTurnWork true) (same_Some _ _ e) (record { begins = refl; well = refl; closes = refl })
choice_turns (Rebuild source) floor book w e = subst (IsTurnWork true) (same_Some _ _ e) (record { begins = refl; well = refl; closes = refl })
choice_turns (Merge first second) floor book w e = subst (IsTurnWork true) (same_Some _ _ e) (record { begins = refl; well = refl; closes = refl })
choice_turns Settle floor book w e = subst (IsTurnWork true) (same_Some _ _ e) (record { begins = refl; well = refl; closes = refl })
choice_turns Clear floor book w e = subst (IsTurnWork true) (same_Some _ _ e) (record { begins = refl; well = refl; closes = refl })
choice_turns Idle floor book w e = absurd (none-some w e)

pub install_turns : (made : Choice) (claim : Claim) (w : Work) → install_work made claim ≡ Some w → IsTurnWork false w
install_turns (Compress source) claim w e = subst (IsTurnWork false) (same_Some _ _ e) (record { begins = refl; well = refl; closes = refl })
install_turns Flush claim w e = subst (IsTurnWork false) (same_Some _ _ e) (record { begins = refl; well = refl; closes = refl })
install_turns (Rebuild source) claim w e = subst (IsTurnWork false) (same_Some _ _ e) (record { begins = refl; well = refl; closes = refl })
install_turns (Merge first second) claim w e = subst (IsTurnWork false) (same_Some _ _ e) (record { begins = refl; well = refl; closes = refl })
install_turns Settle claim w e = absurd (none-some w e)
install_turns Clear claim w e = absurd (none-some w e)
install_turns Idle claim w e = absurd (none-some w e)

-- there is no work only of the choice Idle
pub no_work : (made : Choice) (floor : ℕ) (book : Book) → choice_work made floor book ≡ None → made ≡ Idle
no_work (Compress source) floor book e = absurd (none-some _ (sym e))
no_work Flush floor book e = absurd (none-some _ (sym e))
no_work (Rebuild source) floor book e = absurd (none-some _ (sym e))
no_work (Merge first second) floor book e = absurd (none-some _ (sym e))
no_work Settle floor book e = absurd (none-some _ (sym e))
no_work Clear floor book e = absurd (none-some _ (sym e))
no_work Idle floor book e = refl

-- a session's choice is neither a settle nor a clear
abbrev pub IsOfSession : Choice → Type 0
IsOfSession (Compress source) = Unit {0}
IsOfSession Flush = Unit {0}
IsOfSession (Rebuild source) = Unit {0}
IsOfSession (Merge first second) = Unit {0}
IsOfSession Settle = ⊥
IsOfSession Clear = ⊥
IsOfSession Idle = Unit {0}

drawn : (t : Bool) (made : Choice) → IsOfSession made → IsOfSession (cond t made Idle)
drawn true made is = is
drawn false made is = tt

pub session_chooses : (session next : ℕ) (made : Choice) → IsOfSession (allowed next (actor.Session session) made)
session_chooses session next (Compress source) = drawn _ (Compress source) tt
session_chooses session next Flush = tt
session_chooses session next (Rebuild source) = drawn _ (Rebuild source) tt
session_chooses session next (Merge first second) = drawn _ (Merge first second) tt
session_chooses session next Settle = tt
session_chooses session next Clear = tt
session_chooses session next Idle = tt
