-- What the calls of a core know of a REORGANIZE: which statement it is, which works its session may make, and the ledger that it is given.
use Rattle.std.proofs.Common.{◌≡◌, ◌∙◌, ℕ, List, [], ◌∷◌, ◌++◌, map, length, refl, sym, ap, subst, Bool, true, false, Option, None, Some, Result, Ok, Err}
use Rattle.std.specs.Prelude.{IfOk, IsSome, ◌==◌, ◌&&◌}
use Rattle.std.specs.List.{flat_map}
use Rattle.std.proofs.lemmas.Grind.{flat_map-append}
use Rattle.std.proofs.lemmas.List.{append-nil}
use Rattle.std.proofs.lemmas.Option.{none-some, same_Some}
use Rattle.std.proofs.lemmas.Simd.{map-map}
use Rattle.cs_base.specs.declared.memory.Memory.{Memory}
use Rattle.cs_model.specs.declared.entry.Bound.{Bound}
use Rattle.cs_model.specs.declared.entry.Bound.TheVariants as bound
use Rattle.cs_model.specs.declared.entry.Entry.{Entry}
use Rattle.cs_model.specs.declared.work.Actor.{Actor}
use Rattle.cs_model.specs.declared.work.Actor.TheVariants as actor
use Rattle.cs_model.specs.declared.work.Work.{Work}
use Rattle.cs_model.specs.declared.work.Work.TheVariants as work
use Rattle.cs_model.specs.Actors.{actor_of, is_turn}
use Rattle.cs_model.specs.Kinds.{is_of_table, is_write}
use Rattle.cs_model.specs.State.{State}
use Rattle.group_book.specs.Book as book
use Rattle.group_book.specs.Book.{Book}
use Rattle.group_book.specs.Book.Choice.{Compress, Flush, Rebuild, Merge, Settle, Clear, Idle}
use Rattle.group_book.specs.Choices.{choice_work, install_work, release_work}
use Rattle.group_log.specs.Counted.{IsBegunAt}
use Rattle.group_log.specs.Followed.{is_mover, Ground}
use Rattle.group_log.specs.Reorganizing.{begins_turn, work_by, works_of, MayMake, MayTurn, IsWorkBy}
use Rattle.group_log.specs.Reports.{line_of}
use Rattle.group_log.proofs.Counting.{begun_on}
use Rattle.group_view.specs.declared.claim.Claim.{Claim}
use Rattle.group_view.specs.declared.groups.GroupList.{GroupList}
use Rattle.group_view.specs.Books.{claim_of, book_of}
use Rattle.group_directory.specs.declared.ledger.Ledger.{Ledger}
use Rattle.group_directory.specs.Ledgers.{holders_of}
use Rattle.statement_core.specs.declared.movers.Turned.{Turned}
use Rattle.statement_core.specs.declared.movers.Turned.TheVariants as turned
use Rattle.statement_core.specs.Movers.{IsWorkOf}
use Rattle.statement_core.specs.Reorganizes.{reorganizes, IsLedgerOf, IsLedgerFor, HasLedger, MayBegin, MayEnd, MayClose}

-- ---- which statement it is

pub is_reorganize : (b : Bound) → IsSome (reorganizes b) → (all : Bool) × (b ≡ bound.Reorganize all)
is_reorganize bound.Begin some = absurd (cc some)
is_reorganize bound.Commit some = absurd (cc some)
is_reorganize bound.Rollback some = absurd (cc some)
is_reorganize bound.Nothing some = absurd (cc some)
is_reorganize (bound.Statistics on) some = absurd (cc some)
is_reorganize (bound.Insert plan) some = absurd (cc some)
is_reorganize (bound.Update plan) some = absurd (cc some)
is_reorganize (bound.Delete condition) some = absurd (cc some)
is_reorganize (bound.Select query) some = absurd (cc some)
is_reorganize bound.GroupReport some = absurd (cc some)
is_reorganize bound.SegmentReport some = absurd (cc some)
is_reorganize (bound.Reorganize all) some = (all, refl)
is_reorganize (bound.Refused refusal) some = absurd (cc some)

pub reorganize_writes : (b : Bound) → IsSome (reorganizes b) → is_write b ≡ false
reorganize_writes b some = let is = is_reorganize b some in ap is_write is.1

pub reorganize_of_table : (b : Bound) → IsSome (reorganizes b) → is_of_table b ≡ false
reorganize_of_table b some = let is = is_reorganize b some in ap is_of_table is.1

-- a statement of the table is none
pub table_other : (b : Bound) → is_of_table b ≡ true → reorganizes b ≡ None
table_other bound.Begin e = refl
table_other bound.Commit e = refl
table_other bound.Rollback e = refl
table_other bound.Nothing e = refl
table_other (bound.Statistics on) e = refl
table_other (bound.Insert plan) e = refl
table_other (bound.Update plan) e = refl
table_other (bound.Delete condition) e = refl
table_other (bound.Select query) e = refl
table_other bound.GroupReport e = refl
table_other bound.SegmentReport e = refl
table_other (bound.Reorganize all) e = absurd (cc e)
table_other (bound.Refused refusal) e = refl

-- ---- what its session may do

module _ (origin : Ground) (session : ℕ) (all : Bool) (start : Book) (from behind : List Entry) where
  abbrev May : Work → Type 0
  May w = MayMake origin session all start from behind w

  turn_do : (w : Work) → begins_turn w ≡ true → MayTurn origin session all start from behind → MayMake origin session all start from behind w
  turn_do (work.ClaimCompress source fresh) is may = may
  turn_do (work.InstallCompress source fresh rows) is may = absurd (cc is)
  turn_do (work.ReleaseCompress source fresh) is may = absurd (cc is)
  turn_do (work.ClaimRebuild source fresh) is may = may
  turn_do (work.InstallRebuild source fresh rows) is may = absurd (cc is)
  turn_do (work.ReleaseRebuild source fresh) is may = absurd (cc is)
  turn_do (work.ClaimMerge first second fresh) is may = may
  turn_do (work.InstallMerge first second fresh rows) is may = absurd (cc is)
  turn_do (work.ReleaseMerge first second fresh) is may = absurd (cc is)
  turn_do (work.ClaimFlush entries) is may = may
  turn_do (work.InstallFlush entries) is may = absurd (cc is)
  turn_do (work.ReleaseFlush entries) is may = absurd (cc is)
  turn_do (work.Settle ends) is may = may
  turn_do (work.Clear groups) is may = may
  turn_do (work.Close group) is may = absurd (cc is)
  turn_do work.Memory is may = may

  install_do : (made : book.Choice) (claim : book.Claim) (w : Work) → install_work made claim ≡ Some w → MayMake origin session all start from behind w
  install_do (Compress source) claim w is = subst May (same_Some _ w is) tt
  install_do Flush claim w is = subst May (same_Some _ w is) tt
  install_do (Rebuild source) claim w is = subst May (same_Some _ w is) tt
  install_do (Merge first second) claim w is = subst May (same_Some _ w is) tt
  install_do Settle claim w is = absurd (none-some w is)
  install_do Clear claim w is = absurd (none-some w is)
  install_do Idle claim w is = absurd (none-some w is)

  release_do : (made : book.Choice) (claim : book.Claim) (w : Work) → release_work made claim ≡ Some w → MayMake origin session all start from behind w
  release_do (Compress source) claim w is = subst May (same_Some _ w is) tt
  release_do Flush claim w is = subst May (same_Some _ w is) tt
  release_do (Rebuild source) claim w is = subst May (same_Some _ w is) tt
  release_do (Merge first second) claim w is = subst May (same_Some _ w is) tt
  release_do Settle claim w is = absurd (none-some w is)
  release_do Clear claim w is = absurd (none-some w is)
  release_do Idle claim w is = absurd (none-some w is)

-- the work of a choice begins a turn
choice_begins : (made : book.Choice) (floor : ℕ) (at : Book) (w : Work) → choice_work made floor at ≡ Some w → begins_turn w ≡ true
choice_begins (Compress source) floor at w is = ap begins_turn (sym (same_Some _ w is))
choice_begins Flush floor at w is = ap begins_turn (sym (same_Some _ w is))
choice_begins (Rebuild source) floor at w is = ap begins_turn (sym (same_Some _ w is))
choice_begins (Merge first second) floor at w is = ap begins_turn (sym (same_Some _ w is))
choice_begins Settle floor at w is = ap begins_turn (sym (same_Some _ w is))
choice_begins Clear floor at w is = ap begins_turn (sym (same_Some _ w is))
choice_begins Idle floor at w is = absurd (none-some w is)

-- so does the first event of a turn
pub first_begins : (made : book.Choice) (floor : ℕ) (at : Book) (given : Turned) (w : Work) → IsWorkOf made (choice_work made floor at) given (Some w) → begins_turn w ≡ true
first_begins made floor at (turned.Lent claim) w is = choice_begins made floor at w is.3
first_begins made floor at turned.Alone w is = choice_begins made floor at w is.2
first_begins made floor at turned.Short w is = ap begins_turn (same_Some w work.Memory is.1)
first_begins made floor at turned.Idle w is = absurd (none-some w (sym is.1))

pub begin_may : (origin : Ground) (log : List Entry) (by : Actor) (w : Work) → MayBegin origin log by → begins_turn w ≡ true → IsWorkBy origin log by w
begin_may origin log (actor.Session session) w may is = record { half = may.half; may = turn_do origin session may.half.all may.half.book _ _ w is may.may }
begin_may origin log (actor.Mover mover) w may is = tt

pub install_may : (origin : Ground) (log : List Entry) (by : Actor) (made : book.Choice) (claim : book.Claim) (w : Work) → MayEnd origin log by → install_work made claim ≡ Some w → IsWorkBy origin log by w
install_may origin log (actor.Session session) made claim w half is = record { half = half; may = install_do origin session half.all half.book _ _ made claim w is }
install_may origin log (actor.Mover mover) made claim w half is = tt

pub release_may : (origin : Ground) (log : List Entry) (by : Actor) (made : book.Choice) (claim : book.Claim) (w : Work) → MayEnd origin log by → release_work made claim ≡ Some w → IsWorkBy origin log by w
release_may origin log (actor.Session session) made claim w half is = record { half = half; may = release_do origin session half.all half.book _ _ made claim w is }
release_may origin log (actor.Mover mover) made claim w half is = tt

pub close_may : (origin : Ground) (log : List Entry) (by : Actor) (id : ℕ) → MayClose origin log by → IsWorkBy origin log by (work.Close id)
close_may origin log (actor.Session session) id may = record { half = may.half; may = (may.all, may.first) }
close_may origin log (actor.Mover mover) id may = absurd may

-- no mover closes the open store
pub closer : (origin : Ground) (log : List Entry) (by : Actor) → MayClose origin log by → is_mover by ≡ false
closer origin log (actor.Session session) may = refl
closer origin log (actor.Mover mover) may = absurd may

-- ---- ledgers

holders_held : (held : Actor × Claim) → holders_of held ≡ map (λ source. (source, held.0)) (claim_of held).sources
holders_held held = sym (map-map _ _ held.1.view.groups)

pub all_holders : (claims : List (Actor × Claim)) → flat_map holders_of claims ≡ flat_map (λ (claim : book.Claim). map (λ source. (source, claim.actor)) claim.sources) (map claim_of claims)
all_holders [] = refl
all_holders (held ∷ claims) = λ i. holders_held held i ++ all_holders claims i

-- what is told of a list of groups is the ledger of its book
pub ledger_found : (list : GroupList) (found : Result Ledger Memory) → IfOk found (λ (ledger : Ledger). ledger.lines ≡ map line_of (book_of list).groups) → IfOk found (λ (ledger : Ledger). ledger.buffered ≡ length (book_of list).buffer)
    → IfOk found (λ (ledger : Ledger). ledger.holders ≡ flat_map holders_of list.claims.items) → IfOk found (IsLedgerOf (book_of list))
ledger_found list (Ok ledger) lines buffered holders = record { lines = lines; buffered = buffered; holders = holders ∙ all_holders list.claims.items }
ledger_found list (Err e) lines buffered holders = tt

-- a ledger for the statement that has just begun is that of its Start
pub ledger_begun : (origin : Ground) (log : List Entry) (session : ℕ) (b : Bound) (m : State) (at : Book) (begun : IsBegunAt origin log session b m at) (found : Option Ledger) → works_of session begun.behind ≡ [] → IsLedgerFor at (reorganizes b) found
    → HasLedger origin log session (reorganizes b) found
ledger_begun origin log session bound.Begin m at begun found first is = is
ledger_begun origin log session bound.Commit m at begun found first is = is
ledger_begun origin log session bound.Rollback m at begun found first is = is
ledger_begun origin log session bound.Nothing m at begun found first is = is
ledger_begun origin log session (bound.Statistics on) m at begun found first is = is
ledger_begun origin log session (bound.Insert plan) m at begun found first is = is
ledger_begun origin log session (bound.Update plan) m at begun found first is = is
ledger_begun origin log session (bound.Delete condition) m at begun found first is = is
ledger_begun origin log session (bound.Select query) m at begun found first is = is
ledger_begun origin log session bound.GroupReport m at begun found first is = is
ledger_begun origin log session bound.SegmentReport m at begun found first is = is
ledger_begun origin log session (bound.Reorganize all) m at begun None first is = is
ledger_begun origin log session (bound.Reorganize all) m at begun (Some ledger) first is = record { half = record { all = all; state = m; book = at; begun = begun }; same = refl; first = first; of = is }
ledger_begun origin log session (bound.Refused refusal) m at begun found first is = is

-- ---- while others make entries

-- a session has no work more
works_on : (session : ℕ) (log : List Entry) (entry : Entry) → works_of session (entry ∷ []) ≡ [] → works_of session (log ++ entry ∷ []) ≡ works_of session log
works_on session log entry none = flat_map-append (work_by session) log (entry ∷ []) ∙ ap (λ works. works_of session log ++ works) none ∙ append-nil (works_of session log)

-- what a Start took is a ledger of a REORGANIZE that has done nothing yet
pub ledger_on : (origin : Ground) (log : List Entry) (entry : Entry) (session : ℕ) (asked : Option Bool) (found : Option Ledger) → (is_turn entry && (actor_of entry == session)) ≡ false → works_of session (entry ∷ []) ≡ []
    → HasLedger origin log session asked found → HasLedger origin (log ++ entry ∷ []) session asked found
ledger_on origin log entry session None found other none is = is
ledger_on origin log entry session (Some all) None other none is = is
ledger_on origin log entry session (Some all) (Some ledger) other none is = record {
  half = record {
    all = is.half.all;
    state = is.half.state;
    book = is.half.book;
    begun = begun_on origin log entry session (bound.Reorganize is.half.all) is.half.state is.half.book other is.half.begun;
  };
  same = is.same;
  first = works_on session is.half.begun.behind entry none ∙ is.first;
  of = is.of;
}
