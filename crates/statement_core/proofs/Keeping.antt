-- An event keeps what the core's type keeps.
use Rattle.std.proofs.Common.{◌≡◌, ℕ, ◌+◌, ◌^◌, ◌<◌, ◌≤◌, List, [], ◌∷◌, ◌++◌, map, length, refl, sym, ap, subst, ◌∙◌, arith, All, Contains, None, Some, true}
use Rattle.std.specs.declared.alloc.Global.{Global}
use Rattle.std.specs.declared.sync.Arc.{Arc}
use Rattle.std.proofs.lemmas.List.{length-append}
use Rattle.std.proofs.lemmas.List.Elements.{All-contains, All-nil, All-push}
use Rattle.cs_types.specs.declared.Schema.{Schema}
use Rattle.cs_types.specs.Schemas.{IsSchema}
use Rattle.cs_model.specs.declared.entry.Entry.{Entry}
use Rattle.cs_model.specs.Actors.{owed}
use Rattle.cs_model.specs.Changes.{Change}
use Rattle.cs_model.specs.Kinds.{is_of_table}
use Rattle.cs_model.specs.State.{State, Half, start, begin_of}
use Rattle.cs_model.specs.Steps.{Legal, IsStep}
use Rattle.cs_model.specs.Text.{IsPrintableEntry}
use Rattle.log_laws.specs.Laws.{AreDistinct, IsSound}
use Rattle.log_laws.specs.Started.{half_by}
use Rattle.log_laws.proofs.Beginnings.{may_begin}
use Rattle.log_laws.proofs.Numbers.{small}
use Rattle.log_laws.proofs.Room.{owed_first}
use Rattle.log_laws.proofs.Sound.{sound_from}
use Rattle.group_book.specs.Book.{Book, empty}
use Rattle.group_book.specs.Commits.{Sizes}
use Rattle.group_view.specs.Books.{claim_of}
use Rattle.group_log.specs.Counted.{IsCountedEntry}
use Rattle.group_log.specs.Followed.{ground_of, Followed, IsBookStep}
use Rattle.group_log.specs.Reorganizing.{IsReorganizedEntry}
use Rattle.group_log.proofs.Counting.{counted_on}
use Rattle.group_log.proofs.Follow.{follows_leads, followed_on}
use Rattle.group_log.proofs.Reorganizing.{reorganized_on}
use Rattle.group_directory.specs.Obstacles.{txn_in}
use Rattle.group_directory.specs.Stands.{Stands}
use Rattle.statement_core.specs.declared.core_state.CoreState.{CoreState}
use Rattle.statement_core.specs.declared.started.Outcome.{Outcome}
use Rattle.statement_core.specs.declared.started.Terms.{Terms}
use Rattle.statement_core.specs.Seats.{seat}
use Rattle.statement_core.specs.CoreState.{state_of, groups_of, claims_of, half_in, is_on, IsWithin, IsBare}
use Rattle.statement_core.specs.Fit.{IsFitting, IsReadyHalf, IsFitState}
use Rattle.statement_core.specs.NewTable.{IsNewTable}
use Rattle.statement_core.specs.Outcomes.{GivesOn}
use Rattle.statement_core.specs.Settled.{IsReadyAt}
use Rattle.statement_core.specs.Terms.{sizes_of, AreTermsOf}
use Rattle.statement_core.specs.Cores.{IsCore, IsDone}
use Rattle.statement_core.proofs.Bare.{bare_step}
use Rattle.statement_core.proofs.Stills.{sizes_as}

-- ---- what is known of a core

module _ (made : Terms) (held : CoreState) (log : List Entry) (cap : ℕ) (sessions : List ℕ) (i : IsCore made held log cap sessions) where
  pub core_legal : Legal (begin_of made.schema.value) log (state_of i.changes held)
  core_legal = follows_leads (ground_of made.schema.value (sizes_of made)) start (state_of i.changes held) empty (groups_of held) log i.followed

  pub core_sound : IsSound (state_of i.changes held)
  core_sound = let may = may_begin made.schema.value in sound_from (begin_of made.schema.value) start (state_of i.changes held) log core_legal may.sound

  pub within : (s : ℕ) → cap < 2 ^ 63 → Contains sessions s → IsWithin held s
  within s fits has =
      let n = small (begin_of made.schema.value) log (state_of i.changes held) core_legal in
      let long : length log ≤ cap = let r = i.room in omega (arith, r) in
      record {
        seat = All-contains (λ x. x < 65) sessions s i.numbers has;
        clock = let c = n.1 in omega (arith, c, long, fits);
        next = let c = n.0 in omega (arith, c, long, fits);
      }

  why_of : (s : ℕ) (half : Half) → (state_of i.changes held).half s ≡ Some half → half.short ≡ true → is_of_table half.bound ≡ true
  why_of s half is = let fit = i.fit in (subst (IsReadyHalf made.schema.value) is (fit.halves s)).1

  pub ready_at : (s : ℕ) (o : Outcome) → IsDone (begin_of made.schema.value) (sizes_of made) log s o → IsReadyAt (begin_of made.schema.value) i.changes held s o
  ready_at s o d =
      let shows = d.started (state_of i.changes held) core_legal in
      let sound = core_sound in
      record {
        stands = i.stands;
        schema = i.schema;
        bare = i.bare s;
        by_key = sound.by_key s;
        begun = d.begun;
        why = why_of s (half_by d.begun) shows.half;
        shows = shows;
        gives = subst (λ (sizes : Sizes). GivesOn sizes d.begun o) (sym i.sizes) d.gives;
        over = d.over;
      }

-- ---- one entry more

pub core_push : (made : Terms) (held after : CoreState) (log : List Entry) (cap new : ℕ) (sessions : List ℕ) (e : Entry) → (i : IsCore made held log cap sessions) → (later : List Change) → Stands after.directory later
    → after.directory.sizes ≡ held.directory.sizes → after.directory.schema ≡ held.directory.schema → IsStep (begin_of made.schema.value) (state_of i.changes held) e (state_of later after)
    → IsBookStep (ground_of made.schema.value (sizes_of made)) (state_of i.changes held) (groups_of held) e (state_of later after) (groups_of after)
    → IsFitState made.schema.value (state_of later after) → IsPrintableEntry made.schema.value e → IsCountedEntry (ground_of made.schema.value (sizes_of made)) log e
    → IsReorganizedEntry (ground_of made.schema.value (sizes_of made)) log e → length log + 1 + owed (log ++ e ∷ []) sessions + length (claims_of after) ≤ new → IsCore made after (log ++ e ∷ []) new sessions
core_push made held after log cap new sessions e i later stands sizes schema step moves fit prints counts works len = record {
  terms = i.terms;
  table = i.table;
  schema = ap (λ (s : Arc Schema Global). s.value) schema ∙ i.schema;
  sizes = ap sizes_as sizes ∙ i.sizes;
  changes = later;
  stands = stands;
  followed = followed_on (ground_of made.schema.value (sizes_of made)) log e (state_of i.changes held) (state_of later after) (groups_of held) (groups_of after) i.followed step moves;
  bare = bare_step (begin_of made.schema.value) (state_of i.changes held) e (state_of later after) step i.bare;
  fit = fit;
  room = let l = length-append log (e ∷ []) in omega (arith, l, len);
  numbers = i.numbers;
  few = i.few;
  distinct = i.distinct;
  printable = All-push (IsPrintableEntry made.schema.value) log e i.printable prints;
  counted = counted_on (ground_of made.schema.value (sizes_of made)) log e i.counted counts;
  reorganized = reorganized_on (ground_of made.schema.value (sizes_of made)) log e i.reorganized works;
}

-- the groups have moved without an entry
pub core_same : (made : Terms) (held after : CoreState) (log : List Entry) (cap new : ℕ) (sessions : List ℕ) → (i : IsCore made held log cap sessions) → Stands after.directory i.changes → after.directory.sizes ≡ held.directory.sizes
    → after.directory.schema ≡ held.directory.schema → state_of i.changes after ≡ state_of i.changes held → groups_of after ≡ groups_of held → length log + owed log sessions + length (claims_of after) ≤ new → IsCore made after log new sessions
core_same made held after log cap new sessions i stands sizes schema state groups len = record {
  terms = i.terms;
  table = i.table;
  schema = ap (λ (s : Arc Schema Global). s.value) schema ∙ i.schema;
  sizes = ap sizes_as sizes ∙ i.sizes;
  changes = i.changes;
  stands = stands;
  followed = subst (λ (m : State). Followed (ground_of made.schema.value (sizes_of made)) log m (groups_of after)) (sym state) (subst (Followed (ground_of made.schema.value (sizes_of made)) log (state_of i.changes held)) (sym groups) i.followed);
  bare = subst (λ (m : State). (session : ℕ) → IsBare (m.txns session)) (sym state) i.bare;
  fit = subst (IsFitState made.schema.value) (sym state) i.fit;
  room = len;
  numbers = i.numbers;
  few = i.few;
  distinct = i.distinct;
  printable = i.printable;
  counted = i.counted;
  reorganized = i.reorganized;
}

-- ---- a new core

fit_start : (schema : Schema) → IsFitState schema start
fit_start schema = record { changes = All-nil (λ (change : Change). IsFitting schema change.edit); txns = λ s. tt; halves = λ s. tt }

none_mapped : {X Y : Type 0} (f : X → Y) (xs : List X) → map f xs ≡ [] → xs ≡ []
none_mapped f [] is = refl
none_mapped f (x ∷ xs) is = absurd (cc is)

pub no_claims : (schema : Schema) (most least : ℕ) (held : CoreState) (made : Terms) → IsNewTable schema most least held.directory made → claims_of held ≡ []
no_claims schema most least held made n = none_mapped claim_of (claims_of held) (ap (λ (b : Book). b.claims) n.groups)

pub core_new : (schema : Schema) (most least : ℕ) (held : CoreState) (made : Terms) (cap : ℕ) (sessions : List ℕ) → IsNewTable schema most least held.directory made → IsSchema schema → AreTermsOf most least
    → ((s : ℕ) → seat held.halves s ≡ None) → ((s : ℕ) → seat held.settings s ≡ None) → 64 ≤ cap → All (λ s. s < 65) sessions → length sessions ≤ 64 → AreDistinct sessions → IsCore made held [] cap sessions
core_new schema most least held made cap sessions n table terms halves settings room numbers few distinct =
    let first : state_of [] held ≡ start = λ i. record {
      changes = [];
      clock = n.clock i;
      txns = λ s. txn_in (n.txns s i);
      half = λ s. half_in (halves s i);
      statistics = λ s. is_on (settings s i);
      next = n.next i;
    } in
    record {
      terms = subst (λ (a : ℕ). AreTermsOf a made.direct_rows) (sym n.group_rows) (subst (AreTermsOf most) (sym n.direct_rows) terms);
      table = subst IsSchema (sym n.schema) table;
      schema = n.same;
      sizes = n.sizes;
      changes = [];
      stands = n.stands;
      followed = (first, n.groups);
      bare = λ s. subst IsBare (sym (ap txn_in (n.txns s))) tt;
      fit = subst (IsFitState made.schema.value) (sym first) (fit_start made.schema.value);
      room = let o = owed_first sessions in let none = no_claims schema most least held made n in let e : length (claims_of held) ≡ 0 = ap length none in omega (arith, o, e, room, few);
      numbers = numbers;
      few = few;
      distinct = distinct;
      printable = All-nil (IsPrintableEntry made.schema.value);
      counted = tt;
      reorganized = tt;
    }
