-- Two books to which one log leads are alike: they have the same groups by id and state, the same claims by actor and kind, and the
-- same next id. What they may differ in is the order of packed versions.
use Rattle.std.proofs.Common.{◌≡◌, ℕ, ◌+◌, ◌≤◌, Bool, true, false, cond, List, [], ◌∷◌, ◌++◌, map, filter, length, not, Option, Some, None, is_some, refl, sym, ap, subst, ◌∙◌, arith}
use Rattle.std.specs.Prelude.{◌==◌, nat_lt, Contains}
use Rattle.std.specs.List.{list_any}
use Rattle.std.proofs.lemmas.Bool.Decides.{nat_tests}
use Rattle.std.proofs.lemmas.List.{length-append, length-map, map-append}
use Rattle.std.proofs.lemmas.List.Elements.{All-contains}
use Rattle.std.proofs.lemmas.Option.{none-some, same_Some}
use Rattle.cs_types.specs.declared.Key.{Key}
use Rattle.cs_model.specs.declared.entry.Entry.{Entry}
use Rattle.cs_model.specs.declared.entry.Entry.TheVariants as entry
use Rattle.cs_model.specs.declared.work.Actor.{Actor}
use Rattle.cs_model.specs.declared.work.Actor.TheVariants as actor
use Rattle.cs_model.specs.declared.work.Work.{Work}
use Rattle.cs_model.specs.declared.work.Work.TheVariants as work
use Rattle.cs_model.specs.Changes.{Edit, Change}
use Rattle.cs_model.specs.State as model
use Rattle.cs_model.specs.Steps.{IsStep}
use Rattle.log_laws.proofs.Logs.{step_one}
use Rattle.group_book.specs.Book.{Version, Content, Group, Choice, Claim, Book, opened_in, total, deleted, is_opened, is_tombstone}
use Rattle.group_book.specs.Book.Content.{Opened, Closed, Compressed, Invisible, Tombstone}
use Rattle.group_book.specs.Book.Choice.{Compress, Flush, Rebuild, Merge, Settle, Clear, Idle}
use Rattle.group_book.specs.Choices.{choice, after_choice, choice_work, install_work, release_work, id_in}
use Rattle.group_book.specs.Commits.{Sizes, ended_by, with_opened, after_ends, direct_parts, new_version, with_group, after_loads, store_of, with_version, stored, after_rest, after_commit, replaced_by, inserted_by}
use Rattle.group_book.specs.Invariant.{AreSourcesOf, makes_group, IsClaim, IsBookOf}
use Rattle.group_book.specs.Orders.{IsGroupReordered, IsReordered}
use Rattle.group_book.specs.States.{State, state_in, state_of}
use Rattle.group_book.specs.States.State.{Absent, IsOpen, IsClosed, IsCompressed, IsInvisible, IsTombstone}
use Rattle.group_book.specs.Turns.{is_id_of, is_claimed, is_fresh, is_none_left, same_actor, is_by, first_claim, claim_by, without_claim, without_fresh, replaced_group, with_compressed, flushed, settled, closed, made_of, after_claim, after_flush_claim, after_install, after_flush, after_work, after_release, after_clear, after_settle, after_close}
use Rattle.group_book.proofs.Orders.{content_cases}
use Rattle.group_book.proofs.Zips.{zip_map}
use Rattle.group_log.specs.Followed.{Ground, committed_edits, book_with, Commits, Works, IsBookStep, Follows, Followed}
use Rattle.group_log.specs.Followed.Works.{chosen, out_of_memory, installed, released, closed as closes}
use Rattle.group_log.specs.Grounds.{IsGround}
use Rattle.group_log.proofs.Claims.{claim_in}
use Rattle.group_log.proofs.Since.{IsSince, since_step, since_log}
use Rattle.reorganize_laws.specs.Deals.{Deal, deal_of}
use Rattle.reorganize_laws.proofs.Lists.{in_map, from_map, map_filter, map_changed, map_kept, any_map}

-- ---- what shows of a book

-- of a group its id and state, and how many rows the open store has
pub record Place : Type 0 where
  pub id : ℕ
  pub state : State
  pub rows : ℕ

abbrev pub place_of : Group → Place
place_of group = record { id = group.id; state = state_in group.content; rows = length (opened_in group.content) }

abbrev pub places : List Group → List Place
places groups = map place_of groups

abbrev pub deals : List Claim → List Deal
deals claims = map deal_of claims

-- the same shows of both books
pub record IsAlike (book other : Book) : Type 0 where
  pub places : places book.groups ≡ places other.groups
  pub deals : deals book.claims ≡ deals other.claims
  pub next : book.next ≡ other.next

pub alike_itself : (book : Book) → IsAlike book book
alike_itself book = record { places = refl; deals = refl; next = refl }

pub alike_back : (book other : Book) → IsAlike book other → IsAlike other book
alike_back book other a = record { places = sym a.places; deals = sym a.deals; next = sym a.next }

pub alike_through : (first second third : Book) → IsAlike first second → IsAlike second third → IsAlike first third
alike_through first second third a b = record { places = a.places ∙ b.places; deals = a.deals ∙ b.deals; next = a.next ∙ b.next }

abbrev place : ℕ → State → ℕ → Place
place id state rows = record { id = id; state = state; rows = rows }

place_is : (a b : ℕ) (s t : State) (m n : ℕ) → a ≡ b → s ≡ t → m ≡ n → place a s m ≡ place b t n
place_is a b s t m n e f g = ap (λ i. place i s m) e ∙ ap (λ u. place b u m) f ∙ ap (λ k. place b t k) g

-- ---- the order of packed versions

place_moved : (g h : Group) → IsGroupReordered g h → place_of g ≡ place_of h
place_moved g h r =
    let same = content_cases (λ c d. (state_in c ≡ state_in d) × (length (opened_in c) ≡ length (opened_in d))) (λ c. (refl, refl)) (λ xs ys p. (refl, refl)) g.content h.content r.1 in
    place_is g.id h.id (state_in g.content) (state_in h.content) (length (opened_in g.content)) (length (opened_in h.content)) (sym r.0) same.0 same.1

pub alike_reordered : (book other : Book) → IsReordered book other → IsAlike book other
alike_reordered book other r = record {
  places = zip_map IsGroupReordered place_of place_moved book.groups other.groups r.groups;
  deals = ap deals (sym r.claims);
  next = sym r.next;
}

-- ---- a commit

same_ends : (f : List Version → List Version) → ((versions : List Version) → length (f versions) ≡ length versions) → (id : ℕ) (content : Content)
    → place_of (record { id = id; content = with_opened f content }) ≡ place_of (record { id = id; content = content })
same_ends f same id (Opened versions) = place_is id id IsOpen IsOpen (length (f versions)) (length versions) refl refl (same versions)
same_ends f same id (Closed versions) = refl
same_ends f same id (Compressed versions) = refl
same_ends f same id Invisible = refl
same_ends f same id (Tombstone versions ends) = refl

alike_ends : (replaced : List Key) (c : ℕ) (book : Book) → IsAlike (after_ends replaced c book) book
alike_ends replaced c book = record {
  places = map_kept place_of (λ (g : Group). record g { content = with_opened (map (ended_by replaced c)) g.content }) (λ g. same_ends (map (ended_by replaced c)) (λ versions. length-map versions (ended_by replaced c)) g.id g.content) book.groups;
  deals = refl;
  next = refl;
}

-- a group with this content comes under the next id
grown_places : (content : Content) (a b : Book) → IsAlike a b → places (a.groups ++ record { id = a.next; content = content } ∷ []) ≡ places (b.groups ++ record { id = b.next; content = content } ∷ [])
grown_places content a b same =
    let last : ℕ → List Place = (λ n. place n (state_in content) (length (opened_in content)) ∷ []) in
    map-append place_of a.groups (record { id = a.next; content = content } ∷ [])
    ∙ ap (λ l. l ++ last a.next) same.places
    ∙ ap (λ n. places b.groups ++ last n) same.next
    ∙ sym (map-append place_of b.groups (record { id = b.next; content = content } ∷ []))

alike_group : (content : Content) (a b : Book) → IsAlike a b → IsAlike (with_group content a) (with_group content b)
alike_group content a b same = record { places = grown_places content a b same; deals = same.deals; next = ap (λ n. n + 1) same.next }

alike_loads : (c : ℕ) (parts : List (List Key)) (a b : Book) → IsAlike a b → IsAlike (after_loads c parts a) (after_loads c parts b)
alike_loads c [] a b same = same
alike_loads c (part ∷ parts) a b same =
    let content : Content = Compressed (map (new_version c) part) in alike_loads c parts (with_group content a) (with_group content b) (alike_group content a b same)

abbrev is_open : State → Bool
is_open Absent = false
is_open IsOpen = true
is_open IsClosed = false
is_open IsCompressed = false
is_open IsInvisible = false
is_open IsTombstone = false

open_shows : (content : Content) → is_opened content ≡ is_open (state_in content)
open_shows (Opened versions) = refl
open_shows (Closed versions) = refl
open_shows (Compressed versions) = refl
open_shows Invisible = refl
open_shows (Tombstone versions ends) = refl

-- the open store gets a row more, and is closed where it is full
abbrev state_filled : ℕ → State → ℕ → State
state_filled group_rows s n = cond (is_open s) (cond (nat_lt (n + 1) group_rows) IsOpen IsClosed) s

abbrev rows_filled : ℕ → State → ℕ → ℕ
rows_filled group_rows s n = cond (is_open s) (cond (nat_lt (n + 1) group_rows) (n + 1) 0) n

abbrev place_filled : ℕ → Place → Place
place_filled group_rows p = record { id = p.id; state = state_filled group_rows p.state p.rows; rows = rows_filled group_rows p.state p.rows }

store_shows : (id n : ℕ) (versions : List Version) → length versions ≡ n → (t : Bool)
    → place_of (record { id = id; content = cond t (Opened versions) (Closed versions) }) ≡ record { id = id; state = cond t IsOpen IsClosed; rows = cond t n 0 }
store_shows id n versions e true = place_is id id IsOpen IsOpen (length versions) n refl refl e
store_shows id n versions e false = refl

fill_shows : (group_rows : ℕ) (v : Version) (id : ℕ) (content : Content)
    → place_of (record { id = id; content = with_version group_rows v content }) ≡ place_filled group_rows (place_of (record { id = id; content = content }))
fill_shows group_rows v id (Opened versions) =
    let more : length (versions ++ v ∷ []) ≡ length versions + 1 = length-append versions (v ∷ []) in
    store_shows id (length versions + 1) (versions ++ v ∷ []) more (nat_lt (length (versions ++ v ∷ [])) group_rows)
    ∙ ap (λ n. place id (cond (nat_lt n group_rows) IsOpen IsClosed) (cond (nat_lt n group_rows) (length versions + 1) 0)) more
fill_shows group_rows v id (Closed versions) = refl
fill_shows group_rows v id (Compressed versions) = refl
fill_shows group_rows v id Invisible = refl
fill_shows group_rows v id (Tombstone versions ends) = refl

abbrev filled : ℕ → Version → Book → Book
filled group_rows v book = record book { groups = map (λ (g : Group). record g { content = with_version group_rows v g.content }) book.groups }

filled_places : (group_rows : ℕ) (v : Version) (gs : List Group) → places (map (λ (g : Group). record g { content = with_version group_rows v g.content }) gs) ≡ map (place_filled group_rows) (places gs)
filled_places group_rows v gs = map_changed place_of (λ (g : Group). record g { content = with_version group_rows v g.content }) (place_filled group_rows) (λ g. fill_shows group_rows v g.id g.content) gs

has_open : (a b : Book) → IsAlike a b → list_any (λ (g : Group). is_opened g.content) a.groups ≡ list_any (λ (g : Group). is_opened g.content) b.groups
has_open a b same =
    let test : Place → Bool = (λ p. is_open p.state) in
    any_map place_of (λ (g : Group). is_opened g.content) test (λ g. open_shows g.content) a.groups
    ∙ ap (list_any test) same.places
    ∙ sym (any_map place_of (λ (g : Group). is_opened g.content) test (λ g. open_shows g.content) b.groups)

alike_stored : (group_rows : ℕ) (v : Version) (a b : Book) → IsAlike a b → IsAlike (stored group_rows v a) (stored group_rows v b)
alike_stored group_rows v a b same = step (list_any (λ (g : Group). is_opened g.content) a.groups) (list_any (λ (g : Group). is_opened g.content) b.groups) (has_open a b same)
  where
    step : (s t : Bool) → s ≡ t → IsAlike (cond s (filled group_rows v a) (with_group (store_of group_rows (v ∷ [])) a)) (cond t (filled group_rows v b) (with_group (store_of group_rows (v ∷ [])) b))
    step true true e = record {
      places = filled_places group_rows v a.groups ∙ ap (map (place_filled group_rows)) same.places ∙ sym (filled_places group_rows v b.groups);
      deals = same.deals;
      next = same.next;
    }
    step true false e = cc
    step false true e = cc
    step false false e = alike_group (store_of group_rows (v ∷ [])) a b same

alike_rest : (group_rows c : ℕ) (keys : List Key) (a b : Book) → IsAlike a b → IsAlike (after_rest group_rows c keys a) (after_rest group_rows c keys b)
alike_rest group_rows c [] a b same = same
alike_rest group_rows c (key ∷ keys) a b same =
    let v : Version = new_version c key in alike_rest group_rows c keys (stored group_rows v a) (stored group_rows v b) (alike_stored group_rows v a b same)

alike_commit : (sizes : Sizes) (c : ℕ) (replaced inserted : List Key) (a b : Book) → IsAlike a b → IsAlike (after_commit sizes c replaced inserted a) (after_commit sizes c replaced inserted b)
alike_commit sizes c replaced inserted a b same =
    let parts : List (List Key) × List Key = direct_parts (length inserted) sizes inserted in
    let ended_a : Book = after_ends replaced c a in
    let ended_b : Book = after_ends replaced c b in
    let ended = alike_through ended_a b ended_b (alike_through ended_a a b (alike_ends replaced c a) same) (alike_back ended_b b (alike_ends replaced c b)) in
    alike_rest sizes.group_rows c parts.1 (after_loads c parts.0 ended_a) (after_loads c parts.0 ended_b) (alike_loads c parts.0 ended_a ended_b ended)

alike_commits : (sizes : Sizes) (m : model.State) (own : List Edit) (a b made_a made_b : Book) → IsAlike a b → Commits sizes m own a made_a → Commits sizes m own b made_b → IsAlike made_a made_b
alike_commits sizes m [] a b made_a made_b same x y = subst (λ z. IsAlike z made_b) (sym x) (subst (IsAlike a) (sym y) same)
alike_commits sizes m (edit ∷ own) a b made_a made_b same x y =
    let all : List Edit = edit ∷ own in
    let after_a : Book = book_with sizes m all a in
    let after_b : Book = book_with sizes m all b in
    let between = alike_commit sizes (m.clock + 1) (replaced_by m.changes m.clock all) (inserted_by all) a b same in
    alike_through made_a after_a made_b (alike_back after_a made_a (alike_reordered after_a made_a x.0)) (alike_through after_a after_b made_b between (alike_reordered after_b made_b y.0))

-- ---- what a work makes of the book, as far as it shows

abbrev result_replaced : List ℕ → ℕ → ℕ → Actor → Book → Book
result_replaced sources fresh rows by book = record book {
  groups = map (replaced_group sources (Some fresh) []) (cond (rows == 0) (without_fresh (Some fresh) book.groups) book.groups);
  claims = without_claim by book.claims;
}

abbrev result_released : ℕ → Actor → Book → Book
result_released fresh by book = record book { groups = without_fresh (Some fresh) book.groups; claims = without_claim by book.claims }

abbrev result_unclaimed : Actor → Book → Book
result_unclaimed by book = record book { claims = without_claim by book.claims }

abbrev result : Work → Actor → Book → Book
result (work.ClaimCompress source fresh) by book = after_claim by (Compress source) (source ∷ []) 0 book
result (work.InstallCompress source fresh rows) by book = result_replaced (source ∷ []) fresh rows by book
result (work.ReleaseCompress source fresh) by book = result_released fresh by book
result (work.ClaimRebuild source fresh) by book = after_claim by (Rebuild source) (source ∷ []) 0 book
result (work.InstallRebuild source fresh rows) by book = result_replaced (source ∷ []) fresh rows by book
result (work.ReleaseRebuild source fresh) by book = result_released fresh by book
result (work.ClaimMerge first second fresh) by book = after_claim by (Merge first second) (first ∷ second ∷ []) 0 book
result (work.InstallMerge first second fresh rows) by book = result_replaced (first ∷ second ∷ []) fresh rows by book
result (work.ReleaseMerge first second fresh) by book = result_released fresh by book
result (work.ClaimFlush entries) by book = after_flush_claim by [] 0 book
result (work.InstallFlush entries) by book = result_unclaimed by book
result (work.ReleaseFlush entries) by book = result_unclaimed by book
result (work.Settle ends) by book = book
result (work.Clear groups) by book = after_clear book
result (work.Close group) by book = after_close book
result work.Memory by book = book

-- ---- it is the same of both

alike_claim : (by : Actor) (choice : Choice) (sources : List ℕ) (a b : Book) → IsAlike a b → IsAlike (after_claim by choice sources 0 a) (after_claim by choice sources 0 b)
alike_claim by choice sources a b same =
    let deal : ℕ → Deal = (λ n. record { actor = by; choice = choice; fresh = Some n }) in
    record { places = grown_places Invisible a b same; deals = ap (λ n. deal n ∷ deals a.claims) same.next ∙ ap (λ l. deal b.next ∷ l) same.deals; next = ap (λ n. n + 1) same.next }

unclaimed_deals : (by : Actor) (claims : List Claim) → deals (without_claim by claims) ≡ filter (λ (d : Deal). not (same_actor d.actor by)) (deals claims)
unclaimed_deals by claims = map_filter deal_of (λ claim. not (is_by by claim)) (λ (d : Deal). not (same_actor d.actor by)) (λ claim. refl) claims

alike_unclaimed : (by : Actor) (a b : Book) → IsAlike a b → deals (without_claim by a.claims) ≡ deals (without_claim by b.claims)
alike_unclaimed by a b same = unclaimed_deals by a.claims ∙ ap (filter (λ (d : Deal). not (same_actor d.actor by))) same.deals ∙ sym (unclaimed_deals by b.claims)

kept_places : (fresh : ℕ) (gs : List Group) → places (without_fresh (Some fresh) gs) ≡ filter (λ (p : Place). not (p.id == fresh)) (places gs)
kept_places fresh gs = map_filter place_of (λ g. not (is_fresh (Some fresh) g)) (λ (p : Place). not (p.id == fresh)) (λ g. refl) gs

alike_kept : (fresh : ℕ) (gs hs : List Group) → places gs ≡ places hs → places (without_fresh (Some fresh) gs) ≡ places (without_fresh (Some fresh) hs)
alike_kept fresh gs hs same = kept_places fresh gs ∙ ap (filter (λ (p : Place). not (p.id == fresh))) same ∙ sym (kept_places fresh hs)

-- a source is a tombstone, and the new group is packed
abbrev place_replaced : List ℕ → Option ℕ → Place → Place
place_replaced sources fresh p = record {
  id = p.id;
  state = cond (list_any (λ id. id == p.id) sources) IsTombstone (cond (is_fresh fresh (record { id = p.id; content = Invisible })) IsCompressed p.state);
  rows = cond (list_any (λ id. id == p.id) sources) 0 (cond (is_fresh fresh (record { id = p.id; content = Invisible })) 0 p.rows);
}

same_fresh_id : (fresh : Option ℕ) (g : Group) → is_fresh fresh g ≡ is_fresh fresh (record { id = g.id; content = Invisible })
same_fresh_id None g = refl
same_fresh_id (Some id) g = refl

replaced_shows : (sources : List ℕ) (fresh : Option ℕ) (versions : List Version) (g : Group) → place_of (replaced_group sources fresh versions g) ≡ place_replaced sources fresh (place_of g)
replaced_shows sources fresh versions g = step (is_id_of sources g) (is_fresh fresh g) (is_fresh fresh (record { id = g.id; content = Invisible })) (same_fresh_id fresh g)
  where
    step : (s t u : Bool) → t ≡ u → place_of (record { id = g.id; content = cond s (Tombstone (total g.content) (deleted g.content)) (cond t (Compressed versions) g.content) })
        ≡ record { id = g.id; state = cond s IsTombstone (cond u IsCompressed (state_in g.content)); rows = cond s 0 (cond u 0 (length (opened_in g.content))) }
    step true t u e = refl
    step false true true e = refl
    step false true false e = cc
    step false false true e = cc
    step false false false e = refl

replaced_places : (sources : List ℕ) (fresh : Option ℕ) (versions : List Version) (gs : List Group) → places (map (replaced_group sources fresh versions) gs) ≡ map (place_replaced sources fresh) (places gs)
replaced_places sources fresh versions gs = map_changed place_of (replaced_group sources fresh versions) (place_replaced sources fresh) (replaced_shows sources fresh versions) gs

alike_replaced : (sources : List ℕ) (fresh rows : ℕ) (by : Actor) (a b : Book) → IsAlike a b → IsAlike (result_replaced sources fresh rows by a) (result_replaced sources fresh rows by b)
alike_replaced sources fresh rows by a b same = record { places = step (rows == 0); deals = alike_unclaimed by a b same; next = same.next }
  where
    both : (gs hs : List Group) → places gs ≡ places hs → places (map (replaced_group sources (Some fresh) []) gs) ≡ places (map (replaced_group sources (Some fresh) []) hs)
    both gs hs e = replaced_places sources (Some fresh) [] gs ∙ ap (map (place_replaced sources (Some fresh))) e ∙ sym (replaced_places sources (Some fresh) [] hs)

    step : (t : Bool) → places (map (replaced_group sources (Some fresh) []) (cond t (without_fresh (Some fresh) a.groups) a.groups)) ≡ places (map (replaced_group sources (Some fresh) []) (cond t (without_fresh (Some fresh) b.groups) b.groups))
    step true = both (without_fresh (Some fresh) a.groups) (without_fresh (Some fresh) b.groups) (alike_kept fresh a.groups b.groups same.places)
    step false = both a.groups b.groups same.places

alike_released : (fresh : ℕ) (by : Actor) (a b : Book) → IsAlike a b → IsAlike (result_released fresh by a) (result_released fresh by b)
alike_released fresh by a b same = record { places = alike_kept fresh a.groups b.groups same.places; deals = alike_unclaimed by a b same; next = same.next }

abbrev is_gone : State → Bool
is_gone Absent = false
is_gone IsOpen = false
is_gone IsClosed = false
is_gone IsCompressed = false
is_gone IsInvisible = false
is_gone IsTombstone = true

gone_shows : (content : Content) → is_tombstone content ≡ is_gone (state_in content)
gone_shows (Opened versions) = refl
gone_shows (Closed versions) = refl
gone_shows (Compressed versions) = refl
gone_shows Invisible = refl
gone_shows (Tombstone versions ends) = refl

cleared_places : (gs : List Group) → places (filter (λ (g : Group). not (is_tombstone g.content)) gs) ≡ filter (λ (p : Place). not (is_gone p.state)) (places gs)
cleared_places gs = map_filter place_of (λ (g : Group). not (is_tombstone g.content)) (λ (p : Place). not (is_gone p.state)) (λ g. ap not (gone_shows g.content)) gs

alike_clear : (a b : Book) → IsAlike a b → IsAlike (after_clear a) (after_clear b)
alike_clear a b same = record { places = cleared_places a.groups ∙ ap (filter (λ (p : Place). not (is_gone p.state))) same.places ∙ sym (cleared_places b.groups); deals = same.deals; next = same.next }

abbrev place_closed : Place → Place
place_closed p = record { id = p.id; state = cond (is_open p.state) IsClosed p.state; rows = cond (is_open p.state) 0 p.rows }

close_shows : (id : ℕ) (content : Content) → place_of (record { id = id; content = closed content }) ≡ place_closed (place_of (record { id = id; content = content }))
close_shows id (Opened versions) = refl
close_shows id (Closed versions) = refl
close_shows id (Compressed versions) = refl
close_shows id Invisible = refl
close_shows id (Tombstone versions ends) = refl

closed_places : (gs : List Group) → places (map (λ (g : Group). record g { content = closed g.content }) gs) ≡ map place_closed (places gs)
closed_places gs = map_changed place_of (λ (g : Group). record g { content = closed g.content }) place_closed (λ g. close_shows g.id g.content) gs

alike_close : (a b : Book) → IsAlike a b → IsAlike (after_close a) (after_close b)
alike_close a b same = record { places = closed_places a.groups ∙ ap (map place_closed) same.places ∙ sym (closed_places b.groups); deals = same.deals; next = same.next }

alike_result : (w : Work) (by : Actor) (a b : Book) → IsAlike a b → IsAlike (result w by a) (result w by b)
alike_result (work.ClaimCompress source fresh) by a b same = alike_claim by (Compress source) (source ∷ []) a b same
alike_result (work.InstallCompress source fresh rows) by a b same = alike_replaced (source ∷ []) fresh rows by a b same
alike_result (work.ReleaseCompress source fresh) by a b same = alike_released fresh by a b same
alike_result (work.ClaimRebuild source fresh) by a b same = alike_claim by (Rebuild source) (source ∷ []) a b same
alike_result (work.InstallRebuild source fresh rows) by a b same = alike_replaced (source ∷ []) fresh rows by a b same
alike_result (work.ReleaseRebuild source fresh) by a b same = alike_released fresh by a b same
alike_result (work.ClaimMerge first second fresh) by a b same = alike_claim by (Merge first second) (first ∷ second ∷ []) a b same
alike_result (work.InstallMerge first second fresh rows) by a b same = alike_replaced (first ∷ second ∷ []) fresh rows by a b same
alike_result (work.ReleaseMerge first second fresh) by a b same = alike_released fresh by a b same
alike_result (work.ClaimFlush entries) by a b same = record { places = same.places; deals = ap (λ l. record { actor = by; choice = Flush; fresh = None } ∷ l) same.deals; next = same.next }
alike_result (work.InstallFlush entries) by a b same = record { places = same.places; deals = alike_unclaimed by a b same; next = same.next }
alike_result (work.ReleaseFlush entries) by a b same = record { places = same.places; deals = alike_unclaimed by a b same; next = same.next }
alike_result (work.Settle ends) by a b same = same
alike_result (work.Clear groups) by a b same = alike_clear a b same
alike_result (work.Close group) by a b same = alike_close a b same
alike_result work.Memory by a b same = same

-- ---- the book after a work shows it

-- where packed versions alone change
packed_shows : (f : List Version → List Version) (id : ℕ) (content : Content) (t : Bool) → place_of (record { id = id; content = cond t content (with_compressed f content) }) ≡ place_of (record { id = id; content = content })
packed_shows f id content true = refl
packed_shows f id (Opened versions) false = refl
packed_shows f id (Closed versions) false = refl
packed_shows f id (Compressed versions) false = refl
packed_shows f id Invisible false = refl
packed_shows f id (Tombstone versions ends) false = refl

packed_shows_if : (f : List Version → List Version) (id : ℕ) (content : Content) (t : Bool) → place_of (record { id = id; content = cond t (with_compressed f content) content }) ≡ place_of (record { id = id; content = content })
packed_shows_if f id content false = refl
packed_shows_if f id (Opened versions) true = refl
packed_shows_if f id (Closed versions) true = refl
packed_shows_if f id (Compressed versions) true = refl
packed_shows_if f id Invisible true = refl
packed_shows_if f id (Tombstone versions ends) true = refl

settle_shows : (at : ℕ) (book : Book) → IsAlike book (after_settle at book)
settle_shows at book = record {
  places = sym (map_kept place_of (λ (g : Group). record g { content = cond (is_claimed book.claims g) g.content (with_compressed (map (settled at)) g.content) }) (λ g. packed_shows (map (settled at)) g.id g.content (is_claimed book.claims g)) book.groups);
  deals = refl;
  next = refl;
}

-- what a turn chose
chosen_shows : (turn : Choice) (at : ℕ) (by : Actor) (book : Book) (w : Work) → choice_work turn at book ≡ Some w → IsAlike (result w by book) (after_choice turn at by book)
chosen_shows (Compress source) at by book w is = subst (λ w. IsAlike (result w by book) (after_choice (Compress source) at by book)) (same_Some _ w is) (record { places = refl; deals = refl; next = refl })
chosen_shows Flush at by book w is = subst (λ w. IsAlike (result w by book) (after_choice Flush at by book)) (same_Some _ w is) (record { places = refl; deals = refl; next = refl })
chosen_shows (Rebuild source) at by book w is = subst (λ w. IsAlike (result w by book) (after_choice (Rebuild source) at by book)) (same_Some _ w is) (record { places = refl; deals = refl; next = refl })
chosen_shows (Merge first second) at by book w is = subst (λ w. IsAlike (result w by book) (after_choice (Merge first second) at by book)) (same_Some _ w is) (record { places = refl; deals = refl; next = refl })
chosen_shows Settle at by book w is = subst (λ w. IsAlike (result w by book) (after_choice Settle at by book)) (same_Some _ w is) (settle_shows at book)
chosen_shows Clear at by book w is = subst (λ w. IsAlike (result w by book) (after_choice Clear at by book)) (same_Some _ w is) (alike_itself (after_clear book))
chosen_shows Idle at by book w is = absurd (none-some w is)

-- an install of one group
none_left : (versions : List Version) → (length versions == 0) ≡ is_none_left versions
none_left [] = refl
none_left (v ∷ versions) = let some : 1 ≤ length (v ∷ versions) = omega arith in let e : (length (v ∷ versions) == 0) ≡ false = grind (arith, nat_tests) in e

install_shows : (sources : List ℕ) (fresh : ℕ) (by : Actor) (claim : Claim) (book : Book) → claim.sources ≡ sources → claim.fresh ≡ Some fresh → claim.actor ≡ by
    → IsAlike (result_replaced sources fresh (length (made_of claim)) by book) (after_install claim book)
install_shows sources fresh by claim book s f a = record {
  places = replaced_places sources (Some fresh) [] _
      ∙ ap (λ t. map (place_replaced sources (Some fresh)) (places (cond t (without_fresh (Some fresh) book.groups) book.groups))) (none_left (made_of claim))
      ∙ ap (λ o. map (place_replaced sources o) (places (cond (is_none_left (made_of claim)) (without_fresh o book.groups) book.groups))) (sym f)
      ∙ ap (λ l. map (place_replaced l claim.fresh) (places (cond (is_none_left (made_of claim)) (without_fresh claim.fresh book.groups) book.groups))) (sym s)
      ∙ sym (replaced_places claim.sources claim.fresh (made_of claim) (cond (is_none_left (made_of claim)) (without_fresh claim.fresh book.groups) book.groups));
  deals = ap (λ x. deals (without_claim x book.claims)) (sym a);
  next = refl;
}

flush_shows : (by : Actor) (claim : Claim) (book : Book) → claim.actor ≡ by → IsAlike (result_unclaimed by book) (after_flush claim book)
flush_shows by claim book a = record {
  places = sym (map_kept place_of (λ (g : Group). record g { content = cond (is_id_of claim.sources g) (with_compressed (map (flushed book.buffer claim.entries)) g.content) g.content })
      (λ g. packed_shows_if (map (flushed book.buffer claim.entries)) g.id g.content (is_id_of claim.sources g)) book.groups);
  deals = ap (λ x. deals (without_claim x book.claims)) (sym a);
  next = refl;
}

release_shows : (fresh : ℕ) (by : Actor) (claim : Claim) (book : Book) → claim.fresh ≡ Some fresh → claim.actor ≡ by → IsAlike (result_released fresh by book) (after_release claim book)
release_shows fresh by claim book f a = record {
  places = ap (λ o. places (without_fresh o book.groups)) (sym f);
  deals = ap (λ x. deals (without_claim x book.claims)) (sym a);
  next = refl;
}

every_group : (gs : List Group) → without_fresh None gs ≡ gs
every_group [] = refl
every_group (g ∷ gs) = ap (λ l. g ∷ l) (every_group gs)

unflush_shows : (by : Actor) (claim : Claim) (book : Book) → claim.fresh ≡ None → claim.actor ≡ by → IsAlike (result_unclaimed by book) (after_release claim book)
unflush_shows by claim book f a = record {
  places = ap places (sym (every_group book.groups)) ∙ ap (λ o. places (without_fresh o book.groups)) (sym f);
  deals = ap (λ x. deals (without_claim x book.claims)) (sym a);
  next = refl;
}

-- ---- the claim that an actor holds

pub by_passes : (p : Claim → Bool) (claims : List Claim) (claim : Claim) → first_claim (filter p claims) ≡ Some claim → p claim ≡ true
by_passes p [] claim e = absurd (none-some claim e)
by_passes p (x ∷ xs) claim e = step (p x) refl e (by_passes p xs claim)
  where
    step : (t : Bool) → p x ≡ t → first_claim (cond t (x ∷ filter p xs) (filter p xs)) ≡ Some claim → (first_claim (filter p xs) ≡ Some claim → p claim ≡ true) → p claim ≡ true
    step true is e rest = subst (λ y. p y ≡ true) (same_Some x claim e) is
    step false is e rest = rest e

pub one_actor : (a b : Actor) → same_actor a b ≡ true → a ≡ b
one_actor (actor.Session m) (actor.Session n) is = let e : m ≡ n = grind (arith, nat_tests) in ap actor.Session e
one_actor (actor.Session m) (actor.Mover n) is = cc
one_actor (actor.Mover m) (actor.Session n) is = cc
one_actor (actor.Mover m) (actor.Mover n) is = let e : m ≡ n = grind (arith, nat_tests) in ap actor.Mover e

pub same_itself : (a : Actor) → same_actor a a ≡ true
same_itself (actor.Session n) = let e : (n == n) ≡ true = grind (arith, nat_tests) in e
same_itself (actor.Mover n) = let e : (n == n) ≡ true = grind (arith, nat_tests) in e

pub holder_is : (by : Actor) (book : Book) (claim : Claim) → claim_by by book ≡ Some claim → claim.actor ≡ by
holder_is by book claim e = one_actor claim.actor by (by_passes (is_by by) book.claims claim e)

fresh_is : (o : Option ℕ) → is_some o ≡ true → o ≡ Some (id_in o)
fresh_is None is = cc
fresh_is (Some id) is = refl

no_fresh : (o : Option ℕ) → is_some o ≡ false → o ≡ None
no_fresh None is = refl
no_fresh (Some id) is = cc

module _ (group_rows : ℕ) (book : Book) (changes : List Change) (floor : ℕ) (by : Actor) (claim : Claim) (a : claim.actor ≡ by) (c : IsClaim group_rows book changes floor claim) where
  sources_are : (choice : Choice) → claim.choice ≡ choice → AreSourcesOf choice claim.sources
  sources_are choice e = subst (λ x. AreSourcesOf x claim.sources) e c.kind

  makes : (choice : Choice) → claim.choice ≡ choice → makes_group choice ≡ true → claim.fresh ≡ Some (id_in claim.fresh)
  makes choice e is = fresh_is claim.fresh (c.makes ∙ ap makes_group e ∙ is)

  install_is : (choice : Choice) → claim.choice ≡ choice → (w : Work) → install_work choice claim ≡ Some w → IsAlike (result w by book) (after_work choice claim book)
  install_is (Compress source) e w is = subst (λ w. IsAlike (result w by book) (after_install claim book)) (same_Some _ w is) (install_shows (source ∷ []) (id_in claim.fresh) by claim book (sources_are (Compress source) e) (makes (Compress source) e refl) a)
  install_is Flush e w is = subst (λ w. IsAlike (result w by book) (after_flush claim book)) (same_Some _ w is) (flush_shows by claim book a)
  install_is (Rebuild source) e w is = subst (λ w. IsAlike (result w by book) (after_install claim book)) (same_Some _ w is) (install_shows (source ∷ []) (id_in claim.fresh) by claim book (sources_are (Rebuild source) e) (makes (Rebuild source) e refl) a)
  install_is (Merge first second) e w is =
      subst (λ w. IsAlike (result w by book) (after_install claim book)) (same_Some _ w is) (install_shows (first ∷ second ∷ []) (id_in claim.fresh) by claim book (sources_are (Merge first second) e) (makes (Merge first second) e refl) a)
  install_is Settle e w is = absurd (none-some w is)
  install_is Clear e w is = absurd (none-some w is)
  install_is Idle e w is = absurd (none-some w is)

  release_is : (choice : Choice) → claim.choice ≡ choice → (w : Work) → release_work choice claim ≡ Some w → IsAlike (result w by book) (after_release claim book)
  release_is (Compress source) e w is = subst (λ w. IsAlike (result w by book) (after_release claim book)) (same_Some _ w is) (release_shows (id_in claim.fresh) by claim book (makes (Compress source) e refl) a)
  release_is Flush e w is = subst (λ w. IsAlike (result w by book) (after_release claim book)) (same_Some _ w is) (unflush_shows by claim book (no_fresh claim.fresh (c.makes ∙ ap makes_group e)) a)
  release_is (Rebuild source) e w is = subst (λ w. IsAlike (result w by book) (after_release claim book)) (same_Some _ w is) (release_shows (id_in claim.fresh) by claim book (makes (Rebuild source) e refl) a)
  release_is (Merge first second) e w is = subst (λ w. IsAlike (result w by book) (after_release claim book)) (same_Some _ w is) (release_shows (id_in claim.fresh) by claim book (makes (Merge first second) e refl) a)
  release_is Settle e w is = absurd (none-some w is)
  release_is Clear e w is = absurd (none-some w is)
  release_is Idle e w is = absurd (none-some w is)

pub claim_of_book : (group_rows : ℕ) (book : Book) (changes : List Change) (floor : ℕ) (claim : Claim) → Contains book.claims claim → IsBookOf group_rows book changes floor → IsClaim group_rows book changes floor claim
claim_of_book group_rows book changes floor claim in_claims j = All-contains (IsClaim group_rows book changes floor) book.claims claim j.claims.each in_claims

works_show : (sizes : Sizes) (at : ℕ) (by : Actor) (book : Book) (changes : List Change) (floor : ℕ) (w : Work) (made : Book) → IsBookOf sizes.group_rows book changes floor → Works sizes at by book w made
    → IsAlike (result w by book) made
works_show sizes at by book changes floor w made j (chosen none is) = chosen_shows (choice at sizes.group_rows by book) at by book w is
works_show sizes at by book changes floor w made j (out_of_memory none is) = alike_itself book
works_show sizes at by book changes floor w made j (installed claim holds is moved) =
    let c = claim_of_book sizes.group_rows book changes floor claim (claim_in by book claim holds) j in
    let done : Book = after_work claim.choice claim book in
    alike_through (result w by book) done made (install_is sizes.group_rows book changes floor by claim (holder_is by book claim holds) c claim.choice refl w is) (alike_reordered done made moved)
works_show sizes at by book changes floor w made j (released claim holds is) =
    let c = claim_of_book sizes.group_rows book changes floor claim (claim_in by book claim holds) j in
    release_is sizes.group_rows book changes floor by claim (holder_is by book claim holds) c claim.choice refl w is
works_show sizes at by book changes floor w made j (closes session none is) = alike_itself (after_close book)

-- ---- along a log

module _ (origin : Ground) where
  alike_step : (m after : model.State) (e : Entry) (a b made_a made_b : Book) → IsSince origin.begin origin.sizes.group_rows m a → IsSince origin.begin origin.sizes.group_rows m b → IsAlike a b
      → IsBookStep origin m a e after made_a → IsBookStep origin m b e after made_b → IsAlike made_a made_b
  alike_step m after (entry.Start session bound short) a b made_a made_b since_a since_b same x y = subst (λ z. IsAlike z made_b) (sym x) (subst (IsAlike a) (sym y) same)
  alike_step m after (entry.Finish session r) a b made_a made_b since_a since_b same x y = alike_commits origin.sizes m (committed_edits m after) a b made_a made_b same x.commits y.commits
  alike_step m after (entry.End session) a b made_a made_b since_a since_b same x y = subst (λ z. IsAlike z made_b) (sym x) (subst (IsAlike a) (sym y) same)
  alike_step m after (entry.Mover by w) a b made_a made_b since_a since_b same x y =
      let shows_a = works_show origin.sizes x.0 by a m.changes since_a.floor w made_a since_a.stands x.2 in
      let shows_b = works_show origin.sizes y.0 by b m.changes since_b.floor w made_b since_b.stands y.2 in
      alike_through made_a (result w by a) made_b (alike_back (result w by a) made_a shows_a) (alike_through (result w by a) (result w by b) made_b (alike_result w by a b same) shows_b)

  alike_along : 1 ≤ origin.sizes.group_rows → 1 ≤ origin.sizes.direct_rows → (es : List Entry) (m after later : model.State) (a b made_a made_b : Book) → IsSince origin.begin origin.sizes.group_rows m a
      → IsSince origin.begin origin.sizes.group_rows m b → IsAlike a b → Follows origin m a es after made_a → Follows origin m b es later made_b → IsAlike made_a made_b
  alike_along room some [] m after later a b made_a made_b since_a since_b same x y = subst (λ z. IsAlike z made_b) (sym x.1) (subst (IsAlike a) (sym y.1) same)
  alike_along room some (e ∷ es) m after later a b made_a made_b since_a since_b same x y =
      let one : y.0 ≡ x.0 = step_one origin.begin m e y.0 x.0 y.2 x.2 in
      let step_b : IsStep origin.begin m e x.0 = x.2 in
      let moves_b : IsBookStep origin m b e x.0 y.1 = subst (λ z. IsBookStep origin m b e z y.1) one y.3 in
      let rest_b : Follows origin x.0 y.1 es later made_b = subst (λ z. Follows origin z y.1 es later made_b) one y.4 in
      alike_along room some es x.0 after later x.1 y.1 made_a made_b (since_step origin m x.0 e a x.1 room some since_a x.2 x.3) (since_step origin m x.0 e b y.1 room some since_b step_b moves_b)
      (alike_step m x.0 e a b x.1 y.1 since_a since_b same x.3 moves_b) x.4 rest_b

  -- two books to which one log leads are alike
  pub one_log : (log : List Entry) (m n : model.State) (a b : Book) → IsGround origin → Followed origin log m a → Followed origin log n b → IsAlike a b
  one_log log m n a b g x y =
      let since = since_log origin [] origin.begin.state origin.book g (refl, refl) in
      alike_along g.group_rows g.direct_rows log origin.begin.state m n origin.book origin.book a b since since (alike_itself origin.book) x y

-- ---- what is the same of books that are alike

abbrev state_at : List Place → ℕ → State
state_at [] id = Absent
state_at (p ∷ ps) id = cond (p.id == id) p.state (state_at ps id)

state_shows : (gs : List Group) (id : ℕ) → state_of gs id ≡ state_at (places gs) id
state_shows [] id = refl
state_shows (g ∷ gs) id = ap (λ s. cond (g.id == id) (state_in g.content) s) (state_shows gs id)

pub alike_state : (a b : Book) → IsAlike a b → (id : ℕ) → state_of a.groups id ≡ state_of b.groups id
alike_state a b same id = state_shows a.groups id ∙ ap (λ l. state_at l id) same.places ∙ sym (state_shows b.groups id)

-- a claim of one is, by its actor and kind, one of the other
pub alike_claims : (a b : Book) → IsAlike a b → (claim : Claim) → Contains a.claims claim → (other : Claim) × Contains b.claims other × (other.actor ≡ claim.actor) × (other.choice ≡ claim.choice)
alike_claims a b same claim in_a =
    let shown : Contains (deals b.claims) (deal_of claim) = subst (λ l. Contains l (deal_of claim)) same.deals (in_map deal_of a.claims claim in_a) in
    let found = from_map deal_of b.claims (deal_of claim) shown in
    (found.0, found.1, ap (λ (d : Deal). d.actor) found.2, ap (λ (d : Deal). d.choice) found.2)
