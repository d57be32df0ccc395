-- A statement has one reply, but for what that shows of the row groups; and where that is the same too, one but for the lines of a report
-- on segments.
use Rattle.std.proofs.Common.{◌≡◌, ◌≢◌, ℕ, ◌⊎◌, inl, inr, List, [], refl, sym, ap, subst, ◌∙◌, Bool, true, false, Option, None, Some, Result, Ok, Err, All, Less, Equal, Greater}
use Rattle.std.specs.Prelude.{◌==◌, is_some}
use Rattle.std.specs.Map.{values_of}
use Rattle.std.specs.Ordering.{ordering_reverse}
use Rattle.std.specs.declared.cmp.Ordering.{Ordering}
use Rattle.std.proofs.lemmas.List.Elements.{All-contains}
use Rattle.cs_types.specs.declared.Key.{Key}
use Rattle.cs_types.specs.declared.Loose.{Loose}
use Rattle.cs_types.specs.declared.Schema.{Schema}
use Rattle.cs_types.specs.Keys.{key_cmp}
use Rattle.cs_types.proofs.KeyLemmas.{key_total, exact_key}
use Rattle.cs_model.specs.declared.entry.Bound.{Bound}
use Rattle.cs_model.specs.declared.entry.Bound.TheVariants as bound
use Rattle.cs_model.specs.declared.entry.Refusal.{Refusal}
use Rattle.cs_model.specs.declared.entry.Refusal.TheVariants.{Reading, Valued, Locked, Changed, Duplicate, NoTxn, Memory}
use Rattle.cs_model.specs.declared.entry.Reply.{Reply}
use Rattle.cs_model.specs.declared.entry.Reply.TheVariants as reply
use Rattle.cs_model.specs.declared.plan.Query.{Query}
use Rattle.cs_model.specs.Answers.{writes}
use Rattle.cs_model.specs.Changes.{Edit, Change, newest}
use Rattle.cs_model.specs.Obstacles.{keys_of, is_present, owns, IsOwner, IsLocked, IsFree, IsChange, IsObstacle, IsLeastObstacle, IsJudged}
use Rattle.cs_model.specs.Queries.{answer}
use Rattle.cs_model.specs.State.{Txn, State, seen}
use Rattle.cs_model.specs.Steps.{IsRows, IsAnswer, IsWritten, IsWriteReplyOf, IsWriteReply, IsAnswerIn, IsGroups, IsSegments, IsLeft, IsReplyTo}
use Rattle.log_laws.specs.Laws.{AreOwners, IsSound}
use Rattle.log_laws.proofs.Owners.{equal}
use Rattle.group_log.specs.Counted.{told_counts}
use Rattle.schedule_laws.specs.Agreeing.{without_segments}
use Rattle.schedule_laws.proofs.States.{bare}

-- ---- one obstacle of a key

module _ (m : State) (owners : AreOwners m) (session : ℕ) (snapshot : Option ℕ) (present : Key → Bool) where
  owner_owns : (txn : Option Txn) (key : Key) (number : ℕ) → IsOwner txn key number → owns txn key ≡ true
  owner_owns None key number h = absurd h
  owner_owns (Some txn) key number h = h.0

  one_number : (txn : Option Txn) (key : Key) (a b : ℕ) → IsOwner txn key a → IsOwner txn key b → a ≡ b
  one_number None key a b h k = absurd h
  one_number (Some txn) key a b h k = sym h.1 ∙ k.1

  locked_free : (key : Key) (number : ℕ) → IsLocked m.txns session key number → IsFree m.txns session key → ⊥
  locked_free key number (other, apart, is) free = let owned = owner_owns (m.txns other) key number is in let none = free other apart in cc

  one_lock : (key : Key) (a b : ℕ) → IsLocked m.txns session key a → IsLocked m.txns session key b → a ≡ b
  one_lock key a b (one, apart, is) (two, away, also) = at (one == two) refl
    where
      at : (t : Bool) → (one == two) ≡ t → a ≡ b
      at true e = one_number (m.txns two) key a b (subst (λ i. IsOwner (m.txns i) key a) (equal one two e) is) also
      at false e =
          let owned = owner_owns (m.txns one) key a is in let also_owned = owner_owns (m.txns two) key b also in let none = owners one two key e owned in absurd cc

  one_change : (change : Option Change) (a b c d : ℕ) → IsChange change a b → IsChange change c d → (a ≡ c) × (b ≡ d)
  one_change None a b c d h k = absurd h
  one_change (Some change) a b c d h k = (sym h.0 ∙ k.0, sym h.1 ∙ k.1)

  abbrev Is : Key → Option Refusal → Type 0
  Is key found = IsObstacle m session snapshot present key found

  none_found : (key : Key) (refusal : Refusal) → Is key None → Is key (Some refusal) → ⊥
  none_found key (Reading number at) h k = k
  none_found key (Valued number row column) h k = k
  none_found key (Locked k txn) h x = locked_free key txn x.1 h.0
  none_found key (Changed k txn commit) h x = let above = x.2 in let below = h.1 in cc
  none_found key (Duplicate k) h x = let there = x.3 in let not_there = h.2 in cc
  none_found key (NoTxn number) h k = k
  none_found key Memory h k = k

  changed_is : (k l : Key) (a b c d : ℕ) → k ≡ l → (a ≡ c) × (b ≡ d) → Changed k a b ≡ Changed l c d
  changed_is k l a b c d e same i = Changed (e i) (same.0 i) (same.1 i)

  one_found : (key : Key) (first second : Refusal) → Is key (Some first) → Is key (Some second) → first ≡ second
  one_found key (Reading number at) second h k = absurd h
  one_found key (Valued number row column) second h k = absurd h
  one_found key (NoTxn number) second h k = absurd h
  one_found key Memory second h k = absurd h
  one_found key first (Reading number at) h k = absurd k
  one_found key first (Valued number row column) h k = absurd k
  one_found key first (NoTxn number) h k = absurd k
  one_found key first Memory h k = absurd k
  one_found key (Locked k txn) (Locked l number) x y = let e = x.0 ∙ sym y.0 in let n = one_lock key txn number x.1 y.1 in λ i. Locked (e i) (n i)
  one_found key (Locked k txn) (Changed l number commit) x y = absurd (locked_free key txn x.1 y.1)
  one_found key (Locked k txn) (Duplicate l) x y = absurd (locked_free key txn x.1 y.1)
  one_found key (Changed k txn commit) (Locked l number) x y = absurd (locked_free key number y.1 x.1)
  one_found key (Changed k a b) (Changed l c d) x y = changed_is k l a b c d (x.0 ∙ sym y.0) (one_change (newest key m.changes) a b c d x.3 y.3)
  one_found key (Changed k txn commit) (Duplicate l) x y = let above = x.2 in let below = y.2 in absurd cc
  one_found key (Duplicate k) (Locked l number) x y = absurd (locked_free key number y.1 x.1)
  one_found key (Duplicate k) (Changed l number commit) x y = let below = x.2 in let above = y.2 in absurd cc
  one_found key (Duplicate k) (Duplicate l) x y = ap (λ z. Duplicate z) (x.0 ∙ sym y.0)

  -- ---- one judgement of keys

  least_one : (keys : List Key) (first second : Refusal) (x : IsLeastObstacle Is keys first) (y : IsLeastObstacle Is keys second) → (key_cmp x.key y.key ≢ Greater) → (key_cmp y.key x.key ≢ Greater) → x.key ≡ y.key
  least_one keys first second x y low high = at (key_cmp x.key y.key) refl
    where
      at : (o : Ordering) → key_cmp x.key y.key ≡ o → x.key ≡ y.key
      at Less e = absurd (high (key_total.antisymm y.key x.key ∙ ap ordering_reverse e))
      at Equal e = exact_key x.key y.key e
      at Greater e = absurd (low e)

  not_above : (key other : Key) (refusal : Refusal) → Is other (Some refusal) → Is other None ⊎ (key_cmp key other ≢ Greater) → key_cmp key other ≢ Greater
  not_above key other refusal is (inl none) = absurd (none_found other refusal none is)
  not_above key other refusal is (inr low) = low

  none_judged : (keys : List Key) (refusal : Refusal) → All (λ key. Is key None) keys → IsLeastObstacle Is keys refusal → ⊥
  none_judged keys refusal none x = none_found x.key refusal (All-contains (λ key. Is key None) keys x.key none x.listed) x.is

  judged_one : (keys : List Key) (first second : Refusal) → IsLeastObstacle Is keys first → IsLeastObstacle Is keys second → first ≡ second
  judged_one keys first second x y =
      let low = not_above x.key y.key second y.is (All-contains (λ other. Is other None ⊎ (key_cmp x.key other ≢ Greater)) keys y.key x.least y.listed) in
      let high = not_above y.key x.key first x.is (All-contains (λ other. Is other None ⊎ (key_cmp y.key other ≢ Greater)) keys x.key y.least x.listed) in
      same_key_found x.key y.key (least_one keys first second x y low high) x.is y.is
    where
      same_key_found : (k l : Key) → k ≡ l → Is k (Some first) → Is l (Some second) → first ≡ second
      same_key_found k l e is also = one_found l first second (subst (λ z. Is z (Some first)) e is) also

  written_one : (edits : List Edit) (r q : Reply) → IsWritten (IsJudged Is (keys_of edits)) edits r → IsWritten (IsJudged Is (keys_of edits)) edits q → r ≡ q
  written_one edits (reply.Affected count) (reply.Affected other) x y = ap (λ (n : ℕ). reply.Affected n) (x.1 ∙ sym y.1)
  written_one edits (reply.Affected count) (reply.Refused refusal) x y = absurd (none_judged (keys_of edits) refusal x.0 y)
  written_one edits (reply.Refused refusal) (reply.Affected count) x y = absurd (none_judged (keys_of edits) refusal y.0 x)
  written_one edits (reply.Refused first) (reply.Refused second) x y = ap (λ z. reply.Refused z) (judged_one (keys_of edits) first second x y)
  written_one edits reply.Done q x y = absurd x
  written_one edits (reply.Rows list segments) q x y = absurd x
  written_one edits (reply.Groups lines buffered) q x y = absurd x
  written_one edits (reply.Segments lines) q x y = absurd x
  written_one edits (reply.Left groups) q x y = absurd x
  written_one edits r reply.Done x y = absurd y
  written_one edits r (reply.Rows list segments) x y = absurd y
  written_one edits r (reply.Groups lines buffered) x y = absurd y
  written_one edits r (reply.Segments lines) x y = absurd y
  written_one edits r (reply.Left groups) x y = absurd y

-- ---- one reply

write_one : (schema : Schema) (m : State) (sound : IsSound m) (session : ℕ) (txn : Option Txn) (b : Bound) (r q : Reply) → IsWriteReply schema m session txn b r → IsWriteReply schema m session txn b q → r ≡ q
write_one schema m sound session None b r q x y = absurd x
write_one schema m sound session (Some txn) b r q x y = at (writes schema (seen m.changes txn) b) x y
  where
    at : (w : Result (List Edit) Refusal) → IsWriteReplyOf m session txn.snapshot (seen m.changes txn) b w r → IsWriteReplyOf m session txn.snapshot (seen m.changes txn) b w q → r ≡ q
    at (Err refusal) x y = x ∙ sym y
    at (Ok edits) x y = written_one m sound.owners session txn.snapshot (is_present b edits (seen m.changes txn)) edits r q x y

rows_shown : (on : Bool) (rows : List (List Loose)) (r : Reply) → IsRows on rows r → bare r ≡ reply.Rows rows None
rows_shown on rows reply.Done h = absurd h
rows_shown on rows (reply.Rows list segments) h = ap (λ (z : List (List Loose)). reply.Rows z None) h.0
rows_shown on rows (reply.Affected count) h = absurd h
rows_shown on rows (reply.Groups lines buffered) h = absurd h
rows_shown on rows (reply.Segments lines) h = absurd h
rows_shown on rows (reply.Left groups) h = absurd h
rows_shown on rows (reply.Refused refusal) h = absurd h

answer_one : (schema : Schema) (m : State) (session : ℕ) (txn : Option Txn) (query : Query) (r q : Reply) → IsAnswerIn schema m session txn query r → IsAnswerIn schema m session txn query q
    → bare r ≡ bare q
answer_one schema m session None query r q x y = absurd x
answer_one schema m session (Some txn) query r q x y = at (answer schema query (values_of (seen m.changes txn))) x y
  where
    at : (rows : Result (List (List Loose)) (ℕ × ℕ)) → IsAnswer (m.statistics session) rows r → IsAnswer (m.statistics session) rows q → bare r ≡ bare q
    at (Ok rows) x y = rows_shown (m.statistics session) rows r x ∙ sym (rows_shown (m.statistics session) rows q y)
    at (Err place) x y = ap bare (x ∙ sym y)

groups_shown : (r : Reply) → IsGroups r → bare r ≡ reply.Groups [] 0
groups_shown reply.Done h = absurd h
groups_shown (reply.Affected count) h = absurd h
groups_shown (reply.Rows rows segments) h = absurd h
groups_shown (reply.Groups lines buffered) h = refl
groups_shown (reply.Segments lines) h = absurd h
groups_shown (reply.Left groups) h = absurd h
groups_shown (reply.Refused refusal) h = absurd h

segments_shown : (r : Reply) → IsSegments r → bare r ≡ reply.Segments []
segments_shown reply.Done h = absurd h
segments_shown (reply.Affected count) h = absurd h
segments_shown (reply.Rows rows segments) h = absurd h
segments_shown (reply.Groups lines buffered) h = absurd h
segments_shown (reply.Segments lines) h = refl
segments_shown (reply.Left groups) h = absurd h
segments_shown (reply.Refused refusal) h = absurd h

left_shown : (r : Reply) → IsLeft r → bare r ≡ reply.Left []
left_shown reply.Done h = absurd h
left_shown (reply.Affected count) h = absurd h
left_shown (reply.Rows rows segments) h = absurd h
left_shown (reply.Groups lines buffered) h = absurd h
left_shown (reply.Segments lines) h = absurd h
left_shown (reply.Left groups) h = refl
left_shown (reply.Refused refusal) h = absurd h

pub reply_one : (schema : Schema) (m : State) (session note : ℕ) (b : Bound) (r q : Reply) → IsSound m → IsReplyTo schema m session note b r → IsReplyTo schema m session note b q → bare r ≡ bare q
reply_one schema m session note bound.Begin r q sound x y = ap bare (x ∙ sym y)
reply_one schema m session note bound.Commit r q sound x y = ap bare (x ∙ sym y)
reply_one schema m session note bound.Rollback r q sound x y = ap bare (x ∙ sym y)
reply_one schema m session note bound.Nothing r q sound x y = ap bare (x ∙ sym y)
reply_one schema m session note (bound.Statistics on) r q sound x y = ap bare (x ∙ sym y)
reply_one schema m session note (bound.Insert plan) r q sound x y = ap bare (write_one schema m sound session (m.txns session) (bound.Insert plan) r q x y)
reply_one schema m session note (bound.Update plan) r q sound x y = ap bare (write_one schema m sound session (m.txns session) (bound.Update plan) r q x y)
reply_one schema m session note (bound.Delete condition) r q sound x y = ap bare (write_one schema m sound session (m.txns session) (bound.Delete condition) r q x y)
reply_one schema m session note (bound.Select query) r q sound x y = answer_one schema m session (m.txns session) query r q x y
reply_one schema m session note bound.GroupReport r q sound x y = groups_shown r x ∙ sym (groups_shown q y)
reply_one schema m session note bound.SegmentReport r q sound x y = segments_shown r x ∙ sym (segments_shown q y)
reply_one schema m session note (bound.Reorganize all) r q sound x y = left_shown r x ∙ sym (left_shown q y)
reply_one schema m session note (bound.Refused refusal) r q sound x y = ap bare (x ∙ sym y)

-- ---- what it shows of the groups

-- what is known of what two replies show of the groups: counts of segments, reports on groups and lists of what a REORGANIZE left
-- are one
pub record AreShown (r q : Reply) : Type 0 where
  pub counts : (c d : ℕ × ℕ) → told_counts r ≡ Some c → told_counts q ≡ Some d → c ≡ d
  pub report : IsGroups r → IsGroups q → r ≡ q
  pub left : IsLeft r → IsLeft q → r ≡ q

counts_one : (o k : Option (ℕ × ℕ)) (on : Bool) → is_some o ≡ on → is_some k ≡ on → ((c d : ℕ × ℕ) → o ≡ Some c → k ≡ Some d → c ≡ d) → o ≡ k
counts_one None None on x y same = refl
counts_one None (Some d) on x y same = let e : false ≡ true = x ∙ sym y in absurd cc
counts_one (Some c) None on x y same = let e : true ≡ false = x ∙ sym y in absurd cc
counts_one (Some c) (Some d) on x y same = ap (λ (z : ℕ × ℕ). Some z) (same c d refl refl)

rows_one : (on : Bool) (rows : List (List Loose)) (r q : Reply) → AreShown r q → IsRows on rows r → IsRows on rows q → r ≡ q
rows_one on rows (reply.Rows list segments) (reply.Rows other told) shown x y =
    let cells = x.0 ∙ sym y.0 in let counts = counts_one segments told on x.1 y.1 shown.counts in λ i. reply.Rows (cells i) (counts i)
rows_one on rows (reply.Rows list segments) reply.Done shown x y = absurd y
rows_one on rows (reply.Rows list segments) (reply.Affected count) shown x y = absurd y
rows_one on rows (reply.Rows list segments) (reply.Groups lines buffered) shown x y = absurd y
rows_one on rows (reply.Rows list segments) (reply.Segments lines) shown x y = absurd y
rows_one on rows (reply.Rows list segments) (reply.Left groups) shown x y = absurd y
rows_one on rows (reply.Rows list segments) (reply.Refused refusal) shown x y = absurd y
rows_one on rows reply.Done q shown x y = absurd x
rows_one on rows (reply.Affected count) q shown x y = absurd x
rows_one on rows (reply.Groups lines buffered) q shown x y = absurd x
rows_one on rows (reply.Segments lines) q shown x y = absurd x
rows_one on rows (reply.Left groups) q shown x y = absurd x
rows_one on rows (reply.Refused refusal) q shown x y = absurd x

answer_same : (schema : Schema) (m : State) (session : ℕ) (txn : Option Txn) (query : Query) (r q : Reply) → AreShown r q → IsAnswerIn schema m session txn query r → IsAnswerIn schema m session txn query q → r ≡ q
answer_same schema m session None query r q shown x y = absurd x
answer_same schema m session (Some txn) query r q shown x y = at (answer schema query (values_of (seen m.changes txn))) x y
  where
    at : (rows : Result (List (List Loose)) (ℕ × ℕ)) → IsAnswer (m.statistics session) rows r → IsAnswer (m.statistics session) rows q → r ≡ q
    at (Ok rows) x y = rows_one (m.statistics session) rows r q shown x y
    at (Err place) x y = x ∙ sym y

segments_hidden : (r : Reply) → IsSegments r → without_segments r ≡ reply.Segments []
segments_hidden reply.Done h = absurd h
segments_hidden (reply.Affected count) h = absurd h
segments_hidden (reply.Rows rows segments) h = absurd h
segments_hidden (reply.Groups lines buffered) h = absurd h
segments_hidden (reply.Segments lines) h = refl
segments_hidden (reply.Left groups) h = absurd h
segments_hidden (reply.Refused refusal) h = absurd h

pub same_reply : (schema : Schema) (m : State) (session note : ℕ) (b : Bound) (r q : Reply) → IsSound m → AreShown r q → IsReplyTo schema m session note b r → IsReplyTo schema m session note b q → without_segments r ≡ without_segments q
same_reply schema m session note bound.Begin r q sound shown x y = ap without_segments (x ∙ sym y)
same_reply schema m session note bound.Commit r q sound shown x y = ap without_segments (x ∙ sym y)
same_reply schema m session note bound.Rollback r q sound shown x y = ap without_segments (x ∙ sym y)
same_reply schema m session note bound.Nothing r q sound shown x y = ap without_segments (x ∙ sym y)
same_reply schema m session note (bound.Statistics on) r q sound shown x y = ap without_segments (x ∙ sym y)
same_reply schema m session note (bound.Insert plan) r q sound shown x y = ap without_segments (write_one schema m sound session (m.txns session) (bound.Insert plan) r q x y)
same_reply schema m session note (bound.Update plan) r q sound shown x y = ap without_segments (write_one schema m sound session (m.txns session) (bound.Update plan) r q x y)
same_reply schema m session note (bound.Delete condition) r q sound shown x y = ap without_segments (write_one schema m sound session (m.txns session) (bound.Delete condition) r q x y)
same_reply schema m session note (bound.Select query) r q sound shown x y = ap without_segments (answer_same schema m session (m.txns session) query r q shown x y)
same_reply schema m session note bound.GroupReport r q sound shown x y = ap without_segments (shown.report x y)
same_reply schema m session note bound.SegmentReport r q sound shown x y = segments_hidden r x ∙ sym (segments_hidden q y)
same_reply schema m session note (bound.Reorganize all) r q sound shown x y = ap without_segments (shown.left x y)
same_reply schema m session note (bound.Refused refusal) r q sound shown x y = ap without_segments (x ∙ sym y)
