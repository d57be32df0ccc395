-- What the replies to one statement show of the row groups, in two logs that agree.
use Rattle.std.proofs.Common.{◌≡◌, ℕ, List, [], ◌∷◌, ◌++◌, refl, sym, ap, subst, ◌∙◌, Bool, Option, Some}
use Rattle.std.specs.Prelude.{IfSome}
use Rattle.std.specs.declared.alloc.Global.{Global}
use Rattle.std.specs.declared.sync.Arc.{Arc}
use Rattle.std.specs.List.{AllZip}
use Rattle.cs_types.specs.declared.Schema.{Schema}
use Rattle.cs_model.specs.declared.entry.Bound.{Bound}
use Rattle.cs_model.specs.declared.entry.Bound.TheVariants.{Select}
use Rattle.cs_model.specs.declared.entry.Entry.{Entry}
use Rattle.cs_model.specs.declared.entry.Entry.TheVariants.{Start, Finish, End, Mover}
use Rattle.cs_model.specs.declared.entry.Reply.{Reply}
use Rattle.cs_model.specs.declared.entry.Reply.TheVariants as reply
use Rattle.cs_model.specs.declared.plan.Query.{Query}
use Rattle.cs_model.specs.Actors.{turns_of}
use Rattle.cs_model.specs.Changes.{Change}
use Rattle.cs_model.specs.State.{State, schema_now}
use Rattle.cs_model.specs.Steps.{IsGroups, IsLeft}
use Rattle.group_book.specs.Book.{Book}
use Rattle.group_log.specs.Counted.{told_counts, AreCounts, AreCountsAt, IsCountedEntry}
use Rattle.group_log.specs.Followed.{Ground, ShowsBook}
use Rattle.book_orders.specs.Shuffled.{IsShuffled}
use Rattle.book_orders.proofs.Scanned.{shuffled_counts}
use Rattle.book_orders.proofs.Shown.{shuffled_report}
use Rattle.schedule_laws.specs.Agreeing.{Agrees}
use Rattle.schedule_laws.proofs.Ample.{start_is_turn, turns_behind}
use Rattle.schedule_laws.proofs.Beside.{one_moment}
use Rattle.schedule_laws.proofs.Replies.{AreShown}

-- ---- the report on groups

report_one : (schema : Schema) (changes : List Change) (book spare : Book) → IsShuffled book spare → (q r : Reply) → ShowsBook schema changes spare q → ShowsBook schema changes book r → IsGroups q → IsGroups r → q ≡ r
report_one schema changes book spare shuffled (reply.Groups lines buffered) (reply.Groups others entries) y x is also =
    let both = shuffled_report book spare shuffled in
    let rows = y.0 ∙ sym both.0 ∙ sym x.0 in
    let counts = y.1 ∙ sym both.1 ∙ sym x.1 in
    λ i. reply.Groups (rows i) (counts i)
report_one schema changes book spare shuffled reply.Done r y x is also = absurd is
report_one schema changes book spare shuffled (reply.Affected count) r y x is also = absurd is
report_one schema changes book spare shuffled (reply.Rows rows segments) r y x is also = absurd is
report_one schema changes book spare shuffled (reply.Segments lines) r y x is also = absurd is
report_one schema changes book spare shuffled (reply.Left groups) r y x is also = absurd is
report_one schema changes book spare shuffled (reply.Refused refusal) r y x is also = absurd is
report_one schema changes book spare shuffled (reply.Groups lines buffered) reply.Done y x is also = absurd also
report_one schema changes book spare shuffled (reply.Groups lines buffered) (reply.Affected count) y x is also = absurd also
report_one schema changes book spare shuffled (reply.Groups lines buffered) (reply.Rows rows segments) y x is also = absurd also
report_one schema changes book spare shuffled (reply.Groups lines buffered) (reply.Segments others) y x is also = absurd also
report_one schema changes book spare shuffled (reply.Groups lines buffered) (reply.Left groups) y x is also = absurd also
report_one schema changes book spare shuffled (reply.Groups lines buffered) (reply.Refused refusal) y x is also = absurd also

-- ---- the Start of a statement

-- an entry that agrees with a Start is one of the same session
start_by : (session : ℕ) (c : Arc Bound Global) (late : Bool) (e : Entry) (us : List Entry) → Agrees e (Start session c late) → turns_of session (e ∷ us) ≡ [] → ⊥
start_by session c late (Start s b short) us (d, same, is) none = let own : s ≡ session = cc in start_is_turn session (Start s b short) us refl own none
start_by session c late (Finish s r) us (q, same, is) none = absurd cc
start_by session c late (End s) us is none = absurd cc
start_by session c late (Mover actor work) us is none = absurd cc

start_for : (session : ℕ) (b : Arc Bound Global) (short : Bool) (f : Entry) (vs : List Entry) → Agrees (Start session b short) f → turns_of session (f ∷ vs) ≡ [] → ⊥
start_for session b short f vs (d, same, is) none = start_is_turn session (Start session d short) vs refl refl (subst (λ z. turns_of session (z ∷ vs) ≡ []) is none)

-- so none stands beside entries of which none is a turn of the session
none_beside : (session : ℕ) (c : Arc Bound Global) (late : Bool) (us ys vs : List Entry) → AllZip Agrees us (ys ++ Start session c late ∷ vs) → turns_of session us ≡ [] → ⊥
none_beside session c late [] [] vs zip none = zip
none_beside session c late [] (y ∷ ys) vs zip none = zip
none_beside session c late (u ∷ us) [] vs zip none = start_by session c late u us zip.0 none
none_beside session c late (u ∷ us) (y ∷ ys) vs zip none = none_beside session c late us ys vs zip.1 (turns_behind session u us none)

none_across : (session : ℕ) (b : Arc Bound Global) (short : Bool) (xs us vs : List Entry) → AllZip Agrees (xs ++ Start session b short ∷ us) vs → turns_of session vs ≡ [] → ⊥
none_across session b short [] us [] zip none = zip
none_across session b short (x ∷ xs) us [] zip none = zip
none_across session b short [] us (v ∷ vs) zip none = start_for session b short v vs zip.0 none
none_across session b short (x ∷ xs) us (v ∷ vs) zip none = none_across session b short xs us vs zip.1 (turns_behind session v vs none)

same_statement : (session : ℕ) (b c : Arc Bound Global) (short late : Bool) → Agrees (Start session b short) (Start session c late) → c.value ≡ b.value
same_statement session b c short late (d, same, is) = let one : c ≡ d = cc in ap (λ (z : Arc Bound Global). z.value) one ∙ same

-- two such Starts, after which no turn of the session stands, stand beside each other
pub one_start : (session : ℕ) (b c : Arc Bound Global) (short late : Bool) (xs us ys vs : List Entry) → AllZip Agrees (xs ++ Start session b short ∷ us) (ys ++ Start session c late ∷ vs) → turns_of session us ≡ []
    → turns_of session vs ≡ [] → AllZip Agrees xs ys × (c.value ≡ b.value)
one_start session b c short late [] us [] vs zip none also = (tt, same_statement session b c short late zip.0)
one_start session b c short late [] us (y ∷ ys) vs zip none also = absurd (none_beside session c late us ys vs zip.1 none)
one_start session b c short late (x ∷ xs) us [] vs zip none also = absurd (none_across session b short xs us vs zip.1 also)
one_start session b c short late (x ∷ xs) us (y ∷ ys) vs zip none also =
    let rest = one_start session b c short late xs us ys vs zip.1 none also in ((zip.0, rest.0), rest.1)

-- ---- counts of segments

counts_at : (origin : Ground) (log other : List Entry) (session : ℕ) (counts told : ℕ × ℕ) → AllZip Agrees log other → AreCountsAt origin log session counts → AreCountsAt origin other session told → counts ≡ told
counts_at origin log other session counts told agree x y =
    let b = x.begun in
    let d = y.begun in
    let zip : AllZip Agrees (b.before ++ Start session b.bound b.short ∷ b.behind) (d.before ++ Start session d.bound d.short ∷ d.behind) =
    subst (λ z. AllZip Agrees z (d.before ++ Start session d.bound d.short ∷ d.behind)) b.split (subst (λ z. AllZip Agrees log z) d.split agree) in
    let at = one_start session b.bound d.bound b.short d.short b.before b.behind d.before d.behind zip b.others d.others in
    let so = one_moment origin b.before d.before x.state y.state x.book y.book at.0 b.followed d.followed in
    let statement : Select y.query ≡ Select x.query = sym d.is ∙ at.1 ∙ b.is in
    let query : y.query ≡ x.query = cc in
    shuffled_counts (schema_now origin.begin x.state) (x.state).changes (x.query).filter x.book y.book counts told so.1 x.are
    (subst (λ (z : Query). AreCounts (schema_now origin.begin x.state) (x.state).changes y.book z.filter told) query
    (subst (λ (z : State). AreCounts (schema_now origin.begin z) z.changes y.book (y.query).filter told) so.0 y.are))

counts_one : (origin : Ground) (log other : List Entry) (session : ℕ) (r q : Reply) → AllZip Agrees log other → IsCountedEntry origin log (Finish session r) → IsCountedEntry origin other (Finish session q)
    → (c d : ℕ × ℕ) → told_counts q ≡ Some c → told_counts r ≡ Some d → c ≡ d
counts_one origin log other session r q agree x y c d e f =
    sym (counts_at origin log other session d c agree (subst (λ (o : Option (ℕ × ℕ)). IfSome o (AreCountsAt origin log session)) f x) (subst (λ (o : Option (ℕ × ℕ)). IfSome o (AreCountsAt origin other session)) e y))

-- ---- all of it

pub are_shown : (origin : Ground) (log other : List Entry) (session : ℕ) (schema : Schema) (changes : List Change) (book spare : Book) (r q : Reply) → AllZip Agrees log other → IsShuffled book spare
    → IsCountedEntry origin log (Finish session r) → IsCountedEntry origin other (Finish session q) → ShowsBook schema changes book r → ShowsBook schema changes spare q → (IsLeft q → IsLeft r → q ≡ r) → AreShown q r
are_shown origin log other session schema changes book spare r q agree shuffled x y shows also left = record {
  counts = counts_one origin log other session r q agree x y;
  report = report_one schema changes book spare shuffled q r also shows;
  left = left;
}
