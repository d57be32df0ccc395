-- The book of worked scripts, computed: groups as (id, state, total, deleted), and the work of each turn.
use Rattle.std.proofs.Common.{◌≡◌, ℕ, ◌+◌, Bool, false, ap, pos, List, [], ◌∷◌, length, map, refl, Option, Some, None, arith}
use Rattle.std.proofs.lemmas.List.Sorted.{IsPermutation-swap}
use Rattle.cs_types.specs.declared.Key.{Key}
use Rattle.cs_types.specs.Keys.{same_key}
use Rattle.cs_model.specs.declared.work.Actor.{Actor}
use Rattle.cs_model.specs.declared.work.Actor.TheVariants as actor
use Rattle.cs_model.specs.declared.work.Work.{Work}
use Rattle.cs_model.specs.declared.work.Work.TheVariants as work
use Rattle.group_book.specs.Book.{Version, Content, Group, Claim, Book, empty, total, deleted, opened, frozen, how_many, is_visible}
use Rattle.group_book.specs.Book.Content.{Opened, Closed, Compressed, Invisible, Tombstone}
use Rattle.group_book.specs.Book.Choice.{Rebuild}
use Rattle.group_book.specs.Commits.{Sizes, new_version, after_commit}
use Rattle.group_book.specs.Turns.{claim_of, claim_by, installed, released}
use Rattle.group_book.specs.Invariant.{AreSourcesOf}
use Rattle.group_book.specs.Choices.{choice, after_choice, choice_work, install_work}
use Rattle.group_book.specs.Orders.{IsReordered}

abbrev state : Content → ℕ
state (Opened versions) = 1
state (Closed versions) = 2
state (Compressed versions) = 3
state Invisible = 0
state (Tombstone versions ends) = 4

abbrev Line : Type 0
Line = ℕ × ℕ × ℕ × ℕ

-- the report: the groups, and the count of buffered entries
abbrev report : Book → List Line × ℕ
report book = (map (λ (group : Group). (group.id, state group.content, total group.content, deleted group.content)) book.groups, length book.buffer)

abbrev key : ℕ → Key
key n = record { 0 = pos n }

abbrev sizes : ℕ → ℕ → Sizes
sizes g d = record { group_rows = g; direct_rows = d }

-- a commit of rows for new keys, and one that deletes
abbrev inserts : Sizes → ℕ → List ℕ → Book → Book
inserts s c keys book = after_commit s c [] (map key keys) book

abbrev deletes : Sizes → ℕ → List ℕ → Book → Book
deletes s c keys book = after_commit s c (map key keys) [] book

abbrev updates : Sizes → ℕ → List ℕ → Book → Book
updates s c keys book = after_commit s c (map key keys) (map key keys) book

abbrev mover : ℕ → Actor
mover n = actor.Mover n

-- a turn's first event, its work, and its install
abbrev claims : ℕ → Sizes → ℕ → Book → Book
claims floor s n book = after_choice (choice floor s.group_rows (mover n) book) floor (mover n) book

abbrev claim_work : ℕ → Sizes → ℕ → Book → Option Work
claim_work floor s n book = choice_work (choice floor s.group_rows (mover n) book) floor book

abbrev installs : ℕ → Book → Book
installs n book = installed (claim_by (mover n) book) book

abbrev work_in : Option Claim → Option Work
work_in None = None
work_in (Some claim) = install_work claim.choice claim

abbrev installs_work : ℕ → Book → Option Work
installs_work n book = work_in (claim_by (mover n) book)

abbrev turn : ℕ → Sizes → ℕ → Book → Book
turn floor s n book = installs n (claims floor s n book)

abbrev seen : ℕ → Book → ℕ
seen s book = how_many (is_visible book.buffer s) (opened book.groups) + how_many (is_visible book.buffer s) (frozen book.groups)

-- three rows one by one into groups of two; two turns
abbrev two : Sizes
two = sizes 2 102400

abbrev three_rows : Book
three_rows = inserts two 3 (3 ∷ []) (inserts two 2 (2 ∷ []) (inserts two 1 (1 ∷ []) empty))

stores_fill : report three_rows ≡ ((1, 2, 2, 0) ∷ (2, 1, 1, 0) ∷ [], 0)
stores_fill = refl

first_work : claim_work 3 two 1 three_rows ≡ Some (work.ClaimCompress 1 3)
first_work = refl

first_install : installs_work 1 (claims 3 two 1 three_rows) ≡ Some (work.InstallCompress 1 3 2)
first_install = refl

first_turn : report (turn 3 two 1 three_rows) ≡ ((1, 4, 2, 0) ∷ (2, 1, 1, 0) ∷ (3, 3, 2, 0) ∷ [], 0)
first_turn = refl

second_work : claim_work 3 two 1 (turn 3 two 1 three_rows) ≡ Some (work.Clear 1)
second_work = refl

second_turn : report (claims 3 two 1 (turn 3 two 1 three_rows)) ≡ ((2, 1, 1, 0) ∷ (3, 3, 2, 0) ∷ [], 0)
second_turn = refl

-- a delete between claim and install, beside a snapshot
abbrev between : Book
between = installs 1 (deletes two 2 (1 ∷ []) (claims 1 two 1 (inserts two 1 (1 ∷ 2 ∷ []) empty)))

delete_between : report between ≡ ((1, 4, 2, 0) ∷ (2, 3, 2, 0) ∷ [], 1)
delete_between = refl

still_seen : seen 1 between ≡ 2
still_seen = refl

one_gone : seen 2 between ≡ 1
one_gone = refl

-- a key that is deleted and inserted again while its group is claimed, and flushed after both installs
abbrev again : Book
again = installs 1 (turn 3 two 2 (inserts two 3 (1 ∷ 3 ∷ []) (deletes two 2 (1 ∷ []) (claims 1 two 1 (inserts two 1 (1 ∷ 2 ∷ []) empty)))))

three_left : seen 3 again ≡ 3
three_left = refl

flush_work : claim_work 3 two 1 again ≡ Some (work.ClaimFlush 1)
flush_work = refl

flush_report : report (turn 3 two 1 again) ≡ ((1, 4, 2, 0) ∷ (2, 3, 2, 1) ∷ (3, 4, 2, 0) ∷ (4, 3, 2, 0) ∷ [], 0)
flush_report = refl

-- the same without a half-done turn, beside a snapshot at 1
abbrev beside : Book
beside = inserts two 3 (1 ∷ 3 ∷ []) (deletes two 2 (1 ∷ []) (inserts two 1 (1 ∷ 2 ∷ []) empty))

abbrev three_turns : Book
three_turns = turn 1 two 1 (turn 1 two 1 (turn 1 two 1 beside))

beside_report : report three_turns ≡ ((1, 4, 2, 0) ∷ (2, 4, 2, 0) ∷ (3, 3, 2, 1) ∷ (4, 3, 2, 0) ∷ [], 0)
beside_report = refl

old_reads : seen 1 three_turns ≡ 2
old_reads = refl

new_reads : seen 3 three_turns ≡ 3
new_reads = refl

cleared : claim_work 1 two 1 three_turns ≡ Some (work.Clear 2)
cleared = refl

-- an update in the open store, a delete of the row, and a turn that leaves nothing
abbrev updated : Book
updated = deletes two 3 (1 ∷ []) (updates two 2 (1 ∷ []) (inserts two 1 (1 ∷ []) empty))

nothing_left : report (turn 3 two 1 updated) ≡ ((1, 4, 2, 1) ∷ [], 0)
nothing_left = refl

nothing_work : installs_work 1 (claims 3 two 1 updated) ≡ Some (work.InstallCompress 1 2 0)
nothing_work = refl

-- a rebuild that waits while another mover works
abbrev rebuilt : Book
rebuilt = claims 2 two 1 (turn 2 two 1 (deletes two 2 (1 ∷ []) (turn 1 two 1 (inserts two 1 (1 ∷ 2 ∷ []) empty))))

abbrev meanwhile : Book
meanwhile = claims 4 two 2 (deletes two 4 (2 ∷ []) (turn 3 two 2 (inserts two 3 (3 ∷ 4 ∷ []) rebuilt)))

meanwhile_report : report meanwhile ≡ ((2, 3, 2, 1) ∷ (3, 0, 0, 0) ∷ (5, 3, 2, 0) ∷ [], 1)
meanwhile_report = refl

rebuilt_report : report (installs 1 meanwhile) ≡ ((2, 4, 2, 1) ∷ (3, 3, 1, 0) ∷ (5, 3, 2, 0) ∷ [], 1)
rebuilt_report = refl

-- direct loads and a flush; then a rebuild, beside which there is nothing to do
abbrev twenty : Sizes
twenty = sizes 4 4

abbrev loaded : Book
loaded = turn 2 twenty 1 (deletes twenty 2 (1 ∷ []) (inserts twenty 1 (1 ∷ 2 ∷ 3 ∷ 4 ∷ 5 ∷ []) empty))

load_report : report (inserts twenty 1 (1 ∷ 2 ∷ 3 ∷ 4 ∷ 5 ∷ []) empty) ≡ ((1, 3, 4, 0) ∷ (2, 1, 1, 0) ∷ [], 0)
load_report = refl

flushed_report : report loaded ≡ ((1, 3, 4, 1) ∷ (2, 1, 1, 0) ∷ [], 0)
flushed_report = refl

then_rebuild : claim_work 2 twenty 1 loaded ≡ Some (work.ClaimRebuild 1 3)
then_rebuild = refl

nothing_free : claim_work 2 (sizes 4 4) 1 (claims 2 twenty 2 (inserts twenty 3 (9 ∷ []) loaded)) ≡ None
nothing_free = refl

-- two groups of two into one of four
abbrev pairs : Sizes
pairs = sizes 4 2

abbrev two_pairs : Book
two_pairs = inserts pairs 2 (3 ∷ 4 ∷ []) (inserts pairs 1 (1 ∷ 2 ∷ []) empty)

merge_work : claim_work 2 pairs 1 two_pairs ≡ Some (work.ClaimMerge 1 2 3)
merge_work = refl

merge_rows : installs_work 1 (claims 2 pairs 1 two_pairs) ≡ Some (work.InstallMerge 1 2 3 4)
merge_rows = refl

merged : report (turn 2 pairs 1 two_pairs) ≡ ((1, 4, 2, 0) ∷ (2, 4, 2, 0) ∷ (3, 3, 4, 0) ∷ [], 0)
merged = refl

-- twenty rows that load directly, a delete, its flush, and a settle
abbrev large : Sizes
large = sizes 20 20

abbrev flushed_large : Book
flushed_large = turn 2 large 1 (deletes large 2 (1 ∷ []) (inserts large 1 (1 ∷ 2 ∷ 3 ∷ 4 ∷ 5 ∷ 6 ∷ 7 ∷ 8 ∷ 9 ∷ 10 ∷ 11 ∷ 12 ∷ 13 ∷ 14 ∷ 15 ∷ 16 ∷ 17 ∷ 18 ∷ 19 ∷ 20 ∷ []) empty))

settle_work : claim_work 2 large 1 flushed_large ≡ Some (work.Settle 1)
settle_work = refl

after_settling : claim_work 2 large 1 (claims 2 large 1 flushed_large) ≡ None
after_settling = refl

-- a store of four that fills exactly leaves none open
four_report : report (turn 1 (sizes 4 102400) 1 (inserts (sizes 4 102400) 1 (1 ∷ 2 ∷ 3 ∷ 4 ∷ []) empty)) ≡ ((1, 4, 4, 0) ∷ (2, 3, 4, 0) ∷ [], 0)
four_report = refl

-- a commit that fills a store and opens two more
many_stores : report (inserts two 2 (2 ∷ 3 ∷ 4 ∷ 5 ∷ []) (inserts two 1 (1 ∷ []) empty)) ≡ ((1, 2, 2, 0) ∷ (2, 2, 2, 0) ∷ (3, 1, 1, 0) ∷ [], 0)
many_stores = refl

-- a release leaves the groups as before, and the id is spent
given_back : report (released (claim_by (mover 1) (claims 3 two 1 three_rows)) (claims 3 two 1 three_rows)) ≡ report three_rows
given_back = refl

spent_id : claim_work 3 two 1 (released (claim_by (mover 1) (claims 3 two 1 three_rows)) (claims 3 two 1 three_rows)) ≡ Some (work.ClaimCompress 1 4)
spent_id = refl

-- a session has no claim of a mover's, neither under the mover's number nor under the one after those of 64 sessions
abbrev held_by : ℕ → Option Claim
held_by session = claim_by (actor.Session session) (claims 3 two 1 three_rows)

not_of_session : held_by 1 ≡ None
not_of_session = refl

nor_of_another : held_by 65 ≡ None
nor_of_another = refl

-- the claims of turns have the sources that their kinds name
abbrev HasKind : Option Claim → Type 0
HasKind None = ⊥
HasKind (Some claim) = AreSourcesOf claim.choice claim.sources

compress_kind : HasKind (claim_by (mover 1) (claims 3 two 1 three_rows))
compress_kind = refl

flush_kind : HasKind (claim_by (mover 1) (claims 3 two 1 again))
flush_kind = omega arith

rebuild_kind : HasKind (claim_by (mover 1) (claims 2 twenty 1 loaded))
rebuild_kind = refl

merge_kind : HasKind (claim_by (mover 1) (claims 2 pairs 1 two_pairs))
merge_kind = refl

-- two rows that load directly, packed in the order of their keys and in the other
abbrev packed : List Version → List Claim → Book
packed versions claims = record { groups = record { id = 1; content = Compressed versions } ∷ []; buffer = []; claims = claims; next = 2 }

abbrev upward : List Version
upward = new_version 1 (key 1) ∷ new_version 1 (key 2) ∷ []

abbrev downward : List Version
downward = new_version 1 (key 2) ∷ new_version 1 (key 1) ∷ []

load_is : inserts (sizes 2 2) 1 (1 ∷ 2 ∷ []) empty ≡ packed upward []
load_is = refl

load_turned : IsReordered (packed upward []) (packed downward [])
load_turned = record {
  groups = ((refl, (downward, IsPermutation-swap upward downward 0 1 (omega arith) (omega arith) refl, refl)), tt);
  buffer = refl;
  claims = refl;
  next = refl;
  lent = λ k d inside. absurd (omega (arith, inside));
}

-- but not while a claim has them
abbrev rebuild : Claim
rebuild = claim_of (mover 1) (Rebuild 1) (1 ∷ []) (Some 2) 1 (packed upward [])

abbrev begins_with : Key → List Version → Bool
begins_with k [] = false
begins_with k (version ∷ versions) = same_key k version.key

claimed_stands : IsReordered (packed upward (rebuild ∷ [])) (packed downward (rebuild ∷ [])) → ⊥
claimed_stands r = let same : begins_with (key 2) downward ≡ begins_with (key 2) upward = ap (begins_with (key 2)) (r.lent 0 rebuild (omega arith)) in absurd (cc same)
