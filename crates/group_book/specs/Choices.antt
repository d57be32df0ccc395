-- What a turn does: the first of seven choices that there is.
use Rattle.std.specs.Prelude.{ℕ, ◌+◌, ◌*◌, ◌^◌, ◌&&◌, List, [], ◌∷◌, map, filter, length, Option, None, Some, Bool, true, false, not, nat_le, if◌then◌else◌}
use Rattle.std.specs.List.{list_any}
use Rattle.std.specs.Option.{option_map}
use Rattle.cs_model.specs.declared.work.Actor.{Actor}
use Rattle.cs_model.specs.declared.work.Actor.TheVariants as actor
use Rattle.cs_model.specs.declared.work.Work.{Work}
use Rattle.cs_model.specs.declared.work.Work.TheVariants as work
use Rattle.group_book.specs.Book.{End, Ending, Group, Choice, Claim, Book, frozen, frozen_in, how_many, has_ended, total, is_closed, is_compressed, is_tombstone}
use Rattle.group_book.specs.Book.End.{At, Plain}
use Rattle.group_book.specs.Book.Choice.{Compress, Flush, Rebuild, Merge, Settle, Clear, Idle}
use Rattle.group_book.specs.Turns.{is_claimed, ends, entries_for, after_claim, after_flush_claim, after_clear, after_settle, made_of}

-- the groups that no claim has
abbrev pub free : Book → List Group
free book = filter (λ group. not (is_claimed book.claims group)) book.groups

abbrev pub free_packed : Book → List Group
free_packed book = filter (λ (group : Group). is_compressed group.content) (free book)

abbrev pub first_of : {X : Type 0} → List X → Option X
first_of [] = None
first_of (x ∷ xs) = Some x

-- the lowest group that passes the test
abbrev pub lowest : (Group → Bool) → List Group → Option ℕ
lowest test groups = option_map (λ (group : Group). group.id) (first_of (filter test groups))

-- the versions that had ended at the floor, by their recorded ends, and the other ones
abbrev pub removable : ℕ → Group → ℕ
removable floor group = how_many (λ version. has_ended floor version.end) (frozen_in group.content)

abbrev pub remaining : ℕ → Group → ℕ
remaining floor group = how_many (λ version. not (has_ended floor version.end)) (frozen_in group.content)

-- at least one version is removable, and at least a tenth of them
abbrev pub is_thin : ℕ → Group → Bool
is_thin floor group = nat_le 1 (removable floor group) && nat_le (total group.content) (10 * removable floor group)

-- what remains of both fits one group
abbrev pub fit_together : ℕ → ℕ → Group → Group → Bool
fit_together floor group_rows a b = nat_le (remaining floor a + remaining floor b) group_rows

abbrev pub or_else : {X : Type 0} → Option X → Option X → Option X
or_else None other = other
or_else (Some x) other = Some x

-- the first pair of groups that fit together, by the first and then by the second
abbrev pub first_pair : ℕ → ℕ → List Group → Option (ℕ × ℕ)
first_pair floor group_rows [] = None
first_pair floor group_rows (group ∷ groups) =
    or_else (option_map (λ second. (group.id, second)) (lowest (fit_together floor group_rows group) groups)) (first_pair floor group_rows groups)

-- the entries that a flush lends: those whose versions lie in packed groups that no claim has
abbrev pub flushable : Book → List Ending
flushable book = entries_for book.buffer (frozen (free_packed book))

-- the groups in which their versions lie
abbrev pub flush_sources : Book → List ℕ
flush_sources book =
    map (λ (group : Group). group.id) (filter (λ (group : Group). list_any (λ entry. list_any (ends book.buffer entry) (frozen_in group.content)) book.buffer) (free_packed book))

abbrev pub is_settling : ℕ → Option End → Bool
is_settling floor None = false
is_settling floor (Some (At end)) = nat_le end floor
is_settling floor (Some Plain) = false

-- how many ends a settle makes plain, and how many groups a clear drops
abbrev pub settling_count : ℕ → Book → ℕ
settling_count floor book = how_many (λ version. is_settling floor version.end) (frozen (free_packed book))

abbrev pub tombstone_count : Book → ℕ
tombstone_count book = how_many (λ (group : Group). is_tombstone group.content) book.groups

abbrev pub some_if : Bool → Choice → Option Choice
some_if true choice = Some choice
some_if false choice = None

abbrev pub merge_of : ℕ × ℕ → Choice
merge_of pair = Merge pair.0 pair.1

-- the seven choices, in order, each where there is one
abbrev pub choices : ℕ → ℕ → Book → List (Option Choice)
choices floor group_rows book =
    option_map Compress (lowest (λ (group : Group). is_closed group.content) (free book))
    ∷ some_if (nat_le 1 (length (flushable book))) Flush
    ∷ option_map Rebuild (lowest (is_thin floor) (free_packed book))
    ∷ option_map merge_of (first_pair floor group_rows (free_packed book))
    ∷ some_if (nat_le 1 (settling_count floor book)) Settle
    ∷ some_if (nat_le 1 (tombstone_count book)) Clear
    ∷ Some Idle
    ∷ []

abbrev pub first_some : List (Option Choice) → Choice
first_some [] = Idle
first_some (None ∷ rest) = first_some rest
first_some (Some choice ∷ rest) = choice

-- a choice that draws an id is Idle where the id would pass 2^62
abbrev pub if_drawn : ℕ → Choice → Choice
if_drawn next choice = if nat_le next (2 ^ 62) then choice else Idle

-- a session neither settles nor clears
abbrev pub if_mover : Actor → Choice → Choice
if_mover (actor.Session n) choice = Idle
if_mover (actor.Mover n) choice = choice

abbrev pub allowed : ℕ → Actor → Choice → Choice
allowed next by (Compress source) = if_drawn next (Compress source)
allowed next by Flush = Flush
allowed next by (Rebuild source) = if_drawn next (Rebuild source)
allowed next by (Merge first second) = if_drawn next (Merge first second)
allowed next by Settle = if_mover by Settle
allowed next by Clear = if_mover by Clear
allowed next by Idle = Idle

-- the choice of an actor's turn
abbrev pub choice : ℕ → ℕ → Actor → Book → Choice
choice floor group_rows by book = allowed book.next by (first_some (choices floor group_rows book))

-- the book after the first event of a turn
abbrev pub after_choice : Choice → ℕ → Actor → Book → Book
after_choice (Compress source) floor by book = after_claim by (Compress source) (source ∷ []) floor book
after_choice Flush floor by book = after_flush_claim by (flush_sources book) floor book
after_choice (Rebuild source) floor by book = after_claim by (Rebuild source) (source ∷ []) floor book
after_choice (Merge first second) floor by book = after_claim by (Merge first second) (first ∷ second ∷ []) floor book
after_choice Settle floor by book = after_settle floor book
after_choice Clear floor by book = after_clear book
after_choice Idle floor by book = book

-- the work of this event, none where there is nothing to do
abbrev pub choice_work : Choice → ℕ → Book → Option Work
choice_work (Compress source) floor book = Some (work.ClaimCompress source book.next)
choice_work Flush floor book = Some (work.ClaimFlush (length (flushable book)))
choice_work (Rebuild source) floor book = Some (work.ClaimRebuild source book.next)
choice_work (Merge first second) floor book = Some (work.ClaimMerge first second book.next)
choice_work Settle floor book = Some (work.Settle (settling_count floor book))
choice_work Clear floor book = Some (work.Clear (tombstone_count book))
choice_work Idle floor book = None

abbrev pub id_in : Option ℕ → ℕ
id_in None = 0
id_in (Some id) = id

-- the work of an install, and of a release
abbrev pub install_work : Choice → Claim → Option Work
install_work (Compress source) claim = Some (work.InstallCompress source (id_in claim.fresh) (length (made_of claim)))
install_work Flush claim = Some (work.InstallFlush (length claim.entries))
install_work (Rebuild source) claim = Some (work.InstallRebuild source (id_in claim.fresh) (length (made_of claim)))
install_work (Merge first second) claim = Some (work.InstallMerge first second (id_in claim.fresh) (length (made_of claim)))
install_work Settle claim = None
install_work Clear claim = None
install_work Idle claim = None

abbrev pub release_work : Choice → Claim → Option Work
release_work (Compress source) claim = Some (work.ReleaseCompress source (id_in claim.fresh))
release_work Flush claim = Some (work.ReleaseFlush (length claim.entries))
release_work (Rebuild source) claim = Some (work.ReleaseRebuild source (id_in claim.fresh))
release_work (Merge first second) claim = Some (work.ReleaseMerge first second (id_in claim.fresh))
release_work Settle claim = None
release_work Clear claim = None
release_work Idle claim = None
