-- What movers make of the book: a claim, and its install or release; settle, clear and close.
use Rattle.std.specs.Prelude.{ℕ, ◌+◌, ◌&&◌, ◌||◌, ◌==◌, List, [], ◌∷◌, ◌++◌, map, filter, min, max, Option, None, Some, Bool, true, false, not, nat_le, nat_lt, if◌then◌else◌}
use Rattle.std.specs.List.{list_any}
use Rattle.cs_types.specs.declared.Key.{Key}
use Rattle.cs_types.specs.Keys.{same_key}
use Rattle.cs_model.specs.declared.work.Actor.{Actor}
use Rattle.cs_model.specs.declared.work.Actor.TheVariants.{Session, Mover}
use Rattle.group_book.specs.Book.{End, Version, Ending, Content, Group, Choice, Claim, Book, frozen, has_ended, is_buffered, total, deleted, is_tombstone}
use Rattle.group_book.specs.Book.End.{At, Plain}
use Rattle.group_book.specs.Book.Content.{Opened, Closed, Compressed, Invisible, Tombstone}
use Rattle.group_book.specs.Book.Choice.{Compress, Flush, Rebuild, Merge, Settle, Clear, Idle}

-- ---- entries and the versions that they end

abbrev pub lesser : ℕ → Option ℕ → Option ℕ
lesser e None = Some e
lesser e (Some f) = Some (min e f)

-- the least number above the begin at which the buffer ends a version of the key
abbrev pub least_entry : List Ending → Key → ℕ → Option ℕ
least_entry [] key begin = None
least_entry (entry ∷ entries) key begin =
    if same_key key entry.key && nat_lt begin entry.end then lesser entry.end (least_entry entries key begin) else least_entry entries key begin

abbrev pub unless_ended : Option End → Option ℕ → Option ℕ
unless_ended None entry = entry
unless_ended (Some end) entry = None

-- the number at which an entry of the buffer ends the version; none where its end is recorded beside it, or it has none
abbrev pub buffered_end : List Ending → Version → Option ℕ
buffered_end buffer version = unless_ended version.end (least_entry buffer version.key version.begin)

abbrev pub is_number : ℕ → Option ℕ → Bool
is_number e None = false
is_number e (Some f) = f == e

-- the entry ends the version
abbrev pub ends : List Ending → Ending → Version → Bool
ends buffer entry version = same_key entry.key version.key && is_number entry.end (buffered_end buffer version)

-- the entry stands among these
abbrev pub holds : List Ending → Key → ℕ → Bool
holds entries key end = list_any (λ (entry : Ending). same_key key entry.key && (entry.end == end)) entries

-- ---- which groups

abbrev pub is_id_of : List ℕ → Group → Bool
is_id_of ids group = list_any (λ id. id == group.id) ids

-- the groups that some claim works on
abbrev pub is_claimed : List Claim → Group → Bool
is_claimed claims group = list_any (λ (claim : Claim). is_id_of claim.sources group) claims

-- the versions of the groups of these ids
abbrev pub versions_of : List ℕ → List Group → List Version
versions_of sources groups = frozen (filter (is_id_of sources) groups)

abbrev pub is_fresh : Option ℕ → Group → Bool
is_fresh None group = false
is_fresh (Some id) group = group.id == id

-- ---- the claim

-- the entries of the buffer that end one of the versions
abbrev pub entries_for : List Ending → List Version → List Ending
entries_for buffer versions = filter (λ entry. list_any (ends buffer entry) versions) buffer

-- a claim of an actor lends its sources' versions as they stand, with the entries that end them
abbrev pub claim_of : Actor → Choice → List ℕ → Option ℕ → ℕ → Book → Claim
claim_of actor choice sources fresh floor book = record {
  actor = actor;
  choice = choice;
  sources = sources;
  fresh = fresh;
  floor = floor;
  lent = versions_of sources book.groups;
  entries = entries_for book.buffer (versions_of sources book.groups);
}

-- a claim of compress, rebuild or merge takes the next id for the group that it makes
abbrev pub after_claim : Actor → Choice → List ℕ → ℕ → Book → Book
after_claim actor choice sources floor book = record {
  groups = book.groups ++ record { id = book.next; content = Invisible } ∷ [];
  buffer = book.buffer;
  claims = claim_of actor choice sources (Some book.next) floor book ∷ book.claims;
  next = book.next + 1;
}

-- a flush makes no group
abbrev pub after_flush_claim : Actor → List ℕ → ℕ → Book → Book
after_flush_claim actor sources floor book = record book { claims = claim_of actor Flush sources None floor book ∷ book.claims }

-- ---- the claim that an actor holds

-- a session and a mover are two actors, whatever their numbers
abbrev pub same_actor : Actor → Actor → Bool
same_actor (Session m) (Session n) = m == n
same_actor (Session m) (Mover n) = false
same_actor (Mover m) (Session n) = false
same_actor (Mover m) (Mover n) = m == n

abbrev pub is_by : Actor → Claim → Bool
is_by actor claim = same_actor claim.actor actor

abbrev pub first_claim : List Claim → Option Claim
first_claim [] = None
first_claim (claim ∷ claims) = Some claim

abbrev pub claim_by : Actor → Book → Option Claim
claim_by actor book = first_claim (filter (is_by actor) book.claims)

abbrev pub without_claim : Actor → List Claim → List Claim
without_claim actor claims = filter (λ claim. not (is_by actor claim)) claims

abbrev pub without_fresh : Option ℕ → List Group → List Group
without_fresh fresh groups = filter (λ group. not (is_fresh fresh group)) groups

-- ---- the install of compress, rebuild and merge

-- the version had ended at f, by its recorded end or by a lent entry
abbrev pub is_gone : ℕ → List Ending → Version → Bool
is_gone f entries version = has_ended f version.end || is_buffered entries version.key version.begin f

-- the version, with a begin below f raised to f
abbrev pub raised : ℕ → Version → Version
raised f version = record version { begin = max f version.begin }

-- the versions of the new group: without those that had ended at f, and with begins of at least f; a later end that was
-- recorded stays beside its version
abbrev pub repacked : ℕ → List Ending → List Version → List Version
repacked f entries versions = map (raised f) (filter (λ version. not (is_gone f entries version)) versions)

abbrev pub made_of : Claim → List Version
made_of claim = repacked claim.floor claim.entries claim.lent

-- the lent entries that go with the versions that are left out
abbrev pub spent_of : Claim → List Ending
spent_of claim = filter (λ (entry : Ending). nat_le entry.end claim.floor) claim.entries

abbrev pub without_entries : List Ending → List Ending → List Ending
without_entries gone buffer = filter (λ (entry : Ending). not (holds gone entry.key entry.end)) buffer

-- a source becomes a tombstone with its counts, and the new group gets its versions
abbrev pub replaced_group : List ℕ → Option ℕ → List Version → Group → Group
replaced_group sources fresh versions group = record group {
  content =
      if is_id_of sources group then Tombstone (total group.content) (deleted group.content)
      else if is_fresh fresh group then Compressed versions
      else group.content;
}

-- a group without a version is gone
abbrev pub is_none_left : List Version → Bool
is_none_left [] = true
is_none_left (version ∷ versions) = false

-- an install whose new group gets these versions
abbrev pub installed_with : List Version → Claim → Book → Book
installed_with versions claim book = record {
  groups = map (replaced_group claim.sources claim.fresh versions) (if is_none_left versions then without_fresh claim.fresh book.groups else book.groups);
  buffer = without_entries (spent_of claim) book.buffer;
  claims = without_claim claim.actor book.claims;
  next = book.next;
}

abbrev pub after_install : Claim → Book → Book
after_install claim book = installed_with (made_of claim) claim book

-- ---- the install of a flush

abbrev pub end_in : Option ℕ → List Ending → Key → Option End → Option End
end_in None lent key end = end
end_in (Some e) lent key end = if holds lent key e then Some (At e) else end

-- the version, with the number of the entry that ends it as its end, where that entry was lent
abbrev pub flushed : List Ending → List Ending → Version → Version
flushed buffer lent version = record version { end = end_in (buffered_end buffer version) lent version.key version.end }

abbrev pub with_compressed : (List Version → List Version) → Content → Content
with_compressed f (Opened versions) = Opened versions
with_compressed f (Closed versions) = Closed versions
with_compressed f (Compressed versions) = Compressed (f versions)
with_compressed f Invisible = Invisible
with_compressed f (Tombstone versions ends) = Tombstone versions ends

abbrev pub flushed_group : List ℕ → List Ending → List Ending → Group → Group
flushed_group sources buffer lent group = record group {
  content = if is_id_of sources group then with_compressed (map (flushed buffer lent)) group.content else group.content;
}

abbrev pub after_flush : Claim → Book → Book
after_flush claim book = record {
  groups = map (flushed_group claim.sources book.buffer claim.entries) book.groups;
  buffer = without_entries claim.entries book.buffer;
  claims = without_claim claim.actor book.claims;
  next = book.next;
}

abbrev pub after_work : Choice → Claim → Book → Book
after_work (Compress source) claim book = after_install claim book
after_work Flush claim book = after_flush claim book
after_work (Rebuild source) claim book = after_install claim book
after_work (Merge first second) claim book = after_install claim book
after_work Settle claim book = book
after_work Clear claim book = book
after_work Idle claim book = book

-- the book after the install of the actor's claim
abbrev pub installed : Option Claim → Book → Book
installed None book = book
installed (Some claim) book = after_work claim.choice claim book

-- ---- the other events

-- a release gives the claim back: the group that was being made is gone, and nothing else changes
abbrev pub after_release : Claim → Book → Book
after_release claim book = record {
  groups = without_fresh claim.fresh book.groups;
  buffer = book.buffer;
  claims = without_claim claim.actor book.claims;
  next = book.next;
}

abbrev pub released : Option Claim → Book → Book
released None book = book
released (Some claim) book = after_release claim book

-- all tombstones go
abbrev pub after_clear : Book → Book
after_clear book = record book { groups = filter (λ (group : Group). not (is_tombstone group.content)) book.groups }

abbrev pub settled_end : ℕ → Option End → Option End
settled_end f None = None
settled_end f (Some (At end)) = if nat_le end f then Some Plain else Some (At end)
settled_end f (Some Plain) = Some Plain

-- the version, with a numbered end at most f made plain
abbrev pub settled : ℕ → Version → Version
settled f version = record version { end = settled_end f version.end }

abbrev pub settled_group : ℕ → List Claim → Group → Group
settled_group f claims group = record group {
  content = if is_claimed claims group then group.content else with_compressed (map (settled f)) group.content;
}

-- in packed groups that no claim has, numbered ends at most the floor become plain
abbrev pub after_settle : ℕ → Book → Book
after_settle floor book = record book { groups = map (settled_group floor book.claims) book.groups }

-- the open store is closed
abbrev pub closed : Content → Content
closed (Opened versions) = Closed versions
closed (Closed versions) = Closed versions
closed (Compressed versions) = Compressed versions
closed Invisible = Invisible
closed (Tombstone versions ends) = Tombstone versions ends

abbrev pub after_close : Book → Book
after_close book = record book { groups = map (λ (group : Group). record group { content = closed group.content }) book.groups }
