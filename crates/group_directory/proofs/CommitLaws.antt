-- The commit of own writes: what it rests on, and what the directory stands for after it.
use Rattle.std.proofs.Common.{◌≡◌, ℕ, zero, suc, ◌<◌, ◌≤◌, ◌+◌, ◌-◌, Bool, true, false, cond, nat_le, List, Vec, [], ◌∷◌, ◌++◌, map, filter, length, get_or, take, drop, Option, Some, None, is_some, refl, sym, ap, subst, ◌∙◌, arith}
use Rattle.std.specs.Prelude.{Result, Ok, Err, OnErr, slice_get}
use Rattle.std.specs.List.{All, AllByRecursion}
use Rattle.std.specs.List.Sorted.{IsPermutation, IsStrictlySortedBy}
use Rattle.std.specs.Option.{ForSome}
use Rattle.std.specs.FinMap as finite
use Rattle.std.specs.declared.alloc.Global.{Global}
use Rattle.std.specs.declared.cmp.Ordering.TheVariants.{Less}
use Rattle.std.proofs.lemmas.List.{append-nil, map-append, map_more}
use Rattle.std.proofs.lemmas.List.Elements.{All-weaker, All-from_recursion, recursion_from_All, filter_more}
use Rattle.std.proofs.lemmas.List.Kept.{AllPairs-cons, AllPairs-filter}
use Rattle.std.proofs.lemmas.List.Sorted.{IsPermutation-map}
use Rattle.std.proofs.lemmas.Option.{get_or_from_slice_get, slice_get_within}
use Rattle.cs_types.specs.declared.Key.{Key}
use Rattle.cs_types.specs.declared.Value.{Value}
use Rattle.cs_types.specs.Keys.{key_cmp}
use Rattle.cs_model.specs.declared.work.Actor.{Actor}
use Rattle.cs_model.specs.Changes.{Edit, Change}
use Rattle.cs_model.specs.Obstacles.{keys_of}
use Rattle.cs_model.specs.Steps.{numbered}
use Rattle.edit_laws.specs.Edits.{edits_of}
use Rattle.delete_buffer.specs.Entries.{Ascend}
use Rattle.write_set.specs.declared.write.Write.{Write}
use Rattle.write_set.specs.Writes as writes
use Rattle.txn_table.specs.declared.txn.Txn.{Txn}
use Rattle.txn_table.specs.Txns.{Table, txn_of, with}
use Rattle.version_store.specs.Newest.{Newest, Changes}
use Rattle.group_book.specs.Book.{Book, opened}
use Rattle.group_book.specs.Commits.{Sizes, is_in_table, is_one_of, has_live, replaced_by, inserted_by, direct_parts, after_ends, after_loads, after_rest}
use Rattle.group_book.specs.Invariant.{IsBookOf}
use Rattle.group_view.specs.declared.claim.Claim.{Claim}
use Rattle.group_view.specs.declared.claim.Parcel.{Parcel}
use Rattle.group_view.specs.declared.groups.Group.{Group}
use Rattle.group_view.specs.declared.groups.GroupList.{GroupList}
use Rattle.group_view.specs.Books.{book_of}
use Rattle.group_view.specs.Lists.{listed, packed_in, IsHeld}
use Rattle.group_view.specs.Laws.{IsMadeRow}
use Rattle.group_view.specs.Parts.{Rowed, ArePacked}
use Rattle.group_directory.specs.declared.directory.Directory.{Directory}
use Rattle.group_view.specs.Seen.{rooted}
use Rattle.group_directory.specs.Stands.{width_in, rows_in, listed_rows, IsLoanOf, IsRecent, Stands}
use Rattle.group_directory.specs.Laws.{rooted_at, noted_by, sizes_of}
use Rattle.group_view.specs.Parcels.{keys_in, packed_keys, parcel_rows}
use Rattle.group_directory.specs.Committing.{Origin, origin_of, origins, new_origin, rebased, packed_groups, after_parcel}
use Rattle.group_directory.specs.Calls.{replaced_in, IsParcelFor, IsCommitOf}
use Rattle.write_set.specs.Writes.{write_keys}
use Rattle.group_directory.proofs.KeyLaws.{keys_are, sorted_keys, replaced_are, inserted_are}
use Rattle.group_directory.proofs.PutLemmas.{keys_up}
use Rattle.group_directory.proofs.BookLaws.{buffer_low, live_replaced}
use Rattle.group_directory.proofs.EventLaws.{book_committed}
use Rattle.group_directory.proofs.GroupLaws.{committed_rows, committed_loans}
use Rattle.group_directory.proofs.LentLaws.{stay_committed, lent_moved}
use Rattle.group_directory.proofs.PackedLaws.{packed_after}
use Rattle.group_directory.proofs.RecentLaws.{noted_low}
use Rattle.group_directory.proofs.StandLaws.{stands_committed, stands_risen}
use Rattle.group_directory.proofs.TxnLaws.{commits_risen}
use Rattle.group_directory.proofs.WholeLemmas.{origins_of_listed, zip_keys}

-- ---- keys in order

keys_rise : (keys : List Key) → IsStrictlySortedBy key_cmp keys → Ascend keys
unfolding IsStrictlySortedBy
keys_rise [] up = λ i j d less below. absurd (omega (arith, below))
keys_rise (key ∷ keys) up = AllPairs-cons (λ (a b : Key). key_cmp a b ≡ Less) key keys (All-from_recursion (λ (other : Key). key_cmp key other ≡ Less) keys up.0) (keys_rise keys up.1)

pub written_up : (own : List Write) → writes.Ascend own → Ascend (write_keys own)
written_up own up = subst (λ (keys : List Key). Ascend keys) (keys_are own) (keys_rise (keys_of (edits_of own)) (sorted_keys own up))

some_up : (test : Write → Bool) (own : List Write) → writes.Ascend own → Ascend (write_keys (filter test own))
some_up test own up = written_up (filter test own) (AllPairs-filter (λ (a b : Write). key_cmp a.key b.key ≡ Less) test own up)

replaced_up : (own : List Write) → writes.Ascend own → Ascend (replaced_in own)
replaced_up own up = some_up (λ (write : Write). write.replaces) own up

pub written_more : (own : List Write) (i : ℕ) (write : Write) → slice_get own i ≡ Some write → write_keys (take (i + 1) own) ≡ write_keys (take i own) ++ write.key ∷ []
written_more own i write is =
    map_more (λ (w : Write). w.key) own i write (slice_get_within own i write is)
    ∙ ap (λ (w : Write). write_keys (take i own) ++ w.key ∷ []) (get_or_from_slice_get own i write write is)

pub replaced_more : (own : List Write) (i : ℕ) (write : Write) → slice_get own i ≡ Some write → replaced_in (take (i + 1) own) ≡ replaced_in (take i own) ++ replaced_in (write ∷ [])
replaced_more own i write is =
    ap write_keys (filter_more (λ (w : Write). w.replaces) own i write (slice_get_within own i write is))
    ∙ map-append (λ (w : Write). w.key) (filter (λ (w : Write). w.replaces) (take i own)) (filter (λ (w : Write). w.replaces) (get_or own i write ∷ []))
    ∙ ap (λ (w : Write). replaced_in (take i own) ++ replaced_in (w ∷ [])) (get_or_from_slice_get own i write write is)

-- what holds of a list and of what is left of it holds of the rest of a parcel
module _ (P : List Key → Type 0) (shorter : (key : Key) (keys : List Key) → P (key ∷ keys) → P keys) where
  dropped : (n : ℕ) (keys : List Key) → P keys → P (drop n keys)
  dropped zero keys all = all
  dropped (suc n) [] all = all
  dropped (suc n) (key ∷ keys) all = dropped n keys (shorter key keys all)

  rest_step : (t : Bool) (more : List (List Key)) (rest keys : List Key) → P rest → P keys → P (let both : List (List Key) × List Key = cond t (more, rest) ([], keys) in both.1)
  rest_step true more rest keys all whole = all
  rest_step false more rest keys all whole = whole

  rest_of : (n : ℕ) (sizes : Sizes) (keys : List Key) → P keys → P (direct_parts n sizes keys).1
  rest_of zero sizes keys all = all
  rest_of (suc n) sizes keys all =
      rest_step (nat_le sizes.direct_rows (length keys)) (take sizes.group_rows keys ∷ (direct_parts n sizes (drop sizes.group_rows keys)).0) (direct_parts n sizes (drop sizes.group_rows keys)).1 keys
      (rest_of n sizes (drop sizes.group_rows keys) (dropped sizes.group_rows keys all)) all

-- ---- rows

abbrev root_of : Origin → Key × ℕ × List Value
root_of origin = (origin.key, origin.begin, origin.row)

roots_are : (rows : List Rowed) → map root_of (map origin_of rows) ≡ map rooted rows
roots_are [] = refl
roots_are (row ∷ rows) = ap (λ (more : List (Key × ℕ × List Value)). rooted row ∷ more) (roots_are rows)

roots_new : (c : ℕ) (news : List (Key × List Value)) → map root_of (map (new_origin c) news) ≡ map (rooted_at c) news
roots_new c [] = refl
roots_new c (new ∷ news) = ap (λ (more : List (Key × ℕ × List Value)). rooted_at c new ∷ more) (roots_new c news)

roots_in : (groups : List Group) → map root_of (origins groups) ≡ map rooted (rows_in (listed groups))
roots_in groups = ap (map root_of) (origins_of_listed groups) ∙ roots_are (rows_in (listed groups))

roots_moved : (c : ℕ) (old new : List Group) (news : List (Key × List Value)) → IsPermutation (origins old ++ map (new_origin c) news) (origins new)
    → IsPermutation (map rooted (rows_in (listed old)) ++ map (rooted_at c) news) (map rooted (rows_in (listed new)))
roots_moved c old new news moved =
    subst (λ (roots : List (Key × ℕ × List Value)). IsPermutation roots (map rooted (rows_in (listed new)))) before
    (subst (λ (roots : List (Key × ℕ × List Value)). IsPermutation (map root_of (origins old ++ map (new_origin c) news)) roots) (roots_in new)
    (IsPermutation-map root_of (origins old ++ map (new_origin c) news) (origins new) moved))
  where
    before : map root_of (origins old ++ map (new_origin c) news) ≡ map rooted (rows_in (listed old)) ++ map (rooted_at c) news
    before =
        map-append root_of (origins old) (map (new_origin c) news)
        ∙ ap (λ (roots : List (Key × ℕ × List Value)). roots ++ map root_of (map (new_origin c) news)) (roots_in old)
        ∙ ap (λ (roots : List (Key × ℕ × List Value)). map rooted (rows_in (listed old)) ++ roots) (roots_new c news)

-- ---- what a commit rests on

module _ (directory : Directory) (cs : List Change) (j : Stands directory cs) where
  pub room_one : 1 ≤ directory.sizes.group_rows
  room_one = let sizes = j.sizes in let least = sizes.least_group in omega (arith, least)

  module _ (c : ℕ) (less : directory.clock < c) where
    pub entries_later : All (λ (entry : Key × ℕ). entry.1 < c) directory.list.buffer.entries
    entries_later =
        All-weaker (λ (entry : Key × ℕ). entry.1 ≤ directory.clock) (λ (entry : Key × ℕ). entry.1 < c) (λ entry low. omega (arith, low, less)) directory.list.buffer.entries (buffer_low directory cs j)

    pub notes_older : (key : Key) → ForSome (finite.get directory.recent.changes key) (λ other. other.commit < c)
    notes_older key other is = let low = noted_low directory.pruned directory.recent.changes cs j.recent directory.clock j.numbered key other is in omega (arith, low, less)

  module _ (session : ℕ) (written replaced : List Key) (parcel : Parcel) (own : List Write) (is : IsCommitOf directory cs session written replaced parcel own) where
    given : IsParcelFor directory own parcel
    given = is.parcel

    abbrev Says : Write → Type 0
    Says write = write.replaces ≡ is_in_table cs directory.clock write.key

    replaced_is : replaced_by cs directory.clock (edits_of own) ≡ replaced
    replaced_is = let may = is.may in replaced_are cs directory.clock own (recursion_from_All Says own may.replaces) ∙ sym is.replaced

    pub keys_ascend : Ascend written
    keys_ascend = subst (λ (keys : List Key). Ascend keys) (sym is.keys) (written_up own is.order)

    pub replaced_ascend : Ascend replaced
    replaced_ascend = subst (λ (keys : List Key). Ascend keys) (sym is.replaced) (replaced_up own is.order)

    pub rest_up : Ascend (keys_in parcel.rest)
    rest_up =
        subst (λ (keys : List Key). Ascend keys) (sym given.parts.rest)
        (rest_of (λ (keys : List Key). Ascend keys) keys_up (length (inserted_by (edits_of own))) (sizes_of directory) (inserted_by (edits_of own))
        (subst (λ (keys : List Key). Ascend keys) (sym (inserted_are own)) (some_up (λ (write : Write). is_some write.row) own is.order)))

    abbrev IsReplaced : List Key → Key → Type 0
    IsReplaced keys key = let whole = book_of directory.list in has_live key (opened whole.groups) ≡ true → is_one_of keys key ≡ true

    pub rest_live : All (IsReplaced replaced) (keys_in parcel.rest)
    rest_live =
        let inserted = subst (λ (keys : List Key). All (IsReplaced keys) (inserted_by (edits_of own))) replaced_is (live_replaced directory cs j (edits_of own)) in
        All-from_recursion (IsReplaced replaced) (keys_in parcel.rest)
        (subst (λ (keys : List Key). AllByRecursion (IsReplaced replaced) keys) (sym given.parts.rest)
        (rest_of (λ (keys : List Key). AllByRecursion (IsReplaced replaced) keys) (λ key keys all. all.1) (length (inserted_by (edits_of own))) (sizes_of directory) (inserted_by (edits_of own))
        (recursion_from_All (IsReplaced replaced) (inserted_by (edits_of own)) inserted)))

    -- ---- what it leaves

    module _ (number : ℕ) (list : GroupList) where
      abbrev g : ℕ
      g = directory.sizes.group_rows

      abbrev c : ℕ
      c = directory.clock + 1

      abbrev now : List Change
      now = cs ++ numbered c number (edits_of own)

      done_book : book_of list ≡ after_parcel g c replaced parcel (book_of directory.list) → IsBookOf g (book_of list) now j.floor
      done_book book_is =
          let parts : List (List Key) × List Key = direct_parts (length (inserted_by (edits_of own))) (sizes_of directory) (inserted_by (edits_of own)) in
          subst (λ (whole : Book). IsBookOf g whole now j.floor) (sym book_is)
          (subst (λ (keys : List Key). IsBookOf g (after_rest g c keys (after_loads c (map packed_keys parcel.groups) (after_ends replaced c (book_of directory.list)))) now j.floor) (sym given.parts.rest)
          (subst (λ (keys : List Key). IsBookOf g (after_rest g c parts.1 (after_loads c (map packed_keys parcel.groups) (after_ends keys c (book_of directory.list)))) now j.floor) replaced_is
          (book_committed directory cs j number (edits_of own) (map packed_keys parcel.groups) (sorted_keys own is.order) (zip_keys parts.0 parcel.groups given.parts.groups))))

      pub stands_done : (txns : Table) (recent : Newest) → IsHeld list → list.claims ≡ directory.list.claims → book_of list ≡ after_parcel g c replaced parcel (book_of directory.list)
          → IsPermutation (origins directory.list.groups.items ++ map (new_origin c) (parcel_rows parcel)) (origins list.groups.items)
          → packed_groups list.groups.items ≡ packed_groups directory.list.groups.items ++ map (rebased c) parcel.groups → txn_of txns ≡ with (txn_of directory.txns) session None
          → recent.changes ≡ noted_by (record { commit = c; txn = number }) directory.recent.changes written
          → Stands (record directory { list = list; txns = txns; recent = recent; clock = directory.clock + 1 }) now
      stands_done txns recent held claims book_is moved packed gone noted =
          let rows = committed_rows directory cs j number (edits_of own) (listed_rows list) (parcel_rows parcel) (sorted_keys own is.order) given.given (roots_moved c directory.list.groups.items list.groups.items (parcel_rows parcel) moved) in
          let loans = subst (λ (all : List (Actor × Claim)). All (IsLoanOf directory.schema.value now) all) (sym (ap (λ (some : Vec (Actor × Claim) Global). some.items) claims)) (committed_loans directory cs j number (edits_of own)) in
          let same = ap (λ (some : Vec (Actor × Claim) Global). some.items) claims in
          let lent = lent_moved directory.list list (after_parcel g c replaced parcel (book_of directory.list)) book_is same
          (λ claim in_list. stay_committed g (book_of directory.list) cs j.floor j.book claim in_list g c replaced (keys_in parcel.rest) (map packed_keys parcel.groups)) j.lent in
          let are = packed_after directory.schema.value c directory.list.groups.items list.groups.items parcel.groups packed given.begun given.packed j.packed in
          let keys : written ≡ keys_of (edits_of own) = is.keys ∙ sym (keys_are own) in
          stands_committed directory cs j txns session number own list recent is.may (record { held = held; rows = rows; packed = are; loans = loans; lent = lent }) (done_book book_is)
          gone (noted ∙ ap (λ (all : List Key). noted_by (record { commit = c; txn = number }) directory.recent.changes all) keys)

  -- ---- where nothing has changed but room

  pub stands_kept : (list : GroupList) (recent : Newest) → IsHeld list → list.claims ≡ directory.list.claims → book_of list ≡ book_of directory.list → listed list.groups.items ≡ listed directory.list.groups.items
      → packed_in list.groups.items ≡ packed_in directory.list.groups.items → recent.changes ≡ directory.recent.changes → Stands (record directory { list = list; recent = recent }) cs
  stands_kept list recent held claims book_is rows packed noted = record {
    sizes = j.sizes;
    held = held;
    numbered = j.numbered;
    floor = j.floor;
    is_floor = j.is_floor;
    book = subst (λ (whole : Book). IsBookOf directory.sizes.group_rows whole cs j.floor) (sym book_is) j.book;
    rows = subst (λ (groups : List (ℕ × List Rowed)). All (IsMadeRow (width_in directory) cs) (rows_in groups)) (sym rows) j.rows;
    packed = subst (ArePacked directory.schema.value) (sym packed) j.packed;
    loans = subst (λ (all : List (Actor × Claim)). All (IsLoanOf directory.schema.value cs) all) (sym (ap (λ (some : Vec (Actor × Claim) Global). some.items) claims)) j.loans;
    lent = lent_moved directory.list list (book_of directory.list) book_is (ap (λ (some : Vec (Actor × Claim) Global). some.items) claims) (λ claim in_list. refl) j.lent;
    recent = subst (λ (noted : Changes). IsRecent directory.pruned noted cs) (sym noted) j.recent;
    pruned = j.pruned;
    txns = j.txns;
  }

-- ---- a commit of a number above the clock

module _ (directory : Directory) (cs : List Change) (j : Stands directory cs) (session : ℕ) (written replaced : List Key) (parcel : Parcel) (own : List Write) (is : IsCommitOf directory cs session written replaced parcel own) where
  is_risen : (now : ℕ) → directory.clock ≤ now → IsCommitOf (record directory { clock = now }) cs session written replaced parcel own
  is_risen now rises = record {
    order = is.order;
    keys = is.keys;
    replaced = is.replaced;
    may = commits_risen (txn_of directory.txns) cs directory.clock now session own j.numbered rises is.may;
    parcel = is.parcel;
  }

  module _ (number : ℕ) (list : GroupList) (txns : Table) (recent : Newest) where
    -- what a commit of the number c leaves stands for the changes and those of the commit
    abbrev Done : ℕ → Type 0
    Done c =
        IsHeld list → list.claims ≡ directory.list.claims → book_of list ≡ after_parcel directory.sizes.group_rows c replaced parcel (book_of directory.list)
        → IsPermutation (origins directory.list.groups.items ++ map (new_origin c) (parcel_rows parcel)) (origins list.groups.items)
        → packed_groups list.groups.items ≡ packed_groups directory.list.groups.items ++ map (rebased c) parcel.groups → txn_of txns ≡ with (txn_of directory.txns) session None
        → recent.changes ≡ noted_by (record { commit = c; txn = number }) directory.recent.changes written
        → Stands (record directory { list = list; txns = txns; recent = recent; clock = c }) (cs ++ numbered c number (edits_of own))

    -- it is the next commit of the directory with a later clock
    done_next : (now : ℕ) → directory.clock ≤ now → Done (now + 1)
    done_next now rises = stands_done (record directory { clock = now }) cs (stands_risen directory cs j now rises) session written replaced parcel own (is_risen now rises) number list txns recent

    pub stands_above : (c : ℕ) → directory.clock < c → Done c
    stands_above c less = let same : c - 1 + 1 ≡ c = omega (arith, less) in subst Done same (done_next (c - 1) (omega (arith, less)))

-- ---- nothing to commit

-- who has no keys has no writes
pub none_written : (keys : List Key) (own : List Write) → keys ≡ [] → keys ≡ write_keys own → own ≡ []
none_written keys [] none is = refl
none_written keys (write ∷ own) none is = absurd (cc (none, is))

pub stands_none : (directory : Directory) (cs : List Change) (c number : ℕ) (own : List Write) → own ≡ [] → Stands directory cs → Stands directory (cs ++ numbered c number (edits_of own))
stands_none directory cs c number own none j = subst (λ (o : List Write). Stands directory (cs ++ numbered c number (edits_of o))) (sym none) (subst (Stands directory) (sym (append-nil cs)) j)

-- one transaction under two names
pub retold : (directory : Directory) (cs : List Change) (c : ℕ) (own : List Edit) (code txn : Txn) → (let here : Option Txn = Some code in here) ≡ Some txn → Stands directory (cs ++ numbered c code.number own)
    → Stands directory (cs ++ numbered c txn.number own)
retold directory cs c own code txn same j =
    let one : code ≡ txn = cc in
    subst (λ (t : Txn). Stands directory (cs ++ numbered c t.number own)) one j

pub on_err : {X Y : Type 0} (P : Type 0) (result : Result X Y) → P → OnErr result P
on_err P (Ok x) holds = tt
on_err P (Err e) holds = holds
