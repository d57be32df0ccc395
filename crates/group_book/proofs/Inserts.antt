-- A commit's rows find their groups: direct loads, and the open store.
use Rattle.std.proofs.Common.{◌≡◌, ℕ, zero, suc, ◌≤◌, ◌+◌, ◌⊎◌, Bool, true, false, cond, ltb, leb, List, [], ◌∷◌, ◌++◌, map, length, take, drop, refl, sym, ap, subst, ◌∙◌, inl, inr, arith}
use Rattle.std.specs.List.{list_any}
use Rattle.std.specs.List.Sorted.{IsPermutation}
use Rattle.std.proofs.lemmas.List.{append_assoc, append-nil, map-append, take-append-drop}
use Rattle.std.proofs.lemmas.List.Sorted.{IsPermutation-refl, IsPermutation-append_right, IsPermutation-append_comm}
use Rattle.cs_types.specs.declared.Key.{Key}
use Rattle.cs_model.specs.Changes.{Edit, Change}
use Rattle.cs_model.specs.Steps.{numbered}
use Rattle.group_book.specs.Book.{Version, Ending, Content, Group, Book, how_many, opened, opened_in, frozen, frozen_in, is_opened}
use Rattle.group_book.specs.Book.Content.{Opened, Closed, Compressed, Invisible, Tombstone}
use Rattle.group_book.specs.Commits.{Sizes, replaced_by, inserted_by, ended_by, with_opened, after_ends, direct_parts, new_version, with_group, after_loads, store_of, with_version, stored, after_rest, after_inserts, after_commit}
use Rattle.group_book.specs.Stocks.{stock_of, IsStockOf}
use Rattle.group_book.proofs.Lists.{how_many-append, how_many-none, none_pass, some_pass}
use Rattle.group_book.proofs.Changes.{AreAscending, AreBelow}
use Rattle.group_book.proofs.Made.{HasEachKeyOnce}
use Rattle.group_book.proofs.Move.{stock_moved, stock_permuted}
use Rattle.group_book.proofs.Groups.{frozen-append, opened-append, behind_kept}
use Rattle.group_book.proofs.Events.{moved_to, same_list}
use Rattle.group_book.proofs.Commit.{stock_committed}

abbrev opens : Group → Bool
opens g = is_opened g.content

-- at most one group is the open store, and the stock is right if the versions of these keys are counted to it
record IsPending (cs : List Change) (floor c : ℕ) (groups : List Group) (buffer : List Ending) (keys : List Key) : Type 0 where
  stock : IsStockOf (record { opened = opened groups ++ map (new_version c) keys; frozen = frozen groups; buffer = buffer }) cs floor
  one : how_many opens groups ≤ 1

-- some of the open versions, wherever they stand, go to the others
moved_out : (cs : List Change) (floor : ℕ) (old new frozen_old frozen_new moved : List Version) (buffer : List Ending)
    → IsPermutation old (new ++ moved) → IsPermutation (frozen_old ++ moved) frozen_new
    → IsStockOf (record { opened = old; frozen = frozen_old; buffer = buffer }) cs floor → IsStockOf (record { opened = new; frozen = frozen_new; buffer = buffer }) cs floor
moved_out cs floor old new frozen_old frozen_new moved buffer first second j =
    stock_permuted (record { opened = new; frozen = frozen_old ++ moved; buffer = buffer }) cs floor frozen_new new second (IsPermutation-refl new)
    (stock_moved (record { opened = new ++ moved; frozen = frozen_old; buffer = buffer }) cs floor new moved
    (stock_permuted (record { opened = old; frozen = frozen_old; buffer = buffer }) cs floor frozen_old (new ++ moved) (IsPermutation-refl frozen_old) first j) refl)

last_of : {X : Type 0} (xs ys zs : List X) → IsPermutation (xs ++ (ys ++ zs)) ((xs ++ zs) ++ ys)
last_of xs ys zs = subst (IsPermutation (xs ++ (ys ++ zs))) (sym (append_assoc xs zs ys)) (IsPermutation-append_right xs (ys ++ zs) (zs ++ ys) (IsPermutation-append_comm ys zs))

module _ (cs : List Change) (floor c : ℕ) where
  abbrev nv : Key → Version
  nv key = new_version c key

  -- a direct load takes the first keys
  load_one : (groups : List Group) (buffer : List Ending) (id : ℕ) (part keys : List Key) → IsPending cs floor c groups buffer (part ++ keys)
      → IsPending cs floor c (groups ++ record { id = id; content = Compressed (map nv part) } ∷ []) buffer keys
  load_one groups buffer id part keys p = record {
    stock = moved_out cs floor (opened groups ++ map nv (part ++ keys)) (opened (groups ++ record { id = id; content = Compressed (map nv part) } ∷ []) ++ map nv keys) (frozen groups) (frozen (groups ++ record { id = id; content = Compressed (map nv part) } ∷ [])) (map nv part) buffer
        (subst (λ l. IsPermutation (opened groups ++ l) ((opened (groups ++ record { id = id; content = Compressed (map nv part) } ∷ []) ++ map nv keys) ++ map nv part)) (sym (map-append nv part keys))
        (subst (λ l. IsPermutation (opened groups ++ (map nv part ++ map nv keys)) ((l ++ map nv keys) ++ map nv part)) (sym (opened-append groups (record { id = id; content = Compressed (map nv part) } ∷ []) ∙ append-nil (opened groups)))
        (last_of (opened groups) (map nv part) (map nv keys))))
        (same_list (frozen groups ++ map nv part) (frozen (groups ++ record { id = id; content = Compressed (map nv part) } ∷ [])) (sym (frozen-append groups (record { id = id; content = Compressed (map nv part) } ∷ []) ∙ ap (λ l. frozen groups ++ l) (append-nil (map nv part)))))
        p.stock;
    one = let one = p.one in omega (arith, one, how_many-append opens groups (record { id = id; content = Compressed (map nv part) } ∷ []));
  }

  -- the parts are loaded, and the rest is pending
  abbrev IsLoaded : Book → List (List Key) × List Key → Type 0
  IsLoaded book parted = IsPending cs floor c (after_loads c parted.0 book).groups (after_loads c parted.0 book).buffer parted.1

  loads_is : (n : ℕ) (sizes : Sizes) (keys : List Key) (book : Book) → IsPending cs floor c book.groups book.buffer keys → IsLoaded book (direct_parts n sizes keys)
  loads_is zero sizes keys book p = p
  loads_is (suc n) sizes keys book p = step (leb sizes.direct_rows (length keys)) (loads_is n sizes (drop sizes.group_rows keys) (with_group (Compressed (map nv (take sizes.group_rows keys))) book)
      (load_one book.groups book.buffer book.next (take sizes.group_rows keys) (drop sizes.group_rows keys) (subst (IsPending cs floor c book.groups book.buffer) (sym (take-append-drop sizes.group_rows keys)) p)))
    where
      step : (t : Bool) → IsLoaded book (take sizes.group_rows keys ∷ (direct_parts n sizes (drop sizes.group_rows keys)).0, (direct_parts n sizes (drop sizes.group_rows keys)).1)
          → IsLoaded book (cond t (take sizes.group_rows keys ∷ (direct_parts n sizes (drop sizes.group_rows keys)).0, (direct_parts n sizes (drop sizes.group_rows keys)).1) ([], keys))
      step true rest = rest
      step false rest = p

  -- ---- the open store

  module _ (group_rows : ℕ) (v : Version) where
    abbrev put : Group → Group
    put g = record g { content = with_version group_rows v g.content }

    record NonePut (groups : List Group) : Type 0 where
      were : opened groups ≡ []
      now : opened (map put groups) ≡ []
      same : frozen (map put groups) ≡ frozen groups
      count : how_many opens (map put groups) ≡ 0

    none_put : (groups : List Group) → how_many opens groups ≡ 0 → NonePut groups
    none_put [] none = record { were = refl; now = refl; same = refl; count = refl }
    none_put (g ∷ gs) none = step g.content none (none_put gs)
      where
        step : (content : Content) → cond (is_opened content) 1 0 + how_many opens gs ≡ 0 → (how_many opens gs ≡ 0 → NonePut gs) → NonePut (record { id = g.id; content = content } ∷ gs)
        step (Opened versions) count rest = absurd (omega (arith, count))
        step (Closed versions) count rest = let r = rest (omega (arith, count)) in record { were = r.were; now = r.now; same = ap (λ l. versions ++ l) r.same; count = let n = r.count in omega (arith, n) }
        step (Compressed versions) count rest = let r = rest (omega (arith, count)) in record { were = r.were; now = r.now; same = ap (λ l. versions ++ l) r.same; count = let n = r.count in omega (arith, n) }
        step Invisible count rest = let r = rest (omega (arith, count)) in record { were = r.were; now = r.now; same = r.same; count = let n = r.count in omega (arith, n) }
        step (Tombstone versions ends) count rest = let r = rest (omega (arith, count)) in record { were = r.were; now = r.now; same = r.same; count = let n = r.count in omega (arith, n) }

    -- the version stands in the open store, or this is full and closed
    record Stays (groups : List Group) : Type 0 where
      now : opened (map put groups) ≡ opened groups ++ v ∷ []
      same : frozen (map put groups) ≡ frozen groups
      count : how_many opens (map put groups) ≤ 1

    record Closes (groups : List Group) : Type 0 where
      now : opened (map put groups) ≡ []
      moved : IsPermutation (frozen groups ++ (opened groups ++ v ∷ [])) (frozen (map put groups))
      count : how_many opens (map put groups) ≡ 0

    one_put : (groups : List Group) → how_many opens groups ≡ 1 → Stays groups ⊎ Closes groups
    one_put [] one = absurd (omega (arith, one))
    one_put (g ∷ gs) one = step g.content one (one_put gs) (none_put gs)
      where
        filled : (versions : List Version) → NonePut gs → (t : Bool) → ltb (length (versions ++ v ∷ [])) group_rows ≡ t → Stays (record { id = g.id; content = Opened versions } ∷ gs) ⊎ Closes (record { id = g.id; content = Opened versions } ∷ gs)
        filled versions r true is = inl (record {
          now = rw is (ap (λ l. (versions ++ v ∷ []) ++ l) r.now ∙ append-nil (versions ++ v ∷ []) ∙ ap (λ l. l ++ v ∷ []) (sym (append-nil versions) ∙ ap (λ l. versions ++ l) (sym r.were)));
          same = rw is r.same;
          count = let n = r.count in rw is (omega (arith, n));
        })
        filled versions r false is = inr (record {
          now = rw is r.now;
          moved = rw is (subst (λ l. IsPermutation (frozen gs ++ ((versions ++ l) ++ v ∷ [])) ((versions ++ v ∷ []) ++ frozen (map put gs))) (sym r.were)
              (subst (λ l. IsPermutation (frozen gs ++ (l ++ v ∷ [])) ((versions ++ v ∷ []) ++ frozen (map put gs))) (sym (append-nil versions))
              (subst (λ l. IsPermutation (frozen gs ++ (versions ++ v ∷ [])) ((versions ++ v ∷ []) ++ l)) (sym r.same) (IsPermutation-append_comm (frozen gs) (versions ++ v ∷ [])))));
          count = let n = r.count in rw is (omega (arith, n));
        })

        step : (content : Content) → cond (is_opened content) 1 0 + how_many opens gs ≡ 1 → (how_many opens gs ≡ 1 → Stays gs ⊎ Closes gs) → (how_many opens gs ≡ 0 → NonePut gs)
            → Stays (record { id = g.id; content = content } ∷ gs) ⊎ Closes (record { id = g.id; content = content } ∷ gs)
        step (Opened versions) count rest none = filled versions (none (omega (arith, count))) (ltb (length (versions ++ v ∷ [])) group_rows) refl
        step (Closed versions) count rest none = elim (rest (omega (arith, count))) [
          | inl r ↦ inl (record { now = r.now; same = ap (λ l. versions ++ l) r.same; count = let n = r.count in omega (arith, n) })
          | inr r ↦ inr (record { now = r.now; moved = behind_kept versions (frozen gs) (opened gs ++ v ∷ []) (frozen (map put gs)) r.moved; count = let n = r.count in omega (arith, n) })
        ]
        step (Compressed versions) count rest none = elim (rest (omega (arith, count))) [
          | inl r ↦ inl (record { now = r.now; same = ap (λ l. versions ++ l) r.same; count = let n = r.count in omega (arith, n) })
          | inr r ↦ inr (record { now = r.now; moved = behind_kept versions (frozen gs) (opened gs ++ v ∷ []) (frozen (map put gs)) r.moved; count = let n = r.count in omega (arith, n) })
        ]
        step Invisible count rest none = elim (rest (omega (arith, count))) [
          | inl r ↦ inl (record { now = r.now; same = r.same; count = let n = r.count in omega (arith, n) })
          | inr r ↦ inr (record { now = r.now; moved = r.moved; count = let n = r.count in omega (arith, n) })
        ]
        step (Tombstone versions ends) count rest none = elim (rest (omega (arith, count))) [
          | inl r ↦ inl (record { now = r.now; same = r.same; count = let n = r.count in omega (arith, n) })
          | inr r ↦ inr (record { now = r.now; moved = r.moved; count = let n = r.count in omega (arith, n) })
        ]

    -- a pending version is put
    put_is : (groups : List Group) (buffer : List Ending) (more : List Version) → how_many opens groups ≡ 1
        → IsStockOf (record { opened = opened groups ++ (v ∷ more); frozen = frozen groups; buffer = buffer }) cs floor
        → IsStockOf (record { opened = opened (map put groups) ++ more; frozen = frozen (map put groups); buffer = buffer }) cs floor × (how_many opens (map put groups) ≤ 1)
    put_is groups buffer more one j = elim (one_put groups one) [
      | inl r ↦ (
        moved_to cs floor _ (record { opened = opened (map put groups) ++ more; frozen = frozen (map put groups); buffer = buffer })
            (sym (ap (λ l. l ++ more) r.now ∙ append_assoc (opened groups) (v ∷ []) more)) (same_list (frozen groups) (frozen (map put groups)) (sym r.same)) refl j,
        r.count,
      )
      | inr r ↦ (
        moved_out cs floor (opened groups ++ (v ∷ more)) (opened (map put groups) ++ more) (frozen groups) (frozen (map put groups)) (opened groups ++ v ∷ []) buffer
            (subst (λ l. IsPermutation (opened groups ++ (v ∷ more)) ((l ++ more) ++ (opened groups ++ v ∷ []))) (sym r.now)
            (subst (λ l. IsPermutation l (more ++ (opened groups ++ v ∷ []))) (append_assoc (opened groups) (v ∷ []) more) (IsPermutation-append_comm (opened groups ++ v ∷ []) more)))
            r.moved j,
        (let zero = r.count in omega (arith, zero)),
      )
    ]

    -- a pending version opens a store
    opens_one : (groups : List Group) (buffer : List Ending) (id : ℕ) (more : List Version) → how_many opens groups ≡ 0
        → IsStockOf (record { opened = opened groups ++ (v ∷ more); frozen = frozen groups; buffer = buffer }) cs floor
        → IsStockOf (record { opened = opened (groups ++ record { id = id; content = store_of group_rows (v ∷ []) } ∷ []) ++ more; frozen = frozen (groups ++ record { id = id; content = store_of group_rows (v ∷ []) } ∷ []); buffer = buffer }) cs floor
        × (how_many opens (groups ++ record { id = id; content = store_of group_rows (v ∷ []) } ∷ []) ≤ 1)
    opens_one groups buffer id more none j = step (ltb (length (v ∷ [])) group_rows)
      where
        stays : IsStockOf (record { opened = opened (groups ++ record { id = id; content = Opened (v ∷ []) } ∷ []) ++ more; frozen = frozen (groups ++ record { id = id; content = Opened (v ∷ []) } ∷ []); buffer = buffer }) cs floor
        stays = moved_to cs floor _ (record { opened = opened (groups ++ record { id = id; content = Opened (v ∷ []) } ∷ []) ++ more; frozen = frozen (groups ++ record { id = id; content = Opened (v ∷ []) } ∷ []); buffer = buffer })
            (sym (ap (λ l. l ++ more) (opened-append groups (record { id = id; content = Opened (v ∷ []) } ∷ [])) ∙ append_assoc (opened groups) (v ∷ []) more))
            (same_list (frozen groups) (frozen (groups ++ record { id = id; content = Opened (v ∷ []) } ∷ [])) (sym (frozen-append groups (record { id = id; content = Opened (v ∷ []) } ∷ []) ∙ append-nil (frozen groups)))) refl j

        closes : IsStockOf (record { opened = opened (groups ++ record { id = id; content = Closed (v ∷ []) } ∷ []) ++ more; frozen = frozen (groups ++ record { id = id; content = Closed (v ∷ []) } ∷ []); buffer = buffer }) cs floor
        closes = moved_out cs floor (opened groups ++ (v ∷ more)) (opened (groups ++ record { id = id; content = Closed (v ∷ []) } ∷ []) ++ more) (frozen groups) (frozen (groups ++ record { id = id; content = Closed (v ∷ []) } ∷ [])) (v ∷ []) buffer
            (subst (λ l. IsPermutation (opened groups ++ (v ∷ more)) ((l ++ more) ++ v ∷ [])) (sym (opened-append groups (record { id = id; content = Closed (v ∷ []) } ∷ []) ∙ append-nil (opened groups))) (last_of (opened groups) (v ∷ []) more))
            (same_list (frozen groups ++ v ∷ []) (frozen (groups ++ record { id = id; content = Closed (v ∷ []) } ∷ [])) (sym (frozen-append groups (record { id = id; content = Closed (v ∷ []) } ∷ [])))) j

        step : (t : Bool) → IsStockOf (record { opened = opened (groups ++ record { id = id; content = cond t (Opened (v ∷ [])) (Closed (v ∷ [])) } ∷ []) ++ more; frozen = frozen (groups ++ record { id = id; content = cond t (Opened (v ∷ [])) (Closed (v ∷ [])) } ∷ []); buffer = buffer }) cs floor
            × (how_many opens (groups ++ record { id = id; content = cond t (Opened (v ∷ [])) (Closed (v ∷ [])) } ∷ []) ≤ 1)
        step true = (stays, omega (arith, none, how_many-append opens groups (record { id = id; content = Opened (v ∷ []) } ∷ [])))
        step false = (closes, omega (arith, none, how_many-append opens groups (record { id = id; content = Closed (v ∷ []) } ∷ [])))

  any_opens : (groups : List Group) → list_any opens groups ≡ true → how_many opens groups ≤ 1 → how_many opens groups ≡ 1
  any_opens groups any one = let some = some_pass opens groups any in omega (arith, some, one)

  none_opens : (groups : List Group) → list_any opens groups ≡ false → how_many opens groups ≡ 0
  none_opens groups any = how_many-none opens groups (none_pass opens groups any)

  stored_is : (group_rows : ℕ) (key : Key) (keys : List Key) (book : Book) → IsPending cs floor c book.groups book.buffer (key ∷ keys)
      → IsPending cs floor c (stored group_rows (nv key) book).groups (stored group_rows (nv key) book).buffer keys
  stored_is group_rows key keys book p = step (list_any opens book.groups) refl
    where
      step : (t : Bool) → list_any opens book.groups ≡ t
          → IsPending cs floor c (cond t (record book { groups = map (put group_rows (nv key)) book.groups }) (with_group (store_of group_rows (nv key ∷ [])) book)).groups
          (cond t (record book { groups = map (put group_rows (nv key)) book.groups }) (with_group (store_of group_rows (nv key ∷ [])) book)).buffer keys
      step true any = let r = put_is group_rows (nv key) book.groups book.buffer (map nv keys) (any_opens book.groups any p.one) p.stock in record { stock = r.0; one = r.1 }
      step false any = let r = opens_one group_rows (nv key) book.groups book.buffer book.next (map nv keys) (none_opens book.groups any) p.stock in record { stock = r.0; one = r.1 }

  rest_is : (group_rows : ℕ) (keys : List Key) (book : Book) → IsPending cs floor c book.groups book.buffer keys → IsPending cs floor c (after_rest group_rows c keys book).groups (after_rest group_rows c keys book).buffer []
  rest_is group_rows [] book p = p
  rest_is group_rows (key ∷ keys) book p = rest_is group_rows keys (stored group_rows (nv key) book) (stored_is group_rows key keys book p)

  inserts_is : (sizes : Sizes) (keys : List Key) (book : Book) → IsPending cs floor c book.groups book.buffer keys → IsPending cs floor c (after_inserts sizes c keys book).groups (after_inserts sizes c keys book).buffer []
  inserts_is sizes keys book p = rest_is sizes.group_rows (direct_parts (length keys) sizes keys).1 (after_loads c (direct_parts (length keys) sizes keys).0 book) (loads_is (length keys) sizes keys book p)

-- ---- the commit

module _ (g : Version → Version) where
  abbrev Ended : Group → Group
  Ended group = record group { content = with_opened (map g) group.content }

  ended_opened : (groups : List Group) → opened (map Ended groups) ≡ map g (opened groups)
  ended_opened [] = refl
  ended_opened (x ∷ xs) = ap (λ l. opened_in (Ended x).content ++ l) (ended_opened xs) ∙ ap (λ l. l ++ map g (opened xs)) (step x.content) ∙ sym (map-append g (opened_in x.content) (opened xs))
    where
      step : (content : Content) → opened_in (with_opened (map g) content) ≡ map g (opened_in content)
      step (Opened versions) = refl
      step (Closed versions) = refl
      step (Compressed versions) = refl
      step Invisible = refl
      step (Tombstone versions ends) = refl

  ended_frozen : (groups : List Group) → frozen (map Ended groups) ≡ frozen groups
  ended_frozen [] = refl
  ended_frozen (x ∷ xs) = ap (λ l. frozen_in (Ended x).content ++ l) (ended_frozen xs) ∙ ap (λ l. l ++ frozen xs) (step x.content)
    where
      step : (content : Content) → frozen_in (with_opened (map g) content) ≡ frozen_in content
      step (Opened versions) = refl
      step (Closed versions) = refl
      step (Compressed versions) = refl
      step Invisible = refl
      step (Tombstone versions ends) = refl

  ended_count : (groups : List Group) → how_many opens (map Ended groups) ≡ how_many opens groups
  ended_count [] = refl
  ended_count (x ∷ xs) = ap (λ t. cond t 1 0 + how_many opens (map Ended xs)) (step x.content) ∙ ap (λ n. cond (opens x) 1 0 + n) (ended_count xs)
    where
      step : (content : Content) → is_opened (with_opened (map g) content) ≡ is_opened content
      step (Opened versions) = refl
      step (Closed versions) = refl
      step (Compressed versions) = refl
      step Invisible = refl
      step (Tombstone versions ends) = refl

module _ (sizes : Sizes) (book : Book) (cs : List Change) (clock floor txn : ℕ) (ws : List Edit) (low : AreBelow clock cs) (up : AreAscending cs) (reach : floor ≤ clock) (once : HasEachKeyOnce ws)
    (one : how_many opens book.groups ≤ 1) (j : IsStockOf (stock_of book) cs floor) where
  abbrev reps : List Key
  reps = replaced_by cs clock ws

  abbrev now : List Change
  now = cs ++ numbered (clock + 1) txn ws

  pending : IsPending now floor (clock + 1) (after_ends reps (clock + 1) book).groups (after_ends reps (clock + 1) book).buffer (inserted_by ws)
  pending = record {
    stock = moved_to now floor _ _
        (ap (λ l. l ++ map (new_version (clock + 1)) (inserted_by ws)) (sym (ended_opened (ended_by reps (clock + 1)) book.groups)))
        (same_list (frozen book.groups) (frozen (after_ends reps (clock + 1) book).groups) (sym (ended_frozen (ended_by reps (clock + 1)) book.groups)))
        refl (stock_committed (stock_of book) cs clock floor txn ws low up reach once j);
    one = omega (arith, one, ended_count (ended_by reps (clock + 1)) book.groups);
  }

  abbrev Committed : Book
  Committed = after_commit sizes (clock + 1) reps (inserted_by ws) book

  committed : IsPending now floor (clock + 1) Committed.groups Committed.buffer []
  committed = inserts_is now floor (clock + 1) sizes (inserted_by ws) (after_ends reps (clock + 1) book) pending

  pub commit_stock : IsStockOf (stock_of (after_commit sizes (clock + 1) reps (inserted_by ws) book)) now floor
  commit_stock = moved_to now floor _ (stock_of Committed) (append-nil (opened Committed.groups)) (IsPermutation-refl (frozen Committed.groups)) refl (committed.stock)

  pub commit_one : how_many (λ (g : Group). is_opened g.content) (after_commit sizes (clock + 1) reps (inserted_by ws) book).groups ≤ 1
  commit_one = committed.one
