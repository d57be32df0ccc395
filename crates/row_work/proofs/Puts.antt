-- Rows that are put one by one at keys that do not fall.
use Rattle.std.proofs.Common.{◌≡◌, ◌≢◌, ℕ, zero, suc, ◌+◌, ◌-◌, ◌<◌, ◌≤◌, Bool, true, false, ltb, cond, List, [], ◌∷◌, ◌++◌, length, filter, get_or, refl, sym, ap, ◌∙◌, subst, arith, true≢false}
use Rattle.std.specs.Prelude.{Option, slice_get}
use Rattle.std.specs.declared.cmp.Ordering.{Ordering}
use Rattle.std.specs.declared.cmp.Ordering.TheVariants.{Less, Equal, Greater}
use Rattle.std.specs.Ordering.{is_eq, is_lt, ordering_reverse}
use Rattle.std.specs.List.{All, AllByRecursion, Contains}
use Rattle.std.specs.List.Sorted.{IsPermutation, IsSortedByKey, IsStrictlySortedBy}
use Rattle.std.proofs.lemmas.Bool.{lt-ltb}
use Rattle.std.proofs.lemmas.List.{get_or_append_left, get_or_at, length-append, map-append}
use Rattle.std.proofs.lemmas.List.Elements.{All-append, All-cons, All-from_recursion, All-nil, Contains-append_left, Contains-append_right, recursion_from_All}
use Rattle.std.proofs.lemmas.List.Sorted.{All-permutation, Contains-permutation, IsPermutation-map, ranks_by, sorted_far}
use Rattle.cs_types.specs.declared.Key.{Key}
use Rattle.cs_types.specs.declared.Value.{Value}
use Rattle.cs_types.specs.Keys.{key_cmp, same_key}
use Rattle.cs_types.proofs.KeyLemmas.{key_total, one_key}
use Rattle.cs_model.specs.Changes.{Edit, Table}
use Rattle.cs_model.specs.Obstacles.{keys_of, stands_twice}
use Rattle.edit_laws.specs.Edits.{edits_of}
use Rattle.write_set.specs.declared.write.Write.{Write}
use Rattle.write_set.proofs.Puts.{less}
use Rattle.group_book.specs.Book.{how_many}
use Rattle.group_book.proofs.Keys.{key_itself}
use Rattle.group_book.proofs.Lists.{all-append, how_many-append, how_many-none, counted}
use Rattle.group_book.proofs.Move.{count_by-how_many, how_many-permutation}
use Rattle.row_work.specs.Inserts.{Put, is_double, is_key, is_of, noted, put_keys, puts_as_edits, ArePuts}
use Rattle.write_set.specs.Writes.{write_keys}

-- ---- keys in order

abbrev Up : List Key → Type 0
Up keys = IsStrictlySortedBy key_cmp keys

push_up : (keys : List Key) (key : Key) → Up keys → AllByRecursion (λ k. key_cmp k key ≡ Less) keys → Up (keys ++ key ∷ [])
unfolding IsStrictlySortedBy
push_up [] key up all = (tt, tt)
push_up (k ∷ keys) key up all = (all-append (λ x. key_cmp k x ≡ Less) keys (key ∷ []) up.0 (all.0, tt), push_up keys key up.1 all.1)

-- the last key is this one
abbrev pub ends_with : Key → List Key → Bool
ends_with key [] = false
ends_with key (k ∷ []) = same_key k key
ends_with key (k ∷ other ∷ keys) = ends_with key (other ∷ keys)

upto : (k key : Key) → (key_cmp key k ≡ Less → ⊥) → (o : Ordering) → key_cmp k key ≡ o → is_eq o ≡ false → key_cmp k key ≡ Less
upto k key low Less is apart = is
upto k key low Equal is apart = absurd (true≢false apart)
upto k key low Greater is apart = absurd (low (less key k is))

-- where none is above the key and the last is another, all are below it
below_all : (keys : List Key) (key : Key) → Up keys → AllByRecursion (λ k. key_cmp key k ≡ Less → ⊥) keys → ends_with key keys ≡ false → AllByRecursion (λ k. key_cmp k key ≡ Less) keys
unfolding IsStrictlySortedBy
below_all [] key up low apart = tt
below_all (k ∷ []) key up low apart = (upto k key low.0 (key_cmp k key) refl apart, tt)
below_all (k ∷ other ∷ keys) key up low apart =
    let rest = below_all (other ∷ keys) key up.1 low.1 apart in
    (key_total.trans k other key up.0.0 rest.0, rest)

-- a key before the last one is below it
before_last : (k other : Key) (keys : List Key) (key : Key) → Up (k ∷ other ∷ keys) → ends_with key (other ∷ keys) ≡ true → key_cmp k key ≡ Less
unfolding IsStrictlySortedBy
before_last k other [] key up last = subst (λ (x : Key). key_cmp k x ≡ Less) (one_key other key last) up.0.0
before_last k other (next ∷ keys) key up last = key_total.trans k other key up.0.0 (before_last other next keys key up.1 last)

last_within : (keys : List Key) (key : Key) → ends_with key keys ≡ true → Contains keys key
last_within [] key last = absurd (true≢false (sym last))
last_within (k ∷ []) key last = (zero, omega arith, one_key k key last)
last_within (k ∷ other ∷ keys) key last =
    let rest = last_within (other ∷ keys) key last in
    (suc rest.0, omega (arith, rest.1), rest.2)

-- ---- how often a key stands

abbrev pub often : Key → List Key → ℕ
often key keys = how_many (λ other. same_key key other) keys

pub twice_is : (keys : List Key) (key : Key) → stands_twice keys key ≡ ltb 1 (often key keys)
twice_is keys key = ap (ltb 1) (count_by-how_many (λ other. same_key key other) keys)

often_more : (key k : Key) (edits : List Edit) (row : Option (List Value)) → often key (keys_of (edits ++ (k, row) ∷ [])) ≡ often key (keys_of edits) + cond (same_key key k) 1 0
often_more key k edits row =
    ap (often key) (map-append (λ (edit : Edit). edit.0) edits ((k, row) ∷ [])) ∙ how_many-append (λ other. same_key key other) (keys_of edits) (k ∷ []) ∙ omega arith

apart_by : (a b : Key) → key_cmp a b ≡ Less → same_key a b ≡ false
apart_by a b is = ap is_eq is

-- another key's row more does not count
twice_stays : (key k : Key) (edits : List Edit) (row : Option (List Value)) → same_key key k ≡ false → stands_twice (keys_of edits) key ≡ stands_twice (keys_of (edits ++ (k, row) ∷ [])) key
twice_stays key k edits row apart =
    let one : Bool → ℕ = λ t. cond t 1 0 in
    let more : often key (keys_of (edits ++ (k, row) ∷ [])) ≡ often key (keys_of edits) = omega (arith, often_more key k edits row, ap one apart) in
    twice_is (keys_of edits) key ∙ ap (ltb 1) (sym more) ∙ sym (twice_is (keys_of (edits ++ (k, row) ∷ [])) key)

turned_apart : (a b : Key) → key_cmp a b ≡ Less → same_key b a ≡ false
turned_apart a b is = ap is_eq (key_total.antisymm b a ∙ ap ordering_reverse is)

key_within : (list : List Edit) (key : Key) (r : Option (List Value)) → Contains list (key, r) → Contains (keys_of list) key
key_within [] key r found = absurd (omega (arith, found.1))
key_within (e ∷ list) key r (zero, there, at) = (zero, omega arith, ap (λ (edit : Edit). edit.0) at)
key_within (e ∷ list) key r (suc i, there, at) =
    let rest = key_within list key r (i, omega (arith, there), at) in
    (suc rest.0, omega (arith, rest.1), rest.2)

-- ---- the last row marked

-- the rows, of which the last one says that there is another of its key
abbrev pub mark_last : List Put → List Put
mark_last [] = []
mark_last (put ∷ []) = record { key = put.key; row = put.row; twice = true } ∷ []
mark_last (put ∷ other ∷ puts) = put ∷ mark_last (other ∷ puts)

marked_keys : (puts : List Put) → put_keys (mark_last puts) ≡ put_keys puts
marked_keys [] = refl
marked_keys (p ∷ []) = refl
marked_keys (p ∷ other ∷ puts) = ap (λ (keys : List Key). p.key ∷ keys) (marked_keys (other ∷ puts))

pub marked_edits : (puts : List Put) → puts_as_edits (mark_last puts) ≡ puts_as_edits puts
marked_edits [] = refl
marked_edits (p ∷ []) = refl
marked_edits (p ∷ other ∷ puts) = ap (λ (edits : List Edit). (p.key, p.row) ∷ edits) (marked_edits (other ∷ puts))

-- ---- a row of a greater key

module _ (edits : List Edit) (puts : List Put) (key : Key) (row : Option (List Value)) (are : ArePuts edits puts) (above : All (λ (edit : Edit). key_cmp key edit.0 ≢ Less) edits) where
  abbrev more : List Edit
  more = edits ++ (key, row) ∷ []

  keys_low : (list : List Put) → AllByRecursion (Contains edits) (puts_as_edits list) → AllByRecursion (λ k. key_cmp key k ≡ Less → ⊥) (put_keys list)
  keys_low [] all = tt
  keys_low (put ∷ list) all = (λ low. above all.0.0 (put.key, put.row) all.0.1 (ap (λ (edit : Edit). key_cmp key edit.0) all.0.2 ∙ low), keys_low list all.1)

  low : AllByRecursion (λ k. key_cmp key k ≡ Less → ⊥) (put_keys puts)
  low = keys_low puts (recursion_from_All (Contains edits) (puts_as_edits puts) are.each)

  edit_of : (list : List Put) → AllByRecursion (Contains edits) (puts_as_edits list) → Contains (put_keys list) key → (r : Option (List Value)) × Contains edits (key, r)
  edit_of [] all inside = absurd (omega (arith, inside.1))
  edit_of (p ∷ list) all (zero, there, at) = (p.row, subst (λ (k : Key). Contains edits (k, p.row)) at all.0)
  edit_of (p ∷ list) all (suc i, there, at) = edit_of list all.1 (i, omega (arith, there), at)

  wider : All (Contains more) (puts_as_edits puts)
  wider = λ i d there. Contains-append_left edits ((key, row) ∷ []) _ (are.each i d there)

  module _ (apart : ends_with key (put_keys puts) ≡ false) where
    abbrev put : Put
    put = record { key = key; row = row; twice = false }

    all_below : AllByRecursion (λ k. key_cmp k key ≡ Less) (put_keys puts)
    all_below = below_all (put_keys puts) key are.order low apart

    keys_pushed : put_keys (puts ++ put ∷ []) ≡ put_keys puts ++ key ∷ []
    keys_pushed = map-append (λ (p : Put). p.key) puts (put ∷ [])

    none_here : (list : List Edit) → AllByRecursion (λ (edit : Edit). Contains (put_keys puts) edit.0) list → AllByRecursion (λ k. same_key key k ≡ false) (keys_of list)
    none_here [] all = tt
    none_here (edit ∷ list) all =
        let at = All-from_recursion (λ k. key_cmp k key ≡ Less) (put_keys puts) all_below all.0.0 edit.0 all.0.1 in
        let lower : key_cmp edit.0 key ≡ Less = ap (λ (k : Key). key_cmp k key) (sym all.0.2) ∙ at in
        (turned_apart edit.0 key lower, none_here list all.1)

    new_twice : false ≡ stands_twice (keys_of more) key
    new_twice =
        let one : Bool → ℕ = λ t. cond t 1 0 in
        let none = how_many-none (λ other. same_key key other) (keys_of edits) (none_here edits (recursion_from_All (λ (edit : Edit). Contains (put_keys puts) edit.0) edits are.every)) in
        let once : often key (keys_of more) ≡ 1 = omega (arith, often_more key key edits row, ap one (key_itself key), none) in
        sym (twice_is (keys_of more) key ∙ ap (ltb 1) once)

    still_twice : (list : List Put) → AllByRecursion (λ k. key_cmp k key ≡ Less) (put_keys list) → AllByRecursion (λ (p : Put). p.twice ≡ stands_twice (keys_of edits) p.key) list
        → AllByRecursion (λ (p : Put). p.twice ≡ stands_twice (keys_of more) p.key) list
    still_twice [] lower all = tt
    still_twice (p ∷ list) lower all = (all.0 ∙ twice_stays p.key key edits row (apart_by p.key key lower.0), still_twice list lower.1 all.1)

    -- it is put after the others
    pub put_behind : ArePuts more (puts ++ put ∷ [])
    put_behind = record {
      order = subst Up (sym keys_pushed) (push_up (put_keys puts) key are.order all_below);
      each =
          subst (All (Contains more)) (sym (map-append (λ (p : Put). (p.key, p.row)) puts (put ∷ [])))
          (All-append (Contains more) (puts_as_edits puts) ((key, row) ∷ []) wider
          (All-cons (Contains more) (key, row) [] (Contains-append_right edits ((key, row) ∷ []) (key, row) (zero, omega arith, refl)) (All-nil (Contains more))));
      every =
          subst (λ (keys : List Key). All (λ (edit : Edit). Contains keys edit.0) more) (sym keys_pushed)
          (All-append (λ (edit : Edit). Contains (put_keys puts ++ key ∷ []) edit.0) edits ((key, row) ∷ [])
          (λ i d there. Contains-append_left (put_keys puts) (key ∷ []) _ (are.every i d there))
          (All-cons (λ (edit : Edit). Contains (put_keys puts ++ key ∷ []) edit.0) (key, row) [] (Contains-append_right (put_keys puts) (key ∷ []) key (zero, omega arith, refl)) (All-nil (λ (edit : Edit). Contains (put_keys puts ++ key ∷ []) edit.0))));
      twice =
          All-append (λ (p : Put). p.twice ≡ stands_twice (keys_of more) p.key) puts (put ∷ [])
          (All-from_recursion (λ (p : Put). p.twice ≡ stands_twice (keys_of more) p.key) puts
          (still_twice puts all_below (recursion_from_All (λ (p : Put). p.twice ≡ stands_twice (keys_of edits) p.key) puts are.twice)))
          (All-cons (λ (p : Put). p.twice ≡ stands_twice (keys_of more) p.key) put [] new_twice (All-nil (λ (p : Put). p.twice ≡ stands_twice (keys_of more) p.key)));
    }

  -- ---- another row of the last key

  module _ (last : ends_with key (put_keys puts) ≡ true) where
    here : 1 ≤ often key (keys_of edits)
    here =
        let found = edit_of puts (recursion_from_All (Contains edits) (puts_as_edits puts) are.each) (last_within (put_keys puts) key last) in
        counted (λ other. same_key key other) (keys_of edits) key (key_within edits key found.0 found.1) (key_itself key)

    mark_twice : true ≡ stands_twice (keys_of more) key
    mark_twice =
        let one : Bool → ℕ = λ t. cond t 1 0 in
        let many : 1 < often key (keys_of more) = omega (arith, often_more key key edits row, ap one (key_itself key), here) in
        sym (twice_is (keys_of more) key ∙ lt-ltb 1 (often key (keys_of more)) many)

    marked_twice : (list : List Put) → Up (put_keys list) → ends_with key (put_keys list) ≡ true → AllByRecursion (λ (p : Put). p.twice ≡ stands_twice (keys_of edits) p.key) list
        → AllByRecursion (λ (p : Put). p.twice ≡ stands_twice (keys_of more) p.key) (mark_last list)
    unfolding IsStrictlySortedBy
    marked_twice [] up ends all = tt
    marked_twice (p ∷ []) up ends all = (mark_twice ∙ ap (stands_twice (keys_of more)) (sym (one_key p.key key ends)), tt)
    marked_twice (p ∷ other ∷ list) up ends all =
        (all.0 ∙ twice_stays p.key key edits row (apart_by p.key key (before_last p.key other.key (put_keys list) key up ends)), marked_twice (other ∷ list) up.1 ends all.1)

    -- the last one says so, and stays
    pub put_again : ArePuts more (mark_last puts)
    put_again = record {
      order = subst Up (sym (marked_keys puts)) are.order;
      each = subst (All (Contains more)) (sym (marked_edits puts)) wider;
      every =
          subst (λ (keys : List Key). All (λ (edit : Edit). Contains keys edit.0) more) (sym (marked_keys puts))
          (All-append (λ (edit : Edit). Contains (put_keys puts) edit.0) edits ((key, row) ∷ []) are.every
          (All-cons (λ (edit : Edit). Contains (put_keys puts) edit.0) (key, row) [] (last_within (put_keys puts) key last) (All-nil (λ (edit : Edit). Contains (put_keys puts) edit.0))));
      twice =
          All-from_recursion (λ (p : Put). p.twice ≡ stands_twice (keys_of more) p.key) (mark_last puts)
          (marked_twice puts are.order last (recursion_from_All (λ (p : Put). p.twice ≡ stands_twice (keys_of edits) p.key) puts are.twice));
    }

-- ---- the same of edits in another order

pub permuted : (edits others : List Edit) (puts : List Put) → IsPermutation edits others → ArePuts edits puts → ArePuts others puts
permuted edits others puts moved are = record {
  order = are.order;
  each = λ i d there. Contains-permutation edits others _ moved (are.each i d there);
  every = All-permutation (λ (edit : Edit). Contains (put_keys puts) edit.0) edits others moved are.every;
  twice = λ i d there. are.twice i d there ∙ same_twice (get_or puts i d).key;
}
  where
    same_twice : (key : Key) → stands_twice (keys_of edits) key ≡ stands_twice (keys_of others) key
    same_twice key =
        twice_is (keys_of edits) key
        ∙ ap (ltb 1) (sym (how_many-permutation (λ other. same_key key other) (keys_of edits) (keys_of others) (IsPermutation-map (λ (edit : Edit). edit.0) edits others moved)))
        ∙ sym (twice_is (keys_of others) key)

-- ---- the last write, and the last key

-- whether it is of the key, by its place
pub ends_at : (key : Key) (writes : List Write) → is_of key (slice_get writes (length writes - 1)) ≡ ends_with key (write_keys writes)
ends_at key [] = refl
ends_at key (w ∷ []) = refl
ends_at key (w ∷ other ∷ writes) =
    let at : length (w ∷ other ∷ writes) - 1 ≡ suc (length (other ∷ writes) - 1) = omega arith in
    ap (λ i. is_of key (slice_get (w ∷ other ∷ writes) i)) at ∙ ends_at key (other ∷ writes)

ends_in : (key : Key) (keys : List Key) → is_key key (slice_get keys (length keys - 1)) ≡ ends_with key keys
ends_in key [] = refl
ends_in key (k ∷ []) = refl
ends_in key (k ∷ other ∷ keys) =
    let at : length (k ∷ other ∷ keys) - 1 ≡ suc (length (other ∷ keys) - 1) = omega arith in
    ap (λ i. is_key key (slice_get (k ∷ other ∷ keys) i)) at ∙ ends_in key (other ∷ keys)

-- ---- the last row, of which the key stands twice, noted

noted_by : (key : Key) (keys : List Key) → cond (ends_with key keys) keys (keys ++ key ∷ []) ≡ noted key keys
noted_by key keys = ap (λ t. cond t keys (keys ++ key ∷ [])) (sym (ends_in key keys))

abbrev closed : Key → List Key → List Key
closed key keys = cond (ends_with key keys) keys (keys ++ key ∷ [])

noted_behind : (k key : Key) (keys : List Key) → same_key k key ≡ false → k ∷ closed key keys ≡ closed key (k ∷ keys)
noted_behind k key [] apart = ap (λ t. cond t (k ∷ []) (k ∷ key ∷ [])) (sym apart)
noted_behind k key (other ∷ keys) apart = go (ends_with key (other ∷ keys))
  where
    go : (t : Bool) → k ∷ cond t (other ∷ keys) (other ∷ (keys ++ key ∷ [])) ≡ cond t (k ∷ other ∷ keys) (k ∷ other ∷ (keys ++ key ∷ []))
    go true = refl
    go false = refl

closed_last : (table : Table) (key : Key) (puts : List Put) → Up (put_keys puts) → ends_with key (put_keys puts) ≡ true
    → put_keys (filter (is_double table) (mark_last puts)) ≡ closed key (put_keys (filter (is_double table) puts))
unfolding IsStrictlySortedBy
closed_last table key [] up last = absurd (true≢false (sym last))
closed_last table key (p ∷ []) up last = go (is_double table p)
  where
    go : (t : Bool) → p.key ∷ [] ≡ closed key (put_keys (cond t (p ∷ []) []))
    go true = ap (λ t. cond t (p.key ∷ []) (p.key ∷ key ∷ [])) (sym last)
    go false = ap (λ (k : Key). k ∷ []) (one_key p.key key last)
closed_last table key (p ∷ other ∷ puts) up last = go (is_double table p) (closed_last table key (other ∷ puts) up.1 last)
  where
    apart : same_key p.key key ≡ false
    apart = apart_by p.key key (before_last p.key other.key (put_keys puts) key up last)

    go : (t : Bool) → put_keys (filter (is_double table) (mark_last (other ∷ puts))) ≡ closed key (put_keys (filter (is_double table) (other ∷ puts)))
        → put_keys (cond t (p ∷ filter (is_double table) (mark_last (other ∷ puts))) (filter (is_double table) (mark_last (other ∷ puts))))
        ≡ closed key (put_keys (cond t (p ∷ filter (is_double table) (other ∷ puts)) (filter (is_double table) (other ∷ puts))))
    go true rest = ap (λ (keys : List Key). p.key ∷ keys) rest ∙ noted_behind p.key key (put_keys (filter (is_double table) (other ∷ puts))) apart
    go false rest = rest

pub noted_last : (table : Table) (key : Key) (puts : List Put) → Up (put_keys puts) → ends_with key (put_keys puts) ≡ true
    → put_keys (filter (is_double table) (mark_last puts)) ≡ noted key (put_keys (filter (is_double table) puts))
noted_last table key puts up last = closed_last table key puts up last ∙ noted_by key (put_keys (filter (is_double table) puts))

pub no_puts : ArePuts [] []
unfolding IsStrictlySortedBy
no_puts = record {
  order = tt;
  each = All-nil (Contains []);
  every = All-nil (λ (edit : Edit). Contains [] edit.0);
  twice = All-nil (λ (p : Put). p.twice ≡ stands_twice [] p.key);
}

-- of rows in the order of their keys none is above a later one
not_less : (o : Ordering) → is_lt o ≡ false → o ≢ Less
not_less o none is = true≢false (sym (ap is_lt is) ∙ none)

none_of_them : (write : Write) (list : List Write) → ((k : ℕ) → k < length list → is_lt (key_cmp write.key (get_or list k write).key) ≡ false) → All (λ (edit : Edit). key_cmp write.key edit.0 ≢ Less) (edits_of list)
none_of_them write [] none = All-nil (λ (edit : Edit). key_cmp write.key edit.0 ≢ Less)
none_of_them write (one ∷ list) none =
    All-cons (λ (edit : Edit). key_cmp write.key edit.0 ≢ Less) (one.key, one.row) (edits_of list) (not_less (key_cmp write.key one.key) (none 0 (omega arith)))
    (none_of_them write list (λ k below. none (suc k) (omega (arith, below))))

pub none_above : (done : List Write) (write : Write) (rest all : List Write) → done ++ write ∷ rest ≡ all → IsSortedByKey (λ (one : Write). one.key) key_cmp all
    → All (λ (edit : Edit). key_cmp write.key edit.0 ≢ Less) (edits_of done)
none_above done write rest all is up =
    let whole : List Write = done ++ write ∷ rest in
    let sorted : IsSortedByKey (λ (one : Write). one.key) key_cmp whole = subst (IsSortedByKey (λ (one : Write). one.key) key_cmp) (sym is) up in
    none_of_them write done (λ k below.
    let far = sorted_far (λ (a b : Write). is_lt (key_cmp a.key b.key)) (ranks_by key_total (λ (one : Write). one.key)) whole sorted k (length done) write (omega (arith, below)) (omega (arith, length-append done (write ∷ rest))) in
    ap (λ (a : Write). is_lt (key_cmp a.key (get_or done k write).key)) (sym (get_or_at done write rest write (length done) refl))
    ∙ ap (λ (b : Write). is_lt (key_cmp (get_or whole (length done) write).key b.key)) (sym (get_or_append_left done (write ∷ rest) write k below)) ∙ far)
