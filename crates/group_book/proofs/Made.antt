-- What a commit adds: its changes, its versions and its entries.
use Rattle.std.proofs.Common.{◌≡◌, ℕ, ◌<◌, ◌≤◌, ◌+◌, Bool, true, false, ◌&&◌, ◌||◌, cond, eqb, ltb, leb, List, [], ◌∷◌, ◌++◌, map, filter, Option, Some, None, is_some, not, refl, sym, ap, ◌∙◌, arith}
use Rattle.std.specs.declared.cmp.Ordering.{Ordering}
use Rattle.std.specs.declared.cmp.Ordering.TheVariants.{Less, Equal, Greater}
use Rattle.std.specs.Ordering.{is_eq, is_lt, ordering_reverse, ordering_then, nat_cmp}
use Rattle.std.specs.Cmp.{IsTotalOrder}
use Rattle.std.specs.List.{AllByRecursion, list_any}
use Rattle.std.specs.List.Sorted.{IsStrictlySortedBy}
use Rattle.std.proofs.lemmas.Bool.Decides.{nat_tests}
use Rattle.std.proofs.lemmas.Cmp.{then_total, nat_cmp_total, on_total}
use Rattle.cs_types.specs.declared.Key.{Key}
use Rattle.cs_types.specs.Keys.{key_cmp, same_key}
use Rattle.std.proofs.lemmas.Map.Lookups.{exact_unsigned}
use Rattle.cs_types.proofs.KeyLemmas.{key_total, exact_key}
use Rattle.cs_model.specs.Changes.{Edit, Change}
use Rattle.cs_model.specs.Obstacles.{keys_of}
use Rattle.cs_model.specs.Steps.{numbered}
use Rattle.group_book.specs.Book.{Version, Ending, how_many}
use Rattle.group_book.specs.Commits.{is_in_table, replaced_by, inserted_by, is_one_of, has_live, ending_cmp, with_ending, with_endings, entries_by, new_version}
use Rattle.group_book.specs.Turns.{lesser, holds}
use Rattle.group_book.specs.Stocks.{next_change}
use Rattle.group_book.proofs.Keys.{key_is, key_here, key_itself}
use Rattle.group_book.proofs.Lists.{weaker}
use Rattle.group_book.proofs.Changes.{last_at, later, last_step, last-append, AreBelow, both, next-append, next-le}

-- the edits have the key
abbrev pub is_written : List Edit → Key → Bool
is_written ws k = list_any (λ (edit : Edit). same_key k edit.0) ws

abbrev pub HasEachKeyOnce : List Edit → Type 0
HasEachKeyOnce [] = Unit {0}
HasEachKeyOnce (w ∷ ws) = (is_written ws w.0 ≡ false) × HasEachKeyOnce ws

-- ---- its changes

next-made_step : (p q lt : Bool) (c : ℕ) → cond (p && lt) (lesser c (cond (q && lt) (Some c) None)) (cond (q && lt) (Some c) None) ≡ cond ((p || q) && lt) (Some c) None
next-made_step true true true c = ap Some (omega arith)
next-made_step true true false c = refl
next-made_step true false true c = refl
next-made_step true false false c = refl
next-made_step false q lt c = refl

pub next-made : (ws : List Edit) (c txn : ℕ) (k : Key) (b : ℕ) → next_change (numbered c txn ws) k b ≡ cond (is_written ws k && ltb b c) (Some c) None
next-made [] c txn k b = refl
next-made (w ∷ ws) c txn k b = rw (next-made ws c txn k b) (next-made_step (same_key k w.0) (is_written ws k) (ltb b c) c)

-- the next change, where a commit c may have written the key
abbrev pub next_after : Option ℕ → Bool → ℕ → Option ℕ
next_after (Some e) written c = Some e
next_after None true c = Some c
next_after None false c = None

next-commit_step : (n : Option ℕ) (w : Bool) (cl b : ℕ) → ((e : ℕ) → n ≡ Some e → e ≤ cl) → ltb b (cl + 1) ≡ true → both n (cond (w && ltb b (cl + 1)) (Some (cl + 1)) None) ≡ next_after n w (cl + 1)
next-commit_step None true cl b h lt = rw lt refl
next-commit_step None false cl b h lt = refl
next-commit_step (Some e) true cl b h lt = rw lt (ap Some (omega (arith, h e refl)))
next-commit_step (Some e) false cl b h lt = refl

below_next : (b cl : ℕ) → b ≤ cl → ltb b (cl + 1) ≡ true
below_next b cl h = grind (arith, nat_tests)

pub next-commit : (xs : List Change) (clock txn : ℕ) → AreBelow clock xs → (ws : List Edit) (k : Key) (b : ℕ) → b ≤ clock → next_change (xs ++ numbered (clock + 1) txn ws) k b ≡ next_after (next_change xs k b) (is_written ws k) (clock + 1)
next-commit xs clock txn low ws k b h =
    next-append xs (numbered (clock + 1) txn ws) k b
    ∙ ap (both (next_change xs k b)) (next-made ws (clock + 1) txn k b)
    ∙ next-commit_step (next_change xs k b) (is_written ws k) clock b (next-le xs clock low k b) (below_next b clock h)

none_above : (ys : List Change) (n : ℕ) → AreBelow n ys → (k : Key) (c : ℕ) → n ≤ c → next_change ys k c ≡ None
none_above [] n low k c h = refl
none_above (y ∷ ys) n low k c h =
    let number = low.0 in
    let above : ltb c y.commit ≡ false = grind (arith, nat_tests) in
    rw (above, none_above ys n low.1 k c h) (none_test (same_key k y.edit.0) y.commit)
  where
    none_test : (t : Bool) (a : ℕ) → cond (t && false) (lesser a None) None ≡ None
    none_test true a = refl
    none_test false a = refl

-- at the number of the commit itself nothing is next
pub next-at_commit : (xs : List Change) (clock txn : ℕ) → AreBelow clock xs → (ws : List Edit) (k : Key) → next_change (xs ++ numbered (clock + 1) txn ws) k (clock + 1) ≡ None
next-at_commit xs clock txn low ws k =
    next-append xs (numbered (clock + 1) txn ws) k (clock + 1)
    ∙ ap (both (next_change xs k (clock + 1))) (next-made ws (clock + 1) txn k (clock + 1))
    ∙ rw (none_above xs clock low k (clock + 1) (omega arith), not_below (clock + 1)) (none_left (is_written ws k))
  where
    not_below : (c : ℕ) → ltb c c ≡ false
    not_below c = grind (arith, nat_tests)

    none_left : (w : Bool) → cond (w && false) (Some (clock + 1)) None ≡ None
    none_left true = refl
    none_left false = refl

last_test : (t : Bool) (x : Change) → cond (t && false) (Some x) None ≡ None
last_test true x = refl
last_test false x = refl

last-made_below : (ws : List Edit) (c txn : ℕ) (k : Key) (b : ℕ) → b < c → last_at (numbered c txn ws) k b ≡ None
last-made_below [] c txn k b h = refl
last-made_below (w ∷ ws) c txn k b h =
    let above : leb c b ≡ false = grind (arith, nat_tests) in
    last_step (numbered c txn ws) k b (record { commit = c; txn = txn; edit = w })
    ∙ rw (last-made_below ws c txn k b h, above) (last_test (same_key k w.0) (record { commit = c; txn = txn; edit = w }))

-- the changes of a commit are above all that were before
pub last-commit : (xs : List Change) (clock txn : ℕ) (ws : List Edit) (k : Key) (b : ℕ) → b ≤ clock → last_at (xs ++ numbered (clock + 1) txn ws) k b ≡ last_at xs k b
last-commit xs clock txn ws k b h = last-append xs (numbered (clock + 1) txn ws) k b ∙ ap (λ (o : Option Change). later o (last_at xs k b)) (last-made_below ws (clock + 1) txn k b (omega (arith, h)))

-- ---- the keys that are replaced

pub replaced-written : (cs : List Change) (clock : ℕ) (ws : List Edit) (k : Key) → is_one_of (replaced_by cs clock ws) k ≡ (is_written ws k && is_in_table cs clock k)
replaced-written cs clock [] k = refl
replaced-written cs clock (w ∷ ws) k = step (is_in_table cs clock w.0) refl (same_key k w.0) refl (replaced-written cs clock ws k)
  where
    cases : (p q : Bool) → (p || (q && p)) ≡ p
    cases true q = refl
    cases false true = refl
    cases false false = refl

    gone : (q t : Bool) → t ≡ false → (q && t) ≡ ((true || q) && t)
    gone true t is = refl
    gone false true is = cc
    gone false false is = refl

    kept : (q t : Bool) → t ≡ true → (true || (q && t)) ≡ ((true || q) && t)
    kept q true is = refl
    kept q false is = cc

    step : (t : Bool) → is_in_table cs clock w.0 ≡ t → (p : Bool) → same_key k w.0 ≡ p → is_one_of (replaced_by cs clock ws) k ≡ (is_written ws k && is_in_table cs clock k)
        → list_any (same_key k) (cond t (w.0 ∷ replaced_by cs clock ws) (replaced_by cs clock ws)) ≡ ((p || is_written ws k) && is_in_table cs clock k)
    step true t_is true p_is rest =
        let same : is_in_table cs clock k ≡ true = ap (is_in_table cs clock) (sym (key_is k w.0 p_is)) ∙ t_is in
        ap (λ (p : Bool). p || is_one_of (replaced_by cs clock ws) k) p_is ∙ ap (λ (q : Bool). true || q) rest ∙ kept (is_written ws k) (is_in_table cs clock k) same
    step true t_is false p_is rest = ap (λ (p : Bool). p || is_one_of (replaced_by cs clock ws) k) p_is ∙ rest
    step false t_is true p_is rest =
        let same : is_in_table cs clock k ≡ false = ap (is_in_table cs clock) (sym (key_is k w.0 p_is)) ∙ t_is in
        rest ∙ gone (is_written ws k) (is_in_table cs clock k) same
    step false t_is false p_is rest = rest

-- ---- its entries

holds_step : (p q r : Bool) → (q || (p || r)) ≡ (p || (q || r))
holds_step true true r = refl
holds_step true false r = refl
holds_step false q r = refl

holds-with : (x : Ending) (xs : List Ending) (k : Key) (e : ℕ) → holds (with_ending x xs) k e ≡ ((same_key k x.key && eqb x.end e) || holds xs k e)
holds-with x [] k e = refl
holds-with x (y ∷ ys) k e = step (is_lt (ending_cmp x y)) (holds-with x ys k e)
  where
    step : (t : Bool) → holds (with_ending x ys) k e ≡ ((same_key k x.key && eqb x.end e) || holds ys k e) → holds (cond t (x ∷ y ∷ ys) (y ∷ with_ending x ys)) k e ≡ ((same_key k x.key && eqb x.end e) || holds (y ∷ ys) k e)
    step true rest = refl
    step false rest = ap (λ (q : Bool). (same_key k y.key && eqb y.end e) || q) rest ∙ holds_step (same_key k x.key && eqb x.end e) (same_key k y.key && eqb y.end e) (holds ys k e)

or_assoc : (p q r : Bool) → (p || (q || r)) ≡ ((q || (p || r)))
or_assoc true true r = refl
or_assoc true false r = refl
or_assoc false q r = refl

pub holds-append : (buffer xs : List Ending) (k : Key) (e : ℕ) → holds (with_endings buffer xs) k e ≡ (holds buffer k e || holds xs k e)
holds-append buffer [] k e = cases (holds buffer k e)
  where
    cases : (t : Bool) → t ≡ (t || false)
    cases true = refl
    cases false = refl
holds-append buffer (x ∷ xs) k e =
    holds-with x (with_endings buffer xs) k e
    ∙ ap (λ (q : Bool). (same_key k x.key && eqb x.end e) || q) (holds-append buffer xs k e)
    ∙ or_assoc (same_key k x.key && eqb x.end e) (holds buffer k e) (holds xs k e)

all-with : (P : Ending → Type 0) (x : Ending) (xs : List Ending) → P x → AllByRecursion P xs → AllByRecursion P (with_ending x xs)
all-with P x [] p all = (p, tt)
all-with P x (y ∷ ys) p all = step (is_lt (ending_cmp x y)) (all-with P x ys p all.1)
  where
    step : (t : Bool) → AllByRecursion P (with_ending x ys) → AllByRecursion P (cond t (x ∷ y ∷ ys) (y ∷ with_ending x ys))
    step true rest = (p, all)
    step false rest = (all.0, rest)

pub all-endings : (P : Ending → Type 0) (buffer xs : List Ending) → AllByRecursion P buffer → AllByRecursion P xs → AllByRecursion P (with_endings buffer xs)
all-endings P buffer [] all_b all_x = all_b
all-endings P buffer (x ∷ xs) all_b all_x = all-with P x (with_endings buffer xs) all_x.0 (all-endings P buffer xs all_b all_x.1)

pub ending_total : IsTotalOrder ending_cmp
ending_total = then_total (on_total (λ (x : Ending). x.key) key_total) (on_total (λ (x : Ending). x.end) nat_cmp_total)

abbrev Apart : Ending → List Ending → Type 0
Apart x xs = AllByRecursion (λ (y : Ending). ending_cmp x y ≡ Equal → ⊥) xs

sorted-with : (x : Ending) (xs : List Ending) → Apart x xs → IsStrictlySortedBy ending_cmp xs → IsStrictlySortedBy ending_cmp (with_ending x xs)
unfolding IsStrictlySortedBy
sorted-with x [] apart up = (tt, tt)
sorted-with x (y ∷ ys) apart up = step (ending_cmp x y) refl (sorted-with x ys apart.1 up.1)
  where
    below_all : (zs : List Ending) → ending_cmp x y ≡ Less → AllByRecursion (λ (z : Ending). ending_cmp y z ≡ Less) zs → AllByRecursion (λ (z : Ending). ending_cmp x z ≡ Less) zs
    below_all [] less all = tt
    below_all (z ∷ zs) less all = (ending_total.trans x y z less all.0, below_all zs less all.1)

    step : (r : Ordering) → ending_cmp x y ≡ r → IsStrictlySortedBy ending_cmp (with_ending x ys) → IsStrictlySortedBy ending_cmp (cond (is_lt r) (x ∷ y ∷ ys) (y ∷ with_ending x ys))
    step Less is rest = ((is, below_all ys is up.0), up)
    step Equal is rest = absurd (apart.0 is)
    step Greater is rest = (all-with (λ (z : Ending). ending_cmp y z ≡ Less) x ys (ending_total.antisymm y x ∙ ap ordering_reverse is) up.0, rest)

abbrev AreApart : List Ending → List Ending → Type 0
AreApart buffer [] = Unit {0}
AreApart buffer (x ∷ xs) = Apart x buffer × Apart x xs × AreApart buffer xs

pub sorted-endings : (buffer xs : List Ending) → AreApart buffer xs → IsStrictlySortedBy ending_cmp buffer → IsStrictlySortedBy ending_cmp (with_endings buffer xs)
sorted-endings buffer [] apart up = up
sorted-endings buffer (x ∷ xs) apart up = sorted-with x (with_endings buffer xs) (all-endings (λ (y : Ending). ending_cmp x y ≡ Equal → ⊥) buffer xs apart.0 apart.1) (sorted-endings buffer xs apart.2 up)

-- entries of a commit have its number, those before lower ones
cmp_ends : (x y : Ending) → ending_cmp x y ≡ Equal → (x.key ≡ y.key) × (x.end ≡ y.end)
cmp_ends x y is = step (key_cmp x.key y.key) refl is
  where
    step : (r : Ordering) → key_cmp x.key y.key ≡ r → ordering_then r (nat_cmp x.end y.end) ≡ Equal → (x.key ≡ y.key) × (x.end ≡ y.end)
    step Less r_is h = cc
    step Greater r_is h = cc
    step Equal r_is h = (exact_key x.key y.key r_is, exact_unsigned x.end y.end h)

apart_below : (x : Ending) (n : ℕ) (ys : List Ending) → n < x.end → AllByRecursion (λ (y : Ending). y.end ≤ n) ys → Apart x ys
apart_below x n [] lt all = tt
apart_below x n (y ∷ ys) lt all = ((λ is. let same = (cmp_ends x y is).1 in let le = all.0 in absurd (omega (arith, same, le, lt))), apart_below x n ys lt all.1)

abbrev pub endings_of : ℕ → List Key → List Ending
endings_of c keys = map (λ key. record { key = key; end = c }) keys

abbrev EachOnce : List Key → Type 0
EachOnce [] = Unit {0}
EachOnce (k ∷ ks) = (is_one_of ks k ≡ false) × EachOnce ks

apart_keys : (c : ℕ) (k : Key) (ks : List Key) → is_one_of ks k ≡ false → Apart (record { key = k; end = c }) (endings_of c ks)
apart_keys c k [] h = tt
apart_keys c k (q ∷ ks) h = step (same_key k q) refl h (apart_keys c k ks)
  where
    step : (t : Bool) → same_key k q ≡ t → (t || is_one_of ks k) ≡ false → (is_one_of ks k ≡ false → Apart (record { key = k; end = c }) (endings_of c ks)) → Apart (record { key = k; end = c }) (endings_of c (q ∷ ks))
    step true is h rest = cc
    step false is h rest = ((λ same. cc (key_here k q (sym (cmp_ends (record { key = k; end = c }) (record { key = q; end = c }) same).0), is)), rest h)

pub apart-endings : (n c : ℕ) (buffer : List Ending) (keys : List Key) → n < c → AllByRecursion (λ (y : Ending). y.end ≤ n) buffer → EachOnce keys → AreApart buffer (endings_of c keys)
apart-endings n c buffer [] lt all once = tt
apart-endings n c buffer (k ∷ ks) lt all once = (apart_below (record { key = k; end = c }) n buffer lt all, apart_keys c k ks once.0, apart-endings n c buffer ks lt all once.1)

-- of a list with each key once, those that pass
one_of-filter : (p : Key → Bool) (ks : List Key) (k : Key) → is_one_of ks k ≡ false → is_one_of (filter p ks) k ≡ false
one_of-filter p [] k h = refl
one_of-filter p (q ∷ ks) k h = step (p q) (same_key k q) refl h (one_of-filter p ks k)
  where
    step : (t r : Bool) → same_key k q ≡ r → (r || is_one_of ks k) ≡ false → (is_one_of ks k ≡ false → is_one_of (filter p ks) k ≡ false) → is_one_of (cond t (q ∷ filter p ks) (filter p ks)) k ≡ false
    step true true r_is h rest = cc
    step true false r_is h rest = ap (λ (r : Bool). r || is_one_of (filter p ks) k) r_is ∙ rest h
    step false true r_is h rest = cc
    step false false r_is h rest = rest h

pub once-filter : (p : Key → Bool) (ks : List Key) → EachOnce ks → EachOnce (filter p ks)
once-filter p [] once = tt
once-filter p (k ∷ ks) once = step (p k) (once-filter p ks once.1)
  where
    step : (t : Bool) → EachOnce (filter p ks) → EachOnce (cond t (k ∷ filter p ks) (filter p ks))
    step true rest = (one_of-filter p ks k once.0, rest)
    step false rest = rest

written-keys : (ws : List Edit) (k : Key) → is_one_of (map (λ (edit : Edit). edit.0) ws) k ≡ is_written ws k
written-keys [] k = refl
written-keys (w ∷ ws) k = ap (λ (r : Bool). same_key k w.0 || r) (written-keys ws k)

pub once-keys : (ws : List Edit) → HasEachKeyOnce ws → EachOnce (map (λ (edit : Edit). edit.0) ws)
once-keys [] once = tt
once-keys (w ∷ ws) once = (written-keys ws w.0 ∙ once.0, once-keys ws once.1)

holds-entry_step : (k q : Key) (c e : ℕ) (p : Bool) → same_key k q ≡ p → (r : Bool) → ((same_key k q && eqb c e) || r) ≡ ((p && eqb c e) || r)
holds-entry_step k q c e p is r = ap (λ (t : Bool). (t && eqb c e) || r) is

pub holds-entries : (opened : List Version) (ks : List Key) (c : ℕ) (k : Key) (e : ℕ) → holds (entries_by opened ks c) k e ≡ ((is_one_of ks k && not (has_live k opened)) && eqb c e)
holds-entries opened [] c k e = refl
holds-entries opened (q ∷ ks) c k e = step (not (has_live q opened)) refl (same_key k q) refl (holds-entries opened ks c k e)
  where
    cases : (h s r : Bool) → (s || ((r && true) && s)) ≡ s
    cases h true r = refl
    cases h false true = refl
    cases h false false = refl

    step : (t : Bool) → not (has_live q opened) ≡ t → (p : Bool) → same_key k q ≡ p → holds (entries_by opened ks c) k e ≡ ((is_one_of ks k && not (has_live k opened)) && eqb c e)
        → holds (endings_of c (cond t (q ∷ filter (λ key. not (has_live key opened)) ks) (filter (λ key. not (has_live key opened)) ks))) k e ≡ (((p || is_one_of ks k) && not (has_live k opened)) && eqb c e)
    step true t_is true p_is rest =
        let live : not (has_live k opened) ≡ true = ap (λ (z : Key). not (has_live z opened)) (sym (key_is k q p_is)) ∙ t_is in
        holds-entry_step k q c e true p_is (holds (entries_by opened ks c) k e) ∙ ap (λ (r : Bool). eqb c e || r) rest ∙ rw live (here (eqb c e) (is_one_of ks k))
      where
        here : (s r : Bool) → (s || ((r && true) && s)) ≡ ((true && true) && s)
        here true r = refl
        here false true = refl
        here false false = refl
    step true t_is false p_is rest = holds-entry_step k q c e false p_is (holds (entries_by opened ks c) k e) ∙ rest
    step false t_is true p_is rest =
        let dead : not (has_live k opened) ≡ false = ap (λ (z : Key). not (has_live z opened)) (sym (key_is k q p_is)) ∙ t_is in
        rest ∙ rw dead (gone (eqb c e) (is_one_of ks k))
      where
        gone : (s r : Bool) → ((r && false) && s) ≡ ((true && false) && s)
        gone s true = refl
        gone s false = refl
    step false t_is false p_is rest = rest

-- ---- its versions

abbrev pub made_by : List Edit → ℕ → List Version
made_by ws c = map (new_version c) (inserted_by ws)

-- what is known of each new version
pub record IsMade (c txn : ℕ) (ws : List Edit) (v : Version) : Type 0 where
  pub begin : v.begin ≡ c
  pub end : v.end ≡ None
  pub written : is_written ws v.key ≡ true
  pub edit : Edit
  pub last : last_at (numbered c txn ws) v.key c ≡ Some (record { commit = c; txn = txn; edit = edit })
  pub row : is_some edit.1 ≡ true

abbrev change_of : ℕ → ℕ → Edit → Change
change_of c txn edit = record { commit = c; txn = txn; edit = edit }

last-unwritten : (ws : List Edit) (c txn : ℕ) (k : Key) (b : ℕ) → is_written ws k ≡ false → last_at (numbered c txn ws) k b ≡ None
last-unwritten [] c txn k b h = refl
last-unwritten (w ∷ ws) c txn k b h = last_step (numbered c txn ws) k b (change_of c txn w) ∙ step (same_key k w.0) (is_written ws k) h (last-unwritten ws c txn k b)
  where
    step : (p q : Bool) → (p || q) ≡ false → (q ≡ false → last_at (numbered c txn ws) k b ≡ None) → later (last_at (numbered c txn ws) k b) (cond (p && leb c b) (Some (change_of c txn w)) None) ≡ None
    step true q h rest = cc
    step false q h rest = rw (rest h) refl

IsMade-more : (c txn : ℕ) (w : Edit) (ws : List Edit) (v : Version) → IsMade c txn ws v → IsMade c txn (w ∷ ws) v
IsMade-more c txn w ws v m = record {
  begin = m.begin;
  end = m.end;
  written = rw m.written (step (same_key v.key w.0));
  edit = m.edit;
  last = last_step (numbered c txn ws) v.key c (change_of c txn w) ∙ rw m.last refl;
  row = m.row;
}
  where
    step : (p : Bool) → (p || true) ≡ true
    step true = refl
    step false = refl

made-are_step : (w : Edit) (ws : List Edit) (c txn : ℕ) (t : Bool) → is_some w.1 ≡ t → is_written ws w.0 ≡ false → AllByRecursion (IsMade c txn (w ∷ ws)) (made_by ws c)
    → AllByRecursion (IsMade c txn (w ∷ ws)) (map (new_version c) (map (λ (edit : Edit). edit.0) (cond t (w ∷ filter (λ (edit : Edit). is_some edit.1) ws) (filter (λ (edit : Edit). is_some edit.1) ws))))
made-are_step w ws c txn false is new rest = rest
made-are_step w ws c txn true is new rest = (
  record {
    begin = refl;
    end = refl;
    written = rw (key_itself w.0) refl;
    edit = w;
    last =
        let reached : leb c c ≡ true = grind (arith, nat_tests) in
        last_step (numbered c txn ws) w.0 c (change_of c txn w) ∙ rw (last-unwritten ws c txn w.0 c new, key_itself w.0, reached) refl;
    row = is;
  },
  rest,
)

pub made-are : (ws : List Edit) (c txn : ℕ) → HasEachKeyOnce ws → AllByRecursion (IsMade c txn ws) (made_by ws c)
made-are [] c txn once = tt
made-are (w ∷ ws) c txn once = made-are_step w ws c txn (is_some w.1) refl once.0 (weaker (IsMade c txn ws) (IsMade c txn (w ∷ ws)) (made_by ws c) (IsMade-more c txn w ws) (made-are ws c txn once.1))

-- how many new versions a key has
abbrev pub of_key : Key → Version → Bool
of_key k v = same_key k v.key

abbrev news_if : Bool → Edit → List Edit → ℕ → List Version
news_if t w ws c = map (new_version c) (map (λ (edit : Edit). edit.0) (cond t (w ∷ filter (λ (edit : Edit). is_some edit.1) ws) (filter (λ (edit : Edit). is_some edit.1) ws)))

pub made-none : (ws : List Edit) (c : ℕ) (k : Key) → is_written ws k ≡ false → how_many (of_key k) (made_by ws c) ≡ 0
made-none [] c k h = refl
made-none (w ∷ ws) c k h = step (is_some w.1) (same_key k w.0) refl h (made-none ws c k)
  where
    step : (t p : Bool) → same_key k w.0 ≡ p → (p || is_written ws k) ≡ false → (is_written ws k ≡ false → how_many (of_key k) (made_by ws c) ≡ 0) → how_many (of_key k) (news_if t w ws c) ≡ 0
    step t true p_is h rest = cc
    step true false p_is h rest = rw (p_is, rest h) refl
    step false false p_is h rest = rest h

pub made-once : (ws : List Edit) (c : ℕ) (k : Key) → HasEachKeyOnce ws → how_many (of_key k) (made_by ws c) ≤ 1
made-once [] c k once = omega arith
made-once (w ∷ ws) c k once = step (is_some w.1) (same_key k w.0) refl (made-once ws c k once.1)
  where
    step : (t p : Bool) → same_key k w.0 ≡ p → how_many (of_key k) (made_by ws c) ≤ 1 → how_many (of_key k) (news_if t w ws c) ≤ 1
    step true true p_is rest = rw (p_is, made-none ws c k (ap (is_written ws) (sym (key_is k w.0 p_is)) ∙ once.0)) (omega arith)
    step true false p_is rest = rw p_is (omega (arith, rest))
    step false p p_is rest = rest

-- each write with a row makes one version
pub made-each : (ws : List Edit) (c : ℕ) → AllByRecursion (λ (w : Edit). is_some w.1 ≡ true → 1 ≤ how_many (of_key w.0) (made_by ws c)) ws
made-each [] c = tt
made-each (w ∷ ws) c = (
  here (is_some w.1),
  weaker (λ (u : Edit). is_some u.1 ≡ true → 1 ≤ how_many (of_key u.0) (made_by ws c)) (λ (u : Edit). is_some u.1 ≡ true → 1 ≤ how_many (of_key u.0) (made_by (w ∷ ws) c)) ws (λ u h some. there (is_some w.1) u (h some)) (made-each ws c),
)
  where
    here : (t : Bool) → t ≡ true → 1 ≤ how_many (of_key w.0) (news_if t w ws c)
    here true some = rw (key_itself w.0) (omega arith)
    here false some = cc

    there : (t : Bool) (u : Edit) → 1 ≤ how_many (of_key u.0) (made_by ws c) → 1 ≤ how_many (of_key u.0) (news_if t w ws c)
    there true u h = omega (arith, h)
    there false u h = h

-- keys in order are each there once
unwritten_above : (k : Key) (ws : List Edit) → AllByRecursion (λ (q : Key). key_cmp k q ≡ Less) (keys_of ws) → is_written ws k ≡ false
unwritten_above k [] all = refl
unwritten_above k (w ∷ ws) all = rw (ap is_eq all.0, unwritten_above k ws all.1) refl

pub once_sorted : (ws : List Edit) → IsStrictlySortedBy key_cmp (keys_of ws) → HasEachKeyOnce ws
unfolding IsStrictlySortedBy
once_sorted [] sorted = tt
once_sorted (w ∷ ws) sorted = (unwritten_above w.0 ws sorted.0, once_sorted ws sorted.1)
