-- A list of groups in which sources are tombstones and a new group stands in its place.
use Rattle.std.proofs.Common.{◌≡◌, ℕ, ◌<◌, ◌≤◌, ◌+◌, zero, suc, Bool, true, false, ◌||◌, ◌==◌, cond, List, [], ◌∷◌, map, filter, length, get_or, set, not, Option, Some, None, Vec, refl, sym, ap, subst, ◌∙◌, inl, inr, arith}
use Rattle.std.specs.Prelude.{position}
use Rattle.std.specs.List.{All, AllByRecursion, Contains, list_any}
use Rattle.std.proofs.lemmas.Bool.{eqb-true}
use Rattle.std.specs.Vec.{with_items}
use Rattle.std.proofs.lemmas.List.{length-map, with_items_is}
use Rattle.std.proofs.lemmas.List.Elements.{recursion_from_All, All-from_recursion, All-contains_itself, All-map, All-filter, All-weaker}
use Rattle.cs_model.specs.declared.work.Actor.{Actor}
use Rattle.delete_buffer.specs.Entries.{Entry, without}
use Rattle.group_book.specs.Book as book
use Rattle.group_book.specs.Book.{how_many, total, deleted}
use Rattle.group_book.specs.Turns.{is_fresh, is_id_of, is_none_left, replaced_group, same_actor, spent_of, installed_with, without_entries, without_fresh}
use Rattle.group_book.proofs.Lists.{how_many-none, how_many-some}
use Rattle.group_book.proofs.Sized.{count_filter}
use Rattle.group_view.specs.declared.claim.Claim.{Claim}
use Rattle.group_view.specs.declared.groups.Group.{Group}
use Rattle.group_view.specs.declared.groups.GroupList.{GroupList}
use Rattle.group_view.specs.declared.groups.GroupContent.TheVariants.{Compressed, Tombstone}
use Rattle.group_view.specs.declared.parts.GroupPart.{GroupPart}
use Rattle.group_view.specs.Parts.{Rowed}
use Rattle.group_view.specs.Views.{endings_of}
use Rattle.group_view.specs.Books.{book_of, claim_of, content_of, group_of, rowed_in_content, versions_of}
use Rattle.group_view.specs.Lists.{is_listed, listed, IsHeld, IsOpenAt}
use Rattle.group_directory.specs.Committing.{NewGroup}
use Rattle.group_directory.specs.Installing.{held_by, ids_of, new_rows, new_versions, IsFilled, buried, placed, with_new, HasPlace, IsOldOrNew}
use Rattle.group_directory.proofs.Books.{book_is, all-mapped}
use Rattle.group_directory.proofs.Held.{Fits, Lends}
use Rattle.group_directory.proofs.InstallBuffers.{claims_left, endings_without}
use Rattle.group_directory.proofs.Opened.{opens, one_open, open_here, none_found}

-- ---- the group of an id

fresh_by_id : (fresh : Option ℕ) (a b : book.Group) → a.id ≡ b.id → is_fresh fresh a ≡ is_fresh fresh b
fresh_by_id None a b same = refl
fresh_by_id (Some id) a b same = ap (λ n. is_fresh (Some id) (record { id = n; content = book.Content.Invisible })) same

fresh_is : (fresh : Option ℕ) (g : book.Group) → is_fresh fresh g ≡ true → fresh ≡ Some g.id
fresh_is None g is = cc
fresh_is (Some id) g is = ap Some (sym (eqb-true g.id id is))

-- the parts name the group
pub named_by : (parts : List (ℕ × GroupPart)) (g : book.Group) → is_id_of (ids_of parts) g ≡ list_any (λ (part : ℕ × GroupPart). part.0 == g.id) parts
named_by [] g = refl
named_by (part ∷ parts) g = ap (λ t. (part.0 == g.id) || t) (named_by parts g)

-- one element changes, where it alone passes the test
none_change : {X : Type 0} (p : X → Bool) (f : X → X) (xs : List X) → how_many p xs ≡ 0 → map (λ x. cond (p x) (f x) x) xs ≡ xs
none_change p f [] none = refl
none_change {X = X} p f (x ∷ xs) none = step (p x) refl (none_change p f xs)
  where
    step : (t : Bool) → p x ≡ t → (how_many p xs ≡ 0 → map (λ y. cond (p y) (f y) y) xs ≡ xs) → map (λ y. cond (p y) (f y) y) (x ∷ xs) ≡ x ∷ xs
    step true is rest = absurd (let h = rw is at none in omega (arith, h))
    step false is rest = let h = rw is at none in rw is (ap (λ (l : List X). x ∷ l) (rest (omega (arith, h))))

pub set_alone : {X : Type 0} (p : X → Bool) (f : X → X) (xs : List X) (i : ℕ) (d : X) → how_many p xs ≡ 1 → i < length xs → p (get_or xs i d) ≡ true → set xs i (f (get_or xs i d)) ≡ map (λ x. cond (p x) (f x) x) xs
set_alone p f [] i d one inside here = absurd (omega (arith, inside))
set_alone {X = X} p f (x ∷ xs) zero d one inside here =
    let h = rw here at one in
    rw here (ap (λ (l : List X). f x ∷ l) (sym (none_change p f xs (omega (arith, h)))))
set_alone {X = X} p f (x ∷ xs) (suc i) d one inside here = step (p x) refl (λ lone. set_alone p f xs i d lone (omega (arith, inside)) here)
  where
    step : (t : Bool) → p x ≡ t → (how_many p xs ≡ 1 → set xs i (f (get_or xs i d)) ≡ map (λ y. cond (p y) (f y) y) xs) → x ∷ set xs i (f (get_or xs i d)) ≡ map (λ y. cond (p y) (f y) y) (x ∷ xs)
    step true is rest = absurd (let h = rw is at one in let more = how_many-some p xs i d (omega (arith, inside)) here in omega (arith, h, more))
    step false is rest = let h = rw is at one in rw is (ap (λ (l : List X). x ∷ l) (rest (omega (arith, h))))

-- where one passes, one is found
pub found_alone : {X : Type 0} (p : X → Bool) (xs : List X) → how_many p xs ≡ 1 → position p xs ≡ None → ⊥
found_alone p xs one none = absurd (let zero = how_many-none p xs (recursion_from_All (λ x. p x ≡ false) xs (λ k d inside. none_found p xs none k d inside)) in omega (arith, zero, one))

-- ---- one group

pub buried_is : (ids : List ℕ) (g : Group) (versions ends : ℕ) → is_id_of ids (group_of g) ≡ true → versions ≡ total (content_of g.content) → ends ≡ deleted (content_of g.content)
    → record { id = g.id; content = Tombstone versions ends } ≡ buried ids g
buried_is ids g versions ends is v e = rw is (λ i. record { id = g.id; content = Tombstone (v i) (e i) })

pub not_buried : (ids : List ℕ) (g : Group) → is_id_of ids (group_of g) ≡ false → g ≡ buried ids g
not_buried ids g is = rw is refl

-- ---- a vector of groups

pub graves_are : {A : Type 0} (v : Vec Group A) (ws slice : List Group) (named parts : List (ℕ × GroupPart)) → length v.items ≡ v.len → ws ≡ map (buried (ids_of named)) slice → slice ≡ v.items → named ≡ parts
    → (with_items v ws).items ≡ map (buried (ids_of parts)) v.items
graves_are v ws slice named parts long is same names =
    with_items_is v ws (ap (λ (l : List Group). length l) is ∙ length-map slice (buried (ids_of named)) ∙ ap (λ (l : List Group). length l) same ∙ long)
    ∙ is ∙ ap (λ ps. map (buried (ids_of ps)) slice) names ∙ ap (map (buried (ids_of parts))) same

-- ---- the book's groups

module _ (ids : List ℕ) (fresh : Option ℕ) where
  abbrev entombed : Group → Group
  entombed g = record g { content = Tombstone (total (content_of g.content)) (deleted (content_of g.content)) }

  group_placed : (load : NewGroup) (g : Group) → (is_fresh fresh (group_of g) ≡ true → is_id_of ids (group_of g) ≡ false)
      → group_of (placed fresh load (buried ids g)) ≡ replaced_group ids fresh (new_versions (Some load)) (group_of g)
  group_placed load g apart = step (is_id_of ids (group_of g)) refl (is_fresh fresh (group_of g)) refl
    where
      step : (s : Bool) → is_id_of ids (group_of g) ≡ s → (f : Bool) → is_fresh fresh (group_of g) ≡ f
          → group_of (placed fresh load (buried ids g)) ≡ replaced_group ids fresh (new_versions (Some load)) (group_of g)
      step true source true new = absurd (let no = apart new in cc (no, source))
      step true source false new = rw source (rw (fresh_by_id fresh (group_of (entombed g)) (group_of g) refl ∙ new) refl)
      step false source true new = rw (source, new) refl
      step false source false new = rw (source, new) refl

  pub groups_placed : (load : NewGroup) (gs : List Group) → AllByRecursion (λ g. is_fresh fresh (group_of g) ≡ true → is_id_of ids (group_of g) ≡ false) gs
      → map group_of (map (placed fresh load) (map (buried ids) gs)) ≡ map (replaced_group ids fresh (new_versions (Some load))) (map group_of gs)
  groups_placed load [] apart = refl
  groups_placed load (g ∷ gs) apart = (let first = group_placed load g apart.0 in let rest = groups_placed load gs apart.1 in λ i. first i ∷ rest i)

  pub groups_gone : (gs : List Group) → map group_of (filter (λ g. not (is_fresh fresh (group_of g))) (map (buried ids) gs)) ≡ map (replaced_group ids fresh []) (without_fresh fresh (map group_of gs))
  groups_gone [] = refl
  groups_gone (g ∷ gs) = step (is_id_of ids (group_of g)) refl (is_fresh fresh (group_of g)) refl (groups_gone gs)
    where
      step : (s : Bool) → is_id_of ids (group_of g) ≡ s → (f : Bool) → is_fresh fresh (group_of g) ≡ f
          → map group_of (filter (λ h. not (is_fresh fresh (group_of h))) (map (buried ids) gs)) ≡ map (replaced_group ids fresh []) (without_fresh fresh (map group_of gs))
          → map group_of (filter (λ h. not (is_fresh fresh (group_of h))) (buried ids g ∷ map (buried ids) gs)) ≡ map (replaced_group ids fresh []) (without_fresh fresh (group_of g ∷ map group_of gs))
      step true source true new rest = rw (source, new) (rw (fresh_by_id fresh (group_of (entombed g)) (group_of g) refl ∙ new) rest)
      step true source false new rest = rw (source, new) (rw (fresh_by_id fresh (group_of (entombed g)) (group_of g) refl ∙ new) (rw source (ap (λ l. group_of (entombed g) ∷ l) rest)))
      step false source true new rest = rw (source, new) rest
      step false source false new rest = rw (source, new) (rw (source, new) (ap (λ l. group_of g ∷ l) rest))

  -- burying changes no id
  pub fresh_buried : (g : Group) → is_fresh fresh (group_of (buried ids g)) ≡ is_fresh fresh (group_of g)
  fresh_buried g = step (is_id_of ids (group_of g))
    where
      step : (s : Bool) → is_fresh fresh (group_of (cond s (entombed g) g)) ≡ is_fresh fresh (group_of g)
      step true = fresh_by_id fresh (group_of (entombed g)) (group_of g) refl
      step false = refl

  pub count_buried : (gs : List Group) → how_many (λ g. is_fresh fresh (group_of g)) (map (buried ids) gs) ≡ how_many (is_fresh fresh) (map group_of gs)
  count_buried [] = refl
  count_buried (g ∷ gs) = (let first = fresh_buried g in let rest = count_buried gs in λ i. cond (first i) 1 0 + rest i)

  -- ---- what is kept true of the list

  open_buried : (g : Group) → opens (buried ids g) ≡ true → opens g ≡ true
  open_buried g = step (is_id_of ids (group_of g))
    where
      step : (s : Bool) → opens (cond s (entombed g) g) ≡ true → opens g ≡ true
      step true is = cc
      step false is = is

  open_placed : (load : NewGroup) (g : Group) → opens (placed fresh load g) ≡ true → opens g ≡ true
  open_placed load g = step (is_fresh fresh (group_of g))
    where
      step : (f : Bool) → opens (cond f (record g { content = Compressed load.0 load.1 }) g) ≡ true → opens g ≡ true
      step true is = cc
      step false is = is

  fits_buried : (g : Group) → Fits g → Fits (buried ids g)
  fits_buried g fits = step (is_id_of ids (group_of g))
    where
      step : (s : Bool) → Fits (cond s (entombed g) g)
      step true = tt
      step false = fits

  fits_placed : (load : NewGroup) → IsFilled (Some load) → (g : Group) → Fits g → Fits (placed fresh load g)
  fits_placed load filled g fits = step (is_fresh fresh (group_of g))
    where
      step : (f : Bool) → Fits (cond f (record g { content = Compressed load.0 load.1 }) g)
      step true = filled.1
      step false = fits

fewer_open : (f : Group → Group) → ((g : Group) → opens (f g) ≡ true → opens g ≡ true) → (gs : List Group) → how_many opens (map f gs) ≤ how_many opens gs
fewer_open f back [] = omega arith
fewer_open f back (g ∷ gs) = step (opens (f g)) (opens g) (back g) (fewer_open f back gs)
  where
    step : (s t : Bool) → (s ≡ true → t ≡ true) → how_many opens (map f gs) ≤ how_many opens gs → cond s 1 0 + how_many opens (map f gs) ≤ cond t 1 0 + how_many opens gs
    step true true h rest = omega (arith, rest)
    step true false h rest = cc (h refl)
    step false true h rest = omega (arith, rest)
    step false false h rest = omega (arith, rest)

-- the groups of a list after an install
abbrev pub grown : List ℕ → Option ℕ → Option NewGroup → List Group → List Group
grown ids fresh load gs = with_new fresh load (map (buried ids) gs)

module _ (ids : List ℕ) (fresh : Option ℕ) (gs : List Group) where
  abbrev graves : List Group
  graves = map (buried ids) gs

  few_graves : (opened : Option ℕ) → IsOpenAt gs opened → how_many opens graves ≤ 1
  few_graves opened is = let one = one_open gs opened is in let less = fewer_open (buried ids) (open_buried ids fresh) gs in omega (arith, one, less)

  pub grown_open : (opened : Option ℕ) → IsOpenAt gs opened → (load : Option NewGroup) → IsOpenAt (grown ids fresh load gs) (position opens (grown ids fresh load gs))
  grown_open opened is None = open_here (grown ids fresh None gs) (position opens (grown ids fresh None gs)) refl (let few = few_graves opened is in let less = count_filter opens (λ g. not (is_fresh fresh (group_of g))) graves in omega (arith, few, less))
  grown_open opened is (Some load) = open_here (grown ids fresh (Some load) gs) (position opens (grown ids fresh (Some load) gs)) refl (let few = few_graves opened is in let less = fewer_open (placed fresh load) (open_placed ids fresh load) graves in omega (arith, few, less))

  pub grown_fits : (load : Option NewGroup) → IsFilled load → All Fits gs → All Fits (grown ids fresh load gs)
  grown_fits None filled fits = All-filter (λ g. not (is_fresh fresh (group_of g))) Fits graves (All-map Fits (buried ids) gs (All-weaker Fits (λ g. Fits (buried ids g)) (fits_buried ids fresh) gs fits))
  grown_fits (Some load) filled fits =
      All-map Fits (placed fresh load) graves (All-weaker Fits (λ g. Fits (placed fresh load g)) (fits_placed ids fresh load filled) graves (All-map Fits (buried ids) gs (All-weaker Fits (λ g. Fits (buried ids g)) (fits_buried ids fresh) gs fits)))

  some_left : (rows : List Rowed) → 0 < length rows → is_none_left (versions_of rows) ≡ false
  some_left [] some = absurd (omega (arith, some))
  some_left (row ∷ rows) some = refl

  pub grown_groups : (load : Option NewGroup) → IsFilled load → AllByRecursion (λ g. is_fresh fresh (group_of g) ≡ true → is_id_of ids (group_of g) ≡ false) gs
      → map group_of (grown ids fresh load gs) ≡ map (replaced_group ids fresh (new_versions load)) (cond (is_none_left (new_versions load)) (without_fresh fresh (map group_of gs)) (map group_of gs))
  grown_groups None filled apart = groups_gone ids fresh gs
  grown_groups (Some load) filled apart = groups_placed ids fresh load gs apart ∙ ap (λ t. map (replaced_group ids fresh (new_versions (Some load))) (cond t (without_fresh fresh (map group_of gs)) (map group_of gs))) (sym (some_left (new_rows (Some load)) filled.0))

-- ---- the rows that a view shows

module _ (old : List (ℕ × List Rowed)) where
  abbrev Shown : Group → Type 0
  Shown g = is_listed g.content ≡ true → Contains old (g.id, rowed_in_content g.content)

  shown_all : (gs : List Group) → AllByRecursion (Contains old) (listed gs) → AllByRecursion Shown gs
  shown_all [] all = tt
  shown_all (g ∷ gs) all = step (is_listed g.content) refl all (shown_all gs)
    where
      step : (t : Bool) → is_listed g.content ≡ t → AllByRecursion (Contains old) (cond t ((g.id, rowed_in_content g.content) ∷ listed gs) (listed gs)) → (AllByRecursion (Contains old) (listed gs) → AllByRecursion Shown gs) → AllByRecursion Shown (g ∷ gs)
      step true is all rest = ((λ yes. all.0), rest all.1)
      step false is all rest = ((λ yes. cc (is, yes)), rest all)

  shown_graves : (ids : List ℕ) (gs : List Group) → AllByRecursion Shown gs → AllByRecursion Shown (map (buried ids) gs)
  shown_graves ids [] all = tt
  shown_graves ids (g ∷ gs) all = (step (is_id_of ids (group_of g)), shown_graves ids gs all.1)
    where
      step : (s : Bool) → Shown (cond s (entombed ids None g) g)
      step true is = cc is
      step false is = all.0 is

  kept_shown : (fresh : Option ℕ) (p : Group → Bool) (gs : List Group) → AllByRecursion Shown gs → AllByRecursion (IsOldOrNew old fresh None) (listed (filter p gs))
  kept_shown fresh p [] all = tt
  kept_shown fresh p (g ∷ gs) all = step (p g) (is_listed g.content) refl (kept_shown fresh p gs all.1)
    where
      step : (t s : Bool) → is_listed g.content ≡ s → AllByRecursion (IsOldOrNew old fresh None) (listed (filter p gs)) → AllByRecursion (IsOldOrNew old fresh None) (listed (cond t (g ∷ filter p gs) (filter p gs)))
      step true true is rest = rw is (inl (all.0 is), rest)
      step true false is rest = rw is rest
      step false s is rest = rest

  placed_shown : (fresh : Option ℕ) (load : NewGroup) (gs : List Group) → AllByRecursion Shown gs → AllByRecursion (IsOldOrNew old fresh (Some load)) (listed (map (placed fresh load) gs))
  placed_shown fresh load [] all = tt
  placed_shown fresh load (g ∷ gs) all = step (is_fresh fresh (group_of g)) refl (is_listed g.content) refl (placed_shown fresh load gs all.1)
    where
      step : (f : Bool) → is_fresh fresh (group_of g) ≡ f → (s : Bool) → is_listed g.content ≡ s → AllByRecursion (IsOldOrNew old fresh (Some load)) (listed (map (placed fresh load) gs))
          → AllByRecursion (IsOldOrNew old fresh (Some load)) (listed (cond f (record g { content = Compressed load.0 load.1 }) g ∷ map (placed fresh load) gs))
      step true new s is rest = (inr (fresh_is fresh (group_of g) new, refl), rest)
      step false new true is rest = rw is (inl (all.0 is), rest)
      step false new false is rest = rw is rest

pub grown_listed : (ids : List ℕ) (fresh : Option ℕ) (load : Option NewGroup) (gs : List Group) → All (IsOldOrNew (listed gs) fresh load) (listed (grown ids fresh load gs))
grown_listed ids fresh load gs = step load
  where
    all : AllByRecursion (Shown (listed gs)) (map (buried ids) gs)
    all = shown_graves (listed gs) ids gs (shown_all (listed gs) gs (recursion_from_All (Contains (listed gs)) (listed gs) (All-contains_itself (listed gs))))

    step : (load : Option NewGroup) → All (IsOldOrNew (listed gs) fresh load) (listed (grown ids fresh load gs))
    step None = All-from_recursion _ _ (kept_shown (listed gs) fresh (λ g. not (is_fresh fresh (group_of g))) (map (buried ids) gs) all)
    step (Some load) = All-from_recursion _ _ (placed_shown (listed gs) fresh load (map (buried ids) gs) all)

-- ---- the list

module _ (old new : GroupList) (actor : Actor) (held : Actor × Claim) (load : Option NewGroup) (is : held_by actor old.claims.items ≡ Some held)
    (groups : new.groups.items ≡ grown (ids_of held.1.view.groups) held.1.fresh load old.groups.items) (claims : new.claims.items ≡ filter (λ (other : Actor × Claim). not (same_actor other.0 actor)) old.claims.items) (filled : IsFilled load) where
  pub installed_held : new.opened ≡ position opens new.groups.items → IsHeld old → IsHeld new
  installed_held opened h = record {
    fitting = subst (All Fits) (sym groups) (grown_fits (ids_of held.1.view.groups) held.1.fresh old.groups.items load filled h.fitting);
    opened = subst (IsOpenAt new.groups.items) (sym opened) (subst (λ gs. IsOpenAt gs (position opens gs)) (sym groups) (grown_open (ids_of held.1.view.groups) held.1.fresh old.groups.items old.opened h.opened load));
    lent = subst (All Lends) (sym claims) (All-filter (λ (other : Actor × Claim). not (same_actor other.0 actor)) Lends old.claims.items h.lent);
  }

  pub installed_listed : All (IsOldOrNew (listed old.groups.items) held.1.fresh load) (listed new.groups.items)
  installed_listed = subst (λ gs. All (IsOldOrNew (listed old.groups.items) held.1.fresh load) (listed gs)) (sym groups) (grown_listed (ids_of held.1.view.groups) held.1.fresh load old.groups.items)

  pub installed_book : (spent : List Entry) → new.buffer.entries ≡ without spent old.buffer.entries → endings_of spent ≡ spent_of (claim_of held) → new.next ≡ old.next → HasPlace (book_of old).groups (claim_of held)
      → book_of new ≡ installed_with (new_versions load) (claim_of held) (book_of old)
  installed_book spent buffer same next place =
      book_is (book_of new) (installed_with (new_versions load) (claim_of held) (book_of old))
      (ap (map group_of) groups ∙ grown_groups (ids_of held.1.view.groups) held.1.fresh old.groups.items load filled
      (all-mapped (λ (g : book.Group). is_fresh held.1.fresh g ≡ true → is_id_of (ids_of held.1.view.groups) g ≡ false) group_of old.groups.items
      (recursion_from_All (λ (g : book.Group). is_fresh held.1.fresh g ≡ true → is_id_of (ids_of held.1.view.groups) g ≡ false) (map group_of old.groups.items) place.apart)))
      (ap endings_of buffer ∙ endings_without spent old.buffer.entries ∙ ap (λ gone. without_entries gone (endings_of old.buffer.entries)) same)
      (claims_left actor old.claims.items new.claims.items held is claims)
      next
