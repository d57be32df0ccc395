-- The packed groups of a list, where its groups change; and packed groups of a table, where a commit loads them.
use Rattle.std.proofs.Common.{◌≡◌, ℕ, zero, suc, ◌<◌, ◌≤◌, ◌+◌, ◌==◌, Bool, true, false, cond, List, [], ◌∷◌, ◌++◌, map, filter, length, get_or, set, not, Option, None, Some, refl, sym, ap, subst, ◌∙◌, arith}
use Rattle.std.specs.Prelude.{IfSome}
use Rattle.std.specs.List.{All, AllByRecursion, AllZip}
use Rattle.std.specs.declared.alloc.Global.{Global}
use Rattle.std.specs.declared.cmp.Ordering.{Ordering}
use Rattle.std.specs.declared.sync.Arc.{Arc}
use Rattle.std.specs.Ordering.{nat_cmp, ordering_then}
use Rattle.std.proofs.lemmas.Cmp.{nat_cmp_total, tied_itself}
use Rattle.std.proofs.lemmas.Grind.{flat_map-append}
use Rattle.std.proofs.lemmas.List.{map-append, get_or-map, length-append, length-map}
use Rattle.std.proofs.lemmas.List.Elements.{All-map, All-append, recursion_from_All, All-from_recursion}
use Rattle.std.proofs.lemmas.List.Folds.{flat_map-map}
use Rattle.cs_types.specs.declared.Schema.{Schema}
use Rattle.cs_types.specs.Rows.{cell_at}
use Rattle.cs_types.specs.Values.{value_cmp}
use Rattle.delete_bitmap.specs.declared.Marks.{Marks}
use Rattle.row_group.specs.declared.packed.Packed as packed
use Rattle.row_group.specs.Groups.{begun_at}
use Rattle.row_group.specs.Orders.{by_rank}
use Rattle.row_group.specs.Rows.{PackedRow, column_of, column_cmp, row_cmp, distinct_cells}
use Rattle.group_book.specs.Book.{is_compressed, total, deleted}
use Rattle.group_book.specs.Turns.{is_fresh, is_id_of}
use Rattle.group_book.proofs.Lists.{all-append, all-left, all-right}
use Rattle.group_view.specs.declared.groups.Group.{Group}
use Rattle.group_view.specs.declared.groups.GroupContent.{GroupContent}
use Rattle.group_view.specs.declared.groups.GroupContent.TheVariants.{Opened, Closed, Compressed, Invisible, Tombstone}
use Rattle.group_view.specs.declared.parts.GroupPart.{GroupPart}
use Rattle.group_view.specs.declared.parts.GroupPart.TheVariants.{Packed, Store}
use Rattle.group_view.specs.Parts.{packed_parts, ArePacked, IsPackedGroup}
use Rattle.group_view.specs.Books.{content_of, group_of}
use Rattle.group_view.specs.Claims.{IsPackedPart}
use Rattle.group_view.specs.Lists.{is_open, is_listed, packed_content, packed_of, packed_in}
use Rattle.group_view.specs.Parcels.{HasOneBegin}
use Rattle.group_directory.specs.Committing.{NewGroup, new_groups, rebased, packed_groups, IsNewGroupOf}
use Rattle.group_directory.specs.Installing as install
use Rattle.group_view.specs.Seen.{Seen, seen, is_shown, shows, entry_of, packed_seen, part_entry}
use Rattle.group_directory.specs.Settling as settle
use Rattle.group_directory.proofs.Books.{listed_kind}

abbrev pub Entries : Type 0
Entries = List (ℕ × packed.Packed)

-- ---- kinds

pub unpacked : (id : ℕ) (content : GroupContent) → is_compressed (content_of content) ≡ false → packed_content id content ≡ []
unpacked id (Opened store) is = refl
unpacked id (Closed store) is = refl
unpacked id (Compressed packed marks) is = cc
unpacked id Invisible is = refl
unpacked id (Tombstone total deleted) is = refl

pub open_unpacked : (id : ℕ) (content : GroupContent) → is_open content ≡ true → packed_content id content ≡ []
open_unpacked id (Opened store) is = refl
open_unpacked id (Closed store) is = refl
open_unpacked id (Compressed packed marks) is = cc
open_unpacked id Invisible is = refl
open_unpacked id (Tombstone total deleted) is = refl

pub hidden_unpacked : (id : ℕ) (content : GroupContent) → is_listed content ≡ false → packed_content id content ≡ []
hidden_unpacked id (Opened store) is = refl
hidden_unpacked id (Closed store) is = refl
hidden_unpacked id (Compressed packed marks) is = cc
hidden_unpacked id Invisible is = refl
hidden_unpacked id (Tombstone total deleted) is = refl

-- ---- one group changes, some go

pub packed-set : (gs : List Group) (at : ℕ) (x y : Group) → x ≡ get_or gs at x → packed_of y ≡ packed_of x → packed_in (set gs at y) ≡ packed_in gs
packed-set [] at x y here same = refl
packed-set (g ∷ gs) zero x y here same = ap (λ (es : Entries). es ++ packed_in gs) (same ∙ ap packed_of here)
packed-set (g ∷ gs) (suc at) x y here same = ap (λ (es : Entries). packed_of g ++ es) (packed-set gs at x y here same)

pub packed-filter : (p : Group → Bool) (gs : List Group) → AllByRecursion (λ (g : Group). p g ≡ true → is_listed g.content ≡ false) gs → packed_in (filter (λ g. not (p g)) gs) ≡ packed_in gs
packed-filter p [] all = refl
packed-filter p (g ∷ gs) all = step (p g) all.0 (packed-filter p gs all.1)
  where
    step : (t : Bool) → (t ≡ true → is_listed g.content ≡ false) → packed_in (filter (λ h. not (p h)) gs) ≡ packed_in gs
        → packed_in (cond (not t) (g ∷ filter (λ h. not (p h)) gs) (filter (λ h. not (p h)) gs)) ≡ packed_of g ++ packed_in gs
    step true hidden rest = rest ∙ ap (λ (es : Entries). es ++ packed_in gs) (sym (hidden_unpacked g.id g.content (hidden refl)))
    step false hidden rest = ap (λ (es : Entries). packed_of g ++ es) rest

-- ---- what is seen

pub packed_same : (gs hs : List Group) → map seen gs ≡ map seen hs → packed_in gs ≡ packed_in hs
packed_same gs hs e = sym (flat_map-map (λ (s : Seen). s.packed) seen gs) ∙ ap packed_seen e ∙ flat_map-map (λ (s : Seen). s.packed) seen hs

pub packed_listed : (gs : List Group) → packed_seen (filter shows (map seen gs)) ≡ packed_in gs
packed_listed [] = refl
packed_listed (g ∷ gs) = step (is_shown (content_of g.content)) refl (packed_listed gs)
  where
    step : (t : Bool) → is_shown (content_of g.content) ≡ t → packed_seen (filter shows (map seen gs)) ≡ packed_in gs
        → packed_seen (cond t (seen g ∷ filter shows (map seen gs)) (filter shows (map seen gs))) ≡ packed_of g ++ packed_in gs
    step true is rest = ap (λ (es : Entries). packed_of g ++ es) rest
    step false is rest = rest ∙ ap (λ (es : Entries). es ++ packed_in gs) (sym (hidden_unpacked g.id g.content (listed_kind g.content ∙ is)))

-- ---- what is true of all

module _ (P : ℕ × packed.Packed → Type 0) where
  picked : (test : Seen → Bool) (gs : List Group) → AllByRecursion P (packed_in gs) → AllByRecursion P (packed_seen (filter test (map seen gs)))
  picked test [] all = tt
  picked test (g ∷ gs) all = step (test (seen g)) (all-left P (packed_of g) (packed_in gs) all) (picked test gs (all-right P (packed_of g) (packed_in gs) all))
    where
      step : (t : Bool) → AllByRecursion P (packed_of g) → AllByRecursion P (packed_seen (filter test (map seen gs))) → AllByRecursion P (packed_seen (cond t (seen g ∷ filter test (map seen gs)) (filter test (map seen gs))))
      step true here rest = all-append P (packed_of g) (packed_seen (filter test (map seen gs))) here rest
      step false here rest = rest

  pub packed_picked : (test : Seen → Bool) (gs : List Group) → All P (packed_in gs) → All P (packed_seen (filter test (map seen gs)))
  packed_picked test gs all = All-from_recursion P (packed_seen (filter test (map seen gs))) (picked test gs (recursion_from_All P (packed_in gs) all))

  -- each group becomes one of which it is true
  each_made : (f : Group → Group) (gs : List Group) → ((g : Group) → AllByRecursion P (packed_of g) → AllByRecursion P (packed_of (f g))) → AllByRecursion P (packed_in gs) → AllByRecursion P (packed_in (map f gs))
  each_made f [] made all = tt
  each_made f (g ∷ gs) made all =
      all-append P (packed_of (f g)) (packed_in (map f gs)) (made g (all-left P (packed_of g) (packed_in gs) all)) (each_made f gs made (all-right P (packed_of g) (packed_in gs) all))

  each_left : (p : Group → Bool) (gs : List Group) → AllByRecursion P (packed_in gs) → AllByRecursion P (packed_in (filter p gs))
  each_left p [] all = tt
  each_left p (g ∷ gs) all = step (p g) (all-left P (packed_of g) (packed_in gs) all) (each_left p gs (all-right P (packed_of g) (packed_in gs) all))
    where
      step : (t : Bool) → AllByRecursion P (packed_of g) → AllByRecursion P (packed_in (filter p gs)) → AllByRecursion P (packed_in (cond t (g ∷ filter p gs) (filter p gs)))
      step true here rest = all-append P (packed_of g) (packed_in (filter p gs)) here rest
      step false here rest = rest

  buried_one : (ids : List ℕ) (g : Group) → AllByRecursion P (packed_of g) → AllByRecursion P (packed_of (install.buried ids g))
  buried_one ids g all = step (is_id_of ids (group_of g))
    where
      step : (t : Bool) → AllByRecursion P (packed_of (cond t (record g { content = Tombstone (total (content_of g.content)) (deleted (content_of g.content)) }) g))
      step true = tt
      step false = all

  placed_one : (fresh : Option ℕ) (load : NewGroup) → ((id : ℕ) → P (id, load.0.value)) → (g : Group) → AllByRecursion P (packed_of g) → AllByRecursion P (packed_of (install.placed fresh load g))
  placed_one fresh load new g all = step (is_fresh fresh (group_of g))
    where
      step : (t : Bool) → AllByRecursion P (packed_of (cond t (record g { content = Compressed load.0 load.1 }) g))
      step true = (new g.id, tt)
      step false = all

  -- an install leaves groups of before, and puts the new one in its place
  pub packed_installed : (ids : List ℕ) (fresh : Option ℕ) (load : Option NewGroup) (gs : List Group) → IfSome load (λ new. (id : ℕ) → P (id, new.0.value)) → All P (packed_in gs)
      → All P (packed_in (install.with_new fresh load (map (install.buried ids) gs)))
  packed_installed ids fresh None gs new all =
      All-from_recursion P (packed_in (filter (λ (group : Group). not (is_fresh fresh (group_of group))) (map (install.buried ids) gs)))
      (each_left (λ (group : Group). not (is_fresh fresh (group_of group))) (map (install.buried ids) gs) (each_made (install.buried ids) gs (buried_one ids) (recursion_from_All P (packed_in gs) all)))
  packed_installed ids fresh (Some load) gs new all =
      All-from_recursion P (packed_in (map (install.placed fresh load) (map (install.buried ids) gs)))
      (each_made (install.placed fresh load) (map (install.buried ids) gs) (placed_one fresh load new) (each_made (install.buried ids) gs (buried_one ids) (recursion_from_All P (packed_in gs) all)))

pub tables_installed : (schema : Schema) (ids : List ℕ) (fresh : Option ℕ) (load : Option NewGroup) (old new : List Group) → new ≡ install.with_new fresh load (map (install.buried ids) old) → ArePacked schema (packed_in old)
    → IfSome load (λ made. IsPackedGroup schema made.0.value) → ArePacked schema (packed_in new)
tables_installed schema ids fresh load old new is all made =
    subst (λ (gs : List Group). ArePacked schema (packed_in gs)) (sym is)
    (packed_installed (λ (entry : ℕ × packed.Packed). IsPackedGroup schema entry.1) ids fresh load old (each load made) all)
  where
    each : (o : Option NewGroup) → IfSome o (λ made. IsPackedGroup schema made.0.value) → IfSome o (λ new. (id : ℕ) → IsPackedGroup schema new.0.value)
    each None is = tt
    each (Some one) is = λ id. is

-- ---- other bitmaps

settled_one : (id : ℕ) (marks : settle.NewMarks) (content : GroupContent) → packed_content id (settle.marked marks content) ≡ packed_content id content
settled_one id None content = refl
settled_one id (Some marks) (Opened store) = refl
settled_one id (Some marks) (Closed store) = refl
settled_one id (Some marks) (Compressed packed old) = refl
settled_one id (Some marks) Invisible = refl
settled_one id (Some marks) (Tombstone total deleted) = refl

pub packed_settled : (all : List settle.NewMarks) (gs : List Group) → packed_in (settle.with_marks all gs) ≡ packed_in gs
packed_settled [] gs = refl
packed_settled (marks ∷ all) [] = refl
packed_settled (marks ∷ all) (g ∷ gs) =
    ap (λ (es : Entries). es ++ packed_in (settle.with_marks all gs)) (settled_one g.id marks g.content) ∙ ap (λ (es : Entries). packed_of g ++ es) (packed_settled all gs)

flushed_one : (id : ℕ) (marks : Arc Marks Global) (content : GroupContent) → packed_content id (install.with_marks marks content) ≡ packed_content id content
flushed_one id marks (Opened store) = refl
flushed_one id marks (Closed store) = refl
flushed_one id marks (Compressed packed old) = refl
flushed_one id marks Invisible = refl
flushed_one id marks (Tombstone total deleted) = refl

pub packed_flushed : (all : List (ℕ × Arc Marks Global)) (gs : List Group) → packed_in (install.marked_by all gs) ≡ packed_in gs
packed_flushed [] gs = refl
packed_flushed (marks ∷ all) [] = refl
packed_flushed (marks ∷ all) (g ∷ gs) = step (g.id == marks.0) (packed_flushed all gs) (packed_flushed (marks ∷ all) gs)
  where
    step : (t : Bool) → packed_in (install.marked_by all gs) ≡ packed_in gs → packed_in (install.marked_by (marks ∷ all) gs) ≡ packed_in gs
        → packed_in (cond t (record g { content = install.with_marks marks.1 g.content } ∷ install.marked_by all gs) (g ∷ install.marked_by (marks ∷ all) gs)) ≡ packed_of g ++ packed_in gs
    step true rest others = ap (λ (es : Entries). es ++ packed_in (install.marked_by all gs)) (flushed_one g.id marks.1 g.content) ∙ ap (λ (es : Entries). packed_of g ++ es) rest
    step false rest others = ap (λ (es : Entries). packed_of g ++ es) others

-- ---- direct groups

packed_loaded : (c id : ℕ) (groups : List packed.Packed) (loads : List NewGroup) → AllZip (IsNewGroupOf c) groups loads → packed_groups (new_groups id loads) ≡ map (rebased c) groups
packed_loaded c id [] [] all = refl
packed_loaded c id [] (load ∷ loads) all = absurd all
packed_loaded c id (group ∷ groups) [] all = absurd all
packed_loaded c id (group ∷ groups) (load ∷ loads) all =
    ap (λ (first : packed.Packed). first ∷ packed_groups (new_groups (id + 1) loads)) all.0.0 ∙ ap (λ (rest : List packed.Packed). rebased c group ∷ rest) (packed_loaded c (id + 1) groups loads all.1)

abbrev group_in : ℕ × packed.Packed → packed.Packed
group_in entry = entry.1

pub packed_commit : (c : ℕ) (old room ends loads after : List Group) (id : ℕ) (groups : List packed.Packed) (made : List NewGroup) → packed_in room ≡ packed_in old → packed_in ends ≡ packed_in room → loads ≡ ends ++ new_groups id made
    → AllZip (IsNewGroupOf c) groups made → packed_in after ≡ packed_in loads → packed_groups after ≡ packed_groups old ++ map (rebased c) groups
packed_commit c old room ends loads after id groups made same_room same_ends is zip same_after =
    ap (map group_in) (same_after ∙ ap packed_in is ∙ flat_map-append packed_of ends (new_groups id made))
    ∙ map-append group_in (packed_in ends) (packed_in (new_groups id made))
    ∙ ap (λ (gs : List packed.Packed). gs ++ packed_groups (new_groups id made)) (ap (map group_in) (same_ends ∙ same_room))
    ∙ ap (λ (gs : List packed.Packed). packed_groups old ++ gs) (packed_loaded c id groups made zip)

-- where all begins are one, the order is that of the cells
columns_begun : (c : ℕ) (rows : List PackedRow) (column : ℕ) → column_of (map (begun_at c) rows) column ≡ column_of rows column
columns_begun c [] column = refl
columns_begun c (row ∷ rows) column = ap (λ cells. cell_at row.cells column ∷ cells) (columns_begun c rows column)

ranks_begun : (c : ℕ) (rows : List PackedRow) (a b : ℕ) → column_cmp (map (begun_at c) rows) a b ≡ column_cmp rows a b
ranks_begun c rows a b =
    ap (λ cells. ordering_then (nat_cmp (distinct_cells cells) (distinct_cells (column_of (map (begun_at c) rows) b))) (nat_cmp a b)) (columns_begun c rows a)
    ∙ ap (λ cells. ordering_then (nat_cmp (distinct_cells (column_of rows a)) (distinct_cells cells)) (nat_cmp a b)) (columns_begun c rows b)

rows_begun : (c base : ℕ) (rank : List ℕ) (x y : PackedRow) → x.begin ≡ base → y.begin ≡ base → row_cmp rank (begun_at c x) (begun_at c y) ≡ row_cmp rank x y
rows_begun c base rank x y x_is y_is =
    ap (λ (o : Ordering). ordering_then (by_rank (λ column. value_cmp (cell_at x.cells column) (cell_at y.cells column)) rank) o)
    (tied_itself nat_cmp_total c ∙ sym (tied_itself nat_cmp_total base) ∙ ap (λ (n : ℕ). nat_cmp n base) (sym x_is) ∙ ap (nat_cmp x.begin) (sym y_is))

pub packed_rebased : (schema : Schema) (c : ℕ) (group : packed.Packed) → HasOneBegin group → IsPackedGroup schema group → IsPackedGroup schema (rebased c group)
packed_rebased schema c group one is = record {
  order = record {
    rank = is.order.rank;
    of_columns = is.order.of_columns;
    ranked = λ i j d before inside. ranks_begun c group.rows (get_or is.order.rank i d) (get_or is.order.rank j d) ∙ is.order.ranked i j d before inside;
    ascending = λ i j d before inside greater.
        let within : j < length group.rows = omega (arith, inside, length-map group.rows (begun_at c)) in
        let first = get_or-map (begun_at c) group.rows i d d (omega (arith, before, within)) in
        let second = get_or-map (begun_at c) group.rows j d d within in
        let x = get_or group.rows i d in
        let y = get_or group.rows j d in
        is.order.ascending i j d before within
        (sym (rows_begun c group.base is.order.rank x y (one i d (omega (arith, before, within))) (one j d within))
        ∙ ap (λ (row : PackedRow). row_cmp is.order.rank row (begun_at c y)) (sym first)
        ∙ ap (row_cmp is.order.rank (get_or (map (begun_at c) group.rows) i d)) (sym second) ∙ greater);
  };
  width = is.width;
  key = is.key;
}

-- what a commit leaves are packed groups of the table
pub packed_after : (schema : Schema) (c : ℕ) (old new : List Group) (groups : List packed.Packed) → packed_groups new ≡ packed_groups old ++ map (rebased c) groups → All HasOneBegin groups → All (IsPackedGroup schema) groups
    → ArePacked schema (packed_in old) → ArePacked schema (packed_in new)
packed_after schema c old new groups is one are was = mapped_back (packed_in new) (subst (All (IsPackedGroup schema)) (sym is) (All-append (IsPackedGroup schema) (packed_groups old) (map (rebased c) groups)
    (All-map (IsPackedGroup schema) group_in (packed_in old) was)
    (All-map (IsPackedGroup schema) (rebased c) groups (λ k d inside. packed_rebased schema c (get_or groups k d) (one k d inside) (are k d inside)))))
  where
    mapped_back : (es : Entries) → All (IsPackedGroup schema) (map group_in es) → ArePacked schema es
    mapped_back es all k d inside = subst (IsPackedGroup schema) (get_or-map group_in es k d d.1 inside) (all k d.1 (omega (arith, inside, length-map es group_in)))

-- ---- views of packed groups alone

few_packed : (parts : List (ℕ × GroupPart)) → length (packed_parts parts) ≤ length parts
few_packed [] = omega arith
few_packed ((id, Packed group marks) ∷ parts) = let few = few_packed parts in omega (arith, few)
few_packed ((id, Store store) ∷ parts) = let few = few_packed parts in omega (arith, few)

-- where there are as many packed groups as parts, each part is one
each_part : (parts : List (ℕ × GroupPart)) → length (packed_parts parts) ≡ length parts → AllByRecursion (λ (part : ℕ × GroupPart). IsPackedPart part.1) parts
each_part [] many = tt
each_part ((id, Packed group marks) ∷ parts) many = (tt, each_part parts (omega (arith, many)))
each_part ((id, Store store) ∷ parts) many = absurd (let few = few_packed parts in omega (arith, many, few))

abbrev IsPackedIf : (Seen → Bool) → Group → Type 0
IsPackedIf test g = test (seen g) ≡ true → is_compressed (content_of g.content) ≡ true

one_packed : (id : ℕ) (content : GroupContent) → is_compressed (content_of content) ≡ true → length (packed_content id content) ≡ 1
one_packed id (Opened store) is = cc
one_packed id (Closed store) is = cc
one_packed id (Compressed packed marks) is = refl
one_packed id Invisible is = cc
one_packed id (Tombstone total deleted) is = cc

as_many : (test : Seen → Bool) (gs : List Group) → AllByRecursion (IsPackedIf test) gs → length (packed_seen (filter test (map seen gs))) ≡ length (filter test (map seen gs))
as_many test [] all = refl
as_many test (g ∷ gs) all = step (test (seen g)) all.0 (as_many test gs all.1)
  where
    step : (t : Bool) → (t ≡ true → is_compressed (content_of g.content) ≡ true) → length (packed_seen (filter test (map seen gs))) ≡ length (filter test (map seen gs))
        → length (packed_seen (cond t (seen g ∷ filter test (map seen gs)) (filter test (map seen gs)))) ≡ length (cond t (seen g ∷ filter test (map seen gs)) (filter test (map seen gs)))
    step true is rest =
        let both = length-append (packed_of g) (packed_seen (filter test (map seen gs))) in
        let one = one_packed g.id g.content (is refl) in
        omega (arith, both, one, rest)
    step false is rest = rest

-- a view of packed groups has packed parts
pub packed_view : (test : Seen → Bool) (gs : List Group) (parts : List (ℕ × GroupPart)) → map part_entry parts ≡ map entry_of (filter test (map seen gs)) → packed_parts parts ≡ packed_seen (filter test (map seen gs)) → AllByRecursion (IsPackedIf test) gs
    → All (λ (part : ℕ × GroupPart). IsPackedPart part.1) parts
packed_view test gs parts entries packed all =
    let long : length parts ≡ length (filter test (map seen gs)) = sym (length-map parts part_entry) ∙ ap length entries ∙ length-map (filter test (map seen gs)) entry_of in
    All-from_recursion (λ (part : ℕ × GroupPart). IsPackedPart part.1) parts (each_part parts (ap length packed ∙ as_many test gs all ∙ sym long))
