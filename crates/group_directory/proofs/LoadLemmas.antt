-- Direct groups, in the list and in the book.
use Rattle.std.proofs.Common.{◌≡◌, ℕ, suc, ◌+◌, List, [], ◌∷◌, ◌++◌, map, length, replicate, Option, None, refl, sym, ap, ◌∙◌, arith}
use Rattle.std.specs.List.{AllByRecursion, AllZip}
use Rattle.std.proofs.lemmas.List.{append_assoc, map-append, append-nil, length-map, length-replicate}
use Rattle.cs_types.specs.declared.Key.{Key}
use Rattle.cs_types.specs.Rows.{key_in}
use Rattle.delete_bitmap.specs.declared.MarkedEnd.{MarkedEnd}
use Rattle.row_group.specs.declared.packed.Packed.{Packed}
use Rattle.row_group.specs.Rows.{PackedRow}
use Rattle.row_group.specs.Groups.{begun_at}
use Rattle.group_book.specs.Book as book
use Rattle.group_book.specs.Book.{Version, Book}
use Rattle.group_book.specs.Book.{Content as content}
use Rattle.group_book.specs.Commits.{new_version, with_group, after_loads}
use Rattle.group_view.specs.declared.groups.Group.{Group}
use Rattle.group_view.specs.declared.groups.GroupContent.TheVariants.{Compressed}
use Rattle.group_view.specs.Parts.{Rowed, packed_version, packed_versions}
use Rattle.group_view.specs.Books.{versions_of, rowed_in_content, group_of}
use Rattle.group_view.specs.Lists.{IsFittingContent}
use Rattle.group_view.specs.Parcels.{packed_keys, packed_rows}
use Rattle.group_directory.specs.Committing.{Origin, origin_of, origins, new_origin, NewGroup, new_groups, IsUnmarked, IsNewGroupOf}
use Rattle.group_directory.proofs.OpenLemmas.{IsShut}

-- ---- the list

pub shut_loaded : (id : ℕ) (loads : List NewGroup) → AllByRecursion IsShut (new_groups id loads)
shut_loaded id [] = tt
shut_loaded id (load ∷ loads) = (refl, shut_loaded (id + 1) loads)

abbrev Fits : Group → Type 0
Fits group = IsFittingContent group.content

pub fitting_loaded : (id : ℕ) (loads : List NewGroup) → AllByRecursion IsUnmarked loads → AllByRecursion Fits (new_groups id loads)
fitting_loaded id [] unmarked = tt
fitting_loaded id (load ∷ loads) unmarked = (ap (λ (marks : List (Option MarkedEnd)). length marks) unmarked.0 ∙ length-replicate _ None, fitting_loaded (id + 1) loads unmarked.1)

-- ---- the rows

-- rows that begin at c and have not ended
row_versions : (key c : ℕ) (rows : List PackedRow) → packed_versions key (map (begun_at c) rows) (replicate (length rows) None) ≡ map (λ (row : PackedRow). packed_version key (begun_at c row) None) rows
row_versions key c [] = refl
row_versions key c (row ∷ rows) = ap (λ (more : List Rowed). packed_version key (begun_at c row) None ∷ more) (row_versions key c rows)

row_origins : (key c : ℕ) (rows : List PackedRow) → map origin_of (map (λ (row : PackedRow). packed_version key (begun_at c row) None) rows) ≡ map (new_origin c) (map (λ (row : PackedRow). (key_in key row.cells, row.cells)) rows)
row_origins key c [] = refl
row_origins key c (row ∷ rows) = ap (λ (more : List Origin). new_origin c (key_in key row.cells, row.cells) ∷ more) (row_origins key c rows)

row_keys : (key c : ℕ) (rows : List PackedRow) → versions_of (map (λ (row : PackedRow). packed_version key (begun_at c row) None) rows) ≡ map (new_version c) (map (λ (row : PackedRow). key_in key row.cells) rows)
row_keys key c [] = refl
row_keys key c (row ∷ rows) = ap (λ (more : List Version). new_version c (key_in key row.cells) ∷ more) (row_keys key c rows)

-- the versions of a load are the group's rows
rowed_load : (c id : ℕ) (group : Packed) (load : NewGroup) → IsNewGroupOf c group load → rowed_in_content (Compressed load.0 load.1) ≡ map (λ (row : PackedRow). packed_version group.key (begun_at c row) None) group.rows
rowed_load c id group load is =
    ap (λ (packed : Packed). packed_versions packed.key packed.rows load.1.value) is.0
    ∙ ap (λ (marks : List (Option MarkedEnd)). packed_versions group.key (map (begun_at c) group.rows) marks)
    (is.1 ∙ ap (λ (packed : Packed). replicate (length packed.rows) None) is.0 ∙ ap (λ (n : ℕ). replicate n None) (length-map group.rows (begun_at c)))
    ∙ row_versions group.key c group.rows

pub origins_loaded : (c id : ℕ) (groups : List Packed) (loads : List NewGroup) → AllZip (IsNewGroupOf c) groups loads → origins (new_groups id loads) ≡ map (new_origin c) (packed_rows groups)
origins_loaded c id [] [] all = refl
origins_loaded c id [] (load ∷ loads) all = absurd all
origins_loaded c id (group ∷ groups) [] all = absurd all
origins_loaded c id (group ∷ groups) (load ∷ loads) all =
    let first : map origin_of (rowed_in_content (Compressed load.0 load.1)) ≡ map (new_origin c) (map (λ (row : PackedRow). (key_in group.key row.cells, row.cells)) group.rows) =
    ap (map origin_of) (rowed_load c id group load all.0) ∙ row_origins group.key c group.rows in
    rw (first, origins_loaded c (id + 1) groups loads all.1) (sym (map-append (new_origin c) (map (λ (row : PackedRow). (key_in group.key row.cells, row.cells)) group.rows) (packed_rows groups)))

-- ---- the book

-- the groups of parts that load directly
abbrev pub book_loaded : ℕ → ℕ → List (List Key) → List book.Group
book_loaded c id [] = []
book_loaded c id (part ∷ parts) = record { id = id; content = content.Compressed (map (new_version c) part) } ∷ book_loaded c (id + 1) parts

abbrev pub grown : Book → List book.Group → ℕ → Book
grown whole groups next = record whole { groups = groups; next = next }

pub loads_book : (c : ℕ) (parts : List (List Key)) (whole : Book) → after_loads c parts whole ≡ grown whole (whole.groups ++ book_loaded c whole.next parts) (whole.next + length parts)
loads_book c [] whole =
    ap (λ (groups : List book.Group). grown whole groups whole.next) (sym (append-nil whole.groups))
    ∙ ap (λ (next : ℕ). grown whole (whole.groups ++ []) next) (omega arith)
loads_book c (part ∷ parts) whole =
    let first : book.Group = record { id = whole.next; content = content.Compressed (map (new_version c) part) } in
    loads_book c parts (with_group (content.Compressed (map (new_version c) part)) whole)
    ∙ ap (λ (groups : List book.Group). grown whole groups (whole.next + 1 + length parts)) (append_assoc whole.groups (first ∷ []) (book_loaded c (whole.next + 1) parts))
    ∙ ap (λ (next : ℕ). grown whole (whole.groups ++ first ∷ book_loaded c (whole.next + 1) parts) next) (omega arith)

-- what loads stand for
groups_loaded : (c id : ℕ) (groups : List Packed) (loads : List NewGroup) → AllZip (IsNewGroupOf c) groups loads → map group_of (new_groups id loads) ≡ book_loaded c id (map packed_keys groups)
groups_loaded c id [] [] all = refl
groups_loaded c id [] (load ∷ loads) all = absurd all
groups_loaded c id (group ∷ groups) [] all = absurd all
groups_loaded c id (group ∷ groups) (load ∷ loads) all =
    let first : versions_of (rowed_in_content (Compressed load.0 load.1)) ≡ map (new_version c) (packed_keys group) =
    ap versions_of (rowed_load c id group load all.0) ∙ row_keys group.key c group.rows in
    rw (first, groups_loaded c (id + 1) groups loads all.1) refl

pub lengths_loaded : (c : ℕ) (groups : List Packed) (loads : List NewGroup) → AllZip (IsNewGroupOf c) groups loads → length groups ≡ length loads
lengths_loaded c [] [] all = refl
lengths_loaded c [] (load ∷ loads) all = absurd all
lengths_loaded c (group ∷ groups) [] all = absurd all
lengths_loaded c (group ∷ groups) (load ∷ loads) all = ap suc (lengths_loaded c groups loads all.1)

pub unmarked_loaded : (c : ℕ) (groups : List Packed) (loads : List NewGroup) → AllZip (IsNewGroupOf c) groups loads → AllByRecursion IsUnmarked loads
unmarked_loaded c [] [] all = tt
unmarked_loaded c [] (load ∷ loads) all = absurd all
unmarked_loaded c (group ∷ groups) [] all = absurd all
unmarked_loaded c (group ∷ groups) (load ∷ loads) all = (all.0.1, unmarked_loaded c groups loads all.1)

-- the book of a list with the loads after its groups
pub book_with_loads : (c : ℕ) (groups : List Packed) (loads : List NewGroup) (whole : Book) → AllZip (IsNewGroupOf c) groups loads
    → grown whole (whole.groups ++ map group_of (new_groups whole.next loads)) (whole.next + length loads) ≡ after_loads c (map packed_keys groups) whole
book_with_loads c groups loads whole all =
    ap (λ (more : List book.Group). grown whole (whole.groups ++ more) (whole.next + length loads)) (groups_loaded c whole.next groups loads all)
    ∙ ap (λ (count : ℕ). grown whole (whole.groups ++ book_loaded c whole.next (map packed_keys groups)) (whole.next + count)) (sym (lengths_loaded c groups loads all) ∙ sym (length-map groups packed_keys))
    ∙ sym (loads_book c (map packed_keys groups) whole)

pub zip_push : (c : ℕ) (groups : List Packed) (loads : List NewGroup) (group : Packed) (load : NewGroup) → AllZip (IsNewGroupOf c) groups loads → IsNewGroupOf c group load → AllZip (IsNewGroupOf c) (groups ++ group ∷ []) (loads ++ load ∷ [])
zip_push c [] [] group load all is = (is, tt)
zip_push c [] (other ∷ loads) group load all is = absurd all
zip_push c (first ∷ groups) [] group load all is = absurd all
zip_push c (first ∷ groups) (other ∷ loads) group load all is = (all.0, zip_push c groups loads group load all.1 is)
