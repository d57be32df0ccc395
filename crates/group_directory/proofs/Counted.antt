-- The counts of groups.
use Rattle.std.proofs.Common.{◌≡◌, ℕ, suc, List, [], ◌∷◌, length, Option, None, Some, is_some, refl, ap, ◌∙◌, arith}
use Rattle.std.specs.List.{count_by}
use Rattle.delete_bitmap.specs.declared.MarkedEnd.{MarkedEnd}
use Rattle.delete_bitmap.specs.declared.MarkedEnd.TheVariants.{Plain, Stamped}
use Rattle.delete_bitmap.specs.Marks.{is_marked}
use Rattle.delta_store.specs.declared.version.KeyedVersion.{KeyedVersion}
use Rattle.delta_store.specs.Versions.{is_ended}
use Rattle.row_group.specs.Rows.{PackedRow}
use Rattle.group_book.specs.Book.{ended_count, how_many}
use Rattle.group_book.specs.Book.End.{At}
use Rattle.std.specs.Option.{option_map}
use Rattle.group_view.specs.Parts.{end_of_mark, packed_versions, stored_versions}
use Rattle.group_view.specs.Books.{versions_of}
use Rattle.group_directory.proofs.Mapped.{counted}

pub stored_total : (vs : List KeyedVersion) → length (versions_of (stored_versions vs)) ≡ length vs
stored_total [] = refl
stored_total (v ∷ vs) = ap suc (stored_total vs)

stored_end : (end : Option ℕ) → is_some (option_map At end) ≡ is_some end
stored_end None = refl
stored_end (Some end) = refl

ended_stored : (vs : List KeyedVersion) → how_many is_ended vs ≡ ended_count (versions_of (stored_versions vs))
ended_stored [] = refl
ended_stored (v ∷ vs) = rw (stored_end v.version.end, ended_stored vs) refl

pub stored_ended : (vs : List KeyedVersion) → count_by is_ended vs ≡ ended_count (versions_of (stored_versions vs))
stored_ended vs = counted is_ended vs ∙ ended_stored vs

pub packed_total : (key : ℕ) (rows : List PackedRow) (marks : List (Option MarkedEnd)) → length marks ≡ length rows → length (versions_of (packed_versions key rows marks)) ≡ length rows
packed_total key [] marks same = refl
packed_total key (row ∷ rows) [] same = absurd (omega (arith, same))
packed_total key (row ∷ rows) (mark ∷ marks) same = ap suc (packed_total key rows marks (omega (arith, same)))

marked_end : (mark : Option MarkedEnd) → is_some (end_of_mark mark) ≡ is_some mark
marked_end None = refl
marked_end (Some Plain) = refl
marked_end (Some (Stamped commit)) = refl

ended_packed : (key : ℕ) (rows : List PackedRow) (marks : List (Option MarkedEnd)) → length marks ≡ length rows → how_many is_marked marks ≡ ended_count (versions_of (packed_versions key rows marks))
ended_packed key [] [] same = refl
ended_packed key [] (mark ∷ marks) same = absurd (omega (arith, same))
ended_packed key (row ∷ rows) [] same = absurd (omega (arith, same))
ended_packed key (row ∷ rows) (mark ∷ marks) same = rw (marked_end mark, ended_packed key rows marks (omega (arith, same))) refl

pub packed_ended : (key : ℕ) (rows : List PackedRow) (marks : List (Option MarkedEnd)) → length marks ≡ length rows → count_by is_marked marks ≡ ended_count (versions_of (packed_versions key rows marks))
packed_ended key rows marks same = counted is_marked marks ∙ ended_packed key rows marks same
