-- A claim that is lent can be worked on, and the work on a share of a claim is that on the claim.
use Rattle.std.proofs.Common.{◌≡◌, ◌⊎◌, ℕ, ◌<◌, Bool, true, ◌||◌, not, leb, nat_le, List, [], ◌∷◌, map, filter, length, is_some, Option, None, Some, refl, sym, ap, subst, ◌∙◌, inl, inr, arith}
use Rattle.std.specs.List.{All, AllZip, Contains}
use Rattle.std.specs.declared.alloc.Global.{Global}
use Rattle.std.specs.declared.sync.Arc.{Arc}
use Rattle.std.specs.List.Sorted.{IsPermutation}
use Rattle.std.proofs.lemmas.Bool.Decides.{nat_tests}
use Rattle.std.proofs.lemmas.List.Elements.{All-contains, All-from_recursion, All-weaker, recursion_from_All}
use Rattle.std.proofs.lemmas.Option.{none-some}
use Rattle.cs_types.specs.declared.Schema.{Schema}
use Rattle.cs_types.specs.Schemas.{IsSchema}
use Rattle.cs_model.specs.declared.work.Actor.{Actor}
use Rattle.cs_model.specs.Changes.{Change, last_change, made}
use Rattle.cs_model.specs.Held.{AreFit}
use Rattle.delete_bitmap.specs.declared.Marks.{Marks}
use Rattle.row_group.specs.declared.packed.Packed as Packing
use Rattle.group_book.specs.Book as book
use Rattle.group_book.specs.Book.{End, Version, Ending, frozen, has_ended, is_buffered}
use Rattle.group_book.specs.Book.End.{At, Plain}
use Rattle.group_book.specs.Book.Choice.{Compress, Flush, Rebuild, Merge, Settle, Clear, Idle}
use Rattle.group_book.specs.Turns.{entries_for, flushed, is_gone, raised}
use Rattle.group_book.specs.Stocks.{EndFits, is_after, next_change}
use Rattle.group_book.specs.Invariant.{makes_group, IsClaim}
use Rattle.group_book.proofs.Lists.{all-both}
use Rattle.group_view.specs.declared.claim.Claim.{Claim}
use Rattle.group_view.specs.declared.claim.Product.{Product}
use Rattle.group_view.specs.declared.claim.Product.TheVariants as product
use Rattle.group_view.specs.declared.parts.GroupPart.{GroupPart}
use Rattle.group_view.specs.declared.parts.GroupPart.TheVariants.{Packed, Store}
use Rattle.group_view.specs.Parts.{Rowed, packed_parts, ArePacked, IsFitting}
use Rattle.group_view.specs.Views.{endings_of, buffer_of, rowed_of}
use Rattle.group_view.specs.Books.{versions_of, choice_of, claim_of, book_of}
use Rattle.group_view.specs.Claims.{kept_rowed, lent_entries, padded_rowed, rowed_of_packed, HasWork, IsEndedOnce, IsLentRow, IsMadeOf, IsMarkedOf, IsMendable, IsPackedFor, IsPackedPart, IsProductOf, IsTablePart}
use Rattle.group_view.specs.Laws.{IsMadeRow}
use Rattle.group_reports.specs.Segments as report
use Rattle.group_reports.proofs.Lines.{parts_packed}
use Rattle.group_directory.specs.declared.directory.Directory.{Directory}
use Rattle.group_directory.specs.Claiming.{IsShareOf}
use Rattle.group_directory.specs.Stands.{IsLoanOf, Stands}
use Rattle.group_directory.proofs.BookLaws.{each_claim, lent_versions}
use Rattle.group_directory.proofs.ClaimLaws.{share_fits, share_packed}
use Rattle.group_directory.proofs.GroupLaws.{same_lent}
use Rattle.statement_core.specs.Fit.{AreFitting}
use Rattle.statement_core.proofs.Reports.{changes_fit, made_row, row_fits, row_under}

-- ---- rows

module _ (schema : Schema) where
  abbrev width : ℕ
  width = length schema.columns

  -- a version that has the row of its change has one of the table, under its key
  lent_row : (changes : List Change) → IsSchema schema → AreFit schema changes → (rowed : Rowed) → IsMadeRow width changes rowed → IsLentRow schema rowed
  lent_row changes is fit rowed own =
      let key = rowed.version.key in
      let change = made (last_change key rowed.version.begin changes) in
      let row = made_row schema changes key rowed.version.begin fit in
      record { row = row_fits schema key rowed.row change row own; under = row_under schema key rowed.row change is.key_there row own }

  -- packed groups of the table have its columns and its key
  table_part : (part : ℕ × GroupPart) → report.IsPackedPart schema part.1 → IsTablePart schema part.1
  table_part (id, Packed group marks) is = (is.width, is.key)
  table_part (id, Store store) is = tt

  table_parts : (groups : List (ℕ × GroupPart)) → ArePacked schema (packed_parts groups) → All (λ (part : ℕ × GroupPart). IsTablePart schema part.1) groups
  table_parts groups all =
      All-weaker (λ (part : ℕ × GroupPart). report.IsPackedPart schema part.1) (λ (part : ℕ × GroupPart). IsTablePart schema part.1) table_part groups (parts_packed schema groups all)

-- ---- ends

-- a numbered end is the version's next change, and a plain one is seen from everywhere
module _ (floor present : ℕ) (buffer entries : List Ending) (version : Version) where
  abbrev next : Option ℕ → Bool
  next n = not (is_after floor n)

  numbered : (e : ℕ) (n : Option ℕ) → version.end ≡ Some (At e) → EndFits buffer present version n → next n ≡ leb e floor
  numbered e None is fits = absurd (none-some (At e) (sym fits ∙ is))
  numbered e (Some f) is fits = elim fits [
    | inl stamped ↦ let same : f ≡ e = cc (stamped.0, is) in grind (arith, nat_tests)
    | inr other ↦ elim other [ inl plain ↦ absurd (cc (plain.0, is)) | inr entry ↦ absurd (none-some (At e) (sym entry.0 ∙ is)) ]
  ]

  ended_once : (n : Option ℕ) → EndFits buffer present version n → is_gone floor entries version ≡ next n → IsEndedOnce floor entries version
  ended_once n fits gone = step version.end refl
    where
      step : (end : Option End) → version.end ≡ end → is_some end ≡ true → is_gone floor entries version ≡ has_ended floor end
      step None is some = absurd (cc some)
      step (Some Plain) is some = ap (λ (end : Option End). has_ended floor end || is_buffered entries version.key version.begin floor) is
      step (Some (At e)) is some = gone ∙ numbered e n is fits

-- ---- a claim

has_work : (claim : Claim) (kind : book.Choice) → (makes_group kind ≡ true) ⊎ (kind ≡ Flush) → (kind ≡ Flush → HasWork claim Flush) → HasWork claim kind
has_work claim (Compress source) works flushes = tt
has_work claim Flush works flushes = flushes refl
has_work claim (Rebuild source) works flushes = tt
has_work claim (Merge first second) works flushes = tt
has_work claim Settle works flushes = elim works [ inl makes ↦ cc makes | inr flush ↦ cc flush ]
has_work claim Clear works flushes = elim works [ inl makes ↦ cc makes | inr flush ↦ cc flush ]
has_work claim Idle works flushes = elim works [ inl makes ↦ cc makes | inr flush ↦ cc flush ]

-- a claim that is kept can be worked on
module _ (d : Directory) (changes : List Change) (held : Actor × Claim) (j : Stands d changes) (there : Contains d.list.claims.items held) where
  abbrev claim : Claim
  claim = held.1

  loan : IsLoanOf d.schema.value changes held
  loan = All-contains (IsLoanOf d.schema.value changes) d.list.claims.items held j.loans there

  claim_is : IsClaim d.sizes.group_rows (book_of d.list) changes j.floor (claim_of held)
  claim_is = All-contains (λ (other : Actor × Claim). IsClaim d.sizes.group_rows (book_of d.list) changes j.floor (claim_of other)) d.list.claims.items held (each_claim d changes j) there

  abbrev Fits : Version → Type 0
  Fits version = EndFits (book_of d.list).buffer j.floor version (next_change changes version.key version.begin)

  abbrev Gone : Version → Type 0
  Gone version = is_gone claim.floor (lent_entries claim) version ≡ not (is_after claim.floor (next_change changes version.key version.begin))

  ends_once : All (IsEndedOnce claim.floor (lent_entries claim)) (versions_of (rowed_of claim.view))
  ends_once = All-from_recursion (IsEndedOnce claim.floor (lent_entries claim)) (versions_of (rowed_of claim.view))
      (all-both Fits Gone (IsEndedOnce claim.floor (lent_entries claim)) (versions_of (rowed_of claim.view))
      (λ version fits gone. ended_once claim.floor j.floor (book_of d.list).buffer (lent_entries claim) version (next_change changes version.key version.begin) fits gone)
      (lent_versions Fits d.sizes.group_rows (book_of d.list) changes j.floor held (recursion_from_All Fits (frozen (book_of d.list).groups) j.book.stock.ends.frozen) claim_is)
      (recursion_from_All Gone (versions_of (rowed_of claim.view)) (let lent = claim_is.lent in lent.gone)))

  pub mendable : IsSchema d.schema.value → AreFitting d.schema.value changes → All (λ (part : ℕ × GroupPart). IsFitting part.1) claim.view.groups
      → (choice_of claim.choice ≡ Flush → All (λ (part : ℕ × GroupPart). IsPackedPart part.1) claim.view.groups) → (makes_group (choice_of claim.choice) ≡ true) ⊎ (choice_of claim.choice ≡ Flush)
      → IsMendable claim
  mendable schema fit fitting flushes works = record {
    schema = subst IsSchema (sym loan.of_table) schema;
    work = has_work claim (choice_of claim.choice) works (λ flush. (flushes flush, loan.entries flush));
    fitting = fitting;
    parts = subst (λ (s : Schema). All (λ (part : ℕ × GroupPart). IsTablePart s part.1) claim.view.groups) (sym loan.of_table) (table_parts d.schema.value claim.view.groups loan.packed);
    rows = subst (λ (s : Schema). All (IsLentRow s) (rowed_of claim.view)) (sym loan.of_table)
        (All-weaker (IsMadeRow (length d.schema.value.columns) changes) (IsLentRow d.schema.value) (lent_row d.schema.value changes schema (changes_fit d.schema.value changes fit)) (rowed_of claim.view) loan.rows);
    ends = ends_once;
  }

-- ---- a share of a claim

zip_weaker : {X Z : Type 0} (P Q : X → Z → Type 0) → ((x : X) (z : Z) → P x z → Q x z) → (xs : List X) (zs : List Z) → AllZip P xs zs → AllZip Q xs zs
zip_weaker P Q h [] [] all = tt
zip_weaker P Q h [] (z ∷ zs) all = all
zip_weaker P Q h (x ∷ xs) [] all = all
zip_weaker P Q h (x ∷ xs) (z ∷ zs) all = (h x z all.0, zip_weaker P Q h xs zs all.1)

module _ (a b : Claim) (share : IsShareOf a b) where
  rows : rowed_of b.view ≡ rowed_of a.view
  rows = same_lent a b share

  buffer : buffer_of b.view ≡ buffer_of a.view
  buffer = ap endings_of share.buffer

  entries : lent_entries b ≡ lent_entries a
  entries = λ i. entries_for (buffer i) (versions_of (rows i))

  kind : choice_of b.choice ≡ choice_of a.choice
  kind = ap choice_of share.choice

  -- ---- its work

  shared_work : (made : book.Choice) → HasWork a made → HasWork b made
  shared_work (Compress source) is = tt
  shared_work Flush is = (share_packed a b share is.0, ap endings_of share.entries ∙ is.1 ∙ sym entries)
  shared_work (Rebuild source) is = tt
  shared_work (Merge first second) is = tt
  shared_work Settle is = is
  shared_work Clear is = is
  shared_work Idle is = is

  pub shared_mendable : IsMendable a → IsMendable b
  shared_mendable is = record {
    schema = subst IsSchema (sym share.schema) is.schema;
    work = subst (HasWork b) (sym kind) (shared_work (choice_of a.choice) is.work);
    fitting = share_fits a b share is.fitting;
    parts = subst (λ (s : Schema). All (λ (part : ℕ × GroupPart). IsTablePart s part.1) b.view.groups) (sym share.schema)
        (subst (All (λ (part : ℕ × GroupPart). IsTablePart a.schema.value part.1)) (sym share.groups) is.parts);
    rows = subst (λ (s : Schema). All (IsLentRow s) (rowed_of b.view)) (sym share.schema) (subst (All (IsLentRow a.schema.value)) (sym rows) is.rows);
    ends = subst (λ (l : List Rowed). All (IsEndedOnce b.floor (lent_entries b)) (versions_of l)) (sym rows)
        (subst (λ (es : List Ending). All (IsEndedOnce b.floor es) (versions_of (rowed_of a.view))) (sym entries) (subst (λ (f : ℕ). All (IsEndedOnce f (lent_entries a)) (versions_of (rowed_of a.view))) (sym share.floor) is.ends));
  }

  -- ---- what its work gives

  kept : kept_rowed b ≡ kept_rowed a
  kept = λ i. map (λ (rowed : Rowed). record rowed { version = raised (share.floor i) rowed.version }) (filter (λ (rowed : Rowed). not (is_gone (share.floor i) (entries i) rowed.version)) (rows i))

  shared_made : (group : Option (Arc Packing.Packed Global × Arc Marks Global)) → IsMadeOf b group → IsMadeOf a group
  shared_made None is = sym kept ∙ is
  shared_made (Some group) is =
      subst (λ (s : Schema). IsPermutation (map (padded_rowed (length s.columns)) (kept_rowed a)) (rowed_of_packed group.0.value group.1.value) × (0 < length (kept_rowed a)) × IsPackedFor s group.0.value group.1.value) share.schema
      (subst (λ (l : List Rowed). IsPermutation (map (padded_rowed (length b.schema.value.columns)) l) (rowed_of_packed group.0.value group.1.value) × (0 < length l) × IsPackedFor b.schema.value group.0.value group.1.value) kept is)

  shared_marked : (part : ℕ × GroupPart) (marked : ℕ × Arc Marks Global) → IsMarkedOf b part marked → IsMarkedOf a part marked
  shared_marked (id, Packed group marks) marked is = (is.0, is.1, is.2 ∙ (λ i. map (flushed (buffer i) (entries i)) (versions_of (rowed_of_packed group.value marks.value))))
  shared_marked (id, Store store) marked is = is

  pub shared_product : (given : Product) → IsProductOf b given → IsProductOf a given
  shared_product (product.Group group spent) is =
      (ap makes_group (sym kind) ∙ is.0, shared_made group is.1, is.2 ∙ (λ i. filter (λ (entry : Ending). nat_le entry.end (share.floor i)) (entries i)))
  shared_product (product.Marked marks) is = (
    sym kind ∙ is.0,
    zip_weaker (IsMarkedOf b) (IsMarkedOf a) shared_marked a.view.groups marks (subst (λ (parts : List (ℕ × GroupPart)). AllZip (IsMarkedOf b) parts marks) share.groups is.1),
  )
