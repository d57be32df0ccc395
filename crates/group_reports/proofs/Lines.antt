-- Lines that are added one by one, and group by group.
use Rattle.std.proofs.Common.{◌≡◌, ℕ, ◌+◌, suc, zero, List, [], ◌∷◌, ◌++◌, ◌<◌, length, map, take, get_or, refl, sym, ap, subst, ◌∙◌, arith}
use Rattle.std.specs.List.{range_with_len, flat_map, AllZip, AllByRecursion}
use Rattle.std.proofs.lemmas.List.Elements.{All-from_recursion, recursion_from_All}
use Rattle.std.proofs.lemmas.List.{append-nil, append_assoc, map-append, take_more}
use Rattle.std.proofs.lemmas.Grind.{flat_map-append}
use Rattle.cs_types.specs.declared.Schema.{Schema}
use Rattle.cs_types.specs.declared.Value.{Value}
use Rattle.cs_model.specs.declared.report.SegmentLine.{SegmentLine}
use Rattle.column_segment.specs.declared.body.SegmentBody.{SegmentBody}
use Rattle.column_segment.specs.Segments.{IsSegmentOf}
use Rattle.row_group.specs.Rows.{PackedRow}
use Rattle.group_view.specs.declared.parts.GroupPart.{GroupPart}
use Rattle.group_view.specs.declared.parts.GroupPart.TheVariants.{Packed, Store}
use Rattle.group_log.specs.Segments.{AreGroupLines, AreSegmentLines}
use Rattle.row_group.specs.Groups.{Group}
use Rattle.group_view.specs.Parts.{packed_part, packed_parts, ArePacked, IsPackedGroup}
use Rattle.group_reports.specs.Segments.{compressed, ArePartLines, ArePackedParts, IsPackedPart}

-- the segment of cells, with other names for its bounds
pub segment_named : (cells : List Value) (count : ℕ) (body : SegmentBody) (least greatest low high : Value) (nulls : _) → low ≡ least → high ≡ greatest → IsSegmentOf cells count body least greatest nulls → IsSegmentOf cells count body low high nulls
segment_named cells count body least greatest low high nulls is_low is_high s =
    subst (λ x. IsSegmentOf cells count body x high nulls) (sym is_low) (subst (λ y. IsSegmentOf cells count body least y nulls) (sym is_high) s)

-- one pair more
pub zip_more : {A B : Type 0} (R : A → B → Type 0) (xs : List A) (ys : List B) (x : A) (y : B) → AllZip R xs ys → R x y → AllZip R (xs ++ x ∷ []) (ys ++ y ∷ [])
zip_more R [] [] x y h r = (r, tt)
zip_more R [] (b ∷ ys) x y h r = absurd h
zip_more R (a ∷ xs) [] x y h r = absurd h
zip_more R (a ∷ xs) (b ∷ ys) x y h r = (h.0, zip_more R xs ys x y h.1 r)

-- one number more
range_more : (a n : ℕ) → range_with_len a (n + 1) ≡ range_with_len a n ++ (a + n) ∷ []
range_more a zero = let e : a + 0 ≡ a = omega arith in rw e refl
range_more a (suc n) = let e : a + suc n ≡ (a + 1) + n = omega arith in let f : suc n + 1 ≡ suc (n + 1) = omega arith in rw (f, e) (ap (λ rest. a ∷ rest) (range_more (a + 1) n))

-- the line of one column more
pub columns_more : (R : ℕ → SegmentLine → Type 0) (n : ℕ) (lines : List SegmentLine) (line : SegmentLine) → AllZip R (range_with_len 0 n) lines → R n line → AllZip R (range_with_len 0 (n + 1)) (lines ++ line ∷ [])
columns_more R n lines line h r =
    let e : 0 + n ≡ n = omega arith in
    subst (λ range. AllZip R range (lines ++ line ∷ [])) (sym (range_more 0 n ∙ ap (λ last. range_with_len 0 n ++ last ∷ []) e)) (zip_more R (range_with_len 0 n) lines n line h r)

joined_more : (parts : List (List SegmentLine)) (part : List SegmentLine) → flat_map (λ p. p) (parts ++ part ∷ []) ≡ flat_map (λ p. p) parts ++ part
joined_more [] part = append-nil part
joined_more (p ∷ parts) part = ap (λ rest. p ++ rest) (joined_more parts part) ∙ sym (append_assoc p (flat_map (λ q. q) parts) part)

-- no group, and one group more
pub no_groups : (schema : Schema) → AreSegmentLines schema [] []
no_groups schema = record { parts = []; of_groups = tt; joined = refl }

pub groups_more : (schema : Schema) (groups : List (ℕ × List PackedRow)) (lines : List SegmentLine) (group : ℕ × List PackedRow) (part : List SegmentLine) → AreSegmentLines schema groups lines
    → AreGroupLines (length schema.columns) group part → AreSegmentLines schema (groups ++ group ∷ []) (lines ++ part)
groups_more schema groups lines group part so_far of_group = record {
  parts = so_far.parts ++ part ∷ [];
  of_groups = zip_more (AreGroupLines (length schema.columns)) groups so_far.parts group part so_far.of_groups of_group;
  joined = ap (λ ls. ls ++ part) so_far.joined ∙ sym (joined_more so_far.parts part);
}

-- one part of a view more
part_more : (schema : Schema) (groups : List (ℕ × List PackedRow)) (lines : List SegmentLine) (group : ℕ × GroupPart) (more : List SegmentLine) → AreSegmentLines schema groups lines
    → ArePartLines (length schema.columns) group more → AreSegmentLines schema (groups ++ compressed (group ∷ [])) (lines ++ more)
part_more schema groups lines (id, Packed packed marks) more so_far is = let group = packed.value in groups_more schema groups lines (id, group.rows) more so_far is
part_more schema groups lines (id, Store store) more so_far is =
    subst (λ gs. AreSegmentLines schema gs (lines ++ more)) (sym (append-nil groups)) (subst (AreSegmentLines schema groups) (sym (ap (λ ls. lines ++ ls) is ∙ append-nil lines)) so_far)

compressed-append : (xs ys : List (ℕ × GroupPart)) → compressed (xs ++ ys) ≡ compressed xs ++ compressed ys
compressed-append xs ys =
    let rows : ℕ × Group → ℕ × List PackedRow = λ entry. let packed = entry.1 in (entry.0, packed.rows) in
    ap (λ (entries : List (ℕ × Group)). map rows entries) (flat_map-append packed_part xs ys) ∙ map-append rows (packed_parts xs) (packed_parts ys)

pub parts_more : (schema : Schema) (groups : List (ℕ × GroupPart)) (i : ℕ) (group : ℕ × GroupPart) (lines more : List SegmentLine) → i < length groups → group ≡ get_or groups i group
    → AreSegmentLines schema (compressed (take i groups)) lines → ArePartLines (length schema.columns) group more → AreSegmentLines schema (compressed (take (i + 1) groups)) (lines ++ more)
parts_more schema groups i group lines more within is so_far of_group =
    let taken : take (i + 1) groups ≡ take i groups ++ group ∷ [] = take_more groups i group within ∙ ap (λ x. take i groups ++ x ∷ []) (sym is) in
    subst (λ gs. AreSegmentLines schema gs (lines ++ more)) (sym (ap compressed taken ∙ compressed-append (take i groups) (group ∷ []))) (part_more schema (compressed (take i groups)) lines group more so_far of_group)

-- parts whose packed groups are those of the table
each_packed : (schema : Schema) (groups : List (ℕ × GroupPart)) → AllByRecursion (λ (entry : ℕ × Group). IsPackedGroup schema entry.1) (packed_parts groups) → AllByRecursion (λ (part : ℕ × GroupPart). IsPackedPart schema part.1) groups
each_packed schema [] all = tt
each_packed schema ((id, Packed packed marks) ∷ groups) all = (all.0, each_packed schema groups all.1)
each_packed schema ((id, Store store) ∷ groups) all = (tt, each_packed schema groups all)

pub parts_packed : (schema : Schema) (groups : List (ℕ × GroupPart)) → ArePacked schema (packed_parts groups) → ArePackedParts schema groups
parts_packed schema groups all =
    All-from_recursion (λ (part : ℕ × GroupPart). IsPackedPart schema part.1) groups (each_packed schema groups (recursion_from_All (λ (entry : ℕ × Group). IsPackedGroup schema entry.1) (packed_parts groups) all))
