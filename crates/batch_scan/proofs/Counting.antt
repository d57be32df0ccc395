-- Counts of segments, group by group.
use Rattle.std.proofs.Common.{◌≡◌, ℕ, ◌+◌, ◌<◌, ◌≤◌, suc, List, [], ◌∷◌, ◌++◌, length, map, filter, take, get_or, cond, not, Bool, true, false, Option, refl, sym, ap, subst, ◌∙◌, arith}
use Rattle.std.proofs.lemmas.List.{take_more}
use Rattle.cs_types.specs.declared.Schema.{Schema}
use Rattle.cs_types.specs.declared.Value.{Value}
use Rattle.cs_model.specs.declared.pred.Pred.{Pred}
use Rattle.cs_model.specs.Scans.{is_skipped}
use Rattle.row_group.specs.Rows.{PackedRow, column_of}
use Rattle.group_view.specs.declared.parts.GroupPart.{GroupPart}
use Rattle.group_view.specs.declared.parts.GroupPart.TheVariants.{Packed, Store}
use Rattle.group_view.specs.Parts.{packed_parts, rows_by_id}
use Rattle.batch_scan.specs.Scans.{counts_of, part_counts}

suc_more : (a b c : ℕ) → a ≡ b + c → suc a ≡ suc b + c
suc_more a b c e = omega (arith, e)

module _ (schema : Schema) (condition : Option Pred) where
  abbrev columns : List (ℕ × GroupPart) → List (ℕ → List Value)
  columns parts = map (λ (group : ℕ × List PackedRow). column_of group.1) (rows_by_id (packed_parts parts))

  abbrev counted : (Bool → Bool) → List (ℕ × GroupPart) → ℕ
  counted q parts = length (filter (λ cells. q (is_skipped schema condition cells)) (columns parts))

  -- what a group adds to those whose verdict passes
  abbrev adds : (Bool → Bool) → ℕ × GroupPart → ℕ
  adds q (id, Packed packed marks) = cond (q (is_skipped schema condition (column_of packed.value.rows))) 1 0
  adds q (id, Store store) = 0

  counted_more : (q : Bool → Bool) (parts : List (ℕ × GroupPart)) (group : ℕ × GroupPart) → counted q (parts ++ group ∷ []) ≡ counted q parts + adds q group
  counted_more q [] (id, Packed packed marks) = at (q (is_skipped schema condition (column_of packed.value.rows)))
    where
      at : (t : Bool) → length (cond t (column_of packed.value.rows ∷ []) []) ≡ 0 + cond t 1 0
      at true = refl
      at false = refl
  counted_more q [] (id, Store store) = refl
  counted_more q ((id, Packed packed marks) ∷ parts) group = at (q (is_skipped schema condition (column_of packed.value.rows))) (counted_more q parts group)
    where
      kept : List (ℕ × GroupPart) → List (ℕ → List Value)
      kept more = filter (λ cells. q (is_skipped schema condition cells)) (columns more)

      at : (t : Bool) → counted q (parts ++ group ∷ []) ≡ counted q parts + adds q group
          → length (cond t (column_of packed.value.rows ∷ kept (parts ++ group ∷ [])) (kept (parts ++ group ∷ []))) ≡ length (cond t (column_of packed.value.rows ∷ kept parts) (kept parts)) + adds q group
      at true rest = suc_more (length (kept (parts ++ group ∷ []))) (length (kept parts)) (adds q group) rest
      at false rest = rest
  counted_more q ((id, Store store) ∷ parts) group = counted_more q parts group

  read_adds : (group : ℕ × GroupPart) → adds not group ≡ (part_counts schema condition group.1).0
  read_adds (id, Packed packed marks) = at (is_skipped schema condition (column_of packed.value.rows))
    where
      at : (t : Bool) → cond (not t) 1 0 ≡ (cond {A = ℕ × ℕ} t (0, 1) (1, 0)).0
      at true = refl
      at false = refl
  read_adds (id, Store store) = refl

  skip_adds : (group : ℕ × GroupPart) → adds (λ t. t) group ≡ (part_counts schema condition group.1).1
  skip_adds (id, Packed packed marks) = at (is_skipped schema condition (column_of packed.value.rows))
    where
      at : (t : Bool) → cond t 1 0 ≡ (cond {A = ℕ × ℕ} t (0, 1) (1, 0)).1
      at true = refl
      at false = refl
  skip_adds (id, Store store) = refl

  -- by the verdict of a packed group
  pub counts_at : (part : GroupPart) (packed : _) (marks : _) (skipped : Bool) → part ≡ Packed packed marks → is_skipped schema condition (column_of packed.value.rows) ≡ skipped
      → cond {A = ℕ × ℕ} skipped (0, 1) (1, 0) ≡ part_counts schema condition part
  counts_at part packed marks skipped is verdict =
      subst (λ p. cond {A = ℕ × ℕ} skipped (0, 1) (1, 0) ≡ part_counts schema condition p) (sym is) (ap (λ t. cond {A = ℕ × ℕ} t (0, 1) (1, 0)) (sym verdict))

  -- one of the two at most
  pub few : (part : GroupPart) → (part_counts schema condition part).0 + (part_counts schema condition part).1 ≤ 1
  few (Packed packed marks) = at (is_skipped schema condition (column_of packed.value.rows))
    where
      at : (t : Bool) → (cond {A = ℕ × ℕ} t (0, 1) (1, 0)).0 + (cond {A = ℕ × ℕ} t (0, 1) (1, 0)).1 ≤ 1
      at true = omega arith
      at false = omega arith
  few (Store store) = omega arith

  -- one group more
  module _ (before : List (ℕ × GroupPart)) (group : ℕ × GroupPart) where
    pub read_more : (counts_of schema condition (before ++ group ∷ [])).0 ≡ (counts_of schema condition before).0 + (part_counts schema condition group.1).0
    read_more = counted_more not before group ∙ ap (λ n. counted not before + n) (read_adds group)

    pub skip_more : (counts_of schema condition (before ++ group ∷ [])).1 ≡ (counts_of schema condition before).1 + (part_counts schema condition group.1).1
    skip_more = counted_more (λ t. t) before group ∙ ap (λ n. counted (λ t. t) before + n) (skip_adds group)
