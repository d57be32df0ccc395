-- Ranges of groups.
use Rattle.std.proofs.Common.{◌≡◌, ◌++◌, ◌+◌, ◌-◌, ◌≤◌, ℕ, zero, suc, List, [], ◌∷◌, length, take, drop, ap, ◌∙◌, sym, subst, arith}
use Rattle.std.specs.List.{filter_map, flat_map}
use Rattle.std.specs.Map.{values_of}
use Rattle.std.proofs.lemmas.List.{take-append-drop, take_all, length-drop}
use Rattle.std.proofs.lemmas.List.Concat.{flat_map-append}
use Rattle.std.proofs.lemmas.List.Elements.{filter_map-append}
use Rattle.cs_types.specs.declared.Schema.{Schema}
use Rattle.cs_types.specs.declared.Value.{Value}
use Rattle.cs_model.specs.declared.plan.Query.{Query}
use Rattle.batch_aggregate.specs.declared.partial.Partial.{Partial}
use Rattle.batch_aggregate.specs.Standing.{StandsFor}
use Rattle.group_view.specs.declared.parts.GroupPart.{GroupPart}
use Rattle.group_view.specs.declared.view.Pinned.{Pinned}
use Rattle.group_view.specs.Parts.{rowed_in}
use Rattle.row_work.specs.Reads.{read_of, read_row}
use Rattle.row_work.proofs.Scanned.{values_append}
use Rattle.statement_work.specs.Parts.{IsPart}

-- the rows of groups and of further ones
read_both : (width : ℕ) (pinned : Pinned) (xs ys : List (ℕ × GroupPart)) → read_of width pinned (xs ++ ys) ≡ read_of width pinned xs ++ read_of width pinned ys
read_both width pinned xs ys =
    let rows : ℕ × GroupPart → List _ = λ group. rowed_in group.1 in
    let f = read_row width pinned in
    ap (λ l. values_of (filter_map f l)) (flat_map-append rows xs ys)
    ∙ ap values_of (filter_map-append f (flat_map rows xs) (flat_map rows ys))
    ∙ values_append (filter_map f (flat_map rows xs)) (filter_map f (flat_map rows ys))

drop_on : {X : Type 0} (n : ℕ) (xs : List X) (m : ℕ) → drop m (drop n xs) ≡ drop (n + m) xs
drop_on zero xs m = let e : m ≡ 0 + m = omega arith in ap (λ k. drop k xs) e
drop_on (suc n) [] zero = let e : suc n ≡ suc n + 0 = omega arith in ap (λ k. drop k []) e
drop_on (suc n) [] (suc m) = let e : suc (n + suc m) ≡ suc n + suc m = omega arith in ap (λ k. drop k []) e
drop_on (suc n) (x ∷ xs) m = let e : suc (n + m) ≡ suc n + m = omega arith in drop_on n xs m ∙ ap (λ k. drop k (x ∷ xs)) e

-- a range and what follows it
ranges : {X : Type 0} (from count : ℕ) (xs : List X) → take count (drop from xs) ++ drop (from + count) xs ≡ drop from xs
ranges from count xs = ap (λ l. take count (drop from xs) ++ l) (sym (drop_on from xs count)) ∙ take-append-drop count (drop from xs)

module _ (schema : Schema) (query : Query) (pinned : Pinned) (from : ℕ) where
  -- the last range
  pub last_part : (to : ℕ) (partial : Partial) → to ≡ length pinned.view.groups → IsPart schema query pinned (take (to - from) (drop from pinned.view.groups)) partial → IsPart schema query pinned (drop from pinned.view.groups) partial
  last_part to partial all is =
      let groups = pinned.view.groups in
      subst (λ l. IsPart schema query pinned l partial) (take_all (to - from) (drop from groups) (omega (arith, length-drop from groups, all))) is

  -- a range, put together with what follows
  pub joined_part : (cut : ℕ) (mine others new : Partial) → from ≤ cut → IsPart schema query pinned (take (cut - from) (drop from pinned.view.groups)) mine → IsPart schema query pinned (drop cut pinned.view.groups) others
      → new.schema.now ≡ mine.schema.now → new.query.now ≡ mine.query.now
      → ((rows more : List (List Value)) → others.schema.now ≡ mine.schema.now → others.query.now ≡ mine.query.now → StandsFor mine rows → StandsFor others more → StandsFor new (rows ++ more))
      → IsPart schema query pinned (drop from pinned.view.groups) new
  joined_part cut mine others new behind is follows of_schema of_query merged =
      let groups = pinned.view.groups in
      let width = length schema.columns in
      let front = take (cut - from) (drop from groups) in
      let back = drop cut groups in
      let at : cut ≡ from + (cut - from) = omega (arith, behind) in
      let whole : front ++ back ≡ drop from groups = ap (λ n. front ++ drop n groups) at ∙ ranges from (cut - from) groups in
      record {
        of_schema = of_schema ∙ is.of_schema;
        of_query = of_query ∙ is.of_query;
        rows = subst (λ l. StandsFor new (read_of width pinned l)) whole
            (subst (StandsFor new) (sym (read_both width pinned front back))
            (merged (read_of width pinned front) (read_of width pinned back) (follows.of_schema ∙ sym is.of_schema) (follows.of_query ∙ sym is.of_query) is.rows follows.rows));
      }
