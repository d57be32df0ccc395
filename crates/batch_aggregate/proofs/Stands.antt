-- What a partial answer stands for.
use Rattle.std.proofs.Common.{◌≡◌, true, false, List, [], ◌∷◌, ◌++◌, map, All, Result, Ok, Err, OnOk, refl, sym, ap, subst, ◌∙◌}
use Rattle.std.specs.List.Sorted.{IsPermutation}
use Rattle.std.proofs.lemmas.Bool.{cond-true}
use Rattle.std.proofs.lemmas.List.Elements.{filter-append, All-cons, All-head, All-nil, All-tail}
use Rattle.std.proofs.lemmas.List.Sorted.{IsPermutation-trans, IsPermutation-sym}
use Rattle.cs_types.specs.declared.Schema.{Schema}
use Rattle.cs_types.specs.declared.Value.{Value}
use Rattle.cs_model.specs.declared.plan.Query.{Query}
use Rattle.cs_model.specs.Groups.{cells_of}
use Rattle.cs_model.specs.Queries.{keeps, kept, answer}
use Rattle.answer_laws.proofs.Moves.{filter-moved}
use Rattle.batch_aggregate.specs.declared.tally.Tally.{Tally}
use Rattle.batch_aggregate.specs.declared.partial.Partial.{Partial}
use Rattle.batch_aggregate.specs.Tallies.{tally_of}
use Rattle.batch_aggregate.specs.Standing.{entries_in, entries_of, with_tallies, merged, answer_of, IsBy, Keeps, StandsFor}
use Rattle.batch_aggregate.proofs.Bags.{AllHave, bag-shown, bag-further, entries-moved}
use Rattle.batch_aggregate.proofs.Merges.{bag-merged}

pub on_ok_both : {T E : Type 0} (P Q : Type 0) (r : Result T E) → OnOk r P → OnOk r Q → OnOk r (P × Q)
on_ok_both P Q (Ok x) p q = (p, q)
on_ok_both P Q (Err e) p q = tt

-- what is kept for rows that are put together
pub kept-groups : (partial : Partial) (rows : List (List Value)) → partial.query.now.grouped ≡ true → StandsFor partial rows
    → IsBy partial.query.now.groups partial.groups × IsPermutation (entries_of partial.query.now (kept partial.schema.now partial.query.now rows)) (entries_in partial.groups)
kept-groups partial rows grouped stands = subst (λ b. Keeps b partial (kept partial.schema.now partial.query.now rows)) grouped stands

-- the entries of what a partial answer stands for make the answer
pub answered : (partial : Partial) (rows : List (List Value)) → partial.query.now.grouped ≡ true → StandsFor partial rows → answer_of partial.schema.now partial.query.now (entries_in partial.groups) ≡ answer partial.schema.now partial.query.now rows
answered partial rows grouped stands =
    let query = partial.query.now in
    let before = kept partial.schema.now query rows in
    bag-shown partial.schema.now query before (entries_in partial.groups) (kept-groups partial rows grouped stands).1 ∙ sym (cond-true _ _ _ grouped)

-- entries of more rows, under the query and the schema of before
stands-with : (old new : Partial) (all : List (List Value)) → old.query.now.grouped ≡ true → new.schema.now ≡ old.schema.now → new.query.now ≡ old.query.now
    → IsBy old.query.now.groups new.groups → IsPermutation (entries_of old.query.now (kept old.schema.now old.query.now all)) (entries_in new.groups) → StandsFor new all
stands-with old new all grouped schema query by is =
    let there : IsPermutation (entries_of new.query.now (kept new.schema.now new.query.now all)) (entries_in new.groups) =
    subst (λ (s : Schema). IsPermutation (entries_of new.query.now (kept s new.query.now all)) (entries_in new.groups)) (sym schema)
    (subst (λ (q : Query). IsPermutation (entries_of q (kept old.schema.now q all)) (entries_in new.groups)) (sym query) is) in
    subst (λ b. Keeps b new (kept new.schema.now new.query.now all)) (sym (ap (λ (q : Query). q.grouped) query ∙ grouped))
    (subst (λ (q : Query). IsBy q.groups new.groups) (sym query) by, there)

-- in any order
pub StandsFor_any_order : (partial : Partial) (rows others : List (List Value)) → partial.query.now.grouped ≡ true → StandsFor partial rows → IsPermutation rows others → StandsFor partial others
StandsFor_any_order partial rows others grouped stands moved =
    let schema = partial.schema.now in
    let query = partial.query.now in
    let (by, entries) = kept-groups partial rows grouped stands in
    subst (λ b. Keeps b partial (kept schema query others)) (sym grouped)
    (by, IsPermutation-trans _ _ _ (IsPermutation-sym _ _ (entries-moved query _ _ (filter-moved (keeps schema query.filter) rows others moved))) entries)

-- rows that are all kept
kept-all : (schema : Schema) (query : Query) (more : List (List Value)) → All (λ row. keeps schema query.filter row ≡ true) more → kept schema query more ≡ more
kept-all schema query [] all = refl
kept-all schema query (row ∷ more) all =
    cond-true _ _ _ (All-head (λ row. keeps schema query.filter row ≡ true) row more all)
    ∙ ap (λ l. row ∷ l) (kept-all schema query more (All-tail (λ row. keeps schema query.filter row ≡ true) row more all))

pub kept-further : (schema : Schema) (query : Query) (rows more : List (List Value)) → All (λ row. keeps schema query.filter row ≡ true) more → kept schema query (rows ++ more) ≡ kept schema query rows ++ more
kept-further schema query rows more all = filter-append (keeps schema query.filter) rows more ∙ ap (λ l. kept schema query rows ++ l) (kept-all schema query more all)

-- with further rows of one group, all of which are kept
pub stands-further : (old new : Partial) (rows more : List (List Value)) (cells : List Value) (tallies : List Tally) → old.query.now.grouped ≡ true
    → StandsFor old rows → All (λ row. keeps old.schema.now old.query.now.filter row ≡ true) more → AllHave old.query.now.groups cells more → map (tally_of more) old.query.now.items ≡ tallies
    → (more ≡ [] → (old.query.now.groups ≡ []) × (cells ≡ [])) → new.schema.now ≡ old.schema.now → new.query.now ≡ old.query.now
    → IsBy old.query.now.groups new.groups → entries_in new.groups ≡ with_tallies cells tallies (entries_in old.groups) → StandsFor new (rows ++ more)
stands-further old new rows more cells tallies grouped stands keep have are some schema query by is =
    let before = kept old.schema.now old.query.now rows in
    let entries = (kept-groups old rows grouped stands).1 in
    stands-with old new (rows ++ more) grouped schema query by
    (subst (λ l. IsPermutation (entries_of old.query.now l) (entries_in new.groups)) (sym (kept-further old.schema.now old.query.now rows more keep))
    (subst (IsPermutation (entries_of old.query.now (before ++ more))) (sym (is ∙ ap (λ ts. with_tallies cells ts (entries_in old.groups)) (sym are)))
    (bag-further old.query.now cells before more (entries_in old.groups) have some entries)))

-- with one more row that is kept
pub stands-more : (old new : Partial) (rows : List (List Value)) (row : List Value) → old.query.now.grouped ≡ true → keeps old.schema.now old.query.now.filter row ≡ true
    → StandsFor old rows → new.schema.now ≡ old.schema.now → new.query.now ≡ old.query.now → (IsBy old.query.now.groups old.groups → IsBy old.query.now.groups new.groups)
    → (IsBy old.query.now.groups old.groups → entries_in new.groups ≡ with_tallies (cells_of old.query.now.groups row) (map (tally_of (row ∷ [])) old.query.now.items) (entries_in old.groups))
    → StandsFor new (rows ++ row ∷ [])
stands-more old new rows row grouped keep stands schema query by is =
    let was = (kept-groups old rows grouped stands).0 in
    let kept_too = λ (r : List Value). keeps old.schema.now old.query.now.filter r ≡ true in
    let has = λ (r : List Value). cells_of old.query.now.groups r ≡ cells_of old.query.now.groups row in
    stands-further old new rows (row ∷ []) (cells_of old.query.now.groups row) (map (tally_of (row ∷ [])) old.query.now.items) grouped stands
    (All-cons kept_too row [] keep (All-nil kept_too)) (All-cons has row [] refl (All-nil has)) refl (λ e. cc) schema query (by was) (is was)

-- what another one keeps of the same query and schema
pub others_kept : (old other : Partial) (more : List (List Value)) → old.query.now.grouped ≡ true → other.schema.now ≡ old.schema.now → other.query.now ≡ old.query.now → StandsFor other more
    → IsPermutation (entries_of old.query.now (kept old.schema.now old.query.now more)) (entries_in other.groups)
others_kept old other more grouped schema query others =
    subst (λ (s : Schema). IsPermutation (entries_of old.query.now (kept s old.query.now more)) (entries_in other.groups)) schema
    (subst (λ (q : Query). IsPermutation (entries_of q (kept other.schema.now q more)) (entries_in other.groups)) query
    (kept-groups other more (ap (λ (q : Query). q.grouped) query ∙ grouped) others).1)

-- with all that another one stands for, of the same query and schema
pub stands-merged : (old other new : Partial) (rows more : List (List Value)) → old.query.now.grouped ≡ true → other.schema.now ≡ old.schema.now → other.query.now ≡ old.query.now
    → StandsFor old rows → StandsFor other more → new.schema.now ≡ old.schema.now → new.query.now ≡ old.query.now
    → IsBy old.query.now.groups new.groups → entries_in new.groups ≡ merged (entries_in old.groups) (entries_in other.groups) → StandsFor new (rows ++ more)
stands-merged old other new rows more grouped other_schema other_query stands others schema query by is =
    let before = kept old.schema.now old.query.now rows in
    let after = kept old.schema.now old.query.now more in
    let entries = (kept-groups old rows grouped stands).1 in
    let known = others_kept old other more grouped other_schema other_query others in
    stands-with old new (rows ++ more) grouped schema query by
    (subst (λ l. IsPermutation (entries_of old.query.now l) (entries_in new.groups)) (sym (filter-append (keeps old.schema.now old.query.now.filter) rows more))
    (subst (IsPermutation (entries_of old.query.now (before ++ after))) (sym is) (bag-merged old.query.now before after (entries_in old.groups) (entries_in other.groups) entries known)))

-- without groups
pub stands-appended : (old other new : Partial) (rows more : List (List Value)) → old.query.now.grouped ≡ false → other.schema.now ≡ old.schema.now → other.query.now ≡ old.query.now
    → StandsFor old rows → StandsFor other more → new.schema.now ≡ old.schema.now → new.query.now ≡ old.query.now
    → new.rows.items ≡ old.rows.items ++ other.rows.items → StandsFor new (rows ++ more)
stands-appended old other new rows more plain other_schema other_query stands others schema query is =
    let before = kept old.schema.now old.query.now rows in
    let after = kept old.schema.now old.query.now more in
    let mine : old.rows.items ≡ before = subst (λ b. Keeps b old before) plain stands in
    let theirs : other.rows.items ≡ kept other.schema.now other.query.now more = subst (λ b. Keeps b other (kept other.schema.now other.query.now more)) (ap (λ (q : Query). q.grouped) other_query ∙ plain) others in
    let known : other.rows.items ≡ after = theirs ∙ ap (λ (q : Query). kept other.schema.now q more) other_query ∙ ap (λ (s : Schema). kept s old.query.now more) other_schema in
    let all : new.rows.items ≡ kept old.schema.now old.query.now (rows ++ more) =
    is ∙ ap (λ l. l ++ other.rows.items) mine ∙ ap (λ l. before ++ l) known ∙ sym (filter-append (keeps old.schema.now old.query.now.filter) rows more) in
    let there : new.rows.items ≡ kept new.schema.now new.query.now (rows ++ more) =
    all ∙ sym (ap (λ (q : Query). kept new.schema.now q (rows ++ more)) query ∙ ap (λ (s : Schema). kept s old.query.now (rows ++ more)) schema) in
    subst (λ b. Keeps b new (kept new.schema.now new.query.now (rows ++ more))) (sym (ap (λ (q : Query). q.grouped) query ∙ plain)) there
