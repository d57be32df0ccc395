-- The choice among the ways to keep some cells.
use Rattle.std.proofs.Common.{◌≡◌, ℕ, ℤ, ◌+◌, ◌*◌, ◌/◌, ◌<◌, ◌≤◌, ◌⊎◌, ◌↔◌, inl, inr, List, length, get_or, map, min, refl, sym, ◌∙◌, ap, subst, arith, All, Option, None, Some, slice_get}
use Rattle.std.proofs.lemmas.Bool.{cases_lt}
use Rattle.std.proofs.lemmas.List.{get_or-map, length-map}
use Rattle.std.proofs.lemmas.List.Elements.{Contains-get_or}
use Rattle.std.proofs.lemmas.Option.{slice_get-get_or}
use Rattle.segment_value.specs.declared.Scale.{Scale}
use Rattle.segment_value.specs.Scales.{Takes, IsScaling, code_of, cell_of}
use Rattle.segment_value.proofs.Codes.{cell_of-code_of}
use Rattle.segment_dict.specs.declared.Dict.{Dict}
use Rattle.segment_rle.specs.Runs.{AreRunsOf}
use Rattle.cs_types.specs.declared.Value.{Value}
use Rattle.cs_types.specs.declared.Value.TheVariants.{Null}
use Rattle.column_segment.specs.declared.body.SegmentBody.{SegmentBody}
use Rattle.column_segment.specs.declared.body.SegmentBody.TheVariants.{ValuePacked, ValueRuns, DictPacked, DictRuns}
use Rattle.column_segment.specs.declared.choice.Costs.{Costs}
use Rattle.column_segment.specs.Cells.{number_of, HasNoText, HasText}
use Rattle.cs_types.specs.Rows.{number_cell}
use Rattle.column_segment.specs.Layouts.{ArePacked, IsLeastWidth, MatchNeighbours, runs_below}
use Rattle.column_segment.specs.Dicts.{IsDictFor, AreDictCodes, dict_words}
use Rattle.column_segment.specs.Bodies.{Codings, Keeps, IsBest, words_in, rank_of}
use Rattle.column_segment.specs.Choices.{AreCosts, IsValueBody, IsDictBody}
use Rattle.column_segment.proofs.Dicts.{own-number, dict-neighbours, codes-exist}
use Rattle.column_segment.proofs.Layouts.{runs-count}
use Rattle.column_segment.proofs.Readings.{packed-words}

-- the code of a cell in its place
pub value-code : (scale : Scale) (cells : List Value) (i : ℕ) → i < length cells → get_or (map (code_of scale) (map number_of cells)) i 0 ≡ code_of scale (number_of (get_or cells i Null))
value-code scale cells i low =
    get_or-map (code_of scale) (map number_of cells) i None 0 (omega (arith, low, length-map cells number_of))
    ∙ ap (code_of scale) (get_or-map number_of cells i Null None low)

pub takes-at : (scale : Scale) (cells : List Value) → All (Takes scale) (map number_of cells) → (i : ℕ) → i < length cells → Takes scale (number_of (get_or cells i Null))
takes-at scale cells all i low =
    let P : Option ℤ → Type 0 = λ o. Takes scale o in
    subst P (get_or-map number_of cells i Null None low) (all i None (omega (arith, low, length-map cells number_of)))

-- a cell comes back from its code
pub value-back : (scale : Scale) (cells : List Value) → HasNoText cells → All (Takes scale) (map number_of cells) → (i : ℕ) → i < length cells → number_cell (cell_of scale (get_or (map (code_of scale) (map number_of cells)) i 0)) ≡ get_or cells i Null
value-back scale cells none all i low =
    ap (λ n. number_cell (cell_of scale n)) (value-code scale cells i low)
    ∙ ap number_cell (cell_of-code_of scale (number_of (get_or cells i Null)) (takes-at scale cells all i low))
    ∙ own-number cells none (get_or cells i Null) (Contains-get_or cells i Null low)

pub value-length : (scale : Scale) (cells : List Value) → length (map (code_of scale) (map number_of cells)) ≡ length cells
value-length scale cells = length-map (map number_of cells) (code_of scale) ∙ length-map cells number_of

-- neighbours have equal codes where they are equal
pub value-neighbours : (scale : Scale) (cells : List Value) → HasNoText cells → All (Takes scale) (map number_of cells) → MatchNeighbours cells (map (code_of scale) (map number_of cells))
value-neighbours scale cells none all = (value-length scale cells, (λ i low. both i low))
  where
    codes : List ℕ
    codes = map (code_of scale) (map number_of cells)

    both : (i : ℕ) → i + 1 < length cells → (get_or (map (code_of scale) (map number_of cells)) i 0 ≡ get_or (map (code_of scale) (map number_of cells)) (i + 1) 0) ↔ (slice_get cells i ≡ slice_get cells (i + 1))
    both i low =
        let v : Value = get_or cells i Null in
        let w : Value = get_or cells (i + 1) Null in
        let here : slice_get cells i ≡ Some v = slice_get-get_or cells i Null (omega (arith, low)) in
        let next : slice_get cells (i + 1) ≡ Some w = slice_get-get_or cells (i + 1) Null low in (
          (λ e. here ∙ ap Some (sym (value-back scale cells none all i (omega (arith, low))) ∙ ap (λ n. number_cell (cell_of scale n)) e ∙ value-back scale cells none all (i + 1) low) ∙ sym next),
          (λ e. let f : Some v ≡ Some w = sym here ∙ e ∙ next in
              let g : v ≡ w = cc in
              value-code scale cells i (omega (arith, low)) ∙ ap (λ x. code_of scale (number_of x)) g ∙ sym (value-code scale cells (i + 1) low)),
        )

-- what the codes cost, whichever words or runs they stand in
pub record ArePriced (base : ℕ) (codes : List ℕ) (packed runs : ℕ) : Type 0 where
  pub in_words : (width : ℕ) (words : List ℕ) → ArePacked codes width words → base + length words ≡ packed
  pub in_runs : (run_codes ends : List ℕ) → AreRunsOf codes run_codes ends → base + 2 * length ends ≡ runs

pub priced : (base n width runs : ℕ) (codes : List ℕ) (costs : Costs) → AreCosts base n width runs costs → length codes ≡ n → IsLeastWidth codes width → runs ≡ runs_below codes (length codes) → ArePriced base codes costs.packed costs.runs
priced base n width runs codes costs are long least count = record {
  in_words = λ w words is. ap (λ k. base + k) (packed-words codes width least w words is ∙ ap (λ k. (k * width + 63) / 64) long) ∙ sym are.1;
  in_runs = λ run_codes ends is. ap (λ k. base + 2 * k) (runs-count codes run_codes ends is ∙ sym count) ∙ sym are.2;
}

-- what each way costs
pub record Prices (cells : List Value) (by : Codings cells) (vp vr dp dr : ℕ) : Type 0 where
  pub value : (scale : Scale) → by.scale ≡ Some scale → ArePriced 2 (map (code_of scale) (map number_of cells)) vp vr
  pub dict : ArePriced (dict_words by.dict) by.codes dp dr

price : (vp vr dp dr : ℕ) → SegmentBody → ℕ
price vp vr dp dr (ValuePacked scale width words) = vp
price vp vr dp dr (ValueRuns scale runs) = vr
price vp vr dp dr (DictPacked dict width words) = dp
price vp vr dp dr (DictRuns dict runs) = dr

words-priced : (cells : List Value) (by : Codings cells) (vp vr dp dr : ℕ) → Prices cells by vp vr dp dr → (other : SegmentBody) → Keeps cells by other → words_in other ≡ price vp vr dp dr other
unfolding price
words-priced cells by vp vr dp dr prices (ValuePacked scale width words) keeps = (prices.value scale keeps.0).in_words width words keeps.1
words-priced cells by vp vr dp dr prices (ValueRuns scale runs) keeps = (prices.value scale keeps.0).in_runs runs.codes runs.ends keeps.1
words-priced cells by vp vr dp dr prices (DictPacked dict width words) keeps = ap (λ (d : Dict). dict_words d + length words) (sym keeps.0) ∙ prices.dict.in_words width words keeps.1
words-priced cells by vp vr dp dr prices (DictRuns dict runs) keeps = ap (λ (d : Dict). dict_words d + 2 * length runs.ends) (sym keeps.0) ∙ prices.dict.in_runs runs.codes runs.ends keeps.1

-- the way has the least price, and is the first of those of this price
IsFirst : (vp vr dp dr : ℕ) → Option Scale → SegmentBody → Type 0
IsFirst vp vr dp dr scale (ValuePacked kept width words) = (vp ≤ vr) × (vp ≤ dp) × (vp ≤ dr)
IsFirst vp vr dp dr scale (ValueRuns kept runs) = (vr < vp) × (vr ≤ dp) × (vr ≤ dr)
IsFirst vp vr dp dr scale (DictPacked kept width words) = ((s : Scale) → scale ≡ Some s → (dp < vp) × (dp < vr)) × (dp ≤ dr)
IsFirst vp vr dp dr scale (DictRuns kept runs) = ((s : Scale) → scale ≡ Some s → (dr < vp) × (dr < vr)) × (dr < dp)

Precedes : ℕ → ℕ → ℕ → ℕ → Type 0
Precedes a b ra rb = (a < b) ⊎ ((a ≡ b) × (ra ≤ rb))

no_more : (a b ra rb : ℕ) → a ≤ b → ra ≤ rb → Precedes a b ra rb
unfolding Precedes
no_more a b ra rb most order = elim (cases_lt a b) [ inl less ↦ inl less | inr high ↦ inr (omega (arith, most, high), order) ]

first-precedes : (cells : List Value) (by : Codings cells) (vp vr dp dr : ℕ) (body other : SegmentBody) → IsFirst vp vr dp dr by.scale body → Keeps cells by other → Precedes (price vp vr dp dr body) (price vp vr dp dr other) (rank_of body) (rank_of other)
unfolding IsFirst price Precedes
first-precedes cells by vp vr dp dr (ValuePacked _ _ _) (ValuePacked _ _ _) is keeps = no_more vp vp 0 0 (omega arith) (omega arith)
first-precedes cells by vp vr dp dr (ValuePacked _ _ _) (ValueRuns _ _) is keeps = no_more vp vr 0 1 is.0 (omega arith)
first-precedes cells by vp vr dp dr (ValuePacked _ _ _) (DictPacked _ _ _) is keeps = no_more vp dp 0 2 is.1 (omega arith)
first-precedes cells by vp vr dp dr (ValuePacked _ _ _) (DictRuns _ _) is keeps = no_more vp dr 0 3 is.2 (omega arith)
first-precedes cells by vp vr dp dr (ValueRuns _ _) (ValuePacked _ _ _) is keeps = inl is.0
first-precedes cells by vp vr dp dr (ValueRuns _ _) (ValueRuns _ _) is keeps = no_more vr vr 1 1 (omega arith) (omega arith)
first-precedes cells by vp vr dp dr (ValueRuns _ _) (DictPacked _ _ _) is keeps = no_more vr dp 1 2 is.1 (omega arith)
first-precedes cells by vp vr dp dr (ValueRuns _ _) (DictRuns _ _) is keeps = no_more vr dr 1 3 is.2 (omega arith)
first-precedes cells by vp vr dp dr (DictPacked _ _ _) (ValuePacked scale _ _) is keeps = inl (is.0 scale keeps.0).0
first-precedes cells by vp vr dp dr (DictPacked _ _ _) (ValueRuns scale _) is keeps = inl (is.0 scale keeps.0).1
first-precedes cells by vp vr dp dr (DictPacked _ _ _) (DictPacked _ _ _) is keeps = no_more dp dp 2 2 (omega arith) (omega arith)
first-precedes cells by vp vr dp dr (DictPacked _ _ _) (DictRuns _ _) is keeps = no_more dp dr 2 3 is.1 (omega arith)
first-precedes cells by vp vr dp dr (DictRuns _ _) (ValuePacked scale _ _) is keeps = inl (is.0 scale keeps.0).0
first-precedes cells by vp vr dp dr (DictRuns _ _) (ValueRuns scale _) is keeps = inl (is.0 scale keeps.0).1
first-precedes cells by vp vr dp dr (DictRuns _ _) (DictPacked _ _ _) is keeps = inl is.1
first-precedes cells by vp vr dp dr (DictRuns _ _) (DictRuns _ _) is keeps = no_more dr dr 3 3 (omega arith) (omega arith)

best : (cells : List Value) (by : Codings cells) (vp vr dp dr : ℕ) (body : SegmentBody) → Prices cells by vp vr dp dr → Keeps cells by body → IsFirst vp vr dp dr by.scale body → IsBest cells body
unfolding Precedes
best cells by vp vr dp dr body prices keeps first = record {
  by = by;
  kept = keeps;
  fewest = λ other kept.
      let P : ℕ → Type 0 = λ a. Precedes a (words_in other) (rank_of body) (rank_of other) in
      let Q : ℕ → Type 0 = λ b. Precedes (price vp vr dp dr body) b (rank_of body) (rank_of other) in
      subst P (sym (words-priced cells by vp vr dp dr prices body keeps)) (subst Q (sym (words-priced cells by vp vr dp dr prices other kept)) (first-precedes cells by vp vr dp dr body other first kept));
}

-- the cheaper layout of a scale's codes, where the dictionary's are no cheaper
pub value-best : (cells : List Value) (by : Codings cells) (scale : Scale) (codes : List ℕ) (costs others : Costs) → by.scale ≡ Some scale → codes ≡ map (code_of scale) (map number_of cells) → costs.width ≤ 64 → IsLeastWidth codes costs.width → Prices cells by costs.packed costs.runs others.packed others.runs → min costs.packed costs.runs ≤ min others.packed others.runs → (body : SegmentBody) → IsValueBody scale codes costs body → IsBest cells body
unfolding IsFirst
value-best cells by scale codes costs others of same most least prices fewest (ValuePacked kept width words) is =
    let P : ℕ → Type 0 = λ w. (w ≤ 64) × IsLeastWidth codes w in
    let wide : (width ≤ 64) × IsLeastWidth codes width = subst P (sym is.1) (most, least) in
    let Q : List ℕ → Type 0 = λ cs. ArePacked cs width words in
    let R : Scale → Type 0 = λ s. ArePacked (map (code_of s) (map number_of cells)) width words in
    best cells by costs.packed costs.runs others.packed others.runs (ValuePacked kept width words) prices
    (of ∙ ap Some (sym is.0), subst R (sym is.0) (subst Q same (wide.0, wide.1, is.2)))
    (is.3, omega (arith, is.3, fewest), omega (arith, is.3, fewest))
value-best cells by scale codes costs others of same most least prices fewest (ValueRuns kept runs) is =
    let Q : List ℕ → Type 0 = λ cs. AreRunsOf cs runs.codes runs.ends in
    let R : Scale → Type 0 = λ s. AreRunsOf (map (code_of s) (map number_of cells)) runs.codes runs.ends in
    best cells by costs.packed costs.runs others.packed others.runs (ValueRuns kept runs) prices
    (of ∙ ap Some (sym is.0), subst R (sym is.0) (subst Q same is.1))
    (is.2, omega (arith, is.2, fewest), omega (arith, is.2, fewest))
value-best cells by scale codes costs others of same most least prices fewest (DictPacked dict width words) is = absurd is
value-best cells by scale codes costs others of same most least prices fewest (DictRuns dict runs) is = absurd is

-- the cheaper layout of a dictionary's codes, where a scale's are dearer or there is none
pub dict-best : (cells : List Value) (by : Codings cells) (costs : Costs) (vp vr : ℕ) → costs.width ≤ 64 → IsLeastWidth by.codes costs.width → Prices cells by vp vr costs.packed costs.runs → ((s : Scale) → by.scale ≡ Some s → min costs.packed costs.runs < min vp vr) → (body : SegmentBody) → IsDictBody by.dict by.codes costs body → IsBest cells body
unfolding IsFirst
dict-best cells by costs vp vr most least prices dearer (ValuePacked kept width words) is = absurd is
dict-best cells by costs vp vr most least prices dearer (ValueRuns kept runs) is = absurd is
dict-best cells by costs vp vr most least prices dearer (DictPacked kept width words) is =
    let P : ℕ → Type 0 = λ w. (w ≤ 64) × IsLeastWidth by.codes w in
    let wide : (width ≤ 64) × IsLeastWidth by.codes width = subst P (sym is.1) (most, least) in
    best cells by vp vr costs.packed costs.runs (DictPacked kept width words) prices
    (sym is.0, (wide.0, wide.1, is.2))
    ((λ s e. (omega (arith, is.3, dearer s e), omega (arith, is.3, dearer s e))), is.3)
dict-best cells by costs vp vr most least prices dearer (DictRuns kept runs) is =
    best cells by vp vr costs.packed costs.runs (DictRuns kept runs) prices
    (sym is.0, is.1)
    ((λ s e. (omega (arith, is.2, dearer s e), omega (arith, is.2, dearer s e))), is.2)

-- a count of runs that holds of any codes of the cells
abbrev pub CountsRuns : List Value → ℕ → Type 0
CountsRuns cells runs = (codes : List ℕ) → MatchNeighbours cells codes → runs ≡ runs_below codes (length codes)

-- codes of the same cells match one another
match-codes : (cells : List Value) (codes others : List ℕ) → MatchNeighbours cells codes → MatchNeighbours cells others → MatchNeighbours codes others
match-codes cells codes others a b = (omega (arith, a.0, b.0), λ i low. both i low)
  where
    both : (i : ℕ) → i + 1 < length codes → (get_or others i 0 ≡ get_or others (i + 1) 0) ↔ (slice_get codes i ≡ slice_get codes (i + 1))
    both i low =
        let within : i + 1 < length cells = omega (arith, low, a.0) in
        let here : slice_get codes i ≡ Some (get_or codes i 0) = slice_get-get_or codes i 0 (omega (arith, low)) in
        let next : slice_get codes (i + 1) ≡ Some (get_or codes (i + 1) 0) = slice_get-get_or codes (i + 1) 0 low in (
          (λ e. here ∙ ap Some ((a.1 i within).1 ((b.1 i within).0 e)) ∙ sym next),
          (λ e. let f : Some (get_or codes i 0) ≡ Some (get_or codes (i + 1) 0) = sym here ∙ e ∙ next in
              (b.1 i within).1 ((a.1 i within).0 (let g : get_or codes i 0 ≡ get_or codes (i + 1) 0 = cc in g))),
        )

-- the runs of codes of the cells are those of any codes of the cells
pub counts-runs : (cells : List Value) (codes slice : List ℕ) (runs : ℕ) → MatchNeighbours cells codes → slice ≡ codes → ((others : List ℕ) → MatchNeighbours slice others → runs ≡ runs_below others (length others)) → CountsRuns cells runs
counts-runs cells codes slice runs are same count = λ others match.
    let P : List ℕ → Type 0 = λ l. MatchNeighbours l others in
    count others (subst P (sym same) (match-codes cells codes others are match))

pub counts-scaled : (cells : List Value) (numbers : List (Option ℤ)) (scale : Scale) (vcodes slice : List ℕ) (runs : ℕ) → numbers ≡ map number_of cells → HasNoText cells → IsScaling numbers (Some scale) → vcodes ≡ map (code_of scale) numbers → slice ≡ vcodes → ((others : List ℕ) → MatchNeighbours slice others → runs ≡ runs_below others (length others)) → CountsRuns cells runs
counts-scaled cells numbers scale vcodes slice runs from none scaling coded same count =
    let P : List ℕ → Type 0 = λ l. MatchNeighbours cells l in
    let Q : List (Option ℤ) → Type 0 = λ ns. All (Takes scale) ns in
    counts-runs cells vcodes slice runs
    (subst P (sym (coded ∙ ap (map (code_of scale)) from)) (value-neighbours scale cells none (subst Q from scaling.1))) same count

pub IsLeastWidth-at : (codes codes' : List ℕ) (w w' : ℕ) → codes' ≡ codes → w' ≡ w → IsLeastWidth codes w → IsLeastWidth codes' w'
IsLeastWidth-at codes codes' w w' e f is =
    let P : List ℕ → Type 0 = λ l. IsLeastWidth l w' in
    let Q : ℕ → Type 0 = λ n. IsLeastWidth codes n in
    subst P (sym e) (subst Q (sym f) is)

dict-priced : (cells : List Value) (dict : Dict) (codes : List ℕ) (base width runs : ℕ) (costs : Costs) → IsDictFor cells dict → AreDictCodes dict cells codes → IsLeastWidth codes width → base ≡ dict_words dict → AreCosts base (length cells) width runs costs → CountsRuns cells runs → ArePriced (dict_words dict) codes costs.packed costs.runs
dict-priced cells dict codes base width runs costs is are least e cost count =
    let P : ℕ → Type 0 = λ b. ArePriced b codes costs.packed costs.runs in
    subst P e (priced base (length cells) width runs codes costs cost are.0 least (count codes (dict-neighbours cells dict is codes are)))

value-priced : (cells : List Value) (scale : Scale) (width runs : ℕ) (costs : Costs) → HasNoText cells → All (Takes scale) (map number_of cells) → IsLeastWidth (map (code_of scale) (map number_of cells)) width → AreCosts 2 (length cells) width runs costs → CountsRuns cells runs → ArePriced 2 (map (code_of scale) (map number_of cells)) costs.packed costs.runs
value-priced cells scale width runs costs none takes least cost count =
    priced 2 (length cells) width runs (map (code_of scale) (map number_of cells)) costs cost (value-length scale cells) least (count (map (code_of scale) (map number_of cells)) (value-neighbours scale cells none takes))

-- where there is no scale, the dictionary's cheaper layout is the best
pub best-unscaled : (cells : List Value) (dict : Dict) (codes : List ℕ) (base width runs : ℕ) (costs : Costs) → ((HasNoText cells × IsScaling (map number_of cells) None) ⊎ HasText cells) → IsDictFor cells dict → AreDictCodes dict cells codes → IsLeastWidth codes width → width ≤ 64 → base ≡ dict_words dict → AreCosts base (length cells) width runs costs → CountsRuns cells runs → (body : SegmentBody) → IsDictBody dict codes costs body → IsBest cells body
best-unscaled cells dict codes base width runs costs unscaled is are least most e cost count body kept =
    let by : Codings cells = record { scale = None; scaling = scaling unscaled; dict = dict; of_cells = is; codes = codes; coded = are } in
    dict-best cells by costs 0 0 (omega (arith, most, cost.0)) (IsLeastWidth-at codes codes width costs.width refl cost.0 least)
    (record { value = λ s f. absurd (none_some s f); dict = dict-priced cells dict codes base width runs costs is are least e cost count })
    (λ s f. absurd (none_some s f)) body kept
  where
    scaling : (HasNoText cells × IsScaling (map number_of cells) None) ⊎ HasText cells → (HasNoText cells × IsScaling (map number_of cells) None) ⊎ (HasText cells × (let none : Option Scale = None in none ≡ None))
    scaling (inl numbers) = inl numbers
    scaling (inr text) = inr (text, refl)

    none_some : (s : Scale) → None ≡ Some s → ⊥
    none_some s f = cc

-- where there is one, what each way costs
scaled-prices : (cells : List Value) (by : Codings cells) (scale : Scale) (vwidth width base runs : ℕ) (costs others : Costs) → by.scale ≡ Some scale → HasNoText cells → All (Takes scale) (map number_of cells) → IsLeastWidth (map (code_of scale) (map number_of cells)) vwidth → AreCosts 2 (length cells) vwidth runs costs → IsLeastWidth by.codes width → base ≡ dict_words by.dict → AreCosts base (length cells) width runs others → CountsRuns cells runs → Prices cells by costs.packed costs.runs others.packed others.runs
scaled-prices cells by scale vwidth width base runs costs others of none takes vleast vcost least e cost count = record {
  value = λ s f.
      let g : scale ≡ s = some_some s (sym of ∙ f) in
      let P : Scale → Type 0 = λ t. ArePriced 2 (map (code_of t) (map number_of cells)) costs.packed costs.runs in
      subst P g (value-priced cells scale vwidth runs costs none takes vleast vcost count);
  dict = dict-priced cells by.dict by.codes base width runs others by.of_cells by.coded least e cost count;
}
  where
    some_some : (s : Scale) → Some scale ≡ Some s → scale ≡ s
    some_some s f = cc

pub best-by-scale : (cells : List Value) (numbers : List (Option ℤ)) (dict : Dict) (scale : Scale) (vcodes slice : List ℕ) (vwidth width base runs : ℕ) (costs others : Costs) → numbers ≡ map number_of cells → HasNoText cells → IsScaling numbers (Some scale) → IsDictFor cells dict → vcodes ≡ map (code_of scale) numbers → slice ≡ vcodes → IsLeastWidth slice vwidth → vwidth ≤ 64 → AreCosts 2 (length cells) vwidth runs costs → ((codes : List ℕ) → AreDictCodes dict cells codes → IsLeastWidth codes width) → base ≡ dict_words dict → AreCosts base (length cells) width runs others → CountsRuns cells runs → min costs.packed costs.runs ≤ min others.packed others.runs → (body : SegmentBody) → IsValueBody scale slice costs body → IsBest cells body
best-by-scale cells numbers dict scale vcodes slice vwidth width base runs costs others from none scaling is coded same vleast most vcost widths e cost count fewest body kept =
    let P : List (Option ℤ) → Type 0 = λ ns. IsScaling ns (Some scale) in
    let scaled : IsScaling (map number_of cells) (Some scale) = subst P from scaling in
    let dcodes = codes-exist cells dict is in
    let by : Codings cells = record { scale = Some scale; scaling = inl (none, scaled); dict = dict; of_cells = is; codes = dcodes.0; coded = dcodes.1 } in
    let codes-are : slice ≡ map (code_of scale) (map number_of cells) = same ∙ coded ∙ ap (map (code_of scale)) from in
    let least : IsLeastWidth (map (code_of scale) (map number_of cells)) vwidth = IsLeastWidth-at slice (map (code_of scale) (map number_of cells)) vwidth vwidth (sym codes-are) refl vleast in
    value-best cells by scale slice costs others refl codes-are (omega (arith, most, vcost.0)) (IsLeastWidth-at slice slice vwidth costs.width refl vcost.0 vleast)
    (scaled-prices cells by scale vwidth width base runs costs others refl none scaled.1 least vcost (widths dcodes.0 dcodes.1) e cost count)
    fewest body kept

pub best-by-dict : (cells : List Value) (numbers : List (Option ℤ)) (dict : Dict) (scale : Scale) (vcodes vslice codes slice : List ℕ) (vwidth width base runs : ℕ) (costs others : Costs) → numbers ≡ map number_of cells → HasNoText cells → IsScaling numbers (Some scale) → IsDictFor cells dict → vcodes ≡ map (code_of scale) numbers → vslice ≡ vcodes → IsLeastWidth vslice vwidth → AreCosts 2 (length cells) vwidth runs costs → AreDictCodes dict cells codes → slice ≡ codes → IsLeastWidth codes width → width ≤ 64 → base ≡ dict_words dict → AreCosts base (length cells) width runs others → CountsRuns cells runs → min others.packed others.runs < min costs.packed costs.runs → (body : SegmentBody) → IsDictBody dict slice others body → IsBest cells body
best-by-dict cells numbers dict scale vcodes vslice codes slice vwidth width base runs costs others from none scaling is coded vsame vleast vcost are same least most e cost count dearer body kept =
    let P : List (Option ℤ) → Type 0 = λ ns. IsScaling ns (Some scale) in
    let scaled : IsScaling (map number_of cells) (Some scale) = subst P from scaling in
    let by : Codings cells = record { scale = Some scale; scaling = inl (none, scaled); dict = dict; of_cells = is; codes = codes; coded = are } in
    let codes-are : vslice ≡ map (code_of scale) (map number_of cells) = vsame ∙ coded ∙ ap (map (code_of scale)) from in
    let vleast' : IsLeastWidth (map (code_of scale) (map number_of cells)) vwidth = IsLeastWidth-at vslice (map (code_of scale) (map number_of cells)) vwidth vwidth (sym codes-are) refl vleast in
    let Q : List ℕ → Type 0 = λ l. IsDictBody dict l others body in
    dict-best cells by others costs.packed costs.runs (omega (arith, most, cost.0)) (IsLeastWidth-at codes codes width others.width refl cost.0 least)
    (scaled-prices cells by scale vwidth width base runs costs others refl none scaled.1 vleast' vcost least e cost count)
    (λ s f. dearer) body (subst Q same kept)
