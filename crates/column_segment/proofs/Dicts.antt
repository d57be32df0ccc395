-- A column's dictionary: its codes, their least width, and the least and the greatest cell.
use Rattle.std.proofs.Common.{◌≡◌, ℕ, ℤ, zero, suc, ◌+◌, ◌-◌, ◌<◌, ◌≤◌, ◌^◌, ◌↔◌, ◌⊎◌, inl, inr, List, [], ◌∷◌, ◌++◌, length, get_or, take, refl, sym, ◌∙◌, ap, subst, arith, Bool, false, IsNone, IsSome, Bor, All, Contains, Option, None, Some, slice_get, map, option_map}
use Rattle.std.specs.Int.{from_bool}
use Rattle.std.specs.Option.{option_copied, is_some}
use Rattle.std.specs.Ordering.{nat_cmp, int_cmp}
use Rattle.std.specs.Cmp.Lexicographic.{slice_cmp}
use Rattle.std.proofs.lemmas.Cmp.{int_cmp_total}
use Rattle.std.proofs.lemmas.Bool.{cases_lt}
use Rattle.std.proofs.lemmas.List.{get_or_default, get_or-map, length-map, get_or_append_left, get_or_push, length_push, take_more}
use Rattle.std.proofs.lemmas.Option.{slice_get-map, slice_get_within, get_or_from_slice_get, slice_get-get_or}
use Rattle.cs_types.specs.declared.Value.{Value}
use Rattle.cs_types.specs.declared.Value.TheVariants.{Null, Number, Text}
use Rattle.segment_dict.specs.declared.Dict.{Dict}
use Rattle.segment_dict.specs.declared.Dict.TheVariants.{Numbers, Texts}
use Rattle.segment_dict.specs.Dictionaries.{HasCell, cell_of, codes_of}
use Rattle.segment_dict.specs.Texts.{texts_in}
use Rattle.segment_dict.proofs.Orders.{text_order}
use Rattle.segment_dict.proofs.TextLemmas.{length-texts_from}
use Rattle.column_segment.specs.Cells.{number_of, text_of, text_cell, HasText, HasNoText, HasNoNumber, IsLeastCell, IsGreatestCell}
use Rattle.cs_types.specs.Rows.{number_cell}
use Rattle.column_segment.specs.Layouts.{IsLeastWidth, MatchNeighbours}
use Rattle.column_segment.specs.Dicts.{IsDictFor, IsDictCode, AreDictCodes, HasEntry, HasNumbers, AreNumberCodes, dict_cell, dict_codes, dict_nulls}
use Rattle.column_segment.proofs.Entries.{AreCells, code-injective, has-cell, code-exists, last-cell, bound-cell, no-cell}
use Rattle.column_segment.proofs.Layouts.{IsLeastWidth-greatest}

pub text_codes : (ends bytes : List ℕ) (nulls : Bool) → length ends + from_bool nulls ≡ codes_of (texts_in ends bytes) nulls
text_codes ends bytes nulls = ap (λ n. n + from_bool nulls) (sym (length-texts_from 0 ends bytes))

-- a cell that is no text is that of its number, and one that is no number that of its text
pub own-number : (cells : List Value) → HasNoText cells → (v : Value) → Contains cells v → number_cell (number_of v) ≡ v
own-number cells none v has = go v (at v has)
  where
    at : (v : Value) → Contains cells v → IsNone (text_of v)
    at v (k, l, e) = let P : Value → Type 0 = λ w. IsNone (text_of w) in subst P e (none k v l)

    go : (v : Value) → IsNone (text_of v) → number_cell (number_of v) ≡ v
    go Null h = refl
    go (Number n) h = refl
    go (Text t) h = cc

pub own-text : (cells : List Value) → HasNoNumber cells → (v : Value) → Contains cells v → text_cell (text_of v) ≡ v
own-text cells none v has = go v (at v has)
  where
    at : (v : Value) → Contains cells v → IsNone (number_of v)
    at v (k, l, e) = let P : Value → Type 0 = λ w. IsNone (number_of w) in subst P e (none k v l)

    go : (v : Value) → IsNone (number_of v) → text_cell (text_of v) ≡ v
    go Null h = refl
    go (Number n) h = cc
    go (Text t) h = refl

pub number-back : (o : Option ℤ) → number_of (number_cell o) ≡ o
number-back None = refl
number-back (Some n) = refl

text-back : (o : Option (List ℕ)) → text_of (text_cell o) ≡ o
text-back None = refl
text-back (Some t) = refl

pub are-numbers : AreCells int_cmp number_cell
are-numbers = record { total = int_cmp_total; null = refl; some = λ n e. cc; order = λ m n. refl }

pub are-texts : AreCells (slice_cmp nat_cmp) text_cell
are-texts = record { total = text_order; null = refl; some = λ t e. cc; order = λ s t. refl }

-- two codes of one cell are one
pub dict_cell-injective : (cells : List Value) (dict : Dict) → IsDictFor cells dict → (a b : ℕ) → a < dict_codes dict → b < dict_codes dict → dict_cell dict a ≡ dict_cell dict b → a ≡ b
dict_cell-injective cells (Numbers dict) is a b low_a low_b e =
    code-injective int_cmp_total dict.entries dict.nulls is.1.ascending a b low_a low_b (sym (number-back (cell_of dict.entries dict.nulls a)) ∙ ap number_of e ∙ number-back (cell_of dict.entries dict.nulls b))
dict_cell-injective cells (Texts dict) is a b low_a low_b e =
    code-injective text_order (texts_in dict.ends dict.bytes) dict.nulls is.2.ascending a b low_a low_b (sym (text-back (cell_of (texts_in dict.ends dict.bytes) dict.nulls a)) ∙ ap text_of e ∙ text-back (cell_of (texts_in dict.ends dict.bytes) dict.nulls b))

-- the dictionary has each of the cells
pub has-entries : (cells : List Value) (dict : Dict) → IsDictFor cells dict → All (HasEntry dict) cells
has-entries cells (Numbers dict) is = λ k d l. (is.0 k d l, has-cell number_of cells dict.entries dict.nulls is.1 (get_or cells k d) (k, l, get_or_default cells k (get_or cells k d) d l))
has-entries cells (Texts dict) is = λ k d l. (is.1 k d l, has-cell text_of cells (texts_in dict.ends dict.bytes) dict.nulls is.2 (get_or cells k d) (k, l, get_or_default cells k (get_or cells k d) d l))

no_texts-twice : (o : Option (List ℕ)) → IsNone o → IsSome o → ⊥
no_texts-twice None is_none is_some = cc
no_texts-twice (Some t) is_none is_some = cc

pub not-both : (cells : List Value) → HasNoText cells → HasText cells → ⊥
not-both cells none (k, v, l, e, some) =
    let P : Value → Type 0 = λ w. IsNone (text_of w) in
    no_texts-twice (text_of v) (subst P e (none k v l)) some

-- the dictionary of cells of which none is a text has their numbers
pub has-numbers : (cells : List Value) (dict : Dict) → HasNoText cells → IsDictFor cells dict → HasNumbers dict (map number_of cells)
has-numbers cells (Numbers dict) none is = λ k d l.
    let low : k < length cells = omega (arith, l, length-map cells number_of) in
    let P : Option ℤ → Type 0 = λ n. HasCell dict.entries dict.nulls n in
    subst P (sym (get_or-map number_of cells k Null d low)) (has-entries cells (Numbers dict) is k Null low).1
has-numbers cells (Texts dict) none is = absurd (not-both cells none is.0)

-- the codes of their numbers are those of the cells
own-codes : (cells : List Value) (dict : Dict) (codes : List ℕ) → HasNoText cells → AreNumberCodes dict (map number_of cells) codes → AreDictCodes dict cells codes
own-codes cells (Texts dict) codes none are = absurd are
own-codes cells (Numbers dict) codes none are = (are.0 ∙ length-map cells number_of, λ i v e. at i v e)
  where
    at : (i : ℕ) (v : Value) → slice_get cells i ≡ Some v → IsDictCode (Numbers dict) v (get_or codes i 0)
    at i v e =
        let code = are.1 i (number_of v) (slice_get-map number_of cells i ∙ ap (option_map number_of) e) in
        (code.0, ap number_cell code.1 ∙ own-number cells none v (i, slice_get_within cells i v e, get_or_from_slice_get cells i v v e))

pub number-codes : (cells : List Value) (numbers : List (Option ℤ)) (dict : Dict) (codes : List ℕ) → HasNoText cells → numbers ≡ map number_of cells → AreNumberCodes dict numbers codes → AreDictCodes dict cells codes
number-codes cells numbers dict codes none e are =
    let P : List (Option ℤ) → Type 0 = λ l. AreNumberCodes dict l codes in own-codes cells dict codes none (subst P e are)

-- each cell has a code
code-of-cell : (cells : List Value) (dict : Dict) → IsDictFor cells dict → (v : Value) → Contains cells v → (code : ℕ) × IsDictCode dict v code
code-of-cell cells (Numbers dict) is v has =
    let found = code-exists dict.entries dict.nulls (number_of v) (has-cell number_of cells dict.entries dict.nulls is.1 v has) in
    (found.0, (found.1.0, ap number_cell found.1.1 ∙ own-number cells is.0 v has))
code-of-cell cells (Texts dict) is v has =
    let found = code-exists (texts_in dict.ends dict.bytes) dict.nulls (text_of v) (has-cell text_of cells (texts_in dict.ends dict.bytes) dict.nulls is.2 v has) in
    (found.0, (found.1.0, ap text_cell found.1.1 ∙ own-text cells is.1 v has))

codes_for : (dict : Dict) (vs : List Value) → ((v : Value) → Contains vs v → (code : ℕ) × IsDictCode dict v code) → (codes : List ℕ) × AreDictCodes dict vs codes
codes_for dict [] f = ([], (refl, (λ i v e. cc)))
codes_for dict (v ∷ vs) f =
    let here = f v (0, omega arith, refl) in
    let rest = codes_for dict vs (λ w has. f w (suc has.0, omega (arith, has.1), has.2)) in
    (here.0 ∷ rest.0, (ap suc rest.1.0, at here.0 here.1 rest.0 rest.1.1))
  where
    at : (code : ℕ) → IsDictCode dict v code → (codes : List ℕ) → ((i : ℕ) (w : Value) → slice_get vs i ≡ Some w → IsDictCode dict w (get_or codes i 0)) → (i : ℕ) (w : Value) → slice_get (v ∷ vs) i ≡ Some w → IsDictCode dict w (get_or (code ∷ codes) i 0)
    at code is codes later zero w e = let P : Value → Type 0 = λ x. IsDictCode dict x code in subst P (let g : v ≡ w = cc in g) is
    at code is codes later (suc i) w e = later i w e

pub codes-exist : (cells : List Value) (dict : Dict) → IsDictFor cells dict → (codes : List ℕ) × AreDictCodes dict cells codes
codes-exist cells dict is = codes_for dict cells (code-of-cell cells dict is)

-- one code more
pub codes-more : (dict : Dict) (cells : List Value) (i : ℕ) (codes : List ℕ) (code : ℕ) (d : Value) → i < length cells → IsDictCode dict (get_or cells i d) code → AreDictCodes dict (take i cells) codes → AreDictCodes dict (take (i + 1) cells) (codes ++ code ∷ [])
codes-more dict cells i codes code d low is are =
    let P : List Value → Type 0 = λ l. AreDictCodes dict l (codes ++ code ∷ []) in
    subst P (sym (take_more cells i d low)) (
      omega (arith, length_push codes code, length_push (take i cells) (get_or cells i d), are.0),
      (λ k v e. at k v e (cases_lt k (length (take i cells)))),
    )
  where
    at : (k : ℕ) (v : Value) → slice_get (take i cells ++ get_or cells i d ∷ []) k ≡ Some v → (k < length (take i cells)) ⊎ (length (take i cells) ≤ k) → IsDictCode dict v (get_or (codes ++ code ∷ []) k 0)
    at k v e (inl before) =
        let f : get_or (take i cells) k v ≡ v = sym (get_or_append_left (take i cells) (get_or cells i d ∷ []) v k before) ∙ get_or_from_slice_get (take i cells ++ get_or cells i d ∷ []) k v v e in
        let g : slice_get (take i cells) k ≡ Some v = slice_get-get_or (take i cells) k v before ∙ ap Some f in
        let Q : ℕ → Type 0 = λ n. IsDictCode dict v n in
        subst Q (sym (get_or_append_left codes (code ∷ []) 0 k (omega (arith, before, are.0)))) (are.1 k v g)
    at k v e (inr last) =
        let within : k < length (take i cells ++ get_or cells i d ∷ []) = slice_get_within (take i cells ++ get_or cells i d ∷ []) k v e in
        let same : k ≡ length (take i cells) = omega (arith, last, within, length_push (take i cells) (get_or cells i d)) in
        let f : get_or cells i d ≡ v = sym (get_or_push (take i cells) (get_or cells i d) v k (sym same)) ∙ get_or_from_slice_get (take i cells ++ get_or cells i d ∷ []) k v v e in
        let Q : ℕ → Type 0 = λ n. IsDictCode dict v n in
        let R : Value → Type 0 = λ w. IsDictCode dict w code in
        subst Q (sym (get_or_push codes code 0 k (omega (arith, same, are.0)))) (subst R f is)

-- the code of a cell in its place
code-at : (dict : Dict) (cells : List Value) (codes : List ℕ) → AreDictCodes dict cells codes → (k : ℕ) → k < length cells → IsDictCode dict (get_or cells k Null) (get_or codes k 0)
code-at dict cells codes are k low = are.1 k (get_or cells k Null) (slice_get-get_or cells k Null low)

-- neighbours have equal codes where they are equal
pub dict-neighbours : (cells : List Value) (dict : Dict) → IsDictFor cells dict → (codes : List ℕ) → AreDictCodes dict cells codes → MatchNeighbours cells codes
dict-neighbours cells dict is codes are = (are.0, (λ i low. both i low))
  where
    both : (i : ℕ) → i + 1 < length cells → (get_or codes i 0 ≡ get_or codes (i + 1) 0) ↔ (slice_get cells i ≡ slice_get cells (i + 1))
    both i low =
        let v : Value = get_or cells i Null in
        let w : Value = get_or cells (i + 1) Null in
        let here : slice_get cells i ≡ Some v = slice_get-get_or cells i Null (omega (arith, low)) in
        let next : slice_get cells (i + 1) ≡ Some w = slice_get-get_or cells (i + 1) Null low in
        let a = code-at dict cells codes are i (omega (arith, low)) in
        let b = code-at dict cells codes are (i + 1) low in (
          (λ e. here ∙ ap Some (sym a.1 ∙ ap (dict_cell dict) e ∙ b.1) ∙ sym next),
          (λ e. let f : Some v ≡ Some w = sym here ∙ e ∙ next in
              dict_cell-injective cells dict is (get_or codes i 0) (get_or codes (i + 1) 0) a.0 b.0 (a.1 ∙ (let g : v ≡ w = cc in g) ∙ sym b.1)),
        )

-- the cell of the last code is one of the cells
pub last-of : (cells : List Value) (dict : Dict) → IsDictFor cells dict → 0 < length cells → (v : Value) × Contains cells v × (dict_cell dict (dict_codes dict - 1) ≡ v)
last-of cells (Numbers dict) is some =
    let last = last-cell number_of cells dict.entries dict.nulls is.1 some in
    (last.0, last.1, ap number_cell last.2 ∙ own-number cells is.0 last.0 last.1)
last-of cells (Texts dict) is some =
    let last = last-cell text_of cells (texts_in dict.ends dict.bytes) dict.nulls is.2 some in
    (last.0, last.1, ap text_cell last.2 ∙ own-text cells is.1 last.0 last.1)

-- the width with room for the last code is the least one
pub dict-width : (cells : List Value) (dict : Dict) (codes : List ℕ) (width : ℕ) → IsDictFor cells dict → AreDictCodes dict cells codes → 0 < length cells → dict_codes dict - 1 < 2 ^ width → ((other : ℕ) → dict_codes dict - 1 < 2 ^ other → width ≤ other) → IsLeastWidth codes width
dict-width cells dict codes width is are some room least =
    IsLeastWidth-greatest codes (dict_codes dict - 1) width
    (λ k d low.
    let there : k < length cells = omega (arith, low, are.0) in
    let at = code-at dict cells codes are k there in
    let same : get_or codes k d ≡ get_or codes k 0 = get_or_default codes k d 0 low in
    omega (arith, at.0, same))
    (inr reached) room least
  where
    reached : Contains codes (dict_codes dict - 1)
    reached =
        let last = last-of cells dict is some in
        let k : ℕ = last.1.0 in
        let there : last.1.0 < length cells = last.1.1 in
        let low : last.1.0 < length codes = omega (arith, there, are.0) in
        let v : slice_get cells k ≡ Some last.0 = slice_get-get_or cells k last.0 there ∙ ap Some last.1.2 in
        let at = are.1 k last.0 v in
        let positive : 0 < dict_codes dict = omega (arith, at.0) in
        let same : get_or codes k 0 ≡ dict_codes dict - 1 = dict_cell-injective cells dict is (get_or codes k 0) (dict_codes dict - 1) at.0 (omega (arith, positive)) (at.1 ∙ sym last.2) in
        (k, low, get_or_default codes k (dict_codes dict - 1) 0 low ∙ same)

-- the first entry is the least cell, and the last the greatest
pub dict-bounds : (cells : List Value) (dict : Dict) → IsDictFor cells dict → from_bool (dict_nulls dict) < dict_codes dict → IsLeastCell cells (dict_cell dict (from_bool (dict_nulls dict))) × IsGreatestCell cells (dict_cell dict (dict_codes dict - 1))
dict-bounds cells (Numbers dict) is more = bound-cell are-numbers number_of cells (own-number cells is.0) dict.entries dict.nulls is.1 (omega (arith, more))
dict-bounds cells (Texts dict) is more = bound-cell are-texts text_of cells (own-text cells is.1) (texts_in dict.ends dict.bytes) dict.nulls is.2 (omega (arith, more))

no-bounds : (cells : List Value) → All (λ v. v ≡ Null) cells → IsLeastCell cells Null × IsGreatestCell cells Null
no-bounds cells all = (((λ _. all), (λ ne. absurd (ne refl))), ((λ _. all), (λ ne. absurd (ne refl))))

pub dict-no-bounds : (cells : List Value) (dict : Dict) → IsDictFor cells dict → dict_codes dict ≡ from_bool (dict_nulls dict) → IsLeastCell cells Null × IsGreatestCell cells Null
dict-no-bounds cells (Numbers dict) is none = no-bounds cells (no-cell are-numbers number_of cells (own-number cells is.0) dict.entries dict.nulls is.1 (omega (arith, none)))
dict-no-bounds cells (Texts dict) is none = no-bounds cells (no-cell are-texts text_of cells (own-text cells is.1) (texts_in dict.ends dict.bytes) dict.nulls is.2 (omega (arith, none)))

pub nulls-le : (dict : Dict) → from_bool (dict_nulls dict) ≤ dict_codes dict
nulls-le (Numbers dict) = omega arith
nulls-le (Texts dict) = omega arith

-- one cell more
pub All-more : (P : Value → Type 0) (cells : List Value) (i : ℕ) (d : Value) → i < length cells → All P (take i cells) → P (get_or cells i d) → All P (take (i + 1) cells)
All-more P cells i d low all here =
    let Q : List Value → Type 0 = λ l. All P l in
    subst Q (sym (take_more cells i d low))
    (λ k e l. elim (cases_lt k (length (take i cells))) [
      | inl before ↦ subst P (sym (get_or_append_left (take i cells) (get_or cells i d ∷ []) e k before)) (all k e before)
      | inr last ↦
          let same : length (take i cells) ≡ k = omega (arith, last, l, length_push (take i cells) (get_or cells i d)) in
          subst P (sym (get_or_push (take i cells) (get_or cells i d) e k same)) here
    ])

pub copied-none : (r : Option (Bor (List ℕ))) (o : Option (List ℕ)) → option_copied r ≡ o → is_some r ≡ false → is_some o ≡ false
copied-none None o e h = ap is_some (sym e)
copied-none (Some t) o e h = cc

-- bare numbers as cells, and back
pub numbers-back : (numbers : List (Option ℤ)) → numbers ≡ map number_of (map number_cell numbers)
numbers-back [] = refl
numbers-back (n ∷ numbers) = ap (λ (o : Option ℤ). o ∷ numbers) (sym (number-back n)) ∙ ap (λ (rest : List (Option ℤ)). number_of (number_cell n) ∷ rest) (numbers-back numbers)

pub bare-no-text : (numbers : List (Option ℤ)) → HasNoText (map number_cell numbers)
bare-no-text numbers = λ k d l. go (get_or numbers k None) k d l (get_or-map number_cell numbers k None d (omega (arith, l, length-map numbers number_cell)))
  where
    bare : (o : Option ℤ) → IsNone (text_of (number_cell o))
    bare None = refl
    bare (Some n) = refl

    go : (o : Option ℤ) (k : ℕ) (d : Value) → k < length (map number_cell numbers) → get_or (map number_cell numbers) k d ≡ number_cell o → IsNone (text_of (get_or (map number_cell numbers) k d))
    go o k d l e = let P : Value → Type 0 = λ v. IsNone (text_of v) in subst P (sym e) (bare o)

-- cells of which none is a text are bare numbers
pub cells-bare : (cells : List Value) → HasNoText cells → map number_cell (map number_of cells) ≡ cells
cells-bare [] none = refl
cells-bare (v ∷ cells) none =
    ap (λ (w : Value). w ∷ map number_cell (map number_of cells)) (own-number (v ∷ cells) none v (zero, omega arith, refl))
    ∙ ap (λ (rest : List Value). v ∷ rest) (cells-bare cells (λ k d l. none (suc k) d (omega arith)))
