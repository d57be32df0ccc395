-- Bitmaps with the ends of a flush.
use Rattle.std.proofs.Common.{◌↔◌, ◌⊎◌, ap₂, ◌≡◌, ◌≢◌, ℕ, zero, suc, ◌+◌, ◌<◌, ◌≤◌, Bool, true, false, cond, ◌&&◌, ◌||◌, eqb, List, [], ◌∷◌, ◌++◌, map, take, get_or, set, length, Option, Some, None, inl, inr, refl, sym, ap, subst, ◌∙◌, arith}
use Rattle.std.specs.Prelude.{slice_get, slice_index}
use Rattle.std.specs.Prelude.{is_some}
use Rattle.std.proofs.lemmas.Option.{slice_get-get_or, unwrap_or-slice_get}
use Rattle.std.specs.List.{Contains}
use Rattle.std.proofs.lemmas.Bool.{cases_eq, eqb-true, or_right}
use Rattle.std.proofs.lemmas.List.Elements.{Contains-append_left, Contains-push, Contains-push_cases}
use Rattle.std.proofs.lemmas.Bool.Decides.{nat_tests}
use Rattle.std.proofs.lemmas.List.{append-nil, append_assoc, map-append, take_more, length-set, get_or_default, get_or-set_same, get_or-set_other, same_lists}
use Rattle.cs_types.specs.declared.Key.{Key}
use Rattle.cs_types.specs.Keys.{same_key}
use Rattle.cs_types.specs.Rows.{key_in}
use Rattle.delete_bitmap.specs.declared.MarkedEnd.{MarkedEnd}
use Rattle.delete_bitmap.specs.declared.MarkedEnd.TheVariants.{Plain, Stamped}
use Rattle.delete_bitmap.specs.Marks.{end_at, with_each}
use Rattle.delete_buffer.specs.Entries.{Entry, IsLeastEnd}
use Rattle.row_group.specs.Rows.{PackedRow}
use Rattle.row_group.specs.Groups.{Group, row_at, ArePlacesOf}
use Rattle.group_book.specs.Book.{End, Version, Ending}
use Rattle.group_book.specs.Book.End.{At}
use Rattle.group_book.specs.Turns.{least_entry, unless_ended, holds, end_in, flushed}
use Rattle.group_book.proofs.Keys.{key_here, key_is}
use Rattle.group_view.specs.Parts.{end_of_mark, packed_versions}
use Rattle.group_view.specs.Views.{endings_of}
use Rattle.group_view.specs.Books.{versions_of}
use Rattle.tuple_mover.specs.Flushed.{mark_in, next_mark, next_marks, IsEndedBy, HasMore}
use Rattle.tuple_mover.proofs.PlaceLemmas.{Place}
use Rattle.group_view.proofs.Noted.{ending_of}
use Rattle.tuple_mover.proofs.SpentLemmas.{least-is}

-- ---- one version

marked-ends : (o : Option ℕ) (lent : List Ending) (key : Key) (mark : Option MarkedEnd) → end_of_mark (mark_in o lent key mark) ≡ end_in o lent key (end_of_mark mark)
marked-ends None lent key mark = refl
marked-ends (Some e) lent key mark = step (holds lent key e)
  where
    step : (t : Bool) → end_of_mark (cond t (Some (Stamped e)) mark) ≡ cond t (Some (At e)) (end_of_mark mark)
    step true = refl
    step false = refl

-- a bitmap of a flush is that of the book
pub marks-flushed : (buffer lent : List Ending) (key : ℕ) (rows : List PackedRow) (marks : List (Option MarkedEnd))
    → versions_of (packed_versions key rows (next_marks buffer lent key rows marks)) ≡ map (flushed buffer lent) (versions_of (packed_versions key rows marks))
marks-flushed buffer lent key [] marks = refl
marks-flushed buffer lent key (row ∷ rows) [] = refl
marks-flushed buffer lent key (row ∷ rows) (mark ∷ marks) =
    let k = key_in key row.cells in
    ap (λ (end : Option End). record { key = k; begin = row.begin; end = end } ∷ versions_of (packed_versions key rows (next_marks buffer lent key rows marks)))
    (marked-ends (unless_ended (end_of_mark mark) (least_entry buffer k row.begin)) lent k mark)
    ∙ ap (λ (more : List Version). flushed buffer lent (record { key = k; begin = row.begin; end = end_of_mark mark }) ∷ more) (marks-flushed buffer lent key rows marks)

pub length-marks : (buffer lent : List Ending) (key : ℕ) (rows : List PackedRow) (marks : List (Option MarkedEnd)) → length (next_marks buffer lent key rows marks) ≡ length marks
length-marks buffer lent key [] marks = refl
length-marks buffer lent key (row ∷ rows) [] = refl
length-marks buffer lent key (row ∷ rows) (mark ∷ marks) = ap suc (length-marks buffer lent key rows marks)

get-marks : (buffer lent : List Ending) (key : ℕ) (rows : List PackedRow) (marks : List (Option MarkedEnd)) (p : ℕ) → p < length rows → p < length marks
    → get_or (next_marks buffer lent key rows marks) p None ≡ (let row : PackedRow = get_or rows p (record { cells = []; begin = 0 }) in next_mark buffer lent (key_in key row.cells) row.begin (get_or marks p None))
get-marks buffer lent key [] marks p in_rows in_marks = absurd (omega (arith, in_rows))
get-marks buffer lent key (row ∷ rows) [] p in_rows in_marks = absurd (omega (arith, in_marks))
get-marks buffer lent key (row ∷ rows) (mark ∷ marks) zero in_rows in_marks = refl
get-marks buffer lent key (row ∷ rows) (mark ∷ marks) (suc p) in_rows in_marks = get-marks buffer lent key rows marks p (omega (arith, in_rows)) (omega (arith, in_marks))

-- ---- recorded ends

-- a recorded end stays
next-recorded : (buffer lent : List Ending) (key : Key) (begin : ℕ) (mark : MarkedEnd) → next_mark buffer lent key begin (Some mark) ≡ Some mark
next-recorded buffer lent key begin Plain = refl
next-recorded buffer lent key begin (Stamped e) = refl

held-more : (xs : List Ending) (x : Ending) (key : Key) (e : ℕ) → holds (xs ++ x ∷ []) key e ≡ (holds xs key e || holds (x ∷ []) key e)
held-more [] x key e = refl
held-more (y ∷ xs) x key e = ap (λ (t : Bool). (same_key key y.key && eqb y.end e) || t) (held-more xs x key e) ∙ step (same_key key y.key && eqb y.end e) (holds xs key e) (holds (x ∷ []) key e)
  where
    step : (a b t : Bool) → (a || (b || t)) ≡ ((a || b) || t)
    step true b t = refl
    step false b t = refl

-- ---- more places

pub more-none : (kind : Place → Type 0) (places : List Place) → ((place : Place) → kind place → ⊥) → HasMore kind places places
more-none kind places none place = (
  (λ there. inl there),
  (λ either. elim either [
    | inl there ↦ there
    | inr is ↦ absurd (none place is)
  ]),
)

pub more-one : (kind : Place → Type 0) (places : List Place) (one : Place) → kind one → ((place : Place) → kind place → one ≡ place) → HasMore kind places (places ++ one ∷ [])
more-one kind places one is only place = (
  (λ there. elim (Contains-push_cases places one place there) [
    | inl old ↦ inl old
    | inr same ↦ inr (subst kind same is)
  ]),
  (λ either. elim either [
    | inl old ↦ Contains-append_left places (one ∷ []) place old
    | inr of ↦ subst (λ (p : Place). Contains (places ++ one ∷ []) p) (only place of) (Contains-push places one)
  ]),
)

more-both : (first second both : Place → Type 0) (a b c : List Place) → ((place : Place) → both place ↔ (first place ⊎ second place)) → HasMore first a b → HasMore second b c → HasMore both a c
more-both first second both a b c kinds earlier later place = (
  (λ there. elim ((later place).0 there) [
    | inl before ↦
        elim ((earlier place).0 before) [
          | inl old ↦ inl old
          | inr of ↦ inr ((kinds place).1 (inl of))
        ]
    | inr of ↦ inr ((kinds place).1 (inr of))
  ]),
  (λ either. elim either [
    | inl old ↦ (later place).1 (inl ((earlier place).1 (inl old)))
    | inr of ↦
        elim ((kinds place).0 of) [
          | inl before ↦ (later place).1 (inl ((earlier place).1 (inr before)))
          | inr after ↦ (later place).1 (inr after)
        ]
  ]),
)

more-same : (kind other : Place → Type 0) (a b : List Place) → ((place : Place) → kind place ↔ other place) → HasMore kind a b → HasMore other a b
more-same kind other a b kinds more place = (
  (λ there. elim ((more place).0 there) [
    | inl old ↦ inl old
    | inr of ↦ inr ((kinds place).0 of)
  ]),
  (λ either. elim either [
    | inl old ↦ (more place).1 (inl old)
    | inr of ↦ (more place).1 (inr ((kinds place).1 of))
  ]),
)

-- each of them is of the kind, where there were none before
pub of-kind : (kind : Place → Type 0) (places : List Place) → HasMore kind [] places → (place : Place) → Contains places place → kind place
of-kind kind places more place there = elim ((more place).0 there) [
  | inl none ↦ absurd (omega (arith, none.1))
  | inr of ↦ of
]

-- ---- at one position

one-held : (x : Ending) (key : Key) (e : ℕ) → holds (x ∷ []) key e ≡ true → (x.key ≡ key) × (x.end ≡ e)
one-held x key e held = step (same_key key x.key) (eqb x.end e) refl refl held
  where
    differ : false ≡ true → ⊥
    differ h = cc

    step : (p q : Bool) → same_key key x.key ≡ p → eqb x.end e ≡ q → ((p && q) || false) ≡ true → (x.key ≡ key) × (x.end ≡ e)
    step true true of_key number both = (key_is key x.key of_key, eqb-true x.end e number)
    step true false of_key number both = absurd (differ both)
    step false q of_key number both = absurd (differ both)

held-one : (x : Ending) (key : Key) (e : ℕ) → key ≡ x.key → e ≡ x.end → holds (x ∷ []) key e ≡ true
held-one x key e of_key same =
    ap (λ (t : Bool). (t && eqb x.end e) || false) (key_here key x.key (sym of_key)) ∙ ap (λ (t : Bool). t || false) (same-number x.end e (sym same))
  where
    same-number : (a b : ℕ) → a ≡ b → eqb a b ≡ true
    same-number a b is = grind (arith, nat_tests, is)

no-mark : (m : Option MarkedEnd) → is_some m ≡ false → m ≡ None
no-mark None none = refl
no-mark (Some m) none = cc

module _ (entries : List Entry) (x : Ending) (group : Group) (marks : List (Option MarkedEnd)) (q : ℕ) where
  abbrev pub IsEndedAt : Place → Type 0
  IsEndedAt place = (place.0 ≡ q) × IsEndedBy (endings_of entries) (x ∷ []) group marks place

  abbrev begin_there : ℕ
  begin_there = let row : PackedRow = row_at group q in row.begin

  pub entry-there : (begin : ℕ) (o : Option ℕ) → begin ≡ begin_there → IsLeastEnd entries x.key begin o → least_entry (endings_of entries) x.key begin_there ≡ o
  entry-there begin o same least = ap (λ (n : ℕ). least_entry (endings_of entries) x.key n) (sym same) ∙ least-is entries x.key begin o least

  number-there : (place : Place) → IsEndedAt place → (least_entry (endings_of entries) x.key begin_there ≡ Some place.1) × (x.end ≡ place.1)
  number-there place at =
      let (same, (within, unended, least, held)) = at in
      let row : PackedRow = row_at group place.0 in
      let (of_key, number) = one-held x (key_in group.key row.cells) place.1 held in (
        ap (λ (p : ℕ). let there : PackedRow = row_at group p in least_entry (endings_of entries) x.key there.begin) (sym same) ∙ ap (λ (key : Key). least_entry (endings_of entries) key row.begin) of_key ∙ least,
        number,
      )

  pub none-unended : (places : List Place) → least_entry (endings_of entries) x.key begin_there ≡ None → HasMore IsEndedAt places places
  none-unended places least =
      more-none IsEndedAt places (λ place at. differ place.1 (sym least ∙ (number-there place at).0))
    where
      differ : (e : ℕ) → None ≡ Some e → ⊥
      differ e h = cc

  pub none-other : (places : List Place) (e : ℕ) → least_entry (endings_of entries) x.key begin_there ≡ Some e → e ≢ x.end → HasMore IsEndedAt places places
  none-other places e least other =
      more-none IsEndedAt places (λ place at.
      other (same-some e x.end (sym least ∙ (number-there place at).0 ∙ ap (λ (n : ℕ). Some n) (sym (number-there place at).1))))
    where
      same-some : (a b : ℕ) → Some a ≡ Some b → a ≡ b
      same-some a b h = cc

  pub one-ended : (places : List Place) (e : ℕ) → q < length group.rows → (let row : PackedRow = row_at group q in key_in group.key row.cells ≡ x.key) → is_some (end_at marks q) ≡ false → least_entry (endings_of entries) x.key begin_there ≡ Some e → e ≡ x.end
      → HasMore IsEndedAt places (places ++ (q, e) ∷ [])
  one-ended places e within of_key none least same =
      let row : PackedRow = row_at group q in
      more-one IsEndedAt places (q, e)
      (refl, (within, no-mark (end_at marks q) none, ap (λ (key : Key). least_entry (endings_of entries) key row.begin) of_key ∙ least, held-one x (key_in group.key row.cells) e of_key same))
      (λ place at. ap₂ (λ (p n : ℕ). (p, n)) (sym at.0) (same ∙ (number-there place at).1))

-- ---- one place after the other

module _ (buffer : List Ending) (x : Ending) (group : Group) (marks : List (Option MarkedEnd)) (from : ℕ) where
  -- it ends the version, which stands at a place from one up to another
  abbrev pub IsEndedUpTo : ℕ → Place → Type 0
  IsEndedUpTo to place = ((i : ℕ) × (from ≤ i) × (i < to) × (slice_index group.places i ≡ place.0)) × IsEndedBy buffer (x ∷ []) group marks place

  pub up_to-none : (places : List Place) → HasMore (IsEndedUpTo from) places places
  up_to-none places = more-none (IsEndedUpTo from) places (λ place of. let ((i, low, high, is), ended) = of in absurd (omega (arith, low, high)))

  pub up_to-more : (to : ℕ) (a b c : List Place) → from ≤ to → HasMore (IsEndedUpTo to) a b → HasMore (λ (place : Place). (place.0 ≡ slice_index group.places to) × IsEndedBy buffer (x ∷ []) group marks place) b c
      → HasMore (IsEndedUpTo (to + 1)) a c
  up_to-more to a b c past earlier later =
      more-both (IsEndedUpTo to) (λ (place : Place). (place.0 ≡ slice_index group.places to) × IsEndedBy buffer (x ∷ []) group marks place) (IsEndedUpTo (to + 1)) a b c (λ place. (
        (λ of.
            let ((i, low, high, is), ended) = of in
            elim (cases_eq i to) [
              | inl last ↦ inr (sym is ∙ ap (slice_index group.places) last, ended)
              | inr before ↦ inl ((i, low, omega (arith, high, before), is), ended)
            ]),
        (λ either. elim either [
          | inl before ↦ let ((i, low, high, is), ended) = before in ((i, low, omega (arith, high), is), ended)
          | inr last ↦ let (same, ended) = last in ((to, past, omega arith, sym same), ended)
        ]),
      )) earlier later

  pub up_to-all : (to upto : ℕ) (a b : List Place) → ArePlacesOf group x.key from to → to ≤ upto → HasMore (IsEndedUpTo upto) a b → HasMore (IsEndedBy buffer (x ∷ []) group marks) a b
  up_to-all to upto a b found most more =
      more-same (IsEndedUpTo upto) (IsEndedBy buffer (x ∷ []) group marks) a b (λ place. (
        (λ of. let (there, ended) = of in ended),
        (λ ended.
            let (within, unended, least, held) = ended in
            let row : PackedRow = row_at group place.0 in
            let (i, low, high, is) = found.every place.0 within (sym (one-held x (key_in group.key row.cells) place.1 held).0) in
            ((i, low, omega (arith, high, most), is), ended)),
      )) more

-- ---- all entries

ended-more : (buffer done : List Ending) (x : Ending) (group : Group) (marks : List (Option MarkedEnd)) (place : Place)
    → IsEndedBy buffer (done ++ x ∷ []) group marks place ↔ (IsEndedBy buffer done group marks place ⊎ IsEndedBy buffer (x ∷ []) group marks place)
ended-more buffer done x group marks place =
    let row : PackedRow = row_at group place.0 in
    let key = key_in group.key row.cells in
    let more = held-more done x key place.1 in (
      (λ ended.
          let (within, unended, least, held) = ended in
          elim (either (holds done key place.1) (holds (x ∷ []) key place.1) (sym more ∙ held)) [
            | inl earlier ↦ inl (within, unended, least, earlier)
            | inr last ↦ inr (within, unended, least, last)
          ]),
      (λ both. elim both [
        | inl ended ↦
            let (within, unended, least, held) = ended in (within, unended, least, more ∙ ap (λ (t : Bool). t || holds (x ∷ []) key place.1) held)
        | inr ended ↦
            let (within, unended, least, held) = ended in (within, unended, least, more ∙ or_right (holds done key place.1) (holds (x ∷ []) key place.1) held)
      ]),
    )
  where
    either : (a b : Bool) → (a || b) ≡ true → (a ≡ true) ⊎ (b ≡ true)
    either true b is = inl refl
    either false b is = inr is

pub entries-none : (buffer : List Ending) (group : Group) (marks : List (Option MarkedEnd)) → HasMore (IsEndedBy buffer [] group marks) [] []
entries-none buffer group marks = more-none (IsEndedBy buffer [] group marks) [] (λ place ended. let (within, unended, least, held) = ended in differ held)
  where
    differ : false ≡ true → ⊥
    differ h = cc

pub entries-more : (buffer : List Ending) (entries : List Entry) (i : ℕ) (d : Entry) (group : Group) (marks : List (Option MarkedEnd)) (before after : List Place) → i < length entries
    → HasMore (IsEndedBy buffer (endings_of (take i entries)) group marks) [] before → HasMore (IsEndedBy buffer (ending_of (get_or entries i d) ∷ []) group marks) before after
    → HasMore (IsEndedBy buffer (endings_of (take (i + 1) entries)) group marks) [] after
entries-more buffer entries i d group marks before after there earlier later =
    let x : Ending = ending_of (get_or entries i d) in
    let done = endings_of (take i entries) in
    subst (λ (lent : List Ending). HasMore (IsEndedBy buffer lent group marks) [] after) (sym (map-append ending_of (take i entries) (get_or entries i d ∷ [])) ∙ ap endings_of (sym (take_more entries i d there)))
    (more-both (IsEndedBy buffer done group marks) (IsEndedBy buffer (x ∷ []) group marks) (IsEndedBy buffer (done ++ x ∷ []) group marks) [] before after (ended-more buffer done x group marks) earlier later)

-- ---- the places marked

abbrev next_at : List Ending → List Ending → Group → ℕ → Option MarkedEnd → Option MarkedEnd
next_at buffer lent group p mark = let row : PackedRow = row_at group p in next_mark buffer lent (key_in group.key row.cells) row.begin mark

-- the ends at these places are recorded, and elsewhere none that does not belong there
pub record AreMarked (buffer lent : List Ending) (group : Group) (old : List (Option MarkedEnd)) (done : List Place) (marks : List (Option MarkedEnd)) : Type 0 where
  pub counted : length marks ≡ length old
  pub own : (p : ℕ) → (get_or marks p None ≡ get_or old p None) ⊎ (get_or marks p None ≡ next_at buffer lent group p (get_or old p None))
  pub all : (place : Place) → Contains done place → get_or marks place.0 None ≡ next_at buffer lent group place.0 (get_or old place.0 None)

module _ (buffer lent : List Ending) (group : Group) (old : List (Option MarkedEnd)) (fitting : length old ≡ length group.rows) where
  pub marked-none : AreMarked buffer lent group old [] old
  marked-none = record { counted = refl; own = λ p. inl refl; all = λ place there. absurd (omega (arith, there.1)) }

  open-before : (place : Place) → IsEndedBy buffer lent group old place → get_or old place.0 None ≡ None
  open-before place ended = let (within, unended, least, held) = ended in sym (unwrap_or-slice_get old place.0 None) ∙ unended

  ended-next : (place : Place) → IsEndedBy buffer lent group old place → next_at buffer lent group place.0 (get_or old place.0 None) ≡ Some (Stamped place.1)
  ended-next place ended =
      let (within, unended, least, held) = ended in
      let row : PackedRow = row_at group place.0 in
      ap (next_at buffer lent group place.0) (open-before place ended)
      ∙ ap (λ (o : Option ℕ). mark_in o lent (key_in group.key row.cells) None) least
      ∙ ap (λ (t : Bool). cond t (Some (Stamped place.1)) None) held

  one-more : (done : List Place) (place : Place) (marks : List (Option MarkedEnd)) → ((other : Place) → Contains done other → get_or marks other.0 None ≡ next_at buffer lent group other.0 (get_or old other.0 None))
      → get_or marks place.0 None ≡ next_at buffer lent group place.0 (get_or old place.0 None)
      → (other : Place) → Contains (done ++ place ∷ []) other → get_or marks other.0 None ≡ next_at buffer lent group other.0 (get_or old other.0 None)
  one-more done place marks earlier last other there = elim (Contains-push_cases done place other there) [
    | inl before ↦ earlier other before
    | inr same ↦ subst (λ (p : Place). get_or marks p.0 None ≡ next_at buffer lent group p.0 (get_or old p.0 None)) same last
  ]

  pub marked-more : (done : List Place) (place : Place) (marks : List (Option MarkedEnd)) → IsEndedBy buffer lent group old place → AreMarked buffer lent group old done marks → AreMarked buffer lent group old (done ++ place ∷ []) (set marks place.0 (Some (Stamped place.1)))
  marked-more done place marks ended are =
      let (within, unended, least, held) = ended in
      let q = place.0 in
      let mark : Option MarkedEnd = Some (Stamped place.1) in
      let inside : q < length marks = omega (arith, are.counted, fitting, within) in
      let here : get_or (set marks q mark) q None ≡ next_at buffer lent group q (get_or old q None) = get_or-set_same marks q mark None inside ∙ sym (ended-next place ended) in
      record {
        counted = length-set marks q mark ∙ are.counted;
        own = λ p. elim (cases_eq p q) [
          | inl same ↦ inr (subst (λ (i : ℕ). get_or (set marks q mark) i None ≡ next_at buffer lent group i (get_or old i None)) (sym same) here)
          | inr other ↦
              subst (λ (m : Option MarkedEnd). (m ≡ get_or old p None) ⊎ (m ≡ next_at buffer lent group p (get_or old p None))) (sym (get_or-set_other marks q p mark None other)) (are.own p)
        ];
        all = one-more done place (set marks q mark) (λ earlier there. elim (cases_eq earlier.0 q) [
          | inl same ↦ subst (λ (i : ℕ). get_or (set marks q mark) i None ≡ next_at buffer lent group i (get_or old i None)) (sym same) here
          | inr other ↦ get_or-set_other marks q earlier.0 mark None other ∙ are.all earlier there
        ]) here;
      }

  pub marked-all : (places : List Place) (marks : List (Option MarkedEnd)) → ((place : Place) → IsEndedBy buffer lent group old place → Contains places place) → AreMarked buffer lent group old places marks → marks ≡ next_marks buffer lent group.key group.rows old
  marked-all places marks every are =
      same_lists marks (next_marks buffer lent group.key group.rows old) (are.counted ∙ sym (length-marks buffer lent group.key group.rows old))
      (λ p d l.
      let in_old : p < length old = omega (arith, l, are.counted) in
      let in_rows : p < length group.rows = omega (arith, in_old, fitting) in
      get_or_default marks p d None l
      ∙ at p in_rows
      ∙ sym (get_or_default (next_marks buffer lent group.key group.rows old) p d None (omega (arith, in_old, length-marks buffer lent group.key group.rows old)) ∙ get-marks buffer lent group.key group.rows old p in_rows in_old))
    where
      at : (p : ℕ) → p < length group.rows → get_or marks p None ≡ next_at buffer lent group p (get_or old p None)
      at p in_rows = elim (are.own p) [
        | inl same ↦ kept same (get_or old p None) refl
        | inr next ↦ next
      ]
        where
          key : Key
          key = let row : PackedRow = row_at group p in key_in group.key row.cells

          begin : ℕ
          begin = let row : PackedRow = row_at group p in row.begin

          kept : get_or marks p None ≡ get_or old p None → (m : Option MarkedEnd) → get_or old p None ≡ m → get_or marks p None ≡ next_at buffer lent group p (get_or old p None)
          kept same (Some m) is = same ∙ is ∙ sym (ap (next_at buffer lent group p) is ∙ next-recorded buffer lent key begin m)
          kept same None is = least (least_entry buffer key begin) refl
            where
              least : (o : Option ℕ) → least_entry buffer key begin ≡ o → get_or marks p None ≡ next_at buffer lent group p (get_or old p None)
              least None of = same ∙ is ∙ sym (ap (next_at buffer lent group p) is ∙ ap (λ (o : Option ℕ). mark_in o lent key None) of)
              least (Some e) of = held (holds lent key e) refl
                where
                  held : (t : Bool) → holds lent key e ≡ t → get_or marks p None ≡ next_at buffer lent group p (get_or old p None)
                  held true there = are.all (p, e) (every (p, e) (in_rows, unwrap_or-slice_get old p None ∙ is, of, there))
                  held false there =
                      same ∙ is ∙ sym (ap (next_at buffer lent group p) is ∙ ap (λ (o : Option ℕ). mark_in o lent key None) of ∙ ap (λ (t : Bool). cond t (Some (Stamped e)) None) there)

  marked-each : (done places : List Place) (marks : List (Option MarkedEnd)) → ((place : Place) → Contains places place → IsEndedBy buffer lent group old place) → AreMarked buffer lent group old done marks
      → AreMarked buffer lent group old (done ++ places) (with_each places marks)
  marked-each done [] marks ended are = subst (λ (all : List Place). AreMarked buffer lent group old all marks) (sym (append-nil done)) are
  marked-each done (place ∷ places) marks ended are =
      subst (λ (all : List Place). AreMarked buffer lent group old all (with_each (place ∷ places) marks)) (append_assoc done (place ∷ []) places)
      (marked-each (done ++ place ∷ []) places (set marks place.0 (Some (Stamped place.1))) (λ other inside. ended other (suc inside.0, omega (arith, inside.1), inside.2))
      (marked-more done place marks (ended place (0, omega arith, refl)) are))

  -- a bitmap in which all of them are marked at once
  pub marked-by : (places : List Place) → ((place : Place) → Contains places place → IsEndedBy buffer lent group old place) → ((place : Place) → IsEndedBy buffer lent group old place → Contains places place)
      → with_each places old ≡ next_marks buffer lent group.key group.rows old
  marked-by places ended every = marked-all places (with_each places old) every (marked-each [] places old ended marked-none)

  -- the end of a position has one number
  pub ended-once : (x y : Place) → IsEndedBy buffer lent group old x → IsEndedBy buffer lent group old y → x.0 ≡ y.0 → x.1 ≡ y.1
  ended-once x y first second same =
      let (within, unended, least, held) = first in
      let (inside, unmarked, other, lent_too) = second in
      same-number x.1 y.1 (sym least ∙ ap (λ (p : ℕ). let row : PackedRow = row_at group p in least_entry buffer (key_in group.key row.cells) row.begin) same ∙ other)
    where
      same-number : (a b : ℕ) → Some a ≡ Some b → a ≡ b
      same-number a b is = cc

  -- a position that they end has no end yet
  pub unmarked-there : (place : Place) → IsEndedBy buffer lent group old place → slice_get old place.0 ≡ Some None
  unmarked-there place ended =
      let (within, unended, least, held) = ended in
      let there : place.0 < length old = omega (arith, fitting, within) in
      slice_get-get_or old place.0 None there ∙ ap (λ (m : Option MarkedEnd). Some m) (sym (unwrap_or-slice_get old place.0 None) ∙ unended)
