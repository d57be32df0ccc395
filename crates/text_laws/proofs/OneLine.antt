-- No line of an event holds a byte 10.
use Rattle.std.proofs.Common.{◌≡◌, ℕ, zero, suc, ◌+◌, ◌-◌, ◌/◌, ◌%◌, ◌^◌, ◌==◌, ℤ, pos, int_lt, unsigned_abs, List, [], ◌∷◌, ◌++◌, length, map, replicate, refl, sym, ◌∙◌, cond, not, Bool, true, false, true≢false, nat_le, nat_lt, slice_index_or, All, codes, decimal, arith, IsTrue, Option, None, Some}
use Rattle.std.specs.Fmt.{digits, digits_onto, digit_glyph, sign_text}
use Rattle.std.specs.List.{AllByRecursion, list_all, flat_map}
use Rattle.std.proofs.lemmas.Bool.{and_from, and_parts, leb-true, ne_eqb, not_from_false}
use Rattle.std.proofs.lemmas.List.Elements.{All-nil, All-cons, All-head, All-tail, All-append, All-contains, All-map, All-weaker}
use Rattle.std.proofs.lemmas.List.Folds.{list_all-append}
use Rattle.std.proofs.lemmas.List.Sums.{AllPass-from_list_all}
use Rattle.cs_types.specs.declared.ColumnType.{ColumnType}
use Rattle.cs_types.specs.declared.ColumnType.TheVariants.{TinyInt, SmallInt, Int, BigInt, Decimal, Date, VarChar}
use Rattle.cs_types.specs.declared.Encoding.{Encoding}
use Rattle.cs_types.specs.declared.Encoding.TheVariants.{ValuePacked, ValueRuns, DictPacked, DictRuns}
use Rattle.cs_types.specs.declared.Key.{Key}
use Rattle.cs_types.specs.declared.Loose.{Loose}
use Rattle.cs_types.specs.declared.Loose.TheVariants as loose
use Rattle.cs_types.specs.declared.Schema.{Schema}
use Rattle.cs_types.specs.declared.Value.TheVariants as value
use Rattle.cs_types.specs.Calendar.{year_of, month_of, day_of_month}
use Rattle.cs_types.specs.Kinds.{is_text_byte, has_text_bytes}
use Rattle.cs_types.specs.Text.{padded_decimal, scaled_text, number_text, civil_text, quoted_byte, loose_text, loose_of, value_text}
use Rattle.cs_model.specs.declared.entry.Entry.{Entry}
use Rattle.cs_model.specs.declared.entry.Entry.TheVariants.{Start, Finish, End, Mover}
use Rattle.cs_model.specs.declared.entry.Refusal.{Refusal}
use Rattle.cs_model.specs.declared.entry.Refusal.TheVariants as refusal
use Rattle.cs_model.specs.declared.entry.Reply.{Reply}
use Rattle.cs_model.specs.declared.entry.Reply.TheVariants.{Done, Affected, Rows, Groups, Segments, Left, Refused}
use Rattle.cs_model.specs.declared.report.GroupLine.{GroupLine}
use Rattle.cs_model.specs.declared.report.GroupState.{GroupState}
use Rattle.cs_model.specs.declared.report.GroupState.TheVariants.{Invisible, Opened, Closed, Compressed, Tombstone}
use Rattle.cs_model.specs.declared.report.SegmentLine.{SegmentLine}
use Rattle.cs_model.specs.declared.work.Actor.{Actor}
use Rattle.cs_model.specs.declared.work.Actor.TheVariants as actor
use Rattle.cs_model.specs.declared.work.Work.{Work}
use Rattle.cs_model.specs.declared.work.Work.TheVariants as work
use Rattle.cs_model.specs.Works.{session_text, actor_text, renewed_text, merged_text, rows_text, counted_text, work_text}
use Rattle.cs_model.specs.Text.{next_cell, cells_text, row_line, key_kind, key_text, refusal_text, segments_lines, next_part, parts_text, report_line, state_code, state_name, group_line, encoding_name, bit_of, column_kind, segment_line, left_line, ok_line, head_line, under_lines, statement_text, entry_lines}
use Rattle.text_laws.specs.Lines.{IsOneLine, HasRowBytes, HasSegmentBytes, HasReplyBytes, HasTextBytes}

-- ---- bytes that end no line

abbrev is_inside : ℕ → Bool
is_inside c = not (c == 10)

-- each byte is such a one
abbrev IsOne : List ℕ → Type 0
IsOne bytes = list_all is_inside bytes ≡ true

abbrev AreOne : List (List ℕ) → Type 0
AreOne parts = AllByRecursion IsOne parts

inside : (c : ℕ) → (c ≡ 10 → ⊥) → is_inside c ≡ true
inside c other = not_from_false (c == 10) (ne_eqb c 10 other)

holds_no_end : (line : List ℕ) → IsOne line → IsOneLine line
holds_no_end line one end = true≢false (sym (All-contains (λ c. is_inside c ≡ true) line 10 (AllPass-from_list_all is_inside line one) end))

both : (front rest : List ℕ) → IsOne front → IsOne rest → IsOne (front ++ rest)
both front rest one also = list_all-append is_inside front rest ∙ and_from (list_all is_inside front) (list_all is_inside rest) one also

-- parts, one after another
abbrev joined : List ℕ → List (List ℕ) → List ℕ
joined front [] = front
joined front (part ∷ parts) = joined (front ++ part) parts

joined_one : (front : List ℕ) (parts : List (List ℕ)) → IsOne front → AreOne parts → IsOne (joined front parts)
joined_one front [] one are = one
joined_one front (part ∷ parts) one are = joined_one (front ++ part) parts (both front part one are.0) are.1

chosen_one : (test : Bool) (bytes other : List ℕ) → IsOne bytes → IsOne other → IsOne (cond test bytes other)
chosen_one true bytes other one also = one
chosen_one false bytes other one also = also

-- ---- numbers

glyph_inside : (small : Bool) (d : ℕ) → is_inside (cond small (48 + d) (87 + d)) ≡ true
glyph_inside true d = inside (48 + d) (λ same. omega arith)
glyph_inside false d = inside (87 + d) (λ same. omega arith)

digits_one : (k n : ℕ) (bytes : List ℕ) → IsOne bytes → IsOne (digits_onto k 10 false n bytes)
digits_one zero n bytes one = one
digits_one (suc k) n bytes one =
    let digit = digit_glyph false (n % 10) in
    let more : IsOne (digit ∷ bytes) = and_from (is_inside digit) (list_all is_inside bytes) (glyph_inside (nat_lt (n % 10) 10) (n % 10)) one in
    chosen_one (n / 10 == 0) (digit ∷ bytes) (digits_onto k 10 false (n / 10) (digit ∷ bytes)) more (digits_one k (n / 10) (digit ∷ bytes) more)

decimal_one : (n : ℕ) → IsOne (decimal n)
unfolding digits
decimal_one n = digits_one 64 n [] refl

zeros_one : (n : ℕ) → IsOne (replicate n 48)
zeros_one zero = refl
zeros_one (suc n) = zeros_one n

padded_one : (width n : ℕ) → IsOne (padded_decimal width n)
padded_one width n = both (replicate (width - length (decimal n)) 48) (decimal n) (zeros_one (width - length (decimal n))) (decimal_one n)

scaled_one : (n s : ℕ) → IsOne (scaled_text n s)
scaled_one n s =
    chosen_one (s == 0) (decimal n) (decimal (n / 10 ^ s) ++ 46 ∷ [] ++ padded_decimal s (n % 10 ^ s)) (decimal_one n)
    (joined_one (decimal (n / 10 ^ s)) ((46 ∷ []) ∷ padded_decimal s (n % 10 ^ s) ∷ []) (decimal_one (n / 10 ^ s)) (refl, (padded_one s (n % 10 ^ s), tt)))

sign_one : (negative : Bool) → IsOne (sign_text negative)
sign_one true = refl
sign_one false = refl

number_one : (m : ℤ) (s : ℕ) → IsOne (number_text m s)
number_one m s = both (sign_text (int_lt m (pos 0))) (scaled_text (unsigned_abs m) s) (sign_one (int_lt m (pos 0))) (scaled_one (unsigned_abs m) s)

civil_one : (y m d : ℕ) → IsOne (civil_text y m d)
civil_one y m d =
    joined_one (padded_decimal 4 y) ((45 ∷ []) ∷ padded_decimal 2 m ∷ (45 ∷ []) ∷ padded_decimal 2 d ∷ []) (padded_one 4 y)
    (refl, (padded_one 2 m, (refl, (padded_one 2 d, tt))))

-- ---- values

byte_one : (c : ℕ) → is_text_byte c ≡ true → IsOne (quoted_byte c)
byte_one c text =
    let high = leb-true 32 c (and_parts (nat_le 32 c) (nat_le c 126) text).0 in
    chosen_one (c == 39) (39 ∷ 39 ∷ []) (c ∷ []) refl (and_from (is_inside c) true (inside c (λ same. omega arith)) refl)

bytes_one : (text : List ℕ) → list_all is_text_byte text ≡ true → IsOne (flat_map quoted_byte text)
bytes_one [] all = refl
bytes_one (c ∷ text) all =
    let parts = and_parts (is_text_byte c) (list_all is_text_byte text) all in
    both (quoted_byte c) (flat_map quoted_byte text) (byte_one c parts.0) (bytes_one text parts.1)

loose_one : (cell : Loose) → has_text_bytes cell ≡ true → IsOne (loose_text cell)
loose_one loose.Null all = refl
loose_one (loose.Number m s) all = number_one m s
loose_one (loose.Text text) all = joined_one (39 ∷ []) (flat_map quoted_byte text ∷ (39 ∷ []) ∷ []) refl (bytes_one text all, (refl, tt))
loose_one (loose.Day day) all = civil_one (year_of day) (month_of day) (day_of_month day)

-- a number has no text
number_bytes : (kind : ColumnType) (z : ℤ) → has_text_bytes (loose_of kind (value.Number z)) ≡ true
number_bytes TinyInt z = refl
number_bytes SmallInt z = refl
number_bytes Int z = refl
number_bytes BigInt z = refl
number_bytes (Decimal p s) z = refl
number_bytes Date z = refl
number_bytes (VarChar n) z = refl

key_one : (schema : Schema) (key : Key) → IsOne (key_text schema key)
key_one schema key = loose_one (loose_of (key_kind schema) (value.Number key.0)) (number_bytes (key_kind schema) key.0)

-- ---- actors and works

session_one : (session : ℕ) → IsOne (session_text session)
session_one session = both (codes "s") (decimal session) refl (decimal_one session)

actor_one : (a : Actor) → IsOne (actor_text a)
actor_one (actor.Session n) = session_one n
actor_one (actor.Mover n) = both (codes "m") (decimal n) refl (decimal_one n)

renewed_one : (words : List ℕ) (source fresh : ℕ) → IsOne words → IsOne (renewed_text words source fresh)
renewed_one words source fresh one =
    joined_one words (codes " " ∷ decimal source ∷ codes " to " ∷ decimal fresh ∷ []) one (refl, (decimal_one source, (refl, (decimal_one fresh, tt))))

merged_one : (words : List ℕ) (first second fresh : ℕ) → IsOne words → IsOne (merged_text words first second fresh)
merged_one words first second fresh one =
    joined_one words (codes " " ∷ decimal first ∷ codes " " ∷ decimal second ∷ codes " to " ∷ decimal fresh ∷ []) one
    (refl, (decimal_one first, (refl, (decimal_one second, (refl, (decimal_one fresh, tt))))))

rows_one : (words : List ℕ) (rows : ℕ) → IsOne words → IsOne (rows_text words rows)
rows_one words rows one = joined_one words (codes " rows " ∷ decimal rows ∷ []) one (refl, (decimal_one rows, tt))

counted_one : (words : List ℕ) (count : ℕ) → IsOne words → IsOne (counted_text words count)
counted_one words count one = joined_one words (codes " " ∷ decimal count ∷ []) one (refl, (decimal_one count, tt))

work_one : (w : Work) → IsOne (work_text w)
work_one (work.ClaimCompress source fresh) = renewed_one (codes "claim compress") source fresh refl
work_one (work.InstallCompress source fresh rows) = rows_one (renewed_text (codes "install compress") source fresh) rows (renewed_one (codes "install compress") source fresh refl)
work_one (work.ReleaseCompress source fresh) = renewed_one (codes "release compress") source fresh refl
work_one (work.ClaimRebuild source fresh) = renewed_one (codes "claim rebuild") source fresh refl
work_one (work.InstallRebuild source fresh rows) = rows_one (renewed_text (codes "install rebuild") source fresh) rows (renewed_one (codes "install rebuild") source fresh refl)
work_one (work.ReleaseRebuild source fresh) = renewed_one (codes "release rebuild") source fresh refl
work_one (work.ClaimMerge first second fresh) = merged_one (codes "claim merge") first second fresh refl
work_one (work.InstallMerge first second fresh rows) =
    rows_one (merged_text (codes "install merge") first second fresh) rows (merged_one (codes "install merge") first second fresh refl)
work_one (work.ReleaseMerge first second fresh) = merged_one (codes "release merge") first second fresh refl
work_one (work.ClaimFlush entries) = counted_one (codes "claim flush") entries refl
work_one (work.InstallFlush entries) = counted_one (codes "install flush") entries refl
work_one (work.ReleaseFlush entries) = counted_one (codes "release flush") entries refl
work_one (work.Settle ends) = counted_one (codes "settle") ends refl
work_one (work.Clear groups) = counted_one (codes "clear") groups refl
work_one (work.Close group) = counted_one (codes "close") group refl
work_one work.Memory = refl

-- ---- refusals

refusal_one : (schema : Schema) (why : Refusal) → IsOne (refusal_text schema why)
refusal_one schema (refusal.Reading number at) =
    joined_one (codes "error ") (decimal number ∷ codes " at " ∷ decimal at ∷ []) refl (decimal_one number, (refl, (decimal_one at, tt)))
refusal_one schema (refusal.Valued number row column) =
    joined_one (codes "error ") (decimal number ∷ codes " row " ∷ decimal row ∷ codes " column " ∷ decimal column ∷ []) refl
    (decimal_one number, (refl, (decimal_one row, (refl, (decimal_one column, tt)))))
refusal_one schema (refusal.Locked key txn) =
    joined_one (codes "error 1222 key ") (key_text schema key ∷ codes " transaction " ∷ decimal txn ∷ []) refl (key_one schema key, (refl, (decimal_one txn, tt)))
refusal_one schema (refusal.Changed key txn commit) =
    joined_one (codes "error 3960 key ") (key_text schema key ∷ codes " transaction " ∷ decimal txn ∷ codes " commit " ∷ decimal commit ∷ []) refl
    (key_one schema key, (refl, (decimal_one txn, (refl, (decimal_one commit, tt)))))
refusal_one schema (refusal.Duplicate key) = both (codes "error 2627 key ") (key_text schema key) refl (key_one schema key)
refusal_one schema (refusal.NoTxn number) = both (codes "error ") (decimal number) refl (decimal_one number)
refusal_one schema refusal.Memory = refl

-- ---- the lines under a reply

next_cells_one : (cells : List Loose) → HasRowBytes cells → IsOne (flat_map next_cell cells)
next_cells_one [] all = refl
next_cells_one (cell ∷ cells) all =
    both (next_cell cell) (flat_map next_cell cells) (both (codes ", ") (loose_text cell) refl (loose_one cell (All-head (λ c. IsTrue (has_text_bytes c)) cell cells all)))
    (next_cells_one cells (All-tail (λ c. IsTrue (has_text_bytes c)) cell cells all))

row_one : (row : List Loose) → HasRowBytes row → IsOne (row_line row)
row_one [] all = refl
row_one (cell ∷ cells) all =
    both (codes "  ") (cells_text (cell ∷ cells)) refl
    (both (loose_text cell) (flat_map next_cell cells) (loose_one cell (All-head (λ c. IsTrue (has_text_bytes c)) cell cells all))
    (next_cells_one cells (All-tail (λ c. IsTrue (has_text_bytes c)) cell cells all)))

next_parts_one : (parts : List (List ℕ)) → AreOne parts → IsOne (flat_map next_part parts)
next_parts_one [] are = refl
next_parts_one (part ∷ parts) are = both (next_part part) (flat_map next_part parts) (both (codes ", ") part refl are.0) (next_parts_one parts are.1)

report_one : (part : List ℕ) (parts : List (List ℕ)) → IsOne part → AreOne parts → IsOne (report_line (part ∷ parts))
report_one part parts one are = both (codes "  ") (parts_text (part ∷ parts)) refl (both part (flat_map next_part parts) one (next_parts_one parts are))

state_one : (state : GroupState) → IsOne (state_name state)
state_one Invisible = refl
state_one Opened = refl
state_one Closed = refl
state_one Compressed = refl
state_one Tombstone = refl

group_one : (line : GroupLine) → IsOne (group_line line)
group_one line =
    report_one (decimal line.id) (decimal (state_code line.state) ∷ state_name line.state ∷ decimal line.total ∷ decimal line.deleted ∷ []) (decimal_one line.id)
    (decimal_one (state_code line.state), (state_one line.state, (decimal_one line.total, (decimal_one line.deleted, tt))))

encoding_one : (encoding : Encoding) → IsOne (encoding_name encoding)
encoding_one ValuePacked = refl
encoding_one ValueRuns = refl
encoding_one DictPacked = refl
encoding_one DictRuns = refl

segment_one : (schema : Schema) (line : SegmentLine) → HasSegmentBytes schema line → IsOne (segment_line schema line)
segment_one schema line bytes =
    let kind = column_kind schema line.column in
    report_one (decimal line.id)
    (decimal line.column ∷ encoding_name line.encoding ∷ decimal line.rows ∷ decimal (bit_of line.nulls) ∷ decimal line.words ∷ value_text kind line.least ∷ value_text kind line.greatest ∷ [])
    (decimal_one line.id) (
      decimal_one line.column,
      (
        encoding_one line.encoding,
        (
          decimal_one line.rows,
          (
            decimal_one (bit_of line.nulls),
            (
              decimal_one line.words,
              (loose_one (loose_of kind line.least) bytes.0, (loose_one (loose_of kind line.greatest) bytes.1, tt)),
            ),
          ),
        ),
      ),
    )

left_one : (held : ℕ × Actor) → IsOne (left_line held)
left_one held = report_one (decimal held.0) (actor_text held.1 ∷ []) (decimal_one held.0) (actor_one held.1, tt)

counts_one : (segments : Option (ℕ × ℕ)) → All IsOne (segments_lines segments)
counts_one None = All-nil IsOne
counts_one (Some counts) =
    All-cons IsOne (codes "  segments read " ++ decimal counts.0 ++ codes ", skipped " ++ decimal counts.1) []
    (joined_one (codes "  segments read ") (decimal counts.0 ∷ codes ", skipped " ∷ decimal counts.1 ∷ []) refl (decimal_one counts.0, (refl, (decimal_one counts.1, tt))))
    (All-nil IsOne)

under_one : (schema : Schema) (reply : Reply) → HasReplyBytes schema reply → All IsOne (under_lines schema reply)
under_one schema Done bytes = All-nil IsOne
under_one schema (Affected count) bytes = All-nil IsOne
under_one schema (Rows rows segments) bytes =
    All-append IsOne (map row_line rows) (segments_lines segments)
    (All-map IsOne row_line rows (All-weaker HasRowBytes (λ row. IsOne (row_line row)) row_one rows bytes)) (counts_one segments)
under_one schema (Groups lines buffered) bytes = All-map IsOne group_line lines (λ k d within. group_one (slice_index_or lines k d))
under_one schema (Segments lines) bytes =
    All-map IsOne (segment_line schema) lines (All-weaker (HasSegmentBytes schema) (λ line. IsOne (segment_line schema line)) (segment_one schema) lines bytes)
under_one schema (Left groups) bytes = All-map IsOne left_line groups (λ k d within. left_one (slice_index_or groups k d))
under_one schema (Refused why) bytes = All-nil IsOne

-- ---- an entry

ok_one : (count : ℕ) (counted : List ℕ) → IsOne counted → IsOne (ok_line count counted)
ok_one count counted one = joined_one (codes "ok ") (decimal count ∷ counted ∷ []) refl (decimal_one count, (one, tt))

head_one : (schema : Schema) (reply : Reply) → IsOne (head_line schema reply)
head_one schema Done = refl
head_one schema (Affected count) = ok_one count (codes " affected") refl
head_one schema (Rows rows segments) = ok_one (length rows) (codes " rows") refl
head_one schema (Groups lines buffered) =
    joined_one (ok_line (length lines) (codes " groups, ")) (decimal buffered ∷ codes " buffered" ∷ []) (ok_one (length lines) (codes " groups, ") refl)
    (decimal_one buffered, (refl, tt))
head_one schema (Segments lines) = ok_one (length lines) (codes " segments") refl
head_one schema (Left groups) = ok_one (length groups) (codes " left") refl
head_one schema (Refused why) = refusal_one schema why

statement_one : (event session place : ℕ) → IsOne (statement_text event session place)
statement_one event session place =
    joined_one (decimal event) (codes " " ∷ session_text session ∷ codes "." ∷ decimal place ∷ []) (decimal_one event) (refl, (session_one session, (refl, (decimal_one place, tt))))

lines_one : (schema : Schema) (event place : ℕ) (entry : Entry) → HasTextBytes schema entry → All IsOne (entry_lines schema event place entry)
lines_one schema event place (Start session bound short) bytes =
    All-cons IsOne (statement_text event session place ++ codes " >") [] (both (statement_text event session place) (codes " >") (statement_one event session place) refl) (All-nil IsOne)
lines_one schema event place (Finish session reply) bytes =
    All-cons IsOne (statement_text event session place ++ codes " < " ++ head_line schema reply) (under_lines schema reply)
    (joined_one (statement_text event session place) (codes " < " ∷ head_line schema reply ∷ []) (statement_one event session place) (refl, (head_one schema reply, tt)))
    (under_one schema reply bytes)
lines_one schema event place (End session) bytes =
    All-cons IsOne (decimal event ++ codes " " ++ session_text session ++ codes " end") []
    (joined_one (decimal event) (codes " " ∷ session_text session ∷ codes " end" ∷ []) (decimal_one event) (refl, (session_one session, (refl, tt)))) (All-nil IsOne)
lines_one schema event place (Mover a w) bytes =
    All-cons IsOne (decimal event ++ codes " " ++ actor_text a ++ codes " " ++ work_text w) []
    (joined_one (decimal event) (codes " " ∷ actor_text a ∷ codes " " ∷ work_text w ∷ []) (decimal_one event) (refl, (actor_one a, (refl, (work_one w, tt)))))
    (All-nil IsOne)

pub entry_one : (schema : Schema) (event place : ℕ) (entry : Entry) → HasTextBytes schema entry → All IsOneLine (entry_lines schema event place entry)
entry_one schema event place entry bytes = All-weaker IsOne IsOneLine holds_no_end (entry_lines schema event place entry) (lines_one schema event place entry bytes)
