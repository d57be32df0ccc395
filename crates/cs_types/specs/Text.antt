-- The printed text of values.
use Rattle.std.specs.Prelude.{ℕ, ◌-◌, ◌/◌, ◌%◌, ◌^◌, ◌==◌, ℤ, pos, int_lt, unsigned_abs, List, [], ◌∷◌, ◌++◌, length, replicate, decimal, codes, IsTrue, if◌then◌else◌}
use Rattle.std.specs.Fmt.{sign_text}
use Rattle.std.specs.List.{flat_map}
use Rattle.cs_types.specs.declared.ColumnType.{ColumnType}
use Rattle.cs_types.specs.declared.ColumnType.TheVariants.{TinyInt, SmallInt, Int, BigInt, Decimal, Date, VarChar}
use Rattle.cs_types.specs.declared.Loose.{Loose}
use Rattle.cs_types.specs.declared.Loose.TheVariants as loose
use Rattle.cs_types.specs.declared.Value.{Value}
use Rattle.cs_types.specs.declared.Value.TheVariants.{Null, Number, Text}
use Rattle.cs_types.specs.Calendar.{first_day, last_day, year_of, month_of, day_of_month}
use Rattle.cs_types.specs.Kinds.{is_between}

-- n in at least so many digits
abbrev pub padded_decimal : ℕ → ℕ → List ℕ
padded_decimal width n = replicate (width - length (decimal n)) 48 ++ decimal n

-- n over 10 ^ s, with s digits after the point and at least one before it
abbrev pub scaled_text : ℕ → ℕ → List ℕ
scaled_text n s =
    if s == 0 then decimal n else decimal (n / 10 ^ s) ++ 46 ∷ [] ++ padded_decimal s (n % 10 ^ s)

-- m over 10 ^ s, with `-` where it is negative
abbrev pub number_text : ℤ → ℕ → List ℕ
number_text m s = sign_text (int_lt m (pos 0)) ++ scaled_text (unsigned_abs m) s

-- `YYYY-MM-DD`
abbrev pub civil_text : ℕ → ℕ → ℕ → List ℕ
civil_text y m d = padded_decimal 4 y ++ 45 ∷ [] ++ padded_decimal 2 m ++ 45 ∷ [] ++ padded_decimal 2 d

-- the text of a day
abbrev pub day_text : ℤ → List ℕ
day_text day = civil_text (year_of day) (month_of day) (day_of_month day)

-- a byte inside quotes: a quote is doubled
abbrev pub quoted_byte : ℕ → List ℕ
quoted_byte c = if c == 39 then 39 ∷ 39 ∷ [] else c ∷ []

-- a text in quotes
abbrev pub quoted_text : List ℕ → List ℕ
quoted_text t = 39 ∷ [] ++ flat_map quoted_byte t ++ 39 ∷ []

-- NULL, a number, a text in quotes or a day
abbrev pub loose_text : Loose → List ℕ
loose_text loose.Null = codes "NULL"
loose_text (loose.Number m s) = number_text m s
loose_text (loose.Text t) = quoted_text t
loose_text (loose.Day d) = day_text d

-- what a number of a column stands for
abbrev pub loose_number : ColumnType → ℤ → Loose
loose_number TinyInt z = loose.Number z 0
loose_number SmallInt z = loose.Number z 0
loose_number Int z = loose.Number z 0
loose_number BigInt z = loose.Number z 0
loose_number (Decimal p s) z = loose.Number z s
loose_number Date z = loose.Day z
loose_number (VarChar n) z = loose.Number z 0

-- what a value of a column stands for
abbrev pub loose_of : ColumnType → Value → Loose
loose_of kind Null = loose.Null
loose_of kind (Number z) = loose_number kind z
loose_of kind (Text t) = loose.Text t

-- the text of a column's value
abbrev pub value_text : ColumnType → Value → List ℕ
value_text kind v = loose_text (loose_of kind v)

-- what can be printed: anything but a day outside the calendar
abbrev pub IsPrintable : Loose → Type 0
IsPrintable loose.Null = Unit {0}
IsPrintable (loose.Number m s) = Unit {0}
IsPrintable (loose.Text t) = Unit {0}
IsPrintable (loose.Day d) = IsTrue (is_between first_day last_day d)
