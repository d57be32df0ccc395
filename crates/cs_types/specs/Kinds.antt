-- What each type of column keeps.
use Rattle.std.specs.Prelude.{ℕ, ◌^◌, ◌≤◌, nat_le, nat_lt, ℤ, pos, negsuc, int_le, unsigned_abs, Bool, true, false, ◌&&◌, List, length}
use Rattle.std.specs.List.{list_all}
use Rattle.cs_types.specs.declared.ColumnType.{ColumnType}
use Rattle.cs_types.specs.declared.ColumnType.TheVariants.{TinyInt, SmallInt, Int, BigInt, Decimal, Date, VarChar}
use Rattle.cs_types.specs.declared.Loose.{Loose}
use Rattle.cs_types.specs.declared.Loose.TheVariants as loose
use Rattle.cs_types.specs.declared.Value.{Value}
use Rattle.cs_types.specs.declared.Value.TheVariants.{Null, Number, Text}
use Rattle.cs_types.specs.Calendar.{first_day, last_day}

-- the types that a table may have: 1 to 18 digits, at most all of them after the point, and texts of at most n bytes, where
-- n is 1 to 8000
abbrev pub IsColumnType : ColumnType → Type 0
IsColumnType TinyInt = Unit {0}
IsColumnType SmallInt = Unit {0}
IsColumnType Int = Unit {0}
IsColumnType BigInt = Unit {0}
IsColumnType (Decimal p s) = (1 ≤ p) × (p ≤ 18) × (s ≤ p)
IsColumnType Date = Unit {0}
IsColumnType (VarChar n) = (1 ≤ n) × (n ≤ 8000)

-- the digits after the point
abbrev pub scale_of : ColumnType → ℕ
scale_of TinyInt = 0
scale_of SmallInt = 0
scale_of Int = 0
scale_of BigInt = 0
scale_of (Decimal p s) = s
scale_of Date = 0
scale_of (VarChar n) = 0

-- z lies from low to high, both included
abbrev pub is_between : ℤ → ℤ → ℤ → Bool
is_between low high z = int_le low z && int_le z high

-- the numbers of a type: those of 8 bits without a sign, of 16, 32 and 64 bits with one, those of at most p digits, and
-- the days of the calendar
abbrev pub keeps_number : ColumnType → ℤ → Bool
keeps_number TinyInt z = is_between (pos 0) (pos 255) z
keeps_number SmallInt z = is_between (negsuc 32767) (pos 32767) z
keeps_number Int z = is_between (negsuc 2147483647) (pos 2147483647) z
keeps_number BigInt z = is_between (negsuc 9223372036854775807) (pos 9223372036854775807) z
keeps_number (Decimal p s) z = nat_lt (unsigned_abs z) (10 ^ p)
keeps_number Date z = is_between first_day last_day z
keeps_number (VarChar n) z = false

-- a text has at most the n bytes of its type, which has texts
abbrev pub is_short : ColumnType → List ℕ → Bool
is_short TinyInt t = false
is_short SmallInt t = false
is_short Int t = false
is_short BigInt t = false
is_short (Decimal p s) t = false
is_short Date t = false
is_short (VarChar n) t = nat_le (length t) n

-- a byte that a text may have: a space, or one that prints
abbrev pub is_text_byte : ℕ → Bool
is_text_byte c = nat_le 32 c && nat_le c 126

-- the texts of a type: those of at most n bytes, each one that a text may have
abbrev pub keeps_text : ColumnType → List ℕ → Bool
keeps_text kind t = is_short kind t && list_all is_text_byte t

-- the values of a type
abbrev pub keeps : ColumnType → Value → Bool
keeps kind Null = true
keeps kind (Number z) = keeps_number kind z
keeps kind (Text t) = keeps_text kind t

-- a value of a type, whatever bytes a text has: a number in its range, a text that is short enough
abbrev pub is_of_type : ColumnType → Value → Bool
is_of_type kind Null = true
is_of_type kind (Number z) = keeps_number kind z
is_of_type kind (Text t) = is_short kind t

-- a loose value has no byte that a text may not have
abbrev pub has_text_bytes : Loose → Bool
has_text_bytes loose.Null = true
has_text_bytes (loose.Number m s) = true
has_text_bytes (loose.Text t) = list_all is_text_byte t
has_text_bytes (loose.Day d) = true
