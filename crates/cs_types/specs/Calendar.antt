-- The calendar: leap years, months, and days counted from 1970-01-01.
use Rattle.std.specs.Prelude.{ℕ, zero, suc, ◌+◌, ◌-◌, ◌*◌, ◌%◌, nat_le, Bool, not, ◌&&◌, ◌||◌, ◌==◌, if◌then◌else◌, ℤ, pos, ◌-ℤ◌, int_le, unsigned_abs, List, take, drop, length, fold, slice_index, Option, Some, None}
use Rattle.std.specs.List.{list_all}

-- every fourth year, but of the centuries only every fourth
abbrev pub is_leap_year : ℕ → Bool
is_leap_year y = (y % 4 == 0) && (not (y % 100 == 0) || (y % 400 == 0))

abbrev pub days_in_year : ℕ → ℕ
days_in_year y = if is_leap_year y then 366 else 365

-- thirty days have September, April, June and November
abbrev pub days_in_month : ℕ → ℕ → ℕ
days_in_month y m =
    if m == 2 then (if is_leap_year y then 29 else 28)
    else (if (m == 4) || (m == 6) || (m == 9) || (m == 11) then 30 else 31)

-- the days of the years 1 to n
unfoldable pub days_of_years : ℕ → ℕ
days_of_years zero = 0
days_of_years (suc n) = days_of_years n + days_in_year (suc n)

-- the days of a year's first n months
unfoldable pub days_of_months : ℕ → ℕ → ℕ
days_of_months y zero = 0
days_of_months y (suc n) = days_of_months y n + days_in_month y (suc n)

-- the days from 0001-01-01 to a date
unfoldable pub days_before : ℕ → ℕ → ℕ → ℕ
days_before y m d = days_of_years (y - 1) + days_of_months y (m - 1) + (d - 1)

-- the number of a date: the days from 1970-01-01 to it, negative before
unfoldable pub day_number : ℕ → ℕ → ℕ → ℤ
day_number y m d = pos (days_before y m d) -ℤ pos (days_before 1970 1 1)

-- 0001-01-01 and 9999-12-31
unfoldable pub first_day : ℤ
first_day = day_number 1 1 1

unfoldable pub last_day : ℤ
last_day = day_number 9999 12 31

-- the calendar has this date
abbrev pub is_date : ℕ → ℕ → ℕ → Bool
is_date y m d =
    (nat_le 1 y && nat_le y 9999) && (nat_le 1 m && nat_le m 12) && (nat_le 1 d && nat_le d (days_in_month y m))

-- how many of the places 1 to n begin at or before a day
unfoldable pub begun_by : (ℕ → ℤ) → ℤ → ℕ → ℕ
begun_by begin day zero = 0
begun_by begin day (suc n) = begun_by begin day n + (if int_le (begin (suc n)) day then 1 else 0)

-- the year of a day: the last one that has begun by then
unfoldable pub year_of : ℤ → ℕ
year_of day = begun_by (λ y. day_number y 1 1) day 9999

-- its month: the last of that year that has begun by then
unfoldable pub month_of : ℤ → ℕ
month_of day = begun_by (λ m. day_number (year_of day) m 1) day 12

-- its day of the month
unfoldable pub day_of_month : ℤ → ℕ
day_of_month day = unsigned_abs (day -ℤ day_number (year_of day) (month_of day) 1) + 1

abbrev pub is_digit : ℕ → Bool
is_digit c = nat_le 48 c && nat_le c 57

-- the number that decimal digits write
abbrev pub digits_value : List ℕ → ℕ
digits_value text = fold (λ n c. 10 * n + (c - 48)) 0 text

-- the day of a year, a month and a day of the month, each in digits
abbrev pub date_of_parts : List ℕ → List ℕ → List ℕ → Option ℤ
date_of_parts y m d =
    if list_all is_digit y && list_all is_digit m && list_all is_digit d && is_date (digits_value y) (digits_value m) (digits_value d)
    then Some (day_number (digits_value y) (digits_value m) (digits_value d))
    else None

-- the day that a text `YYYYMMDD` or `YYYY-MM-DD` names, and None for any other text
abbrev pub date_of : List ℕ → Option ℤ
date_of text =
    if length text == 8 then date_of_parts (take 4 text) (take 2 (drop 4 text)) (drop 6 text)
    else (if (length text == 10) && (slice_index text 4 == 45) && (slice_index text 7 == 45) then date_of_parts (take 4 text) (take 2 (drop 5 text)) (drop 8 text) else None)
