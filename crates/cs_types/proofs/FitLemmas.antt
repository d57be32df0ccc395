-- Powers of ten, and the numbers of types.
use Rattle.std.proofs.Common.{◌≡◌, ℕ, List, subst, ℤ, pos, negsuc, ◌^◌, ◌≤◌, lit<, Bool, true, false, Result, Ok, Err, IfOk, IsTrue, FitsSigned, w64, unsigned_abs, arith, refl, sym, if◌then◌else◌}
use Rattle.std.specs.List.{list_all}
use Rattle.std.proofs.lemmas.Bool.Decides.{nat_tests}
use Rattle.std.proofs.Math.Nat.{one-le-pow, pow-le-pow_right}
use Rattle.std.proofs.lemmas.Int.{ints}
use Rattle.cs_types.specs.declared.ColumnType.{ColumnType}
use Rattle.cs_types.specs.declared.ColumnType.TheVariants.{TinyInt, SmallInt, Int, BigInt, Decimal, Date, VarChar}
use Rattle.cs_types.specs.declared.Loose.{Loose}
use Rattle.cs_types.specs.declared.Loose.TheVariants as loose
use Rattle.cs_types.specs.declared.Value.{Value}
use Rattle.cs_types.specs.declared.Value.TheVariants as value
use Rattle.cs_types.specs.declared.refusal.ValueRefusal.{ValueRefusal}
use Rattle.cs_types.specs.declared.refusal.ValueRefusal.TheVariants.{TooLong, Overflow}
use Rattle.cs_types.specs.Kinds.{IsColumnType, is_short, is_text_byte, has_text_bytes, keeps, keeps_number, scale_of, is_between}
use Rattle.cs_types.specs.Fit.{fit, nearest, rounded, range_refusal, kept_or, KeepsNearest}
use Rattle.cs_types.proofs.Rounding.{nearest-law}
use Rattle.cs_types.proofs.CalendarLemmas.{first_day-number, last_day-number}

pub ten_positive : (k : ℕ) → 1 ≤ 10 ^ k
ten_positive k = one-le-pow k 10 (lit< tt)

pub ten_small : (k : ℕ) → k ≤ 38 → 10 ^ k ≤ 10 ^ 38
ten_small k small = pow-le-pow_right (lit< tt) small

pub ruleset powers = (ten_positive, ten_small)

-- the numbers of a type have 64 bits
pub keeps_number-fits : (kind : ColumnType) (z : ℤ) → IsColumnType kind → keeps_number kind z ≡ true → FitsSigned w64 z
keeps_number-fits TinyInt z is kept = grind (arith, ints)
keeps_number-fits SmallInt z is kept = grind (arith, ints)
keeps_number-fits Int z is kept = grind (arith, ints)
keeps_number-fits BigInt z is kept = grind (arith, ints)
keeps_number-fits (Decimal p s) z is kept =
    let small : 10 ^ p ≤ 10 ^ 18 = pow-le-pow_right (lit< tt) is.1 in
    grind (arith, ints, nat_tests)
keeps_number-fits Date z is kept =
    let low = first_day-number in let high = last_day-number in
    let between : is_between (negsuc 719161) (pos 2932896) z ≡ true = rw (sym low, sym high) kept in
    grind (arith, ints)
keeps_number-fits (VarChar n) z is kept = absurd (grind arith)

-- what a test lets through passes it
kept_if : (kind : ColumnType) (refusal : ValueRefusal) (v : Value) (b : Bool) → keeps kind v ≡ b → (if b then Ok v else Err refusal) ≡ kept_or kind refusal v → IfOk (if b then Ok v else Err refusal) (λ w. IsTrue (keeps kind w))
kept_if kind refusal v true passes same = passes
kept_if kind refusal v false fails same = tt

kept_or-keeps : (kind : ColumnType) (refusal : ValueRefusal) (v : Value) → IfOk (kept_or kind refusal v) (λ w. IsTrue (keeps kind w))
kept_or-keeps kind refusal v = kept_if kind refusal v (keeps kind v) refl refl

short_kept : (kind : ColumnType) (t : List ℕ) (b : Bool) → is_short kind t ≡ b → list_all is_text_byte t ≡ true → IfOk (if b then Ok (value.Text t) else Err TooLong) (λ w. IsTrue (keeps kind w))
short_kept kind t true short bytes = rw (short, bytes) refl
short_kept kind t false short bytes = tt

fits_kept : (kind : ColumnType) (nullable : Bool) (loose : Loose) → IsTrue (has_text_bytes loose) → IfOk (fit kind nullable loose) (λ v. IsTrue (keeps kind v))
fits_kept kind true loose.Null bytes = refl
fits_kept kind false loose.Null bytes = tt
fits_kept kind nullable (loose.Number m s) bytes = kept_or-keeps kind (range_refusal kind) (value.Number (rounded m s (scale_of kind)))
fits_kept kind nullable (loose.Text t) bytes = short_kept kind t (is_short kind t) refl bytes
fits_kept kind nullable (loose.Day d) bytes = kept_or-keeps kind Overflow (value.Number d)

-- what is kept is a value of the type
pub fit-keeps : (kind : ColumnType) (nullable : Bool) (loose : Loose) (r : Result Value ValueRefusal) → r ≡ fit kind nullable loose → IfOk r (λ v. IsTrue (has_text_bytes loose) → IsTrue (keeps kind v))
fit-keeps kind nullable loose (Ok v) same = λ bytes. let kept : IfOk (fit kind nullable loose) (λ w. IsTrue (keeps kind w)) = fits_kept kind nullable loose bytes in subst (λ (x : Result Value ValueRefusal). IfOk x (λ w. IsTrue (keeps kind w))) (sym same) kept
fit-keeps kind nullable loose (Err refusal) same = tt

-- a choice of a value or a refusal has what the value has
if_ok : (P : Value → Type 0) (b : Bool) (v : Value) (refusal : ValueRefusal) → P v → IfOk (if b then Ok v else Err refusal) P
if_ok P true v refusal holds = holds
if_ok P false v refusal holds = tt

fits_nearest : (kind : ColumnType) (nullable : Bool) (loose : Loose) → IfOk (fit kind nullable loose) (KeepsNearest kind loose)
fits_nearest kind true loose.Null = tt
fits_nearest kind false loose.Null = tt
fits_nearest kind nullable (loose.Number m s) =
    if_ok (KeepsNearest kind (loose.Number m s)) (keeps kind (value.Number (rounded m s (scale_of kind)))) (value.Number (rounded m s (scale_of kind))) (range_refusal kind)
    (nearest (unsigned_abs m) s (scale_of kind), refl, nearest-law (unsigned_abs m) s (scale_of kind))
fits_nearest kind nullable (loose.Text t) =
    if_ok (KeepsNearest kind (loose.Text t)) (is_short kind t) (value.Text t) TooLong tt
fits_nearest kind nullable (loose.Day d) =
    if_ok (KeepsNearest kind (loose.Day d)) (keeps kind (value.Number d)) (value.Number d) Overflow tt

-- a number that is kept is the nearest one
pub fit-nearest : (kind : ColumnType) (nullable : Bool) (loose : Loose) (r : Result Value ValueRefusal) → r ≡ fit kind nullable loose → IfOk r (KeepsNearest kind loose)
fit-nearest kind nullable loose r same = rw same (fits_nearest kind nullable loose)

refused : (kind : ColumnType) (z : ℤ) (b : Bool) → IsColumnType kind → (FitsSigned w64 z → ⊥) → keeps_number kind z ≡ b → b ≡ false
refused kind z true is wide same = absurd (wide (keeps_number-fits kind z is same))
refused kind z false is wide same = refl

-- a number of more than 64 bits is out of each type's range
pub fit-wide : (kind : ColumnType) (m : ℤ) (s t : ℕ) → IsColumnType kind → t ≡ scale_of kind → (FitsSigned w64 (rounded m s t) → ⊥) → fit kind false (loose.Number m s) ≡ Err (range_refusal kind)
fit-wide kind m s t is same wide =
    let out : keeps_number kind (rounded m s (scale_of kind)) ≡ false =
    refused kind (rounded m s (scale_of kind)) (keeps_number kind (rounded m s (scale_of kind))) is (λ h. wide (rw same h)) refl in
    rw out

pub ruleset fitted = (fit-keeps, fit-nearest)

pub ruleset days = (first_day-number, last_day-number)
