use Rattle.std.proofs.Common.{◌≡◌, ℕ, ◌<◌, ◌≤◌, ◌^◌, ◌-◌, List, length, get_or, true, arith}
use Rattle.std.proofs.Math.Nat.{pow-le-pow_right}
use Rattle.std.proofs.lemmas.List.Sums.{AllPass-from_list_all}
use Rattle.std.specs.List.{list_all}
use Rattle.cs_types.specs.Calendar.{is_digit}
use Rattle.script_reader.proofs.form.number_of.Goals as goal

-- so far eight digits at most
small : (number i : ℕ) → number < 10 ^ i → i < 9 → number < 100000000
small number i h l = let most : 10 ^ i ≤ 10 ^ 8 = pow-le-pow_right {n = 10} (omega arith) {i = i} {j = 8} (omega arith) in omega arith

nine : (c : ℕ) → is_digit c ≡ true → c - 48 < 10
nine c e = grind arith

digit : (digits : List ℕ) (i : ℕ) → list_all is_digit digits ≡ true → i < length digits → get_or digits i 0 - 48 < 10
digit digits i all l = nine (get_or digits i 0) (AllPass-from_list_all is_digit digits all i 0 l)

pub overflow_mul-number : goal.overflow_mul-number
overflow_mul-number c = omega (arith, small c.loop-digit.number c.loop-digit.digit-index c.loop-digit.invariant.bound (omega arith))

pub overflow_add-number : goal.overflow_add-number
overflow_add-number c =
    omega (arith, small c.loop-digit.number c.loop-digit.digit-index c.loop-digit.invariant.bound (omega arith), digit c.args.digits.now c.loop-digit.digit-index c.requires (omega arith), c.from.ensures)
