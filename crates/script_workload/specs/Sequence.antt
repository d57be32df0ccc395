-- The sequence of numbers that the draws come from.
use Rattle.std.specs.Prelude.{ℕ, zero, suc, ◌+◌, ◌*◌, ◌/◌, ◌%◌}

-- the number after x in the sequence
abbrev pub next : ℕ → ℕ
next x = (x * 1103515245 + 12345) % 2147483648

-- the number so many steps after x
abbrev pub after : ℕ → ℕ → ℕ
after zero x = x
after (suc steps) x = after steps (next x)

-- a draw is a number of the sequence over 65536, as a whole number
abbrev pub draw : ℕ → ℕ
draw x = x / 65536

-- draw k after x, from 1 on
abbrev pub drawn : ℕ → ℕ → ℕ
drawn k x = draw (after k x)
