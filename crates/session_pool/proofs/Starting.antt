-- What the first pass of a run has to give away.
use Rattle.std.proofs.Common.{◌≡◌, ◌≤◌, ◌<◌, ◌+◌, ℕ, zero, suc, List, [], ◌∷◌, refl, sym, ◌∙◌, subst, arith, get_or, All, Contains}
use Rattle.std.specs.List.{range_with_len}
use Rattle.std.proofs.lemmas.List.Elements.{All-nil, All-cons, All-filter}
use Rattle.history_gate.proofs.Numbers.{Contains-range}
use Rattle.script_reader.specs.declared.script.Script.{Script}
use Rattle.script_reader.specs.Scripts.{numbers, is_named, IsRunnable}
use Rattle.script_reader.proofs.Sessions.{sessions_are}
use Rattle.script_turns.proofs.Sessions.{sessions_below}
use Rattle.session_pool.specs.declared.event.Event.{Event}
use Rattle.session_pool.specs.Rests.{IsRested}

numbers_from : (low from n : ℕ) → low ≤ from → All (λ s. low ≤ s) (numbers from n)
numbers_from low from zero le = All-nil (λ s. low ≤ s)
numbers_from low from (suc n) le = All-cons (λ s. low ≤ s) from (numbers (from + 1) n) le (numbers_from low (from + 1) n (omega (arith, le)))

-- the sessions of a script have numbers from 1 on
from_one : (script : Script) → IsRunnable script → All (λ s. 1 ≤ s) script.sessions
from_one script run =
    subst (All (λ s. 1 ≤ s)) (sessions_are script.lines ∙ sym run.sessions) (All-filter (is_named script.lines) (λ s. 1 ≤ s) (numbers 1 64) (numbers_from 1 1 64 (omega arith)))

pub spare_first : (reserve : List ℕ) → reserve ≡ range_with_len 1 72 → (n : ℕ) → 65 ≤ n → n < 73 → Contains reserve n
spare_first reserve is n low high = subst (λ r. Contains r n) (sym is) (Contains-range n 1 72 (omega (arith, low)) (omega (arith, high)))

pub sessions_first : (script : Script) (sessions reserve : List ℕ) → IsRunnable script → sessions ≡ script.sessions → reserve ≡ range_with_len 1 72 → All (Contains reserve) sessions
sessions_first script sessions reserve run are is = subst (All (Contains reserve)) (sym are) (λ k d lt.
    let s : ℕ = get_or script.sessions k d in
    let low = from_one script run k d lt in
    let high = sessions_below script run k d lt in
    subst (λ r. Contains r s) (sym is) (Contains-range s 1 72 low (omega (arith, high))))

-- the caller's own number rests
pub rested_first : (movers : ℕ) (own : List (ℕ × List Event)) → own ≡ (0, []) ∷ [] → All (IsRested movers) own
rested_first movers own is = subst (All (IsRested movers)) (sym is) (All-cons (IsRested movers) (0, []) [] (omega arith, refl) (All-nil (IsRested movers)))
