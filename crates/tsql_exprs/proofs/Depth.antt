-- What stands in parentheses, and what does not.
use Rattle.std.proofs.Common.{◌≡◌, ℕ, zero, suc, ◌-◌, ◌<◌, List, [], ◌∷◌, true, false, Ok, Err, refl, arith}
use Rattle.tsql_trees.specs.declared.pred.PartTree.TheVariants as parts
use Rattle.tsql_grammar.specs.declared.terminal.Terminal.TheVariants as terminal
use Rattle.tsql_grammar.specs.Forms.{Symbols, Reading, next_among, seq, mapped, with_front}
use Rattle.tsql_grammar.specs.Values.{nested_of, nested_pred}
use Rattle.tsql_grammar.specs.Grammar.{word, plain, begins_primary, primary_at, expr_from, atom, begins_part, part_at, pred_from}
use Rattle.tsql_grammar.proofs.Laws.{if_true, if_false}

pub front_nil : {X : Type 0} (read : Reading (List X)) → with_front [] read ≡ read
front_nil (Ok x) = refl
front_nil (Err e) = refl

pub primary_none : (text : List ℕ) (n : ℕ) (ts : Symbols) → n ≡ 0 → (primary_at text n).reads ts ≡ (plain text).reads ts
unfolding primary_at
primary_none text zero ts e = refl
primary_none text (suc n) ts e = absurd (omega arith)

pub primary_shut : (text : List ℕ) (n : ℕ) (ts : Symbols) → next_among (terminal.OpenSign ∷ []) ts ≡ false → (primary_at text n).reads ts ≡ (plain text).reads ts
unfolding primary_at
primary_shut text zero ts e = refl
primary_shut text (suc n) ts e =
    if_false (next_among (terminal.OpenSign ∷ []) ts) ((mapped nested_of (seq (word terminal.OpenSign) (seq (expr_from (begins_primary (primary_at text n))) (word terminal.CloseSign)))).reads ts) ((plain text).reads ts) e

pub primary_open : (text : List ℕ) (n : ℕ) (ts : Symbols) → 0 < n → next_among (terminal.OpenSign ∷ []) ts ≡ true
    → (primary_at text n).reads ts ≡ (mapped nested_of (seq (word terminal.OpenSign) (seq (expr_from (begins_primary (primary_at text (n - 1)))) (word terminal.CloseSign)))).reads ts
unfolding primary_at
primary_open text zero ts h e = absurd (omega arith)
primary_open text (suc m) ts h e =
    let k : suc m - 1 ≡ m = omega arith in
    rw k (if_true (next_among (terminal.OpenSign ∷ []) ts) ((mapped nested_of (seq (word terminal.OpenSign) (seq (expr_from (begins_primary (primary_at text m))) (word terminal.CloseSign)))).reads ts) ((plain text).reads ts) e)

pub part_none : (text : List ℕ) (n : ℕ) (ts : Symbols) → n ≡ 0 → (part_at text n).reads ts ≡ (mapped parts.Atom (atom text)).reads ts
unfolding part_at
part_none text zero ts e = refl
part_none text (suc n) ts e = absurd (omega arith)

pub part_shut : (text : List ℕ) (n : ℕ) (ts : Symbols) → next_among (terminal.OpenSign ∷ []) ts ≡ false → (part_at text n).reads ts ≡ (mapped parts.Atom (atom text)).reads ts
unfolding part_at
part_shut text zero ts e = refl
part_shut text (suc n) ts e =
    if_false (next_among (terminal.OpenSign ∷ []) ts) ((mapped nested_pred (seq (word terminal.OpenSign) (seq (pred_from (begins_part (part_at text n))) (word terminal.CloseSign)))).reads ts) ((mapped parts.Atom (atom text)).reads ts) e

pub part_open : (text : List ℕ) (n : ℕ) (ts : Symbols) → 0 < n → next_among (terminal.OpenSign ∷ []) ts ≡ true
    → (part_at text n).reads ts ≡ (mapped nested_pred (seq (word terminal.OpenSign) (seq (pred_from (begins_part (part_at text (n - 1)))) (word terminal.CloseSign)))).reads ts
unfolding part_at
part_open text zero ts h e = absurd (omega arith)
part_open text (suc m) ts h e =
    let k : suc m - 1 ≡ m = omega arith in
    rw k (if_true (next_among (terminal.OpenSign ∷ []) ts) ((mapped nested_pred (seq (word terminal.OpenSign) (seq (pred_from (begins_part (part_at text m))) (word terminal.CloseSign)))).reads ts) ((mapped parts.Atom (atom text)).reads ts) e)
