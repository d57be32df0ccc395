-- The leftmost fault of columns, found one by one.
use Rattle.std.proofs.Common.{◌≡◌, ℕ, suc, ◌+◌, ◌<◌, length, drop, drop-cons, get_or, List, [], ◌∷◌, ◌++◌, Option, None, Some, min, refl, ap, sym, subst, ◌∙◌, arith}
use Rattle.std.specs.List.{flat_map}
use Rattle.tsql_create.specs.declared.tree.CreateTree.{CreateTree}
use Rattle.tsql_create.specs.declared.written.WrittenColumn.{WrittenColumn}
use Rattle.tsql_create.specs.declared.written.WrittenKey.{WrittenKey}
use Rattle.tsql_create.specs.Written.{columns, keys}
use Rattle.tsql_exprs.specs.Leftmost.{earlier, leftmost}
use Rattle.tsql_exprs.proofs.Leftmost.{earlier_assoc, leftmost_append, leftmost_none}
use Rattle.tsql_create.specs.Faults.{column_faults, faults_of, faults}

-- one more column
pub column_step : (w : List WrittenColumn) (i : ℕ) (c : WrittenColumn) (found next total : Option ℕ) → i < length w → c ≡ get_or w i c → next ≡ earlier found (leftmost (column_faults c))
    → earlier found (leftmost (flat_map column_faults (drop i w))) ≡ total → earlier next (leftmost (flat_map column_faults (drop (i + 1) w))) ≡ total
column_step w i c found next total lt is e before =
    let one : suc i ≡ i + 1 = omega arith in
    let rest : drop i w ≡ c ∷ drop (i + 1) w = subst (λ n. drop i w ≡ c ∷ drop n w) one (subst (λ z. drop i w ≡ z ∷ drop (suc i) w) (sym is) (drop-cons w i c lt)) in
    ap (λ z. earlier z (leftmost (flat_map column_faults (drop (i + 1) w)))) e
    ∙ earlier_assoc found (leftmost (column_faults c)) (leftmost (flat_map column_faults (drop (i + 1) w)))
    ∙ ap (earlier found) (sym (leftmost_append (column_faults c) (flat_map column_faults (drop (i + 1) w))))
    ∙ ap (λ z. earlier found (leftmost (flat_map column_faults z))) (sym rest)
    ∙ before

-- nothing was found
pub none_found : (size : ℕ) (tree : CreateTree) (w : List WrittenColumn) (ks : List WrittenKey) → w ≡ columns tree.parts → ks ≡ keys 0 tree.parts
    → leftmost (faults_of (size + 1) w ks) ≡ None → faults size tree ≡ []
none_found size tree w ks e f none =
    leftmost_none (faults size tree) (subst (λ z. leftmost (faults_of (size + 1) (columns tree.parts) z) ≡ None) f (subst (λ z. leftmost (faults_of (size + 1) z ks) ≡ None) e none))
