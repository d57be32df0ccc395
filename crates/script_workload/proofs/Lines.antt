-- One line more of the workload.
use Rattle.std.proofs.Common.{◌≡◌, ℕ, zero, suc, ◌+◌, ◌%◌, List, [], ◌∷◌, ◌++◌, ap, sym, ◌∙◌, add-one, add-zero, zero-add, arith}
use Rattle.std.specs.List.{flat_map, range_with_len}
use Rattle.std.proofs.lemmas.List.{flat_map_more}
use Rattle.script_workload.specs.declared.statement.Statement.{Statement}
use Rattle.script_workload.specs.Sequence.{after}
use Rattle.script_workload.specs.Workload.{statement_after, draws_of, line_of, setup_line, number_at, line_at}

-- one number more comes at the end
numbers_more : (a n j : ℕ) → a + n ≡ j → range_with_len a (suc n) ≡ range_with_len a n ++ j ∷ []
numbers_more a zero j is = ap (λ z. z ∷ []) (sym (add-zero a) ∙ is)
numbers_more a (suc n) j is = ap (λ z. a ∷ z) (numbers_more (a + 1) n j (omega arith))

-- what one number more adds to a list of pieces after a start
pieces_more : (f : ℕ → List ℕ) (start : List ℕ) (i : ℕ) (old new : List ℕ) → old ≡ start ++ flat_map f (range_with_len 0 i) → new ≡ old ++ f i → new ≡ start ++ flat_map f (range_with_len 0 (i + 1))
pieces_more f start i old new are adds = adds ∙ (ap (λ z. z ++ f i) are ∙ (flat_map_more f start (range_with_len 0 i) i ∙ ap (λ z. start ++ flat_map f z) (sym (ap (range_with_len 0) (add-one i) ∙ numbers_more 0 i i (zero-add i)))))

-- the script with line i after those before it
pub script_more : (number sessions i x : ℕ) (statement : Statement) (old new : List ℕ) → old ≡ setup_line ++ flat_map (line_at number sessions) (range_with_len 0 i) → x ≡ number_at number i → statement ≡ statement_after x → new ≡ old ++ line_of (1 + i % sessions) statement → new ≡ setup_line ++ flat_map (line_at number sessions) (range_with_len 0 (i + 1))
script_more number sessions i x statement old new are at is adds = pieces_more (line_at number sessions) setup_line i old new are (adds ∙ ap (λ z. old ++ line_of (1 + i % sessions) z) (is ∙ ap statement_after at))

-- the number after line i
pub number_more : (number i x y : ℕ) (statement : Statement) → x ≡ number_at number i → statement ≡ statement_after x → y ≡ after (draws_of statement) x → y ≡ number_at number (i + 1)
number_more number i x y statement at is goes = goes ∙ (ap (λ z. after (draws_of z) x) is ∙ (ap (λ z. after (draws_of (statement_after z)) z) at ∙ sym (ap (number_at number) (add-one i))))
