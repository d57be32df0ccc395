-- The reserved words: those of the grammar, and those that T-SQL reserves and the grammar has no form for.
use Rattle.std.specs.Prelude.{ℕ, List, [], ◌∷◌, codes, Bool, ◌||◌}
use Rattle.std.specs.List.{list_any}
use Rattle.cs_base.specs.Names.{same_name}

-- bytes are this word, whatever their case
unfoldable pub is_word : List ℕ → List ℕ → Bool
is_word bytes word = same_name bytes word

-- a word is one of a list
abbrev pub is_among : List ℕ → List (List ℕ) → Bool
is_among word words = list_any (is_word word) words

-- the reserved words, by their first letters
abbrev pub words_a_to_b : List (List ℕ)
words_a_to_b = codes "ALL" ∷ codes "ALTER" ∷ codes "AND" ∷ codes "ANY" ∷ codes "ASC" ∷ codes "BEGIN" ∷ codes "BETWEEN" ∷ codes "BY" ∷ []

abbrev pub words_c : List (List ℕ)
words_c = codes "CASE" ∷ codes "CAST" ∷ codes "CLUSTERED" ∷ codes "COMMIT" ∷ codes "CONSTRAINT" ∷ codes "CONVERT" ∷ codes "CREATE" ∷ codes "CROSS" ∷ []

abbrev pub words_d_to_e : List (List ℕ)
words_d_to_e = codes "DEFAULT" ∷ codes "DELETE" ∷ codes "DENY" ∷ codes "DESC" ∷ codes "DISTINCT" ∷ codes "DROP" ∷ codes "ESCAPE" ∷ codes "EXCEPT" ∷ codes "EXEC" ∷ codes "EXECUTE" ∷ codes "EXISTS" ∷ []

abbrev pub words_f_to_h : List (List ℕ)
words_f_to_h = codes "FOREIGN" ∷ codes "FROM" ∷ codes "FULL" ∷ codes "GRANT" ∷ codes "GROUP" ∷ codes "HAVING" ∷ []

abbrev pub words_i : List (List ℕ)
words_i = codes "IDENTITY" ∷ codes "IN" ∷ codes "INDEX" ∷ codes "INNER" ∷ codes "INSERT" ∷ codes "INTERSECT" ∷ codes "INTO" ∷ codes "IS" ∷ []

abbrev pub words_j_to_n : List (List ℕ)
words_j_to_n = codes "JOIN" ∷ codes "KEY" ∷ codes "LEFT" ∷ codes "LIKE" ∷ codes "MERGE" ∷ codes "NONCLUSTERED" ∷ codes "NOT" ∷ codes "NULL" ∷ []

abbrev pub words_o_to_p : List (List ℕ)
words_o_to_p = codes "OFF" ∷ codes "ON" ∷ codes "OR" ∷ codes "ORDER" ∷ codes "OUTER" ∷ codes "OVER" ∷ codes "PERCENT" ∷ codes "PIVOT" ∷ codes "PRIMARY" ∷ []

abbrev pub words_r : List (List ℕ)
words_r = codes "READ" ∷ codes "REBUILD" ∷ codes "REFERENCES" ∷ codes "REPEATABLE" ∷ codes "RIGHT" ∷ codes "ROLLBACK" ∷ []

abbrev pub words_s : List (List ℕ)
words_s = codes "SAVE" ∷ codes "SELECT" ∷ codes "SERIALIZABLE" ∷ codes "SET" ∷ []

abbrev pub words_t : List (List ℕ)
words_t = codes "TABLE" ∷ codes "TOP" ∷ codes "TRAN" ∷ codes "TRANSACTION" ∷ codes "TRUNCATE" ∷ []

abbrev pub words_u_to_z : List (List ℕ)
words_u_to_z = codes "UNION" ∷ codes "UNIQUE" ∷ codes "UPDATE" ∷ codes "USE" ∷ codes "VALUES" ∷ codes "VIEW" ∷ codes "WHERE" ∷ codes "WITH" ∷ []

unfoldable pub is_reserved : List ℕ → Bool
is_reserved word =
    is_among word words_a_to_b
    || is_among word words_c
    || is_among word words_d_to_e
    || is_among word words_f_to_h
    || is_among word words_i
    || is_among word words_j_to_n
    || is_among word words_o_to_p
    || is_among word words_r
    || is_among word words_s
    || is_among word words_t
    || is_among word words_u_to_z
