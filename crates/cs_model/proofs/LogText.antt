-- The text of a log, one entry more.
use Rattle.std.proofs.Common.{◌≡◌, ℕ, ◌+◌, ◌<◌, ◌≤◌, List, [], ◌∷◌, ◌++◌, length, take, drop, get_or, sym, ap, arith, ◌∙◌, append_assoc}
use Rattle.std.proofs.lemmas.List.{take_more, drop_more, length-take-le}
use Rattle.std.proofs.lemmas.List.Sums.{count_by-le-length, fold-append}
use Rattle.cs_model.specs.State.{Begin}
use Rattle.cs_model.specs.declared.entry.Entry.{Entry}
use Rattle.cs_model.specs.Actors.{actor_of}
use Rattle.cs_model.specs.Text.{statements_of, is_start_of, entry_text, text_after, text}
use Rattle.cs_model.specs.Places.{start_added}

-- an entry after the first i ones
module _ (log : List Entry) (i : ℕ) (e : Entry) (within : i < length log) (is : e ≡ get_or log i e) where
  taken : take (i + 1) log ≡ take i log ++ e ∷ []
  taken = take_more log i e within ∙ ap (λ x. take i log ++ x ∷ []) (sym is)

  left : drop i log ≡ e ∷ drop (i + 1) log
  left = drop_more log i e within ∙ ap (λ x. x ∷ drop (i + 1) log) (sym is)

  count : length (take i log) ≡ i
  count = length-take-le i log (omega arith)

  -- the session's statements so far are at most the entries so far
  pub few : (session : ℕ) → statements_of session (take i log) ≤ i
  few session = let most : statements_of session (take i log) ≤ length (take i log) = count_by-le-length (is_start_of session) (take i log) in rw count at most

  pub counts_more : (session before now : ℕ) → before ≡ statements_of session (take i log) → now ≡ before + start_added e session → now ≡ statements_of session (take (i + 1) log)
  counts_more session before now b n =
      n ∙ ap (λ k. k + start_added e session) b ∙ sym (ap (statements_of session) taken ∙ fold-append (λ k entry. k + start_added entry session) 0 (take i log) (e ∷ []))

  pub prints_more : (begin : Begin) (out new : List ℕ) (place : ℕ) → place ≡ statements_of (actor_of e) (take (i + 1) log) → new ≡ out ++ entry_text begin.schema (i + 1) place e
      → out ++ text_after begin (take i log) (drop i log) ≡ text begin log → new ++ text_after begin (take (i + 1) log) (drop (i + 1) log) ≡ text begin log
  prints_more begin out new place p n inv =
      let whole : out ++ text_after begin (take i log) (e ∷ drop (i + 1) log) ≡ text begin log = ap (λ es. out ++ text_after begin (take i log) es) (sym left) ∙ inv in
      let line : entry_text begin.schema (i + 1) (statements_of (actor_of e) (take i log ++ e ∷ [])) e ≡ entry_text begin.schema (length (take i log) + 1) (statements_of (actor_of e) (take i log ++ e ∷ [])) e =
      ap (λ k. entry_text begin.schema (k + 1) (statements_of (actor_of e) (take i log ++ e ∷ [])) e) (sym count) in
      rw (n, append_assoc, p, taken, line) whole
