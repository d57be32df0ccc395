-- Where no aggregate is next, the names that are none are all names.
use Rattle.std.proofs.Common.{◌≡◌, ℕ, Bool, true, false, List, [], ◌∷◌, ◌++◌, Result, Ok, Err, refl, sym, ap, subst, ◌∙◌}
use Rattle.std.specs.Prelude.{◌||◌, if◌then◌else◌, IsErrAnd}
use Rattle.tsql_trees.specs.declared.leaf.NameTree.{NameTree}
use Rattle.tsql_trees.specs.declared.statement.ItemTree.{ItemTree}
use Rattle.tsql_trees.specs.declared.statement.ItemTree.TheVariants as its
use Rattle.tsql_grammar.specs.declared.terminal.Terminal.{Terminal}
use Rattle.tsql_grammar.specs.declared.terminal.Terminal.TheVariants as terminal
use Rattle.tsql_grammar.specs.declared.terminal.Symbol.{Symbol}
use Rattle.tsql_grammar.specs.Terminals.{same, among}
use Rattle.tsql_grammar.specs.Forms.{Symbols, Reading, ◌>>=◌, next_among, token, mapped}
use Rattle.tsql_grammar.specs.Values.{name_of}
use Rattle.tsql_grammar.specs.Grammar.{column_aggregates, other_names, name}
use Rattle.tsql_grammar.proofs.Laws.{gives, stopped}
use Rattle.tsql_exprs.specs.declared.error.ReadError.{ReadError}
use Rattle.tsql_exprs.specs.declared.error.ReadError.TheVariants as errors
use Rattle.tsql_exprs.specs.Steps.{Fails, Steps}

among_rest : (ks ls : List Terminal) (k : Terminal) → among k ks ≡ false → among k (ks ++ ls) ≡ among k ls
among_rest [] ls k e = refl
among_rest (j ∷ ks) ls k e = go (same k j) e (λ h. among_rest ks ls k h)
  where
    go : (b : Bool) → (b || among k ks) ≡ false → (among k ks ≡ false → among k (ks ++ ls) ≡ among k ls) → (b || among k (ks ++ ls)) ≡ among k ls
    go true h f = absurd cc
    go false h f = f h

neither : (b c : Bool) → (b || false) ≡ false → c ≡ false → (b || c) ≡ false
neither true c h e = absurd cc
neither false c h e = e

abbrev named : List ℕ → Reading Symbol → Reading ItemTree
named text read = (read >>= λ x. Ok (name_of text x.0, x.1)) >>= λ y. Ok (its.Name y.0, y.1)

abbrev one : Symbol → Symbols → Bool → Reading Symbol
one t ts is = if is then gives t ts else stopped (t ∷ ts)

pub other_read : (text : List ℕ) (ts : Symbols) → next_among (terminal.Count ∷ []) ts ≡ false → next_among column_aggregates ts ≡ false
    → (mapped its.Name (name text)).reads ts ≡ (mapped its.Name (mapped (name_of text) (token other_names))).reads ts
unfolding name
other_read text [] c a = refl
other_read text (t ∷ ts) c a =
    ap (λ (b : Bool). named text (one t ts b))
    (among_rest (terminal.Count ∷ column_aggregates) other_names t.terminal (neither (same t.terminal terminal.Count) (among t.terminal column_aggregates) c a))

-- ---- what reading a name gives

module _ (text : List ℕ) (old rest : Symbols) (c : next_among (terminal.Count ∷ []) old ≡ false) (a : next_among column_aggregates old ≡ false) where
  pub other_ok : (n : NameTree) → (name text).reads old ≡ Ok (n, rest) → (mapped its.Name (mapped (name_of text) (token other_names))).reads old ≡ Ok (its.Name n, rest)
  other_ok n e = sym (other_read text old c a) ∙ ap (λ (r : Reading NameTree). r >>= λ x. Ok (its.Name x.0, x.1)) e

  fails : (e : ReadError) → Fails e rest ((name text).reads old) → Fails e rest ((mapped its.Name (mapped (name_of text) (token other_names))).reads old)
  fails errors.Memory f = tt
  fails errors.Stopped f = sym (other_read text old c a) ∙ ap (λ (r : Reading NameTree). r >>= λ x. Ok (its.Name x.0, x.1)) f

  pub other_err : (r : Result ItemTree ReadError) (e : ReadError) → IsErrAnd r (λ d. d ≡ e) → Fails e rest ((name text).reads old)
      → Steps r rest ((mapped its.Name (mapped (name_of text) (token other_names))).reads old)
  other_err (Ok x) e is f = absurd is
  other_err (Err d) e is f =
      subst (λ (z : ReadError). Fails z rest ((mapped its.Name (mapped (name_of text) (token other_names))).reads old)) (sym is) (fails e f)
