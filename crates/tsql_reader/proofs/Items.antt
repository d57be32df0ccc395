-- An aggregate with what is in its parentheses.
use Rattle.std.proofs.Common.{◌≡◌, ℕ, true, List, Result, Ok, Err, Some}
use Rattle.tsql_trees.specs.declared.statement.ItemTree.{ItemTree}
use Rattle.tsql_grammar.specs.declared.terminal.Terminal.{Terminal}
use Rattle.tsql_grammar.specs.declared.terminal.Symbol.{Symbol}
use Rattle.tsql_grammar.specs.Forms.{Symbols, Reading, ◌>>=◌, next_among, Form, token, mapped, seq, optional}
use Rattle.tsql_grammar.specs.Grammar.{named_or}
use Rattle.tsql_exprs.specs.declared.error.ReadError.{ReadError}
use Rattle.tsql_exprs.specs.Steps.{Steps}

with_some : (text : List ℕ) (t : Symbol) (read : Reading (Symbol → ItemTree)) (r : Result ItemTree ReadError) (rest : Symbols)
    → Steps r rest (read >>= λ x. Ok (x.0 t, x.1))
    → Steps r rest (((read >>= λ x. Ok (Some x.0, x.1)) >>= λ y. Ok ((t, y.0), y.1)) >>= λ z. Ok (named_or text z.0, z.1))
with_some text t (Ok x) r rest h = h
with_some text t (Err e) r rest h = h

pub aggregate_read : (text : List ℕ) (ks : List Terminal) (a : Form (Symbol → ItemTree)) (old mid rest : Symbols) (t : Symbol) (r : Result ItemTree ReadError)
    → (token ks).reads old ≡ Ok (t, mid) → next_among a.first mid ≡ true → Steps r rest ((mapped (λ f. f t) a).reads mid)
    → Steps r rest ((mapped (named_or text) (seq (token ks) (optional a))).reads old)
aggregate_read text ks a old mid rest t r e b h = rw (e, b) (with_some text t (a.reads mid) r rest h)
