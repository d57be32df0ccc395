-- Lines that begin alike are read as one.
use Rattle.std.proofs.Common.{◌≡◌, ℕ, Bool, true, false, List, [], ◌∷◌, ◌++◌, refl, ap, ◌∙◌, inl, inr}
use Rattle.std.specs.Prelude.{◌⊎◌, ◌||◌, None, Some}
use Rattle.tsql_trees.specs.declared.leaf.NameTree.{NameTree}
use Rattle.tsql_trees.specs.declared.pred.AtomTree.{AtomTree}
use Rattle.tsql_trees.specs.declared.pred.OperandTree.{OperandTree}
use Rattle.tsql_trees.specs.declared.pred.OperandTree.TheVariants as operands
use Rattle.tsql_trees.specs.declared.statement.Statement.{Statement}
use Rattle.tsql_trees.specs.declared.statement.ItemsTree.{ItemsTree}
use Rattle.tsql_trees.specs.declared.statement.ItemTree.{ItemTree}
use Rattle.tsql_trees.specs.declared.statement.ItemTree.TheVariants as its
use Rattle.tsql_grammar.specs.declared.terminal.Terminal.{Terminal}
use Rattle.tsql_grammar.specs.declared.terminal.Terminal.TheVariants as terminal
use Rattle.tsql_grammar.specs.declared.terminal.Symbol.{Symbol}
use Rattle.tsql_grammar.specs.Terminals.{among, same}
use Rattle.tsql_grammar.specs.Forms.{Symbols, Form, token, written}
use Rattle.tsql_grammar.specs.Values.{name_of, aggregate_of, count_all_of, QueryPart, select_of}
use Rattle.tsql_grammar.specs.Grammar.{other_names, column_aggregates, atom_lines, item_lines, set_lines, select_lines, with_left, with_name, with_low, with_list, with_pattern, with_null, with_items, counted_star, counted_name, name, operand, compared, between, within_list, like, tested, maybe_tested, is_null, after_name, atom_read, counted, aggregated, item_read, set_read, items, queried, select_read}
use Rattle.tsql_grammar.proofs.Laws.{Laws}

pub written_laws : {X : Type 0} (lines a : Form X) → Laws a
    → ((ts : Symbols) (x : X) → a.Has ts x → lines.Has ts x) → ((ts : Symbols) (x : X) → lines.Has ts x → a.Has ts x) → Laws (written lines a)
written_laws lines a la to from = record {
  some = (la.some.0, la.some.1, to la.some.0 la.some.1 la.some.2);
  begins = λ ts x h. la.begins ts x (from ts x h);
  sound = λ ts rest x e. (let s = la.sound ts rest x e in (s.0, s.1, to s.0 x s.2));
  complete = λ u rest x h g. la.complete u rest x (from u x h) g;
  stops = λ ts rest e. (let s = la.stops ts rest e in (s.0, s.1, s.2, s.3, to (s.0 ++ s.1) s.2 s.4));
  near = la.near;
  far = la.far;
}

-- ---- atoms

pub atom_to : (text : List ℕ) (ts : Symbols) (p : AtomTree) → (atom_read text).Has ts p → (atom_lines text).Has ts p
unfolding atom_read after_name operand compared maybe_tested tested between within_list like is_null
atom_to text ts p (inl ((n, f), (u, v, e, hn, inl (g, (x, hx, kx), k)), q)) =
    inl ((operands.Name n, x), (u, v, e, inl (n, hn, refl), hx), q ∙ ap (λ (h : NameTree → AtomTree). h n) k ∙ ap (λ (h : OperandTree → AtomTree). h (operands.Name n)) kx)
atom_to text ts p (inl ((n, f), (u, v, e, hn, inr (inl ((b, h), (v1, v2, e2, hb, inl (x, hx, kx)), k))), q)) =
    inr (inl ((n, (b, x)), (u, v, e, hn, (v1, v2, e2, hb, hx)), q ∙ ap (λ (h : NameTree → AtomTree). h n) k ∙ ap (λ (h : Bool → NameTree → AtomTree). h b n) kx))
atom_to text ts p (inl ((n, f), (u, v, e, hn, inr (inl ((b, h), (v1, v2, e2, hb, inr (inl (x, hx, kx))), k))), q)) =
    inr (inr (inl ((n, (b, x)), (u, v, e, hn, (v1, v2, e2, hb, hx)), q ∙ ap (λ (h : NameTree → AtomTree). h n) k ∙ ap (λ (h : Bool → NameTree → AtomTree). h b n) kx)))
atom_to text ts p (inl ((n, f), (u, v, e, hn, inr (inl ((b, h), (v1, v2, e2, hb, inr (inr (x, hx, kx))), k))), q)) =
    inr (inr (inr (inl ((n, (b, x)), (u, v, e, hn, (v1, v2, e2, hb, hx)), q ∙ ap (λ (h : NameTree → AtomTree). h n) k ∙ ap (λ (h : Bool → NameTree → AtomTree). h b n) kx))))
atom_to text ts p (inl ((n, f), (u, v, e, hn, inr (inr (x, hx, k))), q)) =
    inr (inr (inr (inr ((n, x), (u, v, e, hn, hx), q ∙ ap (λ (h : NameTree → AtomTree). h n) k))))
atom_to text ts p (inr ((c, f), (u, v, e, hc, (x, hx, k)), q)) =
    inl ((operands.Const c, x), (u, v, e, inr (c, hc, refl), hx), q ∙ ap (λ (h : OperandTree → AtomTree). h (operands.Const c)) k)

pub atom_from : (text : List ℕ) (ts : Symbols) (p : AtomTree) → (atom_lines text).Has ts p → (atom_read text).Has ts p
unfolding atom_read after_name operand compared maybe_tested tested between within_list like is_null
atom_from text ts p (inl ((o, x), (u, v, e, inl (n, hn, k), hx), q)) =
    inl ((n, with_name (with_left x)), (u, v, e, hn, inl (with_left x, (x, hx, refl), refl)), q ∙ ap (with_left x) k)
atom_from text ts p (inl ((o, x), (u, v, e, inr (c, hc, k), hx), q)) =
    inr ((c, with_left x), (u, v, e, hc, (x, hx, refl)), q ∙ ap (with_left x) k)
atom_from text ts p (inr (inl ((n, (b, x)), (u, v, e, hn, (v1, v2, e2, hb, hx)), q))) =
    inl ((n, with_low x b), (u, v, e, hn, inr (inl ((b, with_low x), (v1, v2, e2, hb, inl (x, hx, refl)), refl))), q)
atom_from text ts p (inr (inr (inl ((n, (b, x)), (u, v, e, hn, (v1, v2, e2, hb, hx)), q)))) =
    inl ((n, with_list x b), (u, v, e, hn, inr (inl ((b, with_list x), (v1, v2, e2, hb, inr (inl (x, hx, refl))), refl))), q)
atom_from text ts p (inr (inr (inr (inl ((n, (b, x)), (u, v, e, hn, (v1, v2, e2, hb, hx)), q))))) =
    inl ((n, with_pattern x b), (u, v, e, hn, inr (inl ((b, with_pattern x), (v1, v2, e2, hb, inr (inr (x, hx, refl))), refl))), q)
atom_from text ts p (inr (inr (inr (inr ((n, x), (u, v, e, hn, hx), q))))) =
    inl ((n, with_null x), (u, v, e, hn, inr (inr (x, hx, refl))), q)

-- ---- SET

pub set_to : (text : List ℕ) (ts : Symbols) (s : Statement) → (set_read text).Has ts s → (set_lines text).Has ts s
unfolding set_read
set_to text ts s ((t, x), (u, v, e, ht, inl hx), q) = inl ((t, x), (u, v, e, ht, hx), q)
set_to text ts s ((t, x), (u, v, e, ht, inr (inl hx)), q) = inr (inl ((t, x), (u, v, e, ht, hx), q))
set_to text ts s ((t, x), (u, v, e, ht, inr (inr hx)), q) = inr (inr ((t, x), (u, v, e, ht, hx), q))

pub set_from : (text : List ℕ) (ts : Symbols) (s : Statement) → (set_lines text).Has ts s → (set_read text).Has ts s
unfolding set_read
set_from text ts s (inl ((t, x), (u, v, e, ht, hx), q)) = ((t, x), (u, v, e, ht, inl hx), q)
set_from text ts s (inr (inl ((t, x), (u, v, e, ht, hx), q))) = ((t, x), (u, v, e, ht, inr (inl hx)), q)
set_from text ts s (inr (inr ((t, x), (u, v, e, ht, hx), q))) = ((t, x), (u, v, e, ht, inr (inr hx)), q)

-- ---- SELECT

pub select_to : (text : List ℕ) (n : ℕ) (ts : Symbols) (s : Statement) → (select_read text n).Has ts s → (select_lines text n).Has ts s
unfolding select_read queried items
select_to text n ts s ((t, y), (u, v, e, ht, inl ((i, f), (u1, v1, e1, hi, ((o, g), (u2, v2, e2, ho, (x, hx, kx)), kg)), k)), q) = (
  (i, x),
  ((t, (i, x)), (u, v, e, ht, (u1, v1, e1, inl hi, ((o, x), (u2, v2, e2, ho, hx), refl))), refl),
  q ∙ k ∙ ap (λ (h : ItemsTree → Statement). h i) (kg ∙ kx),
)
select_to text n ts s ((t, y), (u, v, e, ht, inr ((i, f), (u1, v1, e1, hi, ((o, g), (u2, v2, e2, ho, (x, hx, kx)), kg)), k)), q) = (
  (i, x),
  ((t, (i, x)), (u, v, e, ht, (u1, v1, e1, inr hi, ((o, x), (u2, v2, e2, ho, hx), refl))), refl),
  q ∙ k ∙ ap (λ (h : ItemsTree → Statement). h i) (kg ∙ kx),
)

pub select_from : (text : List ℕ) (n : ℕ) (ts : Symbols) (s : Statement) → (select_lines text n).Has ts s → (select_read text n).Has ts s
unfolding select_read queried items
select_from text n ts s (x, ((t, (i, y)), (u, v, e, ht, (u1, v1, e1, inl hi, ((o, z), (u2, v2, e2, ho, hz), kz))), k), q) = (
  (t, select_of (i, z)),
  (u, v, e, ht, inl ((i, with_items z), (u1, v1, e1, hi, ((o, with_items z), (u2, v2, e2, ho, (z, hz, refl)), refl)), refl)),
  q ∙ ap select_of k ∙ ap (λ (w : QueryPart). select_of (i, w)) kz,
)
select_from text n ts s (x, ((t, (i, y)), (u, v, e, ht, (u1, v1, e1, inr hi, ((o, z), (u2, v2, e2, ho, hz), kz))), k), q) = (
  (t, select_of (i, z)),
  (u, v, e, ht, inr ((i, with_items z), (u1, v1, e1, hi, ((o, with_items z), (u2, v2, e2, ho, (z, hz, refl)), refl)), refl)),
  q ∙ ap select_of k ∙ ap (λ (w : QueryPart). select_of (i, w)) kz,
)

-- ---- items

among_left : (k : Terminal) (xs ys : List Terminal) → among k xs ≡ true → among k (xs ++ ys) ≡ true
among_left k [] ys e = absurd cc
among_left k (x ∷ xs) ys e = go (same k x) (among_left k xs ys) e
  where
    go : (b : Bool) → (among k xs ≡ true → among k (xs ++ ys) ≡ true) → (b || among k xs) ≡ true → (b || among k (xs ++ ys)) ≡ true
    go true ih h = refl
    go false ih h = ih h

among_right : (k : Terminal) (xs ys : List Terminal) → among k ys ≡ true → among k (xs ++ ys) ≡ true
among_right k [] ys e = e
among_right k (x ∷ xs) ys e = go (same k x) (among_right k xs ys e)
  where
    go : (b : Bool) → among k (xs ++ ys) ≡ true → (b || among k (xs ++ ys)) ≡ true
    go true h = refl
    go false h = h

among_split : (k : Terminal) (xs ys : List Terminal) → among k (xs ++ ys) ≡ true → (among k xs ≡ true) ⊎ (among k ys ≡ true)
among_split k [] ys e = inr e
among_split k (x ∷ xs) ys e = go (same k x) (among_split k xs ys) e
  where
    go : (b : Bool) → (among k (xs ++ ys) ≡ true → (among k xs ≡ true) ⊎ (among k ys ≡ true)) → (b || among k (xs ++ ys)) ≡ true → ((b || among k xs) ≡ true) ⊎ (among k ys ≡ true)
    go true ih h = inl refl
    go false ih h = ih h

-- one token and nothing more
lone : (ts u v : Symbols) (t : Symbol) → ts ≡ u ++ v → u ≡ t ∷ [] → v ≡ [] → ts ≡ t ∷ []
lone ts u v t e eu ev = e ∙ ap (λ (z : Symbols). z ++ v) eu ∙ ap (λ (z : Symbols). t ∷ z) ev

-- what a count or another aggregate gives, with what is in its parentheses
given : (text : List ℕ) (t : Symbol) (i : ItemTree) (f g : Symbol → ItemTree) → i ≡ f t → f ≡ g → i ≡ g t
given text t i f g q k = q ∙ ap (λ (h : Symbol → ItemTree). h t) k

pub item_to : (text : List ℕ) (ts : Symbols) (i : ItemTree) → (item_read text).Has ts i → (item_lines text).Has ts i
unfolding item_read name counted aggregated
item_to text ts i (inl ((t, None), (u, v, e, (eu, k), ev), q)) =
    inl (name_of text t, (t, (lone ts u v t e eu ev, among_left t.terminal (terminal.Count ∷ []) (column_aggregates ++ other_names) k), refl), q)
item_to text ts i (inl ((t, Some f), (u, v, e, ht, ((o, g), (p, r, e1, ho, ((h, c), (p2, r2, e2, inl (star, hs, ks), hc), k2)), k1)), q)) =
    inr (inl ((t, star), (u, v, e, ht, ((o, star), (p, r, e1, ho, ((star, c), (p2, r2, e2, hs, hc), refl)), refl)), given text t i f (counted_star star) q (k1 ∙ k2 ∙ ks)))
item_to text ts i (inl ((t, Some f), (u, v, e, (eu, k), ((o, g), (p, r, e1, ho, ((h, c), (p2, r2, e2, inr (n, hn, kn), hc), k2)), k1)), q)) =
    inr (inr ((t, n), (u, v, e, (eu, among_left t.terminal (terminal.Count ∷ []) column_aggregates k), ((o, n), (p, r, e1, ho, ((n, c), (p2, r2, e2, hn, hc), refl)), refl)), given text t i f (counted_name n) q (k1 ∙ k2 ∙ kn)))
item_to text ts i (inr (inl ((t, None), (u, v, e, (eu, k), ev), q))) =
    inl (name_of text t, (t, (lone ts u v t e eu ev, among_right t.terminal (terminal.Count ∷ []) (column_aggregates ++ other_names) (among_left t.terminal column_aggregates other_names k)), refl), q)
item_to text ts i (inr (inl ((t, Some f), (u, v, e, (eu, k), (n, hn, kn)), q))) =
    inr (inr ((t, n), (u, v, e, (eu, among_right t.terminal (terminal.Count ∷ []) column_aggregates k), hn), given text t i f (counted_name n) q kn))
item_to text ts i (inr (inr (n, (t, (et, k), kn), q))) =
    inl (n, (t, (et, among_right t.terminal (terminal.Count ∷ []) (column_aggregates ++ other_names) (among_right t.terminal column_aggregates other_names k)), kn), q)

pub item_from : (text : List ℕ) (ts : Symbols) (i : ItemTree) → (item_lines text).Has ts i → (item_read text).Has ts i
unfolding item_read name counted aggregated
item_from text ts i (inl (n, (t, (et, k), kn), q)) = go (among_split t.terminal (terminal.Count ∷ []) (column_aggregates ++ other_names) k)
  where
    named : i ≡ its.Name (name_of text t)
    named = q ∙ ap (λ (z : NameTree). its.Name z) kn

    more : (among t.terminal column_aggregates ≡ true) ⊎ (among t.terminal other_names ≡ true) → (item_read text).Has ts i
    more (inl a) = inr (inl ((t, None), (t ∷ [], [], et, (refl, a), refl), named))
    more (inr a) = inr (inr (n, (t, (et, a), kn), q))

    go : (among t.terminal (terminal.Count ∷ []) ≡ true) ⊎ (among t.terminal (column_aggregates ++ other_names) ≡ true) → (item_read text).Has ts i
    go (inl a) = inl ((t, None), (t ∷ [], [], et, (refl, a), refl), named)
    go (inr a) = more (among_split t.terminal column_aggregates other_names a)
item_from text ts i (inr (inl ((t, star), (u, v, e, ht, ((o, g), (p, r, e1, ho, ((h, c), (p2, r2, e2, hs, hc), k2)), k1)), q))) =
    inl (
      (t, Some (counted_star h)),
      (u, v, e, ht, ((o, counted_star h), (p, r, e1, ho, ((counted_star h, c), (p2, r2, e2, inl (h, hs, refl), hc), refl)), refl)),
      q ∙ ap (λ (z : Symbol). count_all_of (t, z)) (k1 ∙ k2),
    )
item_from text ts i (inr (inr ((t, n), (u, v, e, (eu, k), ((o, g), (p, r, e1, ho, ((h, c), (p2, r2, e2, hn, hc), k2)), k1)), q))) =
    go (among_split t.terminal (terminal.Count ∷ []) column_aggregates k)
  where
    given_name : i ≡ aggregate_of (t, h)
    given_name = q ∙ ap (λ (z : NameTree). aggregate_of (t, z)) (k1 ∙ k2)

    go : (among t.terminal (terminal.Count ∷ []) ≡ true) ⊎ (among t.terminal column_aggregates ≡ true) → (item_read text).Has ts i
    go (inl a) = inl ((t, Some (counted_name h)), (u, v, e, (eu, a), ((o, counted_name h), (p, r, e1, ho, ((counted_name h, c), (p2, r2, e2, inr (h, hn, refl), hc), refl)), refl)), given_name)
    go (inr a) = inr (inl ((t, Some (counted_name h)), (u, v, e, (eu, a), (h, ((o, h), (p, r, e1, ho, ((h, c), (p2, r2, e2, hn, hc), refl)), refl), refl)), given_name))
