-- The columns of a setup statement stand in the text in their order.
use Rattle.std.proofs.Common.{◌≡◌, ℕ, ◌+◌, ◌≤◌, List, [], ◌∷◌, ◌++◌, length, map, Option, None, Some, refl, sym, ap, subst, ◌∙◌, append_assoc, inl, inr, arith}
use Rattle.std.specs.List.{flat_map}
use Rattle.std.proofs.lemmas.List.{map-append, append-nil}
use Rattle.tsql_trees.specs.declared.leaf.NameTree.{NameTree}
use Rattle.tsql_tokens.specs.declared.token.Token.{Token}
use Rattle.tsql_tokens.specs.declared.token.TokenKind.{TokenKind}
use Rattle.tsql_tokens.specs.Tokens.{Piece, HasTokens, tokens_of, spanned, kind_of}
use Rattle.tsql_grammar.specs.declared.terminal.Terminal.{Terminal}
use Rattle.tsql_grammar.specs.declared.terminal.Terminal.TheVariants as terminal
use Rattle.tsql_grammar.specs.declared.terminal.Symbol.{Symbol}
use Rattle.tsql_grammar.specs.Forms.{Symbols, Form, mapped, seq, either, optional, many}
use Rattle.tsql_grammar.specs.Grammar.{word, behind, within, listed, name, table, column_type}
use Rattle.tsql_grammar.specs.Words.{symbols_of}
use Rattle.tsql_create.specs.declared.tree.CreateTree.{CreateTree}
use Rattle.tsql_create.specs.declared.tree.TablePartTree.{TablePartTree}
use Rattle.tsql_create.specs.Setup.{mark, primary_key, column_of, column_part, constraint_part, key_column, key_part_of, key_part, index_of, index_part, table_part, create, create_of, first_one}
use Rattle.tsql_create.specs.Creates.{IsCreate}
use Rattle.tsql_create.specs.declared.written.WrittenColumn.{WrittenColumn}
use Rattle.tsql_create.specs.Written.{part_columns, columns}
use Rattle.tsql_create.specs.Order.{Each, Ascend, AreInOrder}

-- ---- places in order

-- the places are some of the others, in their order
abbrev pub AreAmong : List ℕ → List ℕ → Type 0
AreAmong [] qs = Unit {0}
AreAmong (p ∷ ps) qs = (u : List ℕ) × (v : List ℕ) × (qs ≡ u ++ p ∷ v) × AreAmong ps v

among_after : (a ps b : List ℕ) → AreAmong ps b → AreAmong ps (a ++ b)
among_after a [] b s = tt
among_after a (p ∷ ps) b (u, v, e, s) = (a ++ u, v, ap (λ z. a ++ z) e ∙ sym (append_assoc a u (p ∷ v)), s)

among_both : (ps a qs b : List ℕ) → AreAmong ps a → AreAmong qs b → AreAmong (ps ++ qs) (a ++ b)
among_both [] a qs b s t = among_after a qs b t
among_both (p ∷ ps) a qs b (u, v, e, s) t =
    (u, v ++ b, ap (λ z. z ++ b) e ∙ append_assoc u (p ∷ v) b, among_both ps v qs b s t)

each_more : (n m : ℕ) (ps : List ℕ) → m ≤ n → Each (λ q. n ≤ q) ps → Each (λ q. m ≤ q) ps
each_more n m [] le all = tt
each_more n m (p ∷ ps) le all = (omega arith, each_more n m ps le all.1)

each_behind : (P : ℕ → Type 0) (u v : List ℕ) → Each P (u ++ v) → Each P v
each_behind P [] v all = all
each_behind P (p ∷ u) v all = each_behind P u v all.1

each_among : (P : ℕ → Type 0) (ps qs : List ℕ) → AreAmong ps qs → Each P qs → Each P ps
each_among P [] qs s all = tt
each_among P (p ∷ ps) qs (u, v, e, s) all =
    let here = each_behind P u (p ∷ v) (subst (λ z. Each P z) e all) in (here.0, each_among P ps v s here.1)

ascend_behind : (u v : List ℕ) → Ascend (u ++ v) → Ascend v
ascend_behind [] v all = all
ascend_behind (p ∷ u) v all = ascend_behind u v all.1

ascend_among : (ps qs : List ℕ) → AreAmong ps qs → Ascend qs → Ascend ps
ascend_among [] qs s all = tt
ascend_among (p ∷ ps) qs (u, v, e, s) all =
    let here = ascend_behind u (p ∷ v) (subst (λ z. Ascend z) e all) in
    (each_among (λ q. p ≤ q) ps v s here.0, ascend_among ps v s here.1)

-- ---- the tokens

token_places : List Token → List ℕ
token_places tokens = map (λ t. t.from + 1) tokens

module _ (from to : ℕ) (le : from ≤ to) (rest : List Token) where
  spanned_first : (kind : Option TokenKind) → Each (λ q. to + 1 ≤ q) (map (λ t. t.from + 1) rest) → Each (λ q. from + 1 ≤ q) (map (λ t. t.from + 1) (spanned kind from to ++ rest))
  spanned_first None all = each_more (to + 1) (from + 1) (map (λ t. t.from + 1) rest) (omega arith) all
  spanned_first (Some kind) all = (omega arith, each_more (to + 1) (from + 1) (map (λ t. t.from + 1) rest) (omega arith) all)

  spanned_ascend : (kind : Option TokenKind) → Each (λ q. to + 1 ≤ q) (map (λ t. t.from + 1) rest) → Ascend (map (λ t. t.from + 1) rest) → Ascend (map (λ t. t.from + 1) (spanned kind from to ++ rest))
  spanned_ascend None all asc = asc
  spanned_ascend (Some kind) all asc = (each_more (to + 1) (from + 1) (map (λ t. t.from + 1) rest) (omega arith) all, asc)

tokens_first : (from : ℕ) (pieces : List Piece) → Each (λ q. from + 1 ≤ q) (map (λ t. t.from + 1) (tokens_of from pieces))
tokens_first from [] = tt
tokens_first from (p ∷ pieces) =
    spanned_first from (from + length p.bytes) (omega arith) (tokens_of (from + length p.bytes) pieces) (kind_of p.lexeme p.bytes) (tokens_first (from + length p.bytes) pieces)

tokens_ascend : (from : ℕ) (pieces : List Piece) → Ascend (map (λ t. t.from + 1) (tokens_of from pieces))
tokens_ascend from [] = tt
tokens_ascend from (p ∷ pieces) =
    spanned_ascend from (from + length p.bytes) (omega arith) (tokens_of (from + length p.bytes) pieces) (kind_of p.lexeme p.bytes)
    (tokens_first (from + length p.bytes) pieces) (tokens_ascend (from + length p.bytes) pieces)

abbrev symbol_places : Symbols → List ℕ
symbol_places ts = map (λ t. t.place) ts

symbols_at : (text : List ℕ) (tokens : List Token) → map (λ t. t.from + 1) tokens ≡ symbol_places (symbols_of text tokens)
symbols_at text [] = refl
symbols_at text (t ∷ tokens) = ap (λ z. (t.from + 1) ∷ z) (symbols_at text tokens)

symbols_ascend : (text : List ℕ) (tokens : List Token) → HasTokens text tokens → Ascend (symbol_places (symbols_of text tokens))
symbols_ascend text tokens (pieces, front, within, e) =
    subst (λ z. Ascend z) (symbols_at text tokens) (subst (λ z. Ascend (map (λ t. t.from + 1) z)) (sym e) (tokens_ascend 0 pieces))

-- ---- the forms

-- the places that f names in a form's value are among those of its tokens
abbrev Keeps : {X : Type 0} → Form X → (X → List ℕ) → Type 0
Keeps {X} a f = (ts : Symbols) (x : X) → a.Has ts x → AreAmong (f x) (symbol_places ts)

mapped_keeps : {X Y : Type 0} (g : X → Y) (a : Form X) (f : Y → List ℕ) → Keeps a (λ x. f (g x)) → Keeps (mapped g a) f
mapped_keeps g a f k ts y (x, has, e) = subst (λ z. AreAmong (f z) (symbol_places ts)) (sym e) (k ts x has)

seq_keeps : {X Y : Type 0} (a : Form X) (b : Form Y) (f : X → List ℕ) (g : Y → List ℕ) → Keeps a f → Keeps b g → Keeps (seq a b) (λ xy. f xy.0 ++ g xy.1)
seq_keeps a b f g k l ts xy (u, v, e, has, more) =
    subst (λ z. AreAmong (f xy.0 ++ g xy.1) z) (sym (ap (λ z. symbol_places z) e ∙ map-append (λ (t : Symbol). t.place) u v))
    (among_both (f xy.0) (symbol_places u) (g xy.1) (symbol_places v) (k u xy.0 has) (l v xy.1 more))

nothing_kept : {X : Type 0} (a : Form X) → Keeps a (λ x. [])
nothing_kept a ts x has = tt

behind_keeps : {X : Type 0} (k : Terminal) (a : Form X) (f : X → List ℕ) → Keeps a f → Keeps (behind k a) f
behind_keeps k a f keeps = mapped_keeps (λ x. x.1) (seq (word k) a) f (seq_keeps (word k) a (λ x. []) f (nothing_kept (word k)) keeps)

seq_left : {X Y : Type 0} (a : Form X) (b : Form Y) (f : X → List ℕ) → Keeps a f → Keeps (seq a b) (λ xy. f xy.0)
seq_left a b f k ts xy has =
    subst (λ z. AreAmong z (symbol_places ts)) (append-nil (f xy.0)) (seq_keeps a b f (λ y. []) k (nothing_kept b) ts xy has)

seq_right : {X Y : Type 0} (a : Form X) (b : Form Y) (g : Y → List ℕ) → Keeps b g → Keeps (seq a b) (λ xy. g xy.1)
seq_right a b g k = seq_keeps a b (λ x. []) g (nothing_kept a) k

within_keeps : {X : Type 0} (a : Form X) (f : X → List ℕ) → Keeps a f → Keeps (within a) f
within_keeps a f k =
    behind_keeps terminal.OpenSign (mapped (λ x. x.0) (seq a (word terminal.CloseSign))) f
    (mapped_keeps (λ x. x.0) (seq a (word terminal.CloseSign)) f (seq_left a (word terminal.CloseSign) f k))

many_keeps : {X : Type 0} (a : Form X) (f : X → List ℕ) → Keeps a f → Keeps (many a) (flat_map f)
many_keeps a f k ts [] has = tt
many_keeps a f k ts (x ∷ xs) (u, v, e, has, more) =
    subst (λ z. AreAmong (f x ++ flat_map f xs) z) (sym (ap (λ z. symbol_places z) e ∙ map-append (λ (t : Symbol). t.place) u v))
    (among_both (f x) (symbol_places u) (flat_map f xs) (symbol_places v) (k u x has) (many_keeps a f k v xs more))

listed_keeps : {X : Type 0} (a : Form X) (f : X → List ℕ) → Keeps a f → Keeps (listed a) (flat_map f)
listed_keeps a f k =
    mapped_keeps (λ x. x.0 ∷ x.1) (seq a (many (behind terminal.CommaSign a))) (flat_map f)
    (seq_keeps a (many (behind terminal.CommaSign a)) f (flat_map f) k (many_keeps (behind terminal.CommaSign a) f (behind_keeps terminal.CommaSign a f k)))

either_keeps : {X : Type 0} (a b : Form X) (f : X → List ℕ) → Keeps a f → Keeps b f → Keeps (either a b) f
either_keeps a b f k l ts x (inl has) = k ts x has
either_keeps a b f k l ts x (inr has) = l ts x has

-- ---- the setup statement

name_keeps : (text : List ℕ) → Keeps (name text) (λ n. n.place ∷ [])
unfolding name
name_keeps text ts n (t, (e, among), en) =
    ([], [], ap (λ z. symbol_places z) e ∙ ap (λ (z : NameTree). z.place ∷ []) (sym en), tt)

abbrev part_places : TablePartTree → List ℕ
part_places part = map (λ c. c.name.place) (part_columns part)

part_keeps : (text : List ℕ) → Keeps (table_part text) part_places
unfolding table_part column_part key_part index_part
part_keeps text =
    either_keeps (column_part text) (either (key_part text) (index_part text)) part_places
    (mapped_keeps column_of (seq (name text) (seq (column_type text) (many mark))) part_places
    (seq_left (name text) (seq (column_type text) (many mark)) (λ n. n.place ∷ []) (name_keeps text)))
    (either_keeps (key_part text) (index_part text) part_places
    (mapped_keeps (λ x. x.1) (seq (optional (constraint_part text)) (mapped key_part_of (seq primary_key (key_column text)))) part_places
    (seq_right (optional (constraint_part text)) (mapped key_part_of (seq primary_key (key_column text))) part_places
    (mapped_keeps key_part_of (seq primary_key (key_column text)) part_places (nothing_kept (seq primary_key (key_column text))))))
    (behind_keeps terminal.Index (mapped index_of (mapped first_one (seq (name text) (behind terminal.Clustered (word terminal.Columnstore))))) part_places
    (mapped_keeps index_of (mapped first_one (seq (name text) (behind terminal.Clustered (word terminal.Columnstore)))) part_places
    (nothing_kept (mapped first_one (seq (name text) (behind terminal.Clustered (word terminal.Columnstore))))))))

abbrev tree_places : CreateTree → List ℕ
tree_places tree = flat_map part_places tree.parts

create_keeps : (text : List ℕ) → Keeps (create text) tree_places
unfolding create
create_keeps text =
    let body = seq (table text) (within (listed (table_part text))) in
    mapped_keeps first_one (seq (mapped create_of (behind terminal.Create (behind terminal.Table body))) (optional (word terminal.SemicolonSign))) tree_places
    (seq_left (mapped create_of (behind terminal.Create (behind terminal.Table body))) (optional (word terminal.SemicolonSign)) tree_places
    (mapped_keeps create_of (behind terminal.Create (behind terminal.Table body)) tree_places
    (behind_keeps terminal.Create (behind terminal.Table body) (λ x. flat_map part_places x.1)
    (behind_keeps terminal.Table body (λ x. flat_map part_places x.1)
    (seq_right (table text) (within (listed (table_part text))) (flat_map part_places)
    (within_keeps (listed (table_part text)) (flat_map part_places) (listed_keeps (table_part text) part_places (part_keeps text))))))))

column_places : (list : List TablePartTree) → flat_map part_places list ≡ map (λ c. c.name.place) (columns list)
column_places [] = refl
column_places (p ∷ rest) =
    ap (λ z. part_places p ++ z) (column_places rest) ∙ sym (map-append (λ (c : WrittenColumn). c.name.place) (part_columns p) (columns rest))

-- the names of columns stand one after another
pub columns_ascend : (text : List ℕ) (tree : CreateTree) → IsCreate text tree → AreInOrder (columns tree.parts)
columns_ascend text tree (tokens, has, is) =
    subst (λ z. Ascend z) (column_places tree.parts)
    (ascend_among (tree_places tree) (symbol_places (symbols_of text tokens)) (create_keeps text (symbols_of text tokens) tree is) (symbols_ascend text tokens has))
