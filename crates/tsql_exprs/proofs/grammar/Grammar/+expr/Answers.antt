use Rattle.std.proofs.Common.{◌≡◌, true, false, [], ◌∷◌, refl, rules, arith}
use Rattle.tsql_grammar.specs.declared.terminal.Terminal.TheVariants as terminal
use Rattle.tsql_grammar.specs.Forms.{next_among, seq}
use Rattle.tsql_grammar.specs.Grammar.{sign, times, begins_primary, primary_at, factor_from, term_from}
use Rattle.tsql_grammar.proofs.Makers.{both}
use Rattle.tsql_grammar.proofs.Lines.{sign_laws, times_laws, factor_from_laws, term_from_laws, begins_primary_laws}
use Rattle.tsql_grammar.proofs.Loops.{goes_on, shorter}
use Rattle.tsql_exprs.proofs.Depth.{front_nil, primary_none, primary_shut, primary_open}
use Rattle.tsql_exprs.proofs.grammar.Grammar.+expr.Goals as goal

pub more_factors-more-init : goal.more_factors-more-init
more_factors-more-init t c = rw (c.new-list.ensures) (front_nil _)

pub more_factors-more-smaller : goal.more_factors-more-smaller
unfolding times sign factor_from
more_factors-more-smaller t c =
    shorter (seq times (factor_from (begins_primary (primary_at c.args.self.now.text.now c.args.self.now.depth)))) (both times_laws (factor_from_laws (primary_at c.args.self.now.text.now c.args.self.now.depth) (begins_primary_laws c.args.self.now.text.now c.args.self.now.depth)) refl) refl refl
    c.more.reader.rest.now c.next_factor.new.reader.rest.now c.in_ok-next.next c.in_ok-next.ensures

pub more_factors-more-preserved : goal.more_factors-more-preserved
unfolding times sign factor_from
more_factors-more-preserved t c =
    rw (c.in_ok-push.ensures.ok) (goes_on (seq times (factor_from (begins_primary (primary_at c.args.self.now.text.now c.args.self.now.depth)))) (both times_laws (factor_from_laws (primary_at c.args.self.now.text.now c.args.self.now.depth) (begins_primary_laws c.args.self.now.text.now c.args.self.now.depth)) refl) refl refl
    c.more.list c.more.reader.rest.now c.next_factor.new.reader.rest.now c.in_ok-next.next _ (search rules) c.in_ok-next.ensures c.more.invariant)

pub more_terms-more-init : goal.more_terms-more-init
more_terms-more-init t c = rw (c.new-list.ensures) (front_nil _)

pub more_terms-more-smaller : goal.more_terms-more-smaller
unfolding times sign factor_from term_from
more_terms-more-smaller t c =
    shorter (seq sign (term_from (begins_primary (primary_at c.args.self.now.text.now c.args.self.now.depth)))) (both sign_laws (term_from_laws (primary_at c.args.self.now.text.now c.args.self.now.depth) (begins_primary_laws c.args.self.now.text.now c.args.self.now.depth)) refl) refl refl
    c.more.reader.rest.now c.next_term.new.reader.rest.now c.in_ok-next.next c.in_ok-next.ensures

pub more_terms-more-preserved : goal.more_terms-more-preserved
unfolding times sign factor_from term_from
more_terms-more-preserved t c =
    rw (c.in_ok-push.ensures.ok) (goes_on (seq sign (term_from (begins_primary (primary_at c.args.self.now.text.now c.args.self.now.depth)))) (both sign_laws (term_from_laws (primary_at c.args.self.now.text.now c.args.self.now.depth) (begins_primary_laws c.args.self.now.text.now c.args.self.now.depth)) refl) refl refl
    c.more.list c.more.reader.rest.now c.next_term.new.reader.rest.now c.in_ok-next.next _ (search rules) c.in_ok-next.ensures c.more.invariant)

pub primary-returns-then-self-eq0 : goal.primary-returns-then-self-eq0
primary-returns-then-self-eq0 t c = rw (primary_none c.args.self.now.text.now c.args.self.now.depth c.args.reader.now.rest.now (omega arith)) c.plain.ensures

pub primary-returns-then-not-begins : goal.primary-returns-then-not-begins
primary-returns-then-not-begins t c =
    let shut : next_among (terminal.OpenSign ∷ []) c.args.reader.now.rest.now ≡ false = search rules in
    rw (primary_shut c.args.self.now.text.now c.args.self.now.depth c.args.reader.now.rest.now shut) c.plain-then-not-begins.ensures

pub primary-returns : goal.primary-returns
primary-returns t c =
    let open_next : next_among (terminal.OpenSign ∷ []) c.args.reader.now.rest.now ≡ true = search rules in
    rw (primary_open c.args.self.now.text.now c.args.self.now.depth c.args.reader.now.rest.now (omega arith) open_next) c.nested_expr.ensures
