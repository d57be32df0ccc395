use Rattle.std.proofs.Common.{◌≡◌, true, false, [], ◌∷◌, refl, rules, arith}
use Rattle.tsql_grammar.specs.declared.terminal.Terminal.TheVariants as terminal
use Rattle.tsql_grammar.specs.Forms.{next_among}
use Rattle.tsql_grammar.specs.Grammar.{behind, nots, begins_part, part_at, neg_from, conj_from}
use Rattle.tsql_grammar.proofs.Makers.{behind_laws}
use Rattle.tsql_grammar.proofs.Lines.{neg_from_laws, conj_from_laws, begins_part_laws}
use Rattle.tsql_grammar.proofs.Loops.{goes_on, shorter}
use Rattle.tsql_exprs.proofs.Depth.{front_nil, part_none, part_shut, part_open}
use Rattle.tsql_exprs.proofs.grammar.Grammar.+pred.Goals as goal

pub more_negs-more-init : goal.more_negs-more-init
more_negs-more-init t c = rw (c.new-list.ensures) (front_nil _)

pub more_negs-more-smaller : goal.more_negs-more-smaller
unfolding nots neg_from
more_negs-more-smaller t c =
    shorter (behind terminal.And (neg_from (begins_part (part_at c.args.self.now.text.now c.args.self.now.depth)))) (behind_laws terminal.And refl (neg_from_laws (part_at c.args.self.now.text.now c.args.self.now.depth) (begins_part_laws c.args.self.now.text.now c.args.self.now.depth))) refl refl
    c.more.reader.rest.now c.next_neg.new.reader.rest.now c.in_ok-next.next c.in_ok-next.ensures

pub more_negs-more-preserved : goal.more_negs-more-preserved
unfolding nots neg_from
more_negs-more-preserved t c =
    rw (c.in_ok-push.ensures.ok) (goes_on (behind terminal.And (neg_from (begins_part (part_at c.args.self.now.text.now c.args.self.now.depth)))) (behind_laws terminal.And refl (neg_from_laws (part_at c.args.self.now.text.now c.args.self.now.depth) (begins_part_laws c.args.self.now.text.now c.args.self.now.depth))) refl refl
    c.more.list c.more.reader.rest.now c.next_neg.new.reader.rest.now c.in_ok-next.next _ (search rules) c.in_ok-next.ensures c.more.invariant)

pub more_conjs-more-init : goal.more_conjs-more-init
more_conjs-more-init t c = rw (c.new-list.ensures) (front_nil _)

pub more_conjs-more-smaller : goal.more_conjs-more-smaller
unfolding nots neg_from conj_from
more_conjs-more-smaller t c =
    shorter (behind terminal.Or (conj_from (begins_part (part_at c.args.self.now.text.now c.args.self.now.depth)))) (behind_laws terminal.Or refl (conj_from_laws (part_at c.args.self.now.text.now c.args.self.now.depth) (begins_part_laws c.args.self.now.text.now c.args.self.now.depth))) refl refl
    c.more.reader.rest.now c.next_conj.new.reader.rest.now c.in_ok-next.next c.in_ok-next.ensures

pub more_conjs-more-preserved : goal.more_conjs-more-preserved
unfolding nots neg_from conj_from
more_conjs-more-preserved t c =
    rw (c.in_ok-push.ensures.ok) (goes_on (behind terminal.Or (conj_from (begins_part (part_at c.args.self.now.text.now c.args.self.now.depth)))) (behind_laws terminal.Or refl (conj_from_laws (part_at c.args.self.now.text.now c.args.self.now.depth) (begins_part_laws c.args.self.now.text.now c.args.self.now.depth))) refl refl
    c.more.list c.more.reader.rest.now c.next_conj.new.reader.rest.now c.in_ok-next.next _ (search rules) c.in_ok-next.ensures c.more.invariant)

pub part-returns-then-self-eq0 : goal.part-returns-then-self-eq0
part-returns-then-self-eq0 t c = rw (part_none c.args.self.now.text.now c.args.self.now.depth c.args.reader.now.rest.now (omega arith)) c.atom_part.ensures

pub part-returns-then-not-begins : goal.part-returns-then-not-begins
part-returns-then-not-begins t c =
    let shut : next_among (terminal.OpenSign ∷ []) c.args.reader.now.rest.now ≡ false = search rules in
    rw (part_shut c.args.self.now.text.now c.args.self.now.depth c.args.reader.now.rest.now shut) c.atom_part-then-not-begins.ensures

pub part-returns : goal.part-returns
part-returns t c =
    let open_next : next_among (terminal.OpenSign ∷ []) c.args.reader.now.rest.now ≡ true = search rules in
    rw (part_open c.args.self.now.text.now c.args.self.now.depth c.args.reader.now.rest.now (omega arith) open_next) c.nested_pred.ensures
