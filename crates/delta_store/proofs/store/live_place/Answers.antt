use Rattle.std.proofs.Common.{sym, ◌∙◌}
use Rattle.delta_store.proofs.LinkLemmas.{none_found, found_there, found_live, found_dead, if_none}
use Rattle.delta_store.proofs.store.live_place.Goals as goal

pub returns-in_err-place-clause-none : goal.returns-in_err-place-clause-none
returns-in_err-place-clause-none c = if_none c.from_residual.result (none_found c.args.chunks.now.versions c.args.index.now.pairs c.args.ended c.requires c.args.key (sym c.get.ensures ∙ c.in_err-place.was))

pub get-requires-2 : goal.get-requires-2
get-requires-2 c = found_there c.args.chunks.now.versions c.args.index.now.pairs c.args.ended c.requires c.args.key c.in_ok-place.place (sym c.get.ensures ∙ c.in_ok-place.was)

pub returns-then-is_live-clause-found : goal.returns-then-is_live-clause-found
returns-then-is_live-clause-found c = found_live c.args.chunks.now.versions c.args.index.now.pairs c.args.ended c.requires c.args.key c.in_ok-place.place (sym c.get.ensures ∙ c.in_ok-place.was) c.get-2.result.now c.get-2.ensures (sym c.is_live.ensures ∙ c.if-is_live.true)

pub returns-then-is_live-clause-within : goal.returns-then-is_live-clause-within
returns-then-is_live-clause-within c = found_there c.args.chunks.now.versions c.args.index.now.pairs c.args.ended c.requires c.args.key c.in_ok-place.place (sym c.get.ensures ∙ c.in_ok-place.was)

pub returns-clause-none : goal.returns-clause-none
returns-clause-none c = found_dead c.args.chunks.now.versions c.args.index.now.pairs c.args.ended c.requires c.args.key c.in_ok-place.place (sym c.get.ensures ∙ c.in_ok-place.was) c.get-2.result.now c.get-2.ensures (sym c.is_live.ensures ∙ c.if-is_live.false)
