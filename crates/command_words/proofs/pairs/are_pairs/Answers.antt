use Rattle.std.proofs.Common.{◌≡◌, string_bytes, map, true, false, length, take, drop, ◌-◌, sym, ◌∙◌}
use Rattle.command_words.specs.Orders.{is_pair}
use Rattle.command_words.specs.Walk.{is_named}
use Rattle.command_words.proofs.Short.{pairs_short}
use Rattle.command_words.proofs.Steps.{bad_value, bad_name, good_step}
use Rattle.command_words.proofs.pairs.are_pairs.Goals as goal
use Rattle.command_words.proofs.pairs.are_pairs.Goals.{then-not-is_pair-via-then-not-is_pair, then-not-is_pair-via-else-not-is_pair+then-is_named}

pub returns-then-not-is_pair : goal.returns-then-not-is_pair
returns-then-not-is_pair c =
    elim c.then-not-is_pair.branch [
      | then-not-is_pair-via-then-not-is_pair w ↦
          let bad : is_pair c.args.mode (string_bytes c.name-item.result, string_bytes c.value-item.result) ≡ false = cc in
          sym (bad_value string_bytes c.args.mode c.pairs.rest.now c.name-item.result c.value-item.result c.in-len2-up.len_at_least c.name-item.is c.value-item.is bad) ∙ c.pairs.invariant
      | then-not-is_pair-via-else-not-is_pair+then-is_named w ↦
          let bad : is_named (string_bytes c.name-item.result) (map string_bytes (take (length c.pairs.rest.now - 2) (drop 2 c.pairs.rest.now))) ≡ true = cc in
          sym (bad_name string_bytes c.args.mode c.pairs.rest.now c.name-item.result c.value-item.result c.in-len2-up.len_at_least c.name-item.is c.value-item.is bad) ∙ c.pairs.invariant
    ]

pub pairs-preserved : goal.pairs-preserved
pairs-preserved c =
    let value : is_pair c.args.mode (string_bytes c.name-item.result, string_bytes c.value-item.result) ≡ true = cc in
    let other : is_named (string_bytes c.name-item.result) (map string_bytes (take (length c.pairs.rest.now - 2) (drop 2 c.pairs.rest.now))) ≡ false = cc in
    good_step string_bytes c.args.mode c.pairs.rest.now c.name-item.result c.value-item.result c.in-len2-up.len_at_least c.name-item.is c.value-item.is value other ∙ c.pairs.invariant

pub returns : goal.returns
returns c = c.is_empty.ensures ∙ (sym (pairs_short string_bytes c.args.mode c.pairs.rest.now c.in_default.len_below) ∙ c.pairs.invariant)
