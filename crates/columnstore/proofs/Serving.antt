-- The order that words are, from the one that they are read as.
use Rattle.std.proofs.Common.{◌≡◌, ◌↔◌, Some, None, Option, refl, sym, ap, subst, true, false}
use Rattle.command_words.specs.declared.order.Order.{Order}
use Rattle.command_words.specs.declared.order.Order.TheVariants.{Replay, Run, Generate, Load}
use Rattle.command_words.specs.declared.order.RunOptions.{RunOptions}
use Rattle.command_words.specs.Orders.{Words, IsOrder, AreInRange}
use Rattle.statement_core.specs.Terms.{AreTermsOf}
use Rattle.columnstore.specs.declared.way.Way.{Way}
use Rattle.columnstore.specs.declared.way.Way.TheVariants.{ByLine, OnThreads}
use Rattle.columnstore.specs.Outcome.{order_of, ReadsInput, DrawsScript}

-- the order that the words are is the one that was read
abbrev pub IsReadAs : Words → Option Order → Type 0
IsReadAs words read = (order : Order) → IsOrder words order → read ≡ Some order

-- words that are read as an order are that one
pub is_given : (words : Words) (read : Option Order) → IsReadAs words read → (given order : Order) → read ≡ Some given → IsOrder words order → given ≡ order
is_given words read only given order was is = let same : read ≡ Some order = only order is in cc

-- words that are read as no order are none
pub none_given : (words : Words) (read : Option Order) → IsReadAs words read → read ≡ None → (order : Order) → IsOrder words order → ⊥
none_given words read only none order is = let same : read ≡ Some order = only order is in cc

-- options in their ranges are sizes of row groups
pub terms_of : (options : RunOptions) → AreInRange options → AreTermsOf options.group_rows options.direct_rows
terms_of options range = record { least_group = range.0.0; most_group = range.0.1; least_direct = range.1.0; most_direct = range.1.1 }

-- one order is that of one way
pub same_way : (one other : RunOptions) (way given : Way) → order_of one way ≡ order_of other given → way ≡ given
same_way one other ByLine ByLine is = refl
same_way one other ByLine (OnThreads movers) is = absurd (cc)
same_way one other (OnThreads movers) ByLine is = absurd (cc)
same_way one other (OnThreads movers) (OnThreads others) is = let same : movers ≡ others = cc in ap OnThreads same

-- words that are read as the order to run a script in a way are the order to run one in no other way
pub given_way : (words : Words) (read : Option Order) → IsReadAs words read → (one other : RunOptions) (way given : Way) → read ≡ Some (order_of other given) → IsOrder words (order_of one way) → given ≡ way
given_way words read only one other way given was is =
    sym (same_way one other way given (sym (is_given words read only (order_of other given) (order_of one way) was is)))

-- nor are those that are read as an order that draws its script
pub no_draw : (options : RunOptions) (way : Way) → DrawsScript (order_of options way) → ⊥
no_draw options ByLine drawn = let differs : true ≡ false = drawn in cc
no_draw options (OnThreads movers) drawn = let differs : true ≡ false = drawn in cc

-- exactly the orders to run the script of an input read it
pub reading : (order : Order) → ReadsInput order ↔ ((options : RunOptions) × (way : Way) × (order ≡ order_of options way))
reading (Replay options) = ((λ _. (options, ByLine, refl)), (λ _. refl))
reading (Run options movers) = ((λ _. (options, OnThreads movers, refl)), (λ _. refl))
reading (Generate drawn) = ((λ reads. let differs : false ≡ true = reads in cc), (λ has. absurd (no_draw has.0 has.1 (subst DrawsScript has.2 refl))))
reading (Load drawn options) = ((λ reads. let differs : false ≡ true = reads in cc), (λ has. absurd (no_draw has.0 has.1 (subst DrawsScript has.2 refl))))

pub no_script : (words : Words) (read : Option Order) → IsReadAs words read → (given : Order) → read ≡ Some given → DrawsScript given → (options : RunOptions) (way : Way) → IsOrder words (order_of options way) → ⊥
no_script words read only given was drawn options way is = no_draw options way (subst DrawsScript (is_given words read only given (order_of options way) was is) drawn)
