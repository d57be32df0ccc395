use Rattle.std.proofs.Common.{◌≡◌, ◌∙◌, ◌&&◌, Bool, true, false, List, get_or, refl, sym, ap, subst, arith}
use Rattle.std.proofs.lemmas.Result.{IfOk-weaker}
use Rattle.batch_scan.specs.Hidden.{is_one_of}
use Rattle.batch_scan.specs.Reads.{AreShown, IsSetOf}
use Rattle.batch_scan.proofs.Left.{length-put_in, put_in}
use Rattle.batch_scan.proofs.shown.Shown.among.Goals as goal

and_true : (t : Bool) → t ≡ (t && true)
and_true true = refl
and_true false = refl

pub returns-in_ok-insert_all-in-Every-clause-length : goal.returns-in_ok-insert_all-in-Every-clause-length
returns-in_ok-insert_all-in-Every-clause-length c = length-put_in c.args.count c.args.positions.now c.none-set.result c.insert_all.new.self c.none-set.ensures c.in_ok-insert_all-in-Every.ensures.ok

pub returns-in_ok-insert_all-in-Every-clause-each : goal.returns-in_ok-insert_all-in-Every-clause-each
returns-in_ok-insert_all-in-Every-clause-each c = λ flags are long p below.
    let all = subst (AreShown flags) c.in-Every.is are in
    put_in c.args.count c.args.positions.now c.none-set.result c.insert_all.new.self c.none-set.ensures c.in_ok-insert_all-in-Every.ensures.ok p below
    ∙ and_true (is_one_of c.args.positions.now p) ∙ ap (λ (t : Bool). is_one_of c.args.positions.now p && t) (sym (all p false (omega (arith, below, long))))

pub in_both-requires : goal.in_both-requires
in_both-requires c =
    length-put_in c.args.count c.args.positions.now c.none-set.result c.insert_all-in-Some.new.self c.none-set.ensures c.in_ok-insert_all-in-Some.ensures.ok
    ∙ sym (subst (IsSetOf c.args.count) c.in-Some.is c.requires.shown)

pub returns-in_ok-insert_all-in-Some-clause-length : goal.returns-in_ok-insert_all-in-Some-clause-length
returns-in_ok-insert_all-in-Some-clause-length c =
    let all = length-put_in c.args.count c.args.positions.now c.none-set.result c.insert_all-in-Some.new.self c.none-set.ensures c.in_ok-insert_all-in-Some.ensures.ok in
    IfOk-weaker c.in_both.result _ _ (λ set is. is ∙ all) c.in_both.ensures.length

pub returns-in_ok-insert_all-in-Some-clause-each : goal.returns-in_ok-insert_all-in-Some-clause-each
returns-in_ok-insert_all-in-Some-clause-each c = λ flags are long.
    let here = subst (AreShown flags) c.in-Some.is are in
    let positions = c.args.positions.now in
    let put = c.insert_all-in-Some.new.self in
    let all = length-put_in c.args.count positions c.none-set.result put c.none-set.ensures c.in_ok-insert_all-in-Some.ensures.ok in
    IfOk-weaker c.in_both.result _ _
    (λ set each p below.
    each p (omega (arith, below, all))
    ∙ ap (λ (t : Bool). t && get_or c.in-Some.shown p false) (put_in c.args.count positions c.none-set.result put c.none-set.ensures c.in_ok-insert_all-in-Some.ensures.ok p below)
    ∙ ap (λ (list : List Bool). is_one_of positions p && get_or list p false) here)
    c.in_both.ensures.each
