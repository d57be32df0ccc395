use Rattle.std.proofs.Common.{◌≡◌, ℕ, ◌++◌, Bool, [], ◌∷◌, Contains, ap, sym, ◌∙◌, subst}
use Rattle.std.specs.Bool.{MatchBool, if◌then◌else◌}
use Rattle.desk_tests.specs.declared.history_gate_tests.Entry.{Entry}
use Rattle.history_gate.specs.Histories.{list_of, own_numbers}
use Rattle.history_gate.proofs.Lookup.{section_list, section_numbers}
use Rattle.desk_tests.proofs.history_gate_tests.add.Goals as goal

pub returns-clause-numbers : goal.returns-clause-numbers
returns-clause-numbers g c =
    let e : Entry = c.args.entry in
    let d = c.is_ok-done.ensures.value in
    let same : c.value-log.result.now.entries.items ≡ c.enter-held.result.found = ap (λ log. log.entries.items) c.value-log.ensures.value ∙ c.enter-held.ensures.value in
    let is = c.push.ensures.items ∙ (λ i. if (sym d i) then (same i ++ e ∷ []) else (same i)) in
    section_numbers (λ (entry : Entry). entry.by) c.is_ok-done.result c.enter-held.result.found c.push.new.self.items c.enter-held.result.own c.leave.result.own e is c.leave.ensures.none c.leave.ensures.one ∙ ap own_numbers c.enter-held.ensures.pass.1

pub returns-clause-list : goal.returns-clause-list
returns-clause-list g c =
    let e : Entry = c.args.entry in
    let n : ℕ = e.by in
    let b : Bool = c.is_ok-done.result in
    let d = c.is_ok-done.ensures.value in
    let same : c.value-log.result.now.entries.items ≡ c.enter-held.result.found = ap (λ log. log.entries.items) c.value-log.ensures.value ∙ c.enter-held.ensures.value in
    let own = c.enter-held.ensures.pass.1 in
    let is = c.push.ensures.items ∙ (λ i. if (sym d i) then (same i ++ e ∷ []) else (same i)) in
    subst (λ o. MatchBool b (list_of n c.leave.result.own ≡ list_of n o ++ e ∷ []) (list_of n c.leave.result.own ≡ list_of n o)) own
    (section_list (λ (entry : Entry). entry.by) b c.enter-held.result.found c.push.new.self.items c.enter-held.result.own c.leave.result.own e (subst (λ o. Contains (own_numbers o) n) (sym own) c.requires.number) is c.leave.ensures.none c.leave.ensures.one)
