use Rattle.std.proofs.Common.{◌≡◌, ◌+◌, ◌∙◌, sym, ap, List, [], ◌++◌, length, get_or, arith}
use Rattle.std.specs.Option.{option_or}
use Rattle.std.specs.FinMap as map
use Rattle.cs_types.specs.declared.Key.{Key}
use Rattle.cs_types.specs.Keys.{key_cmp}
use Rattle.version_store.specs.declared.NewestChange.{NewestChange}
use Rattle.version_store.specs.Newest.{Newest, noted_by}
use Rattle.version_store.specs.Loads.{Load, newest_first, found, room_under}
use Rattle.version_store.proofs.Laid.{get-laid}
use Rattle.version_store.proofs.LoadLaws.{run_noted, length-push, none_above}
use Rattle.version_store.proofs.Recent.note_run.Goals as goal

pub push-requires-clause-older : goal.push-requires-clause-older
push-requires-clause-older c = λ k d within x at.
    let own = c.self.inside.changes.entries in
    let runs = newest_first c.self.inside.runs.loads in
    let key : Key = get_or c.args.keys.now k d in
    let room : room_under own c.self.inside.runs.room ≡ c.args.self.now.run = ap (λ (n : Newest). n.run) c.self.view_is in
    let none : own ≡ [] = none_above own c.self.inside.runs.room (length c.args.keys.now) c.requires.some (omega (arith, room, c.requires.room)) in
    c.requires.newer k d within x (
    sym (ap (λ (n : Newest). map.get n.changes key) c.self.view_is)
    ∙ get-laid own runs key
    ∙ ap (λ (es : List (Key × NewestChange)). option_or (found es key) (found runs key)) none
    ∙ at)

pub returns-clause-changes : goal.returns-clause-changes
returns-clause-changes c =
    let own = c.self.inside.changes.entries in
    let runs = newest_first c.self.inside.runs.loads in
    let load : Load = record { keys = c.args.keys.now; change = c.args.change } in
    let room : room_under own c.self.inside.runs.room ≡ c.args.self.now.run = ap (λ (n : Newest). n.run) c.self.view_is in
    let none : own ≡ [] = none_above own c.self.inside.runs.room (length c.args.keys.now) c.requires.some (omega (arith, room, c.requires.room)) in
    ap (λ (es : List (Key × NewestChange)). map.from_entries {R = key_cmp} (es ++ newest_first c.push.new.self.loads)) none
    ∙ ap (λ (loads : List Load). map.from_entries {R = key_cmp} (newest_first loads)) c.push.ensures
    ∙ run_noted c.self.inside.runs.loads load
    ∙ ap (λ (es : List (Key × NewestChange)). noted_by c.args.change (map.from_entries {R = key_cmp} (es ++ runs)) c.args.keys.now) (sym none)
    ∙ ap (λ (n : Newest). noted_by c.args.change n.changes c.args.keys.now) c.self.view_is

pub returns-clause-held : goal.returns-clause-held
returns-clause-held c =
    let load : Load = record { keys = c.args.keys.now; change = c.args.change } in
    let held : length c.self.inside.changes.entries + length (newest_first c.self.inside.runs.loads) ≡ c.args.self.now.held = ap (λ (n : Newest). n.held) c.self.view_is in
    let same = ap (λ (loads : List Load). length (newest_first loads)) c.push.ensures in
    let more = length-push c.self.inside.runs.loads load in
    omega (arith, held, same, more)
