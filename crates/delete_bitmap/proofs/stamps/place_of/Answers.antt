use Rattle.std.proofs.Common.{rules}
use Rattle.std.proofs.lemmas.List.Sorted.{answers_always}
use Rattle.delete_bitmap.proofs.StampSearch.{searched}
use Rattle.delete_bitmap.proofs.stamps.place_of.Goals as goal

pub returns : goal.returns
returns c =
    let facts = c.binary_search_by_key.ensures in
    let by_position = facts.position (λ stamp. stamp.0) (answers_always _ _ _ (λ f a r g called. search rules)) in
    let (found, absent) = searched c.args.stamps.now c.args.position c.binary_search_by_key.result c.requires facts.bound by_position in
    record { found = found; absent = absent }
