use Rattle.std.proofs.Common.{◌≡◌, ◌≤◌, ◌+◌, ◌++◌, ◌∷◌, [], List, Vec, length, get_or, take, pos, refl, sym, ap, ◌∙◌, arith, map, vec_len, vec_capacity}
use Rattle.std.proofs.lemmas.List.{append-nil}
use Rattle.std.specs.declared.alloc.Global.{Global}
use Rattle.cs_types.specs.declared.Key.{Key}
use Rattle.delta_store.specs.declared.version.KeyedVersion.{KeyedVersion}
use Rattle.group_view.specs.Parts.{stored_versions}
use Rattle.group_view.specs.Books.{versions_of}
use Rattle.group_directory.specs.Committing.{origin_of, not_live}
use Rattle.group_directory.proofs.EndLemmas.{ended_none, ended_next, origins_same, others_next}
use Rattle.group_directory.proofs.commit_ends.end_in_store.Goals as goal
use Rattle.group_directory.proofs.commit_ends.end_in_store.Goals.{then-not-end_live, else-not-end_live}

pub loop-key-init : goal.loop-key-init
loop-key-init c = record {
  versions = sym (ended_none c.args.c (versions_of (stored_versions c.args.store.now.versions)));
  origins = refl;
  others = c.requires.none;
  len = omega (arith, c.args.others.now.ok.0, ap (λ (keys : List Key). length keys) c.requires.none);
  capacity = refl;
  ready = c.requires.ready;
  room = refl;
}

pub loop-key-preserved : goal.loop-key-preserved
loop-key-preserved c =
    let kept = c.loop-key.invariant in
    let keys : List Key = c.args.replaced.now in
    let i = c.loop-key.key-index in
    let none : Key = record { 0 = pos 0 } in
    let old = c.args.store.now.versions in
    let there = c.loop-key-test.true in
    let joined : (c.if-not-end_live.others.items ≡ not_live (versions_of (stored_versions old)) (take (i + 1) keys)) × (vec_len c.if-not-end_live.others ≤ i + 1) × (vec_capacity c.if-not-end_live.others ≡ vec_capacity c.args.others.now) =
    elim c.if-not-end_live.branch [
      | then-not-end_live w ↦ (
        ap (λ (v : Vec Key Global). v.items) w.others-is ∙ w.push_reserved.ensures.items ∙ ap (λ (ks : List Key). ks ++ get_or keys i none ∷ []) kept.others
            ∙ sym (others_next keys i none c.args.c old c.loop-key.store.versions there kept.versions _ (sym w.if-not-end_live.true ∙ c.end_live.ensures.found) c.requires.ascending),
        omega (arith, ap (λ (v : Vec Key Global). vec_len v) w.others-is, w.push_reserved.ensures.len, kept.len),
        ap (λ (v : Vec Key Global). vec_capacity v) w.others-is ∙ w.push_reserved.ensures.capacity ∙ kept.capacity,
      )
      | else-not-end_live w ↦ (
        ap (λ (v : Vec Key Global). v.items) w.others-is ∙ kept.others ∙ sym (append-nil _)
            ∙ sym (others_next keys i none c.args.c old c.loop-key.store.versions there kept.versions _ (sym w.if-not-end_live.false ∙ c.end_live.ensures.found) c.requires.ascending),
        omega (arith, ap (λ (v : Vec Key Global). vec_len v) w.others-is, kept.len),
        ap (λ (v : Vec Key Global). vec_capacity v) w.others-is ∙ kept.capacity,
      )
    ] in
    record {
      versions = ended_next keys i none c.args.c old c.loop-key.store.versions there kept.versions c.end_live.new.self.versions c.end_live.ensures.versions;
      origins = ap (λ (vs : List KeyedVersion). map origin_of (stored_versions vs)) c.end_live.ensures.versions ∙ origins_same (get_or keys i none) c.args.c c.loop-key.store.versions ∙ kept.origins;
      others = joined.0;
      len = joined.1;
      capacity = joined.2;
      ready = λ k d below. c.end_live.ensures.kept _ (kept.ready k d below);
      room = c.end_live.ensures.room ∙ kept.room;
    }
