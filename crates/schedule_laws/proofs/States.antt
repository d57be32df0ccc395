-- Entries that agree do one thing to the state.
use Rattle.std.proofs.Common.{◌≡◌, ℕ, [], refl, sym, ap, subst, ◌∙◌, Option, None, Some}
use Rattle.cs_types.specs.declared.Schema.{Schema}
use Rattle.cs_model.specs.declared.entry.Bound.{Bound}
use Rattle.cs_model.specs.declared.entry.Entry.{Entry}
use Rattle.cs_model.specs.declared.entry.Entry.TheVariants.{Start, Finish, End, Mover}
use Rattle.cs_model.specs.declared.entry.Reply.{Reply}
use Rattle.cs_model.specs.declared.entry.Reply.TheVariants as reply
use Rattle.cs_model.specs.State.{Half, State, Begin, schema_now}
use Rattle.cs_model.specs.Steps.{replied, finished, rested, started, IsFinish, IsStep}
use Rattle.schedule_laws.specs.Agreeing.{without_segments, Agrees}

-- the reply without all that it shows of the row groups
abbrev pub bare : Reply → Reply
bare reply.Done = reply.Done
bare (reply.Affected count) = reply.Affected count
bare (reply.Rows rows segments) = reply.Rows rows None
bare (reply.Groups lines buffered) = reply.Groups [] 0
bare (reply.Segments lines) = reply.Segments []
bare (reply.Left groups) = reply.Left []
bare (reply.Refused refusal) = reply.Refused refusal

bare_again : (r : Reply) → bare (without_segments r) ≡ bare r
bare_again reply.Done = refl
bare_again (reply.Affected count) = refl
bare_again (reply.Rows rows segments) = refl
bare_again (reply.Groups lines buffered) = refl
bare_again (reply.Segments lines) = refl
bare_again (reply.Left groups) = refl
bare_again (reply.Refused refusal) = refl

pub bare_so : (r q : Reply) → without_segments r ≡ without_segments q → bare r ≡ bare q
bare_so r q same = sym (bare_again r) ∙ ap bare same ∙ bare_again q

-- what a reply shows of the groups changes nothing
replied_so : (schema : Schema) (m : State) (session : ℕ) (b : Bound) (r : Reply) → replied schema m session b r ≡ replied schema m session b (bare r)
replied_so schema m session b reply.Done = refl
replied_so schema m session b (reply.Affected count) = refl
replied_so schema m session b (reply.Rows list segments) = refl
replied_so schema m session b (reply.Groups lines buffered) = refl
replied_so schema m session b (reply.Segments lines) = refl
replied_so schema m session b (reply.Left groups) = refl
replied_so schema m session b (reply.Refused refusal) = refl

pub finished_so : (schema : Schema) (m : State) (session : ℕ) (b : Bound) (r q : Reply) → bare r ≡ bare q → finished schema m session b r ≡ finished schema m session b q
finished_so schema m session b r q same =
    replied_so schema (rested m session) session b r ∙ ap (replied schema (rested m session) session b) same ∙ sym (replied_so schema (rested m session) session b q)

finish_so : (schema : Schema) (m : State) (session : ℕ) (half : Option Half) (r q : Reply) (a b : State) → bare q ≡ bare r → IsFinish schema m session half r a → IsFinish schema m session half q b
    → b ≡ a
finish_so schema m session None r q a b same x y = absurd x
finish_so schema m session (Some half) r q a b same x y = y.1 ∙ finished_so schema m session half.bound q r same ∙ sym x.1

pub step_so : (begin : Begin) (e f : Entry) → Agrees e f → (m a b : State) → IsStep begin m e a → IsStep begin m f b → b ≡ a
step_so begin (Start session c short) f (d, same, is) m a b x y = go (subst (λ z. IsStep begin m z b) is y)
  where
    go : IsStep begin m (Start session d short) b → b ≡ a
    go y = y.2 ∙ ap (λ v. started m session v short) same ∙ sym x.2
step_so begin (Finish session r) f (q, same, is) m a b x y = finish_so (schema_now begin m) m session (m.half session) r q a b (bare_so q r same) x (subst (λ z. IsStep begin m z b) is y)
step_so begin (End session) f is m a b x y = go (subst (λ z. IsStep begin m z b) is y)
  where
    go : IsStep begin m (End session) b → b ≡ a
    go y = y.1 ∙ sym x.1
step_so begin (Mover actor work) f is m a b x y = go (subst (λ z. IsStep begin m z b) is y)
  where
    go : IsStep begin m (Mover actor work) b → b ≡ a
    go y = y ∙ sym x
