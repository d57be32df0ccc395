-- A legal log, and its one state.
use Rattle.std.proofs.Common.{◌≡◌, ℕ, List, [], ◌∷◌, ◌++◌, refl, sym, subst, ◌∙◌, Option, None, Some}
use Rattle.cs_types.specs.declared.Schema.{Schema}
use Rattle.cs_model.specs.declared.entry.Entry.{Entry}
use Rattle.cs_model.specs.declared.entry.Entry.TheVariants.{Start, Finish, End, Mover}
use Rattle.cs_model.specs.declared.entry.Reply.{Reply}
use Rattle.cs_model.specs.State.{Half, State, Begin, schema_now}
use Rattle.cs_model.specs.Steps.{IsStep, IsFinish, Leads, Legal}

pub leads_append : (begin : Begin) (m mid after : State) (es fs : List Entry) → Leads begin m es mid → Leads begin mid fs after → Leads begin m (es ++ fs) after
leads_append begin m mid after [] fs a b = subst (λ x. Leads begin x fs after) a b
leads_append begin m mid after (e ∷ es) fs a b = (a.0, a.1, leads_append begin a.0 mid after es fs a.2 b)

pub leads_split : (begin : Begin) (m after : State) (es fs : List Entry) → Leads begin m (es ++ fs) after → (mid : State) × Leads begin m es mid × Leads begin mid fs after
leads_split begin m after [] fs l = (m, refl, l)
leads_split begin m after (e ∷ es) fs l = let rest = leads_split begin l.0 after es fs l.2 in (rest.0, (l.0, l.1, rest.1), rest.2)

finish_one : (schema : Schema) (m : State) (s : ℕ) (h : Option Half) (r : Reply) (a b : State) → IsFinish schema m s h r a → IsFinish schema m s h r b → a ≡ b
finish_one schema m s None r a b x y = absurd x
finish_one schema m s (Some half) r a b x y = x.1 ∙ sym y.1

-- no entry leads to two states
pub step_one : (begin : Begin) (m : State) (e : Entry) (a b : State) → IsStep begin m e a → IsStep begin m e b → a ≡ b
step_one begin m (Start s bd short) a b x y = x.2 ∙ sym y.2
step_one begin m (Finish s r) a b x y = finish_one (schema_now begin m) m s (m.half s) r a b x y
step_one begin m (End s) a b x y = x.1 ∙ sym y.1
step_one begin m (Mover actor work) a b x y = x ∙ sym y

pub leads_one : (begin : Begin) (m a b : State) (es : List Entry) → Leads begin m es a → Leads begin m es b → a ≡ b
leads_one begin m a b [] x y = x ∙ sym y
leads_one begin m a b (e ∷ es) x y = leads_one begin x.0 a b es x.2 (subst (λ z. Leads begin z es b) (step_one begin m e y.0 x.0 y.1 x.1) y.2)

pub legal_one : (begin : Begin) (log : List Entry) (a b : State) → Legal begin log a → Legal begin log b → a ≡ b
legal_one begin log a b x y = leads_one begin begin.state a b log x y

pub legal_push : (begin : Begin) (log : List Entry) (m after : State) (e : Entry) → Legal begin log m → IsStep begin m e after → Legal begin (log ++ e ∷ []) after
legal_push begin log m after e l s = leads_append begin begin.state m after log (e ∷ []) l (after, s, refl)
