-- What the statements of a session add to its entries.
use Rattle.std.specs.Prelude.{◌≡◌, ℕ, List, [], ◌∷◌, ◌++◌, All, false}
use Rattle.cs_model.specs.declared.entry.Entry.{Entry}
use Rattle.cs_model.specs.Actors.{is_turn}
use Rattle.script_turns.specs.Turns.{IsStartIn, IsFinishOf}

-- none of these entries is a Start, a Finish or an End
abbrev pub AreWorks : List Entry → Type 0
AreWorks entries = All (λ entry. is_turn entry ≡ false) entries

-- the Start and the Finish of one statement of the session stand after the entries before, with works between them
abbrev pub AddsStatement : ℕ → List Entry → List Entry → Type 0
AddsStatement session before after =
    (a : Entry) × (works : List Entry) × (b : Entry) × (after ≡ before ++ a ∷ (works ++ b ∷ [])) × IsStartIn session a × AreWorks works × IsFinishOf session b
