-- What a sink makes of lines, by what it wrote of lines.
use Rattle.std.specs.Prelude.{ℕ, List, ◌++◌, ◌⊎◌, Bool, Option, Result, MatchBool, MatchResult}
use Rattle.cdxj_core.specs.Members.{Member}

-- whether more lines are wanted, where this says that none are
abbrev pub TellsMore : Bool → Type 0 → Type 0
TellsMore more enough = MatchBool more (enough → ⊥) enough

module _ {K : Type 0} (Wrote : K → K → List Member → Option (List ℕ) → Option (List ℕ) → Type 0) where
  -- whatever it had taken, it took these lines after that
  abbrev pub Takes : List Member → K → K → Option (List ℕ) → Option (List ℕ) → Type 0
  Takes lines old new before now =
      (begin : K) (taken : List Member) (start : Option (List ℕ)) → Wrote begin old taken start before
      → Wrote begin new (taken ++ lines) start now

  module _ (Broke : K → List Member → Option (List ℕ) → Option (List ℕ) → Type 0) where
    -- it broke at one of these lines
    abbrev pub BreaksAt : List Member → K → Option (List ℕ) → Option (List ℕ) → Type 0
    BreaksAt lines old before now =
        (begin : K) (taken : List Member) (start : Option (List ℕ)) → Wrote begin old taken start before
        → Broke begin (taken ++ lines) start now

    -- it took these lines, or broke at one of them
    abbrev pub TakesOrBreaks : {A E : Type 0} → Result A E → List Member → K → K → Option (List ℕ) → Option (List ℕ)
        → Type 0
    TakesOrBreaks result lines old new before now =
        (begin : K) (taken : List Member) (start : Option (List ℕ)) → Wrote begin old taken start before
        → MatchResult result (λ _. Wrote begin new (taken ++ lines) start now)
        (λ _. Broke begin (taken ++ lines) start now)

    -- it took these lines, or broke at one of them, or a fault came before them, where this holds
    abbrev pub PassesOrBreaks : {A E : Type 0} → Type 0 → Result A E → List Member → K → K → Option (List ℕ)
        → Option (List ℕ) → Type 0
    PassesOrBreaks before_them result lines old new before now =
        MatchResult result (λ _. Takes lines old new before now) (λ _. before_them ⊎ BreaksAt lines old before now)
