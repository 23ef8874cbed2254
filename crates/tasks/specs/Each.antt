-- What a command does with one file after another.
use Rattle.std.specs.Prelude.{◌≡◌, ℕ, List, [], ◌∷◌, MatchBool}
use Rattle.std.specs.Borrow.{Bor, MutBor}
use Rattle.std.specs.Fn.{Shared}
use Rattle.outcomes.specs.declared.outcome.Outcome.{Outcome}
use Rattle.outcomes.specs.Outcome.{ends_command, worse_of}

-- a step takes a state and a name to an outcome and the state after it
module _ {S : Type 0} (Step : S → List ℕ → Outcome → S → Type 0) where
  -- how a command ends that has reached an outcome and a state, and has these names left: with that outcome where none
  -- is left; else it takes a step for the first of them, and ends there if that outcome ends commands, or goes on with
  -- the worse outcome
  abbrev pub GoesOver : Outcome → S → List (List ℕ) → Outcome → S → Type 0
  GoesOver reached state [] result last = (result ≡ reached) × (last ≡ state)
  GoesOver reached state (name ∷ names) result last =
      (ended : Outcome) × (next : S) × Step state name ended next
      × MatchBool (ends_command ended) ((result ≡ ended) × (last ≡ next))
      (GoesOver (worse_of reached ended) next names result last)

-- a call of a closure, with a state and a name, gives this outcome and leaves this state
module _ {F S : Type 0} (calls : Shared F (MutBor S × (Bor (List ℕ) × Unit {0})) (Outcome × (MutBor S × Unit {0})))
  where
    pub record ReturnsWithState (act : F) (state : S) (name : List ℕ) (ended : Outcome) (next : S) : Type 0 where
      pub shown : MutBor S
      pub shows : shown.now ≡ state
      pub named : Bor (List ℕ)
      pub names : named.now ≡ name
      pub left : MutBor S
      pub met : calls.post act (shown, (named, tt)) (ended, (left, tt))
      pub leaves : left.now ≡ next
