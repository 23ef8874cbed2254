-- What is done with one file after another.
use Rattle.std.proofs.Common.{arith, ◌≡◌, ℕ, Bool, true, false, List, [], ◌∷◌, MatchBool, Bor, MutBor, ap, subst}
use Rattle.std.specs.Fn.{Shared}
use Rattle.outcomes.specs.declared.outcome.Outcome.{Outcome}
use Rattle.tasks.specs.Each.{GoesOver, ReturnsWithState}
use Rattle.outcomes.specs.Outcome.{ends_command, worse_of}

-- what follows from a fact in either case
match_bool-map : {A B C D : Type 0} (b : Bool) → (A → C) → (B → D) → MatchBool b A B → MatchBool b C D
match_bool-map b f g a = grind arith

-- each case of a test
pub match_bool-of : {A B : Type 0} (b : Bool) → (b ≡ true → A) → (b ≡ false → B) → MatchBool b A B
match_bool-of b f g = grind arith

-- steps that are steps of another kind, of what is seen of the state
pub goes_over-map : {S T : Type 0} (P : S → List ℕ → Outcome → S → Type 0) (Q : T → List ℕ → Outcome → T → Type 0)
    (view : S → T)
    → ((state : S) (name : List ℕ) (ended : Outcome) (next : S) → P state name ended next
    → Q (view state) name ended (view next))
    → (result : Outcome) (last : S) (names : List (List ℕ)) (reached : Outcome) (state : S)
    → GoesOver P reached state names result last
    → GoesOver Q reached (view state) names result (view last)
goes_over-map P Q view step result last [] reached state over = (over.0, ap view over.1)
goes_over-map P Q view step result last (name ∷ names) reached state over = (
  over.0,
  view over.1,
  step state name over.0 over.1 over.2,
  match_bool-map (ends_command over.0) (λ end. (end.0, ap view end.1))
      (λ rest. goes_over-map P Q view step result last names (worse_of reached over.0) over.1 rest) over.3,
)

module _ {F S : Type 0} (calls : Shared F (MutBor S × (Bor (List ℕ) × Unit {0})) (Outcome × (MutBor S × Unit {0})))
    (act : F) where
  -- the calls of a closure are steps of this kind, of what is seen of the state
  pub goes_over-calls : {T : Type 0} (Q : T → List ℕ → Outcome → T → Type 0) (view : S → T)
      → ((shown : MutBor S) (named : Bor (List ℕ)) (ended : Outcome) (left : MutBor S)
      → calls.post act (shown, (named, tt)) (ended, (left, tt))
      → Q (view shown.now) named.now ended (view left.now))
      → (result : Outcome) (last : S) (names : List (List ℕ)) (reached : Outcome) (state : S)
      → GoesOver (ReturnsWithState calls act) reached state names result last
      → GoesOver Q reached (view state) names result (view last)
  goes_over-calls Q view step = goes_over-map (ReturnsWithState calls act) Q view (λ state name ended next called.
      subst (λ s. Q (view s) name ended (view next)) called.shows
      (subst (λ n. Q (view called.shown.now) n ended (view next)) called.names
      (subst (λ t. Q (view called.shown.now) called.named.now ended (view t)) called.leaves
      (step called.shown called.named ended called.left called.met))))
