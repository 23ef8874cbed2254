-- The output's failures, by how a command ends.
use Rattle.std.proofs.Common.{arith, ◌≡◌, ℕ, Bool, List, [], ◌∷◌, MatchBool, true, false, refl, subst}
use Rattle.outcomes.specs.declared.outcome.Outcome.{Outcome}
use Rattle.tasks.specs.Each.{GoesOver}
use Rattle.tasks.specs.Opening.{IsUnopened}
use Rattle.outcomes.specs.Outcome.{ends_command, worse_of}
use Rattle.tasks.specs.Writes.{CountsWrites}

-- what isn't opened is not written
pub unopened_counts : (failed : Type 0) (outcome : Outcome) (n : ℕ) → IsUnopened failed outcome
    → CountsWrites outcome n n
unopened_counts failed outcome n h = grind arith

-- an outcome after which a command goes on is none of Write
going_on : (outcome : Outcome) (old new : ℕ) → ends_command outcome ≡ false → CountsWrites outcome old new
    → new ≡ old
unfolding ends_command
going_on outcome old new e h = grind arith

goes_on : (outcome : Outcome) (n : ℕ) → ends_command outcome ≡ false → CountsWrites outcome n n
unfolding ends_command
goes_on outcome n e = grind arith

worse_goes_on : (one other : Outcome) → ends_command one ≡ false → ends_command other ≡ false
    → ends_command (worse_of one other) ≡ false
worse_goes_on one other e f = grind arith

-- what counts at one step and over the names that are left counts in all
one_more : (result ended : Outcome) (now next last : ℕ) (ends : Bool) (Rest : Type 0) → ends_command ended ≡ ends
    → CountsWrites ended now next → (ends ≡ false → Rest → CountsWrites result next last)
    → MatchBool ends ((result ≡ ended) × (last ≡ next)) Rest → CountsWrites result now last
one_more result ended now next last true Rest e step later (is, same) = rw (is, same) step
one_more result ended now next last false Rest e step later rest =
    subst (λ n. CountsWrites result n last) (going_on ended now next e step) (later refl rest)

pub counts_over : (result : Outcome) (last : ℕ) (names : List (List ℕ)) (reached : Outcome) (now : ℕ)
    → ends_command reached ≡ false
    → GoesOver (λ old name ended new. CountsWrites ended old new) reached now names result last
    → CountsWrites result now last
counts_over result last [] reached now e over = grind (arith, goes_on reached now e)
counts_over result last (name ∷ names) reached now e (ended, next, step, rest) =
    one_more result ended now next last (ends_command ended) _ refl step
    (λ f. counts_over result last names (worse_of reached ended) next (worse_goes_on reached ended e f)) rest

-- the output stays as it is if adding ended the command, and else an index is written
pub index_counts : (added outcome : Outcome) (old new : ℕ) → CountsWrites added 0 0
    → (ends_command added ≡ true → (outcome ≡ added) × (new ≡ old))
    → (ends_command added ≡ false → CountsWrites outcome old new) → CountsWrites outcome old new
index_counts added outcome old new none ended written = grind arith
