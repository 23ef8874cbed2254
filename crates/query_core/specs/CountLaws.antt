-- What a call answers decides every count of failures after it.
use Rattle.std.specs.Prelude.{◌≡◌, ℕ, List, Option, Result, Err}
use Rattle.query_core.specs.declared.fault.AnswerFault.{AnswerFault}
use Rattle.query_core.specs.declared.fault.AnswerFault.TheVariants as fault
use Rattle.query_core.specs.AnswerCounts.{CountsAnswer, CountsSource}
use Rattle.query_core.specs.ReplyFaults.{CountsServing}

abbrev pub AnswerCountsAreOne : Type 0
AnswerCountsAreOne = (result : Result ℕ AnswerFault) (sources these those : List ℕ) (out this that : ℕ)
    → CountsAnswer result sources these out this → CountsAnswer result sources those out that
    → (these ≡ those) × (this ≡ that)

abbrev pub SourceCountIsOne : Type 0
SourceCountIsOne = (result : Result ℕ AnswerFault) (source this that : ℕ) → CountsSource result source this
    → CountsSource result source that → this ≡ that

-- A conversation counts no failure of its input but with Input, which a text that is too long gives as well.
abbrev pub ServingCountsAreOne : Type 0
ServingCountsAreOne = (result : Result ℕ AnswerFault) (sources these those : List ℕ) (out this that : ℕ)
    (input here there : ℕ) (left other : Option (List ℕ)) → CountsServing result sources these out this input here left
    → CountsServing result sources those out that input there other
    → (these ≡ those) × (this ≡ that) × ((result ≡ Err fault.Input → ⊥) → here ≡ input)
