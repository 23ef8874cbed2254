-- What is refused before anything is read or written.
use Rattle.std.specs.Prelude.{◌≡◌, ℕ, ⊤, List, nat_lt, Option, None, Some, Result, Err, IfErr, if◌then◌else◌}
use Rattle.query_core.specs.declared.fault.AnswerFault.{AnswerFault}
use Rattle.query_core.specs.declared.fault.AnswerFault.TheVariants as fault
use Rattle.query_core.specs.declared.merging.TheConstants.{SOURCES_LIMIT}
use Rattle.query_core.specs.WrittenPages.{are_sizes}

-- the faults that come before anything is read or written
abbrev pub IsBeforeReading : AnswerFault → Type 0
IsBeforeReading fault.TooManySources = ⊤
IsBeforeReading fault.BadSizes = ⊤
IsBeforeReading other = ⊥

-- that of so many sources, if there is one
abbrev pub too_many : ℕ → Option AnswerFault
too_many count = if nat_lt SOURCES_LIMIT count then Some fault.TooManySources else None

-- the first of these sizes, or of so many sources, if there is one
abbrev pub bad_sizes_or_too_many : List ℕ → ℕ → Option AnswerFault
bad_sizes_or_too_many sizes count = if are_sizes sizes then too_many count else Some fault.BadSizes

-- the call returns the fault if there is one, and nothing changes; else it returns none of them
abbrev pub Refuses : {A : Type 0} → Option AnswerFault → Result A AnswerFault → Type 0 → Type 0
Refuses None result unchanged = IfErr result (λ e. IsBeforeReading e → ⊥)
Refuses (Some fault) result unchanged = (result ≡ Err fault) × unchanged
