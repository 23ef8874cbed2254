-- What refusals and the faults of a check say, both ways.
use Rattle.std.specs.Prelude.{◌≡◌, ◌↔◌, ◌⊎◌, ℕ, ◌<◌, List, true, false, Result, Err}
use Rattle.query_core.specs.declared.fault.AnswerFault.{AnswerFault}
use Rattle.query_core.specs.declared.fault.AnswerFault.TheVariants as fault
use Rattle.query_core.specs.declared.merging.TheConstants.{SOURCES_LIMIT}
use Rattle.query_core.specs.Checking.{IsCheckFault}
use Rattle.query_core.specs.Refusals.{IsBeforeReading, Refuses, bad_sizes_or_too_many, too_many}
use Rattle.query_core.specs.WrittenPages.{are_sizes}

-- More sources than the limit are refused, nothing else is refused so, and then what was there is as it was.
abbrev pub TooManyAreRefused : Type 0
TooManyAreRefused = (count before after : ℕ) (result : Result ℕ AnswerFault)
    → Refuses (too_many count) result (after ≡ before)
    → ((SOURCES_LIMIT < count) ↔ (result ≡ Err fault.TooManySources)) × (result ≡ Err fault.BadSizes → ⊥)
    × (SOURCES_LIMIT < count → after ≡ before)

-- Bad sizes come before too many sources.
abbrev pub BadSizesAreFirst : Type 0
BadSizesAreFirst = (sizes : List ℕ) (count before after : ℕ) (result : Result ℕ AnswerFault)
    → Refuses (bad_sizes_or_too_many sizes count) result (after ≡ before)
    → ((are_sizes sizes ≡ false) ↔ (result ≡ Err fault.BadSizes))
    × (are_sizes sizes ≡ true → (SOURCES_LIMIT < count) ↔ (result ≡ Err fault.TooManySources))
    × ((are_sizes sizes ≡ false) ⊎ (SOURCES_LIMIT < count) → after ≡ before)

-- these two faults come before anything is read, and no other
abbrev pub TwoAreBeforeReading : Type 0
TwoAreBeforeReading = (f : AnswerFault) → IsBeforeReading f
    ↔ ((f ≡ fault.TooManySources) ⊎ (f ≡ fault.BadSizes))

-- a check fails for want of memory, or it names its one index
abbrev pub CheckNamesItsIndex : Type 0
CheckNamesItsIndex = (f : AnswerFault) → IsCheckFault f
    → (f ≡ fault.Memory) ⊎ (f ≡ fault.Read 0)
    ⊎ ((offset : ℕ) × ((f ≡ fault.BadLine 0 offset) ⊎ (f ≡ fault.OutOfOrder 0 offset)))
