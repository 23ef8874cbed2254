-- What a call answers: which failures of the input it counts, and what it gives that reads no input.
use Rattle.std.specs.Prelude.{◌≡◌, ◌≢◌, ◌⊎◌, ℕ, Result, Ok, Err, MatchResult}
use Rattle.devices.specs.Device.{next_count}
use Rattle.warc_core.specs.declared.fault.Cause.{Cause}
use Rattle.warc_core.specs.declared.fault.Cause.TheVariants as causes
use Rattle.warc_core.specs.declared.fault.Fault.{Fault}

-- An answer of Read goes with one more failure of the input, any other with none.
abbrev pub CountsRead : {A : Type 0} → Result A Cause → ℕ → ℕ → Type 0
CountsRead r old new = MatchResult r (λ _. new ≡ old)
    (λ c. ((c ≡ causes.Read) × (new ≡ next_count old)) ⊎ ((c ≢ causes.Read) × (new ≡ old)))

-- an answer, seen by view
abbrev pub seen_as : {X A : Type 0} → (X → A) → Result X Cause → Result A Cause
seen_as view (Ok x) = Ok (view x)
seen_as view (Err c) = Err c

-- an answer without its fault's offset
abbrev pub causes_of : {A : Type 0} → Result A Fault → Result A Cause
causes_of (Ok x) = Ok x
causes_of (Err f) = Err f.cause

-- a fault without its offset
abbrev pub cause_only : {A : Type 0} → Result A Fault → Result (Unit {0}) Cause
cause_only (Ok x) = Ok tt
cause_only (Err f) = Err f.cause

-- A cause other than Memory is the one that the bytes give, and it isn't Read.
abbrev pub IsFoundPurely : {A : Type 0} → Cause → Result A Cause → Type 0
IsFoundPurely c read = (c ≡ causes.Memory) ⊎ ((c ≢ causes.Read) × (read ≡ Err c))
