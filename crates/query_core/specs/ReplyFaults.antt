-- Which device failed, by the answer of a call.
use Rattle.std.specs.Prelude.{◌≡◌, ◌<◌, ◌⊎◌, ℕ, List, length, map, Option, Result, MatchResult}
use Rattle.devices.specs.Device.{next_count}
use Rattle.devices.specs.LineReading.{IsTooLong}
use Rattle.source_core.specs.declared.source.Source.{Ghosts}
use Rattle.merge_core.specs.Collections.{KeepsSources}
use Rattle.merge_core.specs.Failures.{RaisedAt}
use Rattle.query_core.specs.declared.fault.AnswerFault.{AnswerFault}
use Rattle.query_core.specs.declared.fault.AnswerFault.TheVariants as fault
use Rattle.query_core.specs.declared.merging.TheConstants.{SOURCES_LIMIT}

-- the output's count of failures, before and after a fault: Write exactly where it failed
abbrev pub RaisedByReply : AnswerFault → ℕ → ℕ → Type 0
RaisedByReply fault.Memory old new = new ≡ old
RaisedByReply fault.Write old new = new ≡ next_count old
RaisedByReply other old new = ⊥

-- the same of a call: without a fault the count stays
abbrev pub CountsReply : {A : Type 0} → Result A AnswerFault → ℕ → ℕ → Type 0
CountsReply result old new = MatchResult result (λ _. new ≡ old) (λ fault. RaisedByReply fault old new)

-- the counts of failures of the sources and of the output, which alone end a reply, with Memory, unless there are too
-- many sources
abbrev pub RaisedByReplying : AnswerFault → List ℕ → List ℕ → ℕ → ℕ → Type 0
RaisedByReplying fault.Memory sources sources' out out' = (sources' ≡ sources) × (out' ≡ out)
RaisedByReplying (fault.Read i) sources sources' out out' = RaisedAt i sources sources' × (out' ≡ out)
RaisedByReplying fault.Write sources sources' out out' = (sources' ≡ sources) × (out' ≡ next_count out)
RaisedByReplying fault.TooManySources sources sources' out out' =
    (SOURCES_LIMIT < length sources) × (sources' ≡ sources) × (out' ≡ out)
RaisedByReplying other sources sources' out out' = ⊥

-- the same of a call: without a fault no count changes
abbrev pub CountsReplying : {A : Type 0} → Result A AnswerFault → List ℕ → List ℕ → ℕ → ℕ → Type 0
CountsReplying result sources sources' out out' =
    MatchResult result (λ _. (sources' ≡ sources) × (out' ≡ out))
    (λ fault. RaisedByReplying fault sources sources' out out')

-- a reply keeps the sources, and counts the failure that ends it
abbrev pub RepliesFrom : {S A : Type 0} → Ghosts S → Result A AnswerFault → List S → List S → ℕ → ℕ → Type 0
RepliesFrom device result olds news out out' = KeepsSources device olds news
    × CountsReplying result (map device.failures olds) (map device.failures news) out out'

-- the same of a conversation, and the count of its input, of which these bytes were left: Input where it failed or is
-- too long
abbrev pub RaisedByServing : AnswerFault → List ℕ → List ℕ → ℕ → ℕ → ℕ → ℕ → Option (List ℕ) → Type 0
RaisedByServing fault.Input sources sources' out out' input input' text =
    (sources' ≡ sources) × (out' ≡ out) × ((input' ≡ next_count input) ⊎ ((input' ≡ input) × IsTooLong text 0))
RaisedByServing other sources sources' out out' input input' text =
    RaisedByReplying other sources sources' out out' × (input' ≡ input)

abbrev pub CountsServing : {A : Type 0} → Result A AnswerFault → List ℕ → List ℕ → ℕ → ℕ → ℕ → ℕ → Option (List ℕ)
    → Type 0
CountsServing result sources sources' out out' input input' text =
    MatchResult result (λ _. ((sources' ≡ sources) × (out' ≡ out)) × (input' ≡ input))
    (λ fault. RaisedByServing fault sources sources' out out' input input' text)
