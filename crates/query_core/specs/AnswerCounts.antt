-- Which device failed, by the answer of a call on sources.
use Rattle.std.specs.Prelude.{◌≡◌, ℕ, List, Result, MatchResult}
use Rattle.devices.specs.Device.{next_count}
use Rattle.merge_core.specs.Failures.{RaisedAt}
use Rattle.query_core.specs.declared.fault.AnswerFault.{AnswerFault}
use Rattle.query_core.specs.declared.fault.AnswerFault.TheVariants as fault

-- the counts of failures of all sources and of the output, before and after a fault
abbrev pub RaisedByAnswer : AnswerFault → List ℕ → List ℕ → ℕ → ℕ → Type 0
RaisedByAnswer (fault.Read i) sources sources' out out' = RaisedAt i sources sources' × (out' ≡ out)
RaisedByAnswer fault.Write sources sources' out out' = (sources' ≡ sources) × (out' ≡ next_count out)
RaisedByAnswer fault.Input sources sources' out out' = ⊥
RaisedByAnswer other sources sources' out out' = (sources' ≡ sources) × (out' ≡ out)

-- the same of a call: without a fault no count changes
abbrev pub CountsAnswer : {A : Type 0} → Result A AnswerFault → List ℕ → List ℕ → ℕ → ℕ → Type 0
CountsAnswer result sources sources' out out' =
    MatchResult result (λ _. (sources' ≡ sources) × (out' ≡ out))
    (λ fault. RaisedByAnswer fault sources sources' out out')

-- the same of a call on one source alone
abbrev pub RaisedBySource : AnswerFault → ℕ → ℕ → Type 0
RaisedBySource (fault.Read i) old new = new ≡ next_count old
RaisedBySource other old new = new ≡ old

abbrev pub CountsSource : {A : Type 0} → Result A AnswerFault → ℕ → ℕ → Type 0
CountsSource result old new = MatchResult result (λ _. new ≡ old) (λ fault. RaisedBySource fault old new)
