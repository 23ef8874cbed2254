-- Which device failed in a scan.
use Rattle.std.specs.Prelude.{◌≡◌, ℕ, ◌<◌, List, length, get_or, set, Result, Err, MatchResult}
use Rattle.devices.specs.Device.{next_count}
use Rattle.index_core.specs.declared.fault.IndexFault.{IndexFault}
use Rattle.index_core.specs.Counting.{CountsIndex}
use Rattle.query_core.specs.declared.fault.AnswerFault.{AnswerFault}
use Rattle.query_core.specs.declared.fault.AnswerFault.TheVariants as answer
use Rattle.scan_core.specs.declared.fault.ScanFault.{ScanFault}
use Rattle.scan_core.specs.declared.fault.ScanFault.TheVariants.{Archive, Answer}

-- the count of this input changes as its archive's fault says, and no other does
abbrev pub CountsAt : ℕ → IndexFault → List ℕ → List ℕ → Type 0
CountsAt i fault old new = (i < length old) × (count : ℕ) × (new ≡ set old i count)
    × CountsIndex {A = Unit {0}} (Err fault) (get_or old i 0) count

-- the counts of the inputs, before and after a fault: that of the archive at fault changes as its fault says, no other
abbrev pub RaisedByInput : ScanFault → List ℕ → List ℕ → Type 0
RaisedByInput (Archive i fault) old new = CountsAt i fault old new
RaisedByInput other old new = new ≡ old

-- the same of a call: without a fault no count changes
abbrev pub CountsInputs : {A : Type 0} → Result A ScanFault → List ℕ → List ℕ → Type 0
CountsInputs result old new = MatchResult result (λ _. new ≡ old) (λ fault. RaisedByInput fault old new)

-- the count of the output, before and after a fault: it rises with Write, and with no other
abbrev pub RaisedByWriting : AnswerFault → ℕ → ℕ → Type 0
RaisedByWriting answer.Write old new = new ≡ next_count old
RaisedByWriting other old new = new ≡ old

-- the same of a call
abbrev pub CountsWriting : {A : Type 0} → Result A AnswerFault → ℕ → ℕ → Type 0
CountsWriting result old new = MatchResult result (λ _. new ≡ old) (λ fault. RaisedByWriting fault old new)

-- the same of a scan
abbrev pub RaisedByScan : ScanFault → ℕ → ℕ → Type 0
RaisedByScan (Answer fault) old new = RaisedByWriting fault old new
RaisedByScan other old new = new ≡ old

abbrev pub CountsOutput : {A : Type 0} → Result A ScanFault → ℕ → ℕ → Type 0
CountsOutput result old new = MatchResult result (λ _. new ≡ old) (λ fault. RaisedByScan fault old new)
