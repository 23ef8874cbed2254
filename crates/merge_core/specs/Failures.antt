-- Which device failed in a call.
use Rattle.std.specs.Prelude.{◌≡◌, ℕ, ◌<◌, List, length, get_or, set, map, Result, IfErr, MatchResult}
use Rattle.devices.specs.Device.{next_count}
use Rattle.devices.specs.declared.device.Output.{Ghosts as OutputGhosts}
use Rattle.source_core.specs.Device.{OverText}
use Rattle.source_core.specs.Reads.{KeepsSource}
use Rattle.source_core.specs.declared.fault.SearchFault.{SearchFault}
use Rattle.source_core.specs.declared.fault.SearchFault.TheVariants as search
use Rattle.source_core.specs.declared.source.Source.{Ghosts}
use Rattle.merge_core.specs.Collections.{KeepsSources}
use Rattle.merge_core.specs.LineFaults.{IsMergeFaultOf, NamesLine}
use Rattle.merge_core.specs.declared.fault.FeedFault.{FeedFault}
use Rattle.merge_core.specs.declared.fault.FeedFault.TheVariants as feed
use Rattle.merge_core.specs.declared.fault.MergeFault.{MergeFault}
use Rattle.merge_core.specs.declared.fault.MergeFault.TheVariants as fault
use Rattle.devices.specs.declared.write_fault.WriteFault.{WriteFault}
use Rattle.devices.specs.declared.write_fault.WriteFault.TheVariants as sink

-- the fault of a merge whose sink has this fault
abbrev pub merge_fault : WriteFault → MergeFault
merge_fault sink.Memory = fault.Memory
merge_fault sink.Write = fault.Write

-- the fault of a source whose search has this fault
abbrev pub search_fault : SearchFault → FeedFault
search_fault search.Memory = feed.Memory
search_fault search.Read = feed.Read

-- the count of failures of this source went up, and no other
abbrev pub RaisedAt : ℕ → List ℕ → List ℕ → Type 0
RaisedAt i old new = (i < length old) × (new ≡ set old i (next_count (get_or old i 0)))

-- the count of a source, before and after a fault of its lines
abbrev pub RaisedByFeed : FeedFault → ℕ → ℕ → Type 0
RaisedByFeed feed.Read old new = new ≡ next_count old
RaisedByFeed other old new = new ≡ old

-- the counts of all sources, before and after a fault of one of them, or a lack of memory
abbrev pub RaisedByRead : MergeFault → List ℕ → List ℕ → Type 0
RaisedByRead (fault.Feed i feed.Read) old new = RaisedAt i old new
RaisedByRead fault.Write old new = ⊥
RaisedByRead other old new = new ≡ old

-- the count of the output, before and after a fault of its own, or a lack of memory
abbrev pub RaisedByWrite : MergeFault → ℕ → ℕ → Type 0
RaisedByWrite fault.Memory old new = new ≡ old
RaisedByWrite fault.Write old new = new ≡ next_count old
RaisedByWrite (fault.Feed i e) old new = ⊥

-- the counts of all sources and of the output, before and after a fault
abbrev pub RaisedBy : MergeFault → List ℕ → List ℕ → ℕ → ℕ → Type 0
RaisedBy (fault.Feed i feed.Read) sources sources' out out' = RaisedAt i sources sources' × (out' ≡ out)
RaisedBy fault.Write sources sources' out out' = (sources' ≡ sources) × (out' ≡ next_count out)
RaisedBy other sources sources' out out' = (sources' ≡ sources) × (out' ≡ out)

-- the same of a call: without a fault no count changes

abbrev pub CountsFeed : {S A : Type 0} → Ghosts S → Result A FeedFault → S → S → Type 0
CountsFeed device result old new = MatchResult result (λ _. device.failures new ≡ device.failures old)
    (λ fault. RaisedByFeed fault (device.failures old) (device.failures new))

-- a call tells its fault truly: a source that failed counts it, and a line that it names is at fault
pub record TellsFeedFault {S A : Type 0} (device : Ghosts S) (result : Result A FeedFault) (old new : S) : Type 0 where
  pub counts : CountsFeed device result old new
  pub names : OverText (device.text old) (λ t. IfErr result (NamesLine t))

-- a call that reads lines of a source keeps it, and tells its fault truly
abbrev pub FeedsFrom : {S A : Type 0} → Ghosts S → Result A FeedFault → S → S → Type 0
FeedsFrom device result old new =
    KeepsSource device old new × TellsFeedFault device result old new

abbrev pub CountsReads : {S A : Type 0} → Ghosts S → Result A MergeFault → List S → List S → Type 0
CountsReads device result olds news = MatchResult result (λ _. map device.failures news ≡ map device.failures olds)
    (λ fault. RaisedByRead fault (map device.failures olds) (map device.failures news))

-- the same of a call that reads lines of all sources
pub record TellsReadFault {S A : Type 0} (device : Ghosts S) (result : Result A MergeFault) (olds news : List S) : Type 0
  where
    pub counts : CountsReads device result olds news
    pub names : IfErr result (IsMergeFaultOf (map device.text olds))

-- a call that reads lines of all sources keeps them, and tells its fault truly
abbrev pub ReadsSources : {S A : Type 0} → Ghosts S → Result A MergeFault → List S → List S → Type 0
ReadsSources device result olds news =
    KeepsSources device olds news × TellsReadFault device result olds news

abbrev pub CountsHanding : {A : Type 0} → Result A MergeFault → ℕ → ℕ → Type 0
CountsHanding result old new = MatchResult result (λ _. new ≡ old) (λ fault. RaisedByWrite fault old new)

abbrev pub CountsMerge : {S O A : Type 0} → Ghosts S → OutputGhosts O → Result A MergeFault → List S → List S → O → O
    → Type 0
CountsMerge device output result olds news old new =
    MatchResult result
    (λ _. (map device.failures news ≡ map device.failures olds) × (output.failures new ≡ output.failures old))
    (λ fault. RaisedBy fault (map device.failures olds) (map device.failures news) (output.failures old)
    (output.failures new))

-- the same of a call that also writes
pub record TellsMergeFault {S O A : Type 0} (device : Ghosts S) (output : OutputGhosts O) (result : Result A MergeFault)
    (olds news : List S) (old new : O) : Type 0 where
  pub counts : CountsMerge device output result olds news old new
  pub names : IfErr result (IsMergeFaultOf (map device.text olds))
