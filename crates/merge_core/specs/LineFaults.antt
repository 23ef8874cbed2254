-- Faults that name lines.
use Rattle.std.specs.Prelude.{◌≡◌, ◌≢◌, ℕ, ◌<◌, ⊤, List, ◌∷◌, length, get_or, Box, Option, None, Some, Result}
use Rattle.std.specs.Prelude.{MatchResult}
use Rattle.std.specs.Global.{Global}
use Rattle.cdxj_core.specs.declared.line.Line.{Line}
use Rattle.cdxj_core.specs.Members.{line_entry}
use Rattle.cdxj_core.specs.declared.fault.LineFault.{LineFault}
use Rattle.cdxj_core.specs.declared.fault.LineFault.TheVariants as reading
use Rattle.cdxj_core.specs.declared.limit.TheConstants.{LINE_LIMIT}
use Rattle.source_core.specs.LinesAtFault.{IsBadLine, IsOutOfOrder}
use Rattle.merge_core.specs.declared.fault.FeedFault.{FeedFault}
use Rattle.merge_core.specs.declared.fault.FeedFault.TheVariants as feed
use Rattle.merge_core.specs.declared.fault.MergeFault.{MergeFault}
use Rattle.merge_core.specs.declared.fault.MergeFault.TheVariants as fault

-- the line with the entry of these bytes, or a fault, which is a lack of memory if they have an entry
abbrev pub GivesEntry : Result (Box Line Global) LineFault → List ℕ → Type 0
GivesEntry result bytes = MatchResult result (λ line. line_entry LINE_LIMIT bytes ≡ Some line.value)
    (λ fault. fault ≢ reading.Memory → line_entry LINE_LIMIT bytes ≡ None)

-- the first of these lines has no entry
abbrev pub IsBadFirst : List (List ℕ) → Type 0
IsBadFirst ls = (line : List ℕ) × (after : List (List ℕ)) × (ls ≡ line ∷ after) × (line_entry LINE_LIMIT line ≡ None)

-- the fault of a source whose line at the offset has this fault
abbrev pub line_fault : ℕ → LineFault → FeedFault
line_fault at reading.Memory = feed.Memory
line_fault at other = feed.BadLine at

-- a fault of the reading of the line of a text that begins at this offset
abbrev pub IsFeedFaultAt : List (List ℕ) → ℕ → FeedFault → Type 0
IsFeedFaultAt ls at feed.Memory = ⊤
IsFeedFaultAt ls at feed.Read = ⊤
IsFeedFaultAt ls at (feed.BadLine offset) = (offset ≡ at) × IsBadFirst ls
IsFeedFaultAt ls at (feed.OutOfOrder offset) = ⊥

-- a fault of the reading of a line that begins at this offset, of any bytes
abbrev pub IsOfLineAt : ℕ → FeedFault → Type 0
IsOfLineAt at (feed.BadLine offset) = offset ≡ at
IsOfLineAt at (feed.OutOfOrder offset) = ⊥
IsOfLineAt at other = ⊤

-- a line that the fault names is such a line of the text
abbrev pub NamesLine : List ℕ → FeedFault → Type 0
NamesLine text feed.Memory = ⊤
NamesLine text feed.Read = ⊤
NamesLine text (feed.BadLine offset) = IsBadLine LINE_LIMIT text offset
NamesLine text (feed.OutOfOrder offset) = IsOutOfOrder LINE_LIMIT text offset

-- a line that the fault names is such a line of the source that it names, where that source tells its bytes
abbrev pub IsMergeFaultOf : List (Option (List ℕ)) → MergeFault → Type 0
IsMergeFaultOf texts fault.Memory = ⊤
IsMergeFaultOf texts fault.Write = ⊤
IsMergeFaultOf texts (fault.Feed i e) = (i < length texts)
    × ((text : List ℕ) → get_or texts i None ≡ Some text → NamesLine text e)
