-- What the checking of an index says of a known text.
use Rattle.std.specs.Prelude.{◌≡◌, ℕ, ⊤, List, [], ◌∷◌, length, Option, None, Some, Result, Ok, Err}
use Rattle.cdxj_core.specs.declared.limit.TheConstants.{LINE_LIMIT}
use Rattle.cdxj_core.specs.Indexes.{IsIndex, IsRun}
use Rattle.cdxj_core.specs.Members.{Member, line_entry}
use Rattle.source_core.specs.LinesAtFault.{LineBeginsAt}
use Rattle.query_core.specs.Checking.{FallsAfter, IsChecked, IsCheckFault, IsLastOf}
use Rattle.query_core.specs.IndexFaults.{IsAnswerFaultOf}
use Rattle.query_core.specs.declared.fault.AnswerFault.{AnswerFault}
use Rattle.query_core.specs.declared.fault.AnswerFault.TheVariants as fault

-- a line begins at the offset; those before it are an index by themselves, of which this holds
abbrev pub FollowsRun : List ℕ → ℕ → List ℕ → (List Member → Type 0) → Type 0
FollowsRun text offset line Holds = (before : List (List ℕ)) × LineBeginsAt text offset before line
    × (members : List Member) × IsRun LINE_LIMIT before members × Holds members

-- the text is an index of so many lines, or the first of its lines at fault is named
abbrev pub IsCheckedText : List ℕ → Result ℕ AnswerFault → Type 0
IsCheckedText text (Ok number) = (members : List Member) × IsIndex LINE_LIMIT text members × (number ≡ length members)
IsCheckedText text (Err (fault.BadLine i offset)) = (line : List ℕ)
    × FollowsRun text offset line (λ members. line_entry LINE_LIMIT line ≡ None)
IsCheckedText text (Err (fault.OutOfOrder i offset)) = (line : List ℕ) × (member : Member)
    × (line_entry LINE_LIMIT line ≡ Some member) × FollowsRun text offset line (λ members.
    (previous : Option Member) × IsLastOf members previous × FallsAfter previous member)
IsCheckedText text (Err other) = ⊤

-- what is said of a source of any bytes says this of a known text
abbrev pub CheckedIsText : Type 0
CheckedIsText = (text : List ℕ) (size : ℕ) (result : Result ℕ AnswerFault) → IsChecked (Some text) size result
    → IsCheckedText text result

-- and a line that it names is at fault as other calls say it
abbrev pub CheckFaultIsOfLine : Type 0
CheckFaultIsOfLine = (text : List ℕ) (size : ℕ) (f : AnswerFault) → IsCheckFault f → IsChecked (Some text) size (Err f)
    → IsAnswerFaultOf (Some text ∷ []) f
