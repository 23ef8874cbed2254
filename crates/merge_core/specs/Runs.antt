-- The lines that were read of a source: a part of it that is an index by itself.
use Rattle.std.specs.Prelude.{◌≡◌, ◌⊎◌, ℕ, List, [], ◌++◌, Bool, true}
use Rattle.cdxj_core.specs.declared.limit.TheConstants.{LINE_LIMIT}
use Rattle.cdxj_places.specs.TextLines.{lines}
use Rattle.cdxj_core.specs.Indexes.{IsRun}
use Rattle.cdxj_core.specs.Members.{Member}
use Rattle.merge_core.specs.MergeInputs.{EndsPast}

-- Consecutive lines of a text are these members, whose pairs never fall. Where they are to be all of the range, they go
-- on to the text's end, or to a line whose key lies past the range.
pub record IsPart (past : List ℕ → Bool) (whole : Bool) (text : List ℕ) (members : List Member) : Type 0
  where
    pub before : List (List ℕ)
    pub read : List (List ℕ)
    pub after : List (List ℕ)
    pub cut : lines text ≡ before ++ read ++ after
    pub run : IsRun LINE_LIMIT read members
    pub ended : whole ≡ true → (after ≡ []) ⊎ EndsPast past members
