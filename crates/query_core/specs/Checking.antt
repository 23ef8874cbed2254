-- What the checking of an index owes.
use Rattle.std.specs.Prelude.{◌≡◌, ℕ, ⊤, List, [], ◌∷◌, ◌++◌, length, drop, flat_map, true, Option, None, Some, Result, Ok}
use Rattle.std.specs.Prelude.{Err}
use Rattle.std.specs.Ordering.{is_gt}
use Rattle.cdxj_core.specs.declared.limit.TheConstants.{LINE_LIMIT}
use Rattle.cdxj_places.specs.Pairs.{pair_cmp}
use Rattle.cdxj_places.specs.TextLines.{lines}
use Rattle.cdxj_core.specs.Members.{Member, member_pair, line_entry}
use Rattle.cdxj_core.specs.Indexes.{IsRun}
use Rattle.source_core.specs.Device.{OverText}
use Rattle.merge_core.specs.LineFaults.{IsBadFirst}
use Rattle.query_core.specs.declared.fault.AnswerFault.{AnswerFault}
use Rattle.query_core.specs.declared.fault.AnswerFault.TheVariants as fault

-- it is the last of these
abbrev pub IsLastOf : List Member → Option Member → Type 0
IsLastOf members None = members ≡ []
IsLastOf members (Some m) = (earlier : List Member) × (members ≡ earlier ++ m ∷ [])

-- the pair of a line is below that of the line before it, if there is one
abbrev pub FallsAfter : Option Member → Member → Type 0
FallsAfter None m = ⊥
FallsAfter (Some previous) m = is_gt (pair_cmp (member_pair previous) (member_pair m)) ≡ true

-- the source's bytes, where they are known
module _ (told : Option (List ℕ)) where
  -- Lines up to the offset were read, which are an index by themselves: each has an entry, and their pairs never fall.
  -- Where the bytes are known, they are the first lines, and of those behind them this holds.
  pub record AreCheckedTo (offset : ℕ) (Behind : List (List ℕ) → Type 0) : Type 0 where
    pub before : List (List ℕ)
    pub members : List Member
    pub run : IsRun LINE_LIMIT before members
    pub ends : offset ≡ length (flat_map (λ l. l) before)
    pub known : OverText told (λ text. (lines text ≡ before ++ lines (drop offset text))
        × Behind (lines (drop offset text)))

  -- the pair of the line behind them is below that of the last of them
  pub record EndsOutOfOrder (offset : ℕ) : Type 0 where
    pub line : List ℕ
    pub member : Member
    pub entry : line_entry LINE_LIMIT line ≡ Some member
    pub checked : AreCheckedTo offset (λ behind. (after : List (List ℕ)) × (behind ≡ line ∷ after))
    pub previous : Option Member
    pub previous_is : IsLastOf checked.members previous
    pub falls : FallsAfter previous member

  -- a source of this size is an index of so many lines, or the first of its lines at fault is named
  abbrev pub IsChecked : ℕ → Result ℕ AnswerFault → Type 0
  IsChecked size (Ok number) = (checked : AreCheckedTo size (λ behind. behind ≡ []))
      × (number ≡ length checked.members)
  IsChecked size (Err (fault.BadLine i offset)) = AreCheckedTo offset IsBadFirst
  IsChecked size (Err (fault.OutOfOrder i offset)) = EndsOutOfOrder offset
  IsChecked size (Err other) = ⊤

-- the faults of a check, which has one index
abbrev pub IsCheckFault : AnswerFault → Type 0
IsCheckFault fault.Memory = ⊤
IsCheckFault (fault.Read i) = i ≡ 0
IsCheckFault (fault.BadLine i offset) = i ≡ 0
IsCheckFault (fault.OutOfOrder i offset) = i ≡ 0
IsCheckFault other = ⊥
