-- Lines by which a text is no index.
use Rattle.std.specs.Prelude.{◌≡◌, ℕ, List, [], ◌∷◌, ◌++◌, length, flat_map, true, None, Some}
use Rattle.std.specs.Ordering.{is_gt}
use Rattle.cdxj_places.specs.Pairs.{pair_cmp}
use Rattle.cdxj_core.specs.Members.{Member, member_pair, line_entry}
use Rattle.source_core.specs.IndexLines.{lines}

-- these lines stand before the line, which begins at the offset
pub record LineBeginsAt (text : List ℕ) (offset : ℕ) (before : List (List ℕ)) (line : List ℕ) : Type 0 where
  pub after : List (List ℕ)
  pub lines_are : lines text ≡ before ++ line ∷ after
  pub offset_is : offset ≡ length (flat_map (λ l. l) before)

-- a line begins at the offset that has no entry
pub record IsBadLine (limit : ℕ) (text : List ℕ) (offset : ℕ) : Type 0 where
  pub before : List (List ℕ)
  pub line : List ℕ
  pub begins : LineBeginsAt text offset before line
  pub bad : line_entry limit line ≡ None

-- a line begins at the offset whose pair is below that of the line directly before it
pub record IsOutOfOrder (limit : ℕ) (text : List ℕ) (offset : ℕ) : Type 0 where
  pub before : List (List ℕ)
  pub previous : List ℕ
  pub line : List ℕ
  pub begins : LineBeginsAt text offset (before ++ previous ∷ []) line
  pub earlier : Member
  pub later : Member
  pub earlier_is : line_entry limit previous ≡ Some earlier
  pub later_is : line_entry limit line ≡ Some later
  pub falls : is_gt (pair_cmp (member_pair earlier) (member_pair later)) ≡ true
