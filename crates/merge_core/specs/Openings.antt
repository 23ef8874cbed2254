-- Feeds that stand where a search ended.
use Rattle.std.specs.Prelude.{◌≡◌, ℕ, ◌++◌, ◌∷◌, List, [], Bool, length, Option, Some}
use Rattle.std.specs.List.{AllZip, zip}
use Rattle.std.specs.List.Sorted.{IsPermutation}
use Rattle.cdxj_core.specs.Indexes.{IsIndex}
use Rattle.cdxj_core.specs.Members.{Member}
use Rattle.cdxj_core.specs.declared.limit.TheConstants.{LINE_LIMIT}
use Rattle.cdxj_places.specs.Pairs.{IsLeast, Pair}
use Rattle.source_core.specs.Cursors.{CursorState}
use Rattle.source_core.specs.Reads.{KeepsSource}
use Rattle.source_core.specs.Search.{IsCut}
use Rattle.source_core.specs.declared.source.Source.{Ghosts}
use Rattle.merge_core.specs.declared.state.MergeState.{MergeState}
use Rattle.merge_core.specs.MergeInputs.{IsInput, IsSettled, Ready, done, input_of, inputs}
use Rattle.merge_core.specs.Gathering.{EachDone}
use Rattle.merge_core.specs.Spending.{CameOnce, CameWithin}
use Rattle.merge_core.specs.WaitingLines.{queued}

-- of an index, the lines before the cursor's start are those below the pair
abbrev pub IsCutAt : Pair → Option (List ℕ) → CursorState → Type 0
IsCutAt start text c = (t : List ℕ) → (members : List Member) → text ≡ Some t → IsIndex LINE_LIMIT t members
    → IsCut start t members c.start

-- The cursor of a source that was opened at a pair, as it was before, and as it is now
pub record OpenedAt {S : Type 0} (device : Ghosts S) (start : Pair) (old new : S) (c : CursorState) : Type 0 where
  pub kept : KeepsSource device old new
  pub cut : IsCutAt start (device.text old) c
  pub came : CameWithin device old new c
  pub first : IsLeast start → c.start ≡ 0
  pub once : IsLeast start → CameOnce device old new c

-- the cursors of the sources of a merge that were opened at a pair
abbrev pub AreOpened : {S : Type 0} → Ghosts S → Pair → List S → List (S × CursorState) → Type 0
AreOpened device start = AllZip (λ x y. OpenedAt device start x y.0 y.1)

-- A merge was begun of sources that were opened at a pair: no line was taken yet, and none is held for a group
pub record Begun {S : Type 0} (past : List ℕ → Bool) (device : Ghosts S) (start : Pair) (olds news : List S)
    (m : MergeState) : Type 0 where
  pub ready : Ready past device news m
  pub opened : AreOpened device start olds (zip news m.cursors.items)
  pub fresh : EachDone past device.text (λ ms. ms ≡ []) news (inputs m)
  pub none_held : m.most_lines ≡ 0

-- A source was added, whose cursor is this; its first line waits, if it lies within the range
pub record AddedSource {S : Type 0} (past : List ℕ → Bool) (device : Ghosts S) (source : S)
    (IsCursor : CursorState → Type 0) (old new : MergeState) : Type 0 where
  pub cursor : CursorState
  pub first : List Member
  pub cursors_are : new.cursors.items ≡ old.cursors.items ++ cursor ∷ []
  pub queue_is : IsPermutation (queued (length old.cursors.items) first ++ old.queue) new.queue
  pub input : IsInput past (device.text source) (device.extent source) (input_of cursor first)
  pub settled : IsSettled past (device.text source) (input_of cursor first)
  pub fresh : (t : List ℕ) → device.text source ≡ Some t → done past t (input_of cursor first) ≡ []
  pub cursor_is : IsCursor cursor
