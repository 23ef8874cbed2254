-- What was read of a source.
use Rattle.std.specs.Prelude.{◌≡◌, ◌⊎◌, ℕ, ◌+◌, ◌-◌, ◌≤◌, ◌<◌, List, [], ◌∷◌, ◌++◌, flat_map, length, take, drop, map}
use Rattle.std.specs.Prelude.{Bool, not, true, Option, Some}
use Rattle.std.specs.List.{AllByRecursion, AllZip, filter, zip}
use Rattle.cdxj_core.specs.declared.limit.TheConstants.{LINE_LIMIT}
use Rattle.cdxj_places.specs.TextLines.{lines}
use Rattle.cdxj_core.specs.Members.{Member}
use Rattle.cdxj_core.specs.Indexes.{IsRun}
pub use Rattle.cdxj_core.specs.KeptLine.{no_member}
use Rattle.cdxj_core.specs.KeptLine.{member_in}
use Rattle.source_core.specs.Cursors.{CursorState, Stands, reach}
use Rattle.source_core.specs.IndexLines.{IsLineStart}
use Rattle.source_core.specs.declared.source.Source.{Ghosts}
use Rattle.merge_core.specs.declared.state.MergeState.{MergeState}
pub use Rattle.merge_core.specs.BoxedLines.{option_list}
use Rattle.merge_core.specs.WaitingLines.{WaitingLine, waits_of}

-- a source that is read: its cursor, and those of its lines that wait
pub record MergeInput : Type 0 where
  pub cursor : CursorState
  pub waits : List Member

abbrev pub input_of : CursorState → List Member → MergeInput
input_of c ws = record { cursor = c; waits = ws }

-- those of the sources from this number on, which have these cursors
abbrev pub inputs_from : ℕ → List CursorState → List WaitingLine → List MergeInput
inputs_from n [] ws = []
inputs_from n (c ∷ cs) ws = input_of c (waits_of n ws) ∷ inputs_from (n + 1) cs ws

abbrev pub inputs : MergeState → List MergeInput
inputs m = inputs_from 0 m.cursors.items m.queue

-- a merge has the same cursors as before, and the same lines wait
abbrev pub KeepsInputs : MergeState → MergeState → Type 0
KeepsInputs old new = new ≡ record old { buffers = new.buffers; most_lines = new.most_lines }

-- the lines that were read, of a source with this text
abbrev pub read_lines : List ℕ → CursorState → List (List ℕ)
read_lines text c = take c.count (lines (drop c.start text))

-- how many bytes the lines have
abbrev pub bytes_of : List (List ℕ) → ℕ
bytes_of ls = length (flat_map (λ l. l) ls)

-- the line's key doesn't lie past the range that is read, where these keys do
abbrev pub stays : (List ℕ → Bool) → Member → Bool
stays past m = not (past m.values.key)

-- the last of these lines lies past the range
abbrev pub EndsPast : (List ℕ → Bool) → List Member → Type 0
EndsPast past ms = (before : List Member) × (last : Member) × (ms ≡ before ++ last ∷ [])
    × (past last.values.key ≡ true)

-- what a line says that has an entry
abbrev pub member_of : List ℕ → Member
member_of line = member_in LINE_LIMIT line

-- what the lines say that were read
abbrev pub given : List ℕ → CursorState → List Member
given text c = map member_of (read_lines text c)

-- which keys lie past the range that is read
module _ (past : List ℕ → Bool) where
  -- those of them that were taken: they lie within the range and don't wait
  abbrev pub done : List ℕ → MergeInput → List Member
  done text f = filter (stays past) (take (f.cursor.count - length f.waits) (given text f.cursor))

  -- What is known of a source with this text: its lines that were read are those that were taken and one more at most,
  -- which waits unless it lies past the range.
  pub record IsInputOf (text : List ℕ) (f : MergeInput) : Type 0 where
    pub begins : IsLineStart text f.cursor.start
    pub stood : f.cursor.at ≤ f.cursor.start + bytes_of (read_lines text f.cursor)
    pub as_many : length (read_lines text f.cursor) ≡ f.cursor.count
    pub run : IsRun LINE_LIMIT (read_lines text f.cursor) (given text f.cursor)
    pub late : List Member
    pub split : given text f.cursor ≡ done text f ++ late
    pub one : length late ≤ 1
    pub waiting : f.waits ≡ filter (stays past) late

  -- what holds of an input beside its source
  pub record IsInput (text : Option (List ℕ)) (extent : ℕ) (f : MergeInput) : Type 0 where
    pub stands : Stands text extent f.cursor
    pub few : length f.waits ≤ 1
    pub counted : length f.waits ≤ f.cursor.count
    pub told : (t : List ℕ) → text ≡ Some t → IsInputOf t f

  -- a line of the source waits, or its lines were read to the end of the range
  abbrev pub IsSettled : Option (List ℕ) → MergeInput → Type 0
  IsSettled text f = (t : List ℕ) → text ≡ Some t → f.waits ≡ []
      → (lines (drop f.cursor.at t) ≡ []) ⊎ EndsPast past (given t f.cursor)

  module _ {S : Type 0} (device : Ghosts S) where
    abbrev pub AreInputs : List S → List MergeInput → Type 0
    AreInputs = AllZip (λ s f. IsInput (device.text s) (device.extent s) f)

    abbrev pub AreSettled : List S → List MergeInput → Type 0
    AreSettled = AllZip (λ s f. IsSettled (device.text s) f)

    -- a cursor for each source, and each line that waits is of one of them
    pub record Aligned (ss : List S) (m : MergeState) : Type 0 where
      pub same : length ss ≡ length m.cursors.items
      pub placed : AllByRecursion (λ (w : WaitingLine). w.source < length m.cursors.items) m.queue
      pub input : AreInputs ss (inputs m)

    -- and a line of each source waits whose range has more lines
    pub record Ready (ss : List S) (m : MergeState) : Type 0 where
      pub aligned : Aligned ss m
      pub settled : AreSettled ss (inputs m)

-- what may change of a source and its cursor in a call, whatever it answers
pub record Moved {S : Type 0} (device : Ghosts S) (old new : S) (before now : CursorState) : Type 0 where
  pub text_kept : device.text new ≡ device.text old
  pub extent_kept : device.extent new ≡ device.extent old
  pub spent : device.gave new + reach before ≤ device.gave old + reach now
  pub start_kept : now.start ≡ before.start
  pub inside : reach before ≤ device.extent old → reach now ≤ device.extent new

-- the same of each source and its cursor
abbrev pub AllMoved : {S : Type 0} → Ghosts S → List S → MergeState → List S → MergeState → Type 0
AllMoved device olds old news new =
    AllZip (λ x y. Moved device x.0 y.0 x.1 y.1) (zip olds old.cursors.items) (zip news new.cursors.items)
