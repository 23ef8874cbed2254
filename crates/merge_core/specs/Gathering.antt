-- What was taken of several sources.
use Rattle.std.specs.Prelude.{◌≡◌, ℕ, ◌+◌, ◌-◌, ◌<◌, ◌≤◌, List, [], ◌∷◌, ◌++◌, flat_map, length, map, not, false}
use Rattle.std.specs.Prelude.{Bool, Option, None, Some, slice_index_or, slice_set}
use Rattle.std.specs.List.{AllByRecursion, AllZip, filter, sum, zip}
use Rattle.std.specs.List.Sorted.{IsPermutation}
use Rattle.cdxj_places.specs.Pairs.{Pair}
use Rattle.cdxj_core.specs.Members.{Member, member_pair}
use Rattle.source_core.specs.Cursors.{CursorState}
use Rattle.source_core.specs.Device.{OverText}
use Rattle.source_core.specs.declared.source.Source.{Ghosts}
use Rattle.merge_core.specs.declared.state.MergeState.{MergeState}
use Rattle.merge_core.specs.Collections.{OverTexts}
use Rattle.merge_core.specs.PairOrders.{Alike, Below, Upto, IsAbove, is_low}
use Rattle.merge_core.specs.WaitingLines.{AllBeyond, NoneBelow, WaitingLine, queued, waiting_pair}
use Rattle.merge_core.specs.MergeInputs.{Aligned, IsInput, MergeInput, IsSettled, done, input_of, inputs, given}

-- the lines below the pair were done before, and the others went into the group
pub record Gathered (pair : Pair) (old_done done old_group group : List Member) : Type 0 where
  pub before : filter (is_low pair) done ≡ old_done
  pub taken : group ≡ old_group ++ filter (λ m. not (is_low pair m)) done
  pub upto : AllByRecursion (λ m. Upto (member_pair m) pair) done

-- the lines of all texts that were taken, text by text
abbrev pub all_done : (List ℕ → Bool) → List (List ℕ) → List MergeInput → List Member
all_done past texts fs = flat_map (λ x. done past x.0 x.1) (zip texts fs)

-- this holds of the lines that were taken, of each source that tells its bytes
abbrev pub EachDone : {S : Type 0} → (List ℕ → Bool) → (S → Option (List ℕ)) → (List Member → Type 0) → List S
    → List MergeInput → Type 0
EachDone past text P = AllZip (λ s f. OverText (text s) (λ t. P (done past t f)))

-- the bytes of all sources that weren't read
abbrev pub unread : {S : Type 0} → (S → ℕ) → List S → List CursorState → ℕ
unread extent ss cs = sum (map (λ x. extent x.0 - x.1.at) (zip ss cs))

-- these bytes, and the lines that wait
abbrev pub to_come : {S : Type 0} → (S → ℕ) → List S → MergeState → ℕ
to_come extent ss m = unread extent ss m.cursors.items + length m.queue

-- the turn of this line comes at the pair and the source's number, or later
abbrev pub IsFrom : Pair → ℕ → WaitingLine → Type 0
IsFrom pair n w = Upto pair (waiting_pair w) × (Alike (waiting_pair w) pair → n ≤ w.source)

-- the last of these lines has the pair, and lies within the range
abbrev pub EndsAt : (List ℕ → Bool) → Pair → List Member → Type 0
EndsAt past pair ms = (before : List Member) × (last : Member) × (ms ≡ before ++ last ∷ [])
    × Alike (member_pair last) pair × (past last.values.key ≡ false)

-- no line of the source waits, and the last that was read has the pair
pub record IsDue (past : List ℕ → Bool) (pair : Pair) (text : Option (List ℕ)) (f : MergeInput) : Type 0 where
  pub none : f.waits ≡ []
  pub last : (t : List ℕ) → text ≡ Some t → EndsAt past pair (given t f.cursor)

-- the same of the source of this number
abbrev pub IsDueAt : {S : Type 0} → (List ℕ → Bool) → (S → Option (List ℕ)) → Pair → ℕ → List S → MergeState → Type 0
IsDueAt {S = S} past text pair i ss m =
    (a : S) → (d : MergeInput) → IsDue past pair (text (slice_index_or ss i a)) (slice_index_or (inputs m) i d)

-- The further lines of a source with the pair were read and taken, and the line after them, which waits unless it lies
-- past the range.
pub record ReadGroup {S : Type 0} (past : List ℕ → Bool) (pair : Pair) (device : Ghosts S) (source : S)
    (old : CursorState) (f : MergeInput) (old_rest rest : List Member) : Type 0 where
  pub input : IsInput past (device.text source) (device.extent source) f
  pub settled : IsSettled past (device.text source) f
  pub later : AllByRecursion (λ m. Below pair (member_pair m)) f.waits
  pub fewer : (device.extent source - f.cursor.at) + length f.waits ≤ device.extent source - old.at
  pub taken : List Member
  pub rest_is : rest ≡ old_rest ++ taken
  pub alike : AllByRecursion (λ m. Alike (member_pair m) pair) taken
  pub done_is : (t : List ℕ) → device.text source ≡ Some t → done past t f ≡ done past t (input_of old []) ++ taken

-- further lines with the pair were taken of the source of this number, and of no other
pub record TookOf {S : Type 0} (past : List ℕ → Bool) (text : S → Option (List ℕ)) (pair : Pair) (i : ℕ)
    (olds news : List S) (old_inputs new_inputs : List MergeInput) (old_rest rest : List Member) : Type 0 where
  pub source : S
  pub input : MergeInput
  pub source_is : news ≡ slice_set olds i source
  pub inputs_are : new_inputs ≡ slice_set old_inputs i input
  pub text_is : (other : S) → text source ≡ text (slice_index_or olds i other)
  pub taken : List Member
  pub rest_is : rest ≡ old_rest ++ taken
  pub alike : AllByRecursion (λ m. Alike (member_pair m) pair) taken
  pub done_is : (old : MergeInput) → (t : List ℕ) → text source ≡ Some t
      → done past t input ≡ done past t (slice_index_or old_inputs i old) ++ taken

-- A source was read on, which was due: its further lines with the pair were taken
pub record ReadOn {S : Type 0} (past : List ℕ → Bool) (device : Ghosts S) (pair : Pair) (i : ℕ)
    (olds : List S) (old : MergeState) (news : List S) (new : MergeState) (old_rest rest : List Member) : Type 0 where
  pub aligned : Aligned past device news new
  pub fewer : to_come device.extent news new ≤ to_come device.extent olds old
  pub took : TookOf past device.text pair i olds news (inputs old) (inputs new) old_rest rest
  pub settled : IsSettled past (device.text took.source) took.input
  pub later : AllByRecursion (λ m. Below pair (member_pair m)) took.input.waits
  pub queue_is : IsPermutation (queued i took.input.waits ++ old.queue) new.queue

-- The lines of the least pair were taken from all sources: of those that are done now, the ones that weren't
pub record Grouped {S : Type 0} (past : List ℕ → Bool) (device : Ghosts S) (olds : List S)
    (old : MergeState) (news : List S) (new : MergeState) (pair : Pair) (group : List Member) : Type 0 where
  pub above : (b : Option Pair) → AllByRecursion (λ w. IsAbove b (waiting_pair w)) old.queue → IsAbove b pair
  pub least : NoneBelow pair old.queue
  pub later : AllBeyond pair new.queue
  pub each : AllByRecursion (λ m. Alike (member_pair m) pair) group
  pub fewer : to_come device.extent news new < to_come device.extent olds old
  pub gathered : OverTexts (map device.text olds) (λ texts.
      AllByRecursion (λ m. Below (member_pair m) pair) (all_done past texts (inputs old))
      → Gathered pair (all_done past texts (inputs old)) (all_done past texts (inputs new)) [] group)

-- a group was taken, which begins with this line, or no line waited
abbrev pub IsGroup : {S : Type 0} → (List ℕ → Bool) → Ghosts S → List S → MergeState → List S → MergeState
    → Option Member → List Member → Type 0
IsGroup past device olds old news new None rest =
    (news ≡ olds) × (new.cursors.items ≡ old.cursors.items) × (old.queue ≡ []) × (new.queue ≡ [])
IsGroup past device olds old news new (Some first) rest =
    Grouped past device olds old news new (member_pair first) (first ∷ rest)
