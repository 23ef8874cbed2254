-- What a merge passed on to its sink.
use Rattle.std.specs.Prelude.{◌≡◌, ◌⊎◌, ◌++◌, ℕ, List, [], Bool, true, false, Box, Option, Some, Result, MatchResult}
use Rattle.std.specs.Prelude.{map}
use Rattle.std.specs.List.{AllByRecursion}
use Rattle.std.specs.Global.{Global}
use Rattle.cdxj_places.specs.Pairs.{Pair}
use Rattle.cdxj_core.specs.declared.line.Line.{Line}
use Rattle.cdxj_core.specs.Members.{Member, member_pair}
use Rattle.merge_core.specs.PairOrders.{Alike, Below, IsAbove}
use Rattle.merge_core.specs.WaitingLines.{NoneBelow, waiting_pair}
use Rattle.source_core.specs.declared.source.Source.{Ghosts}
use Rattle.merge_core.specs.declared.sink.Sink.{Ghosts as SinkGhosts}
use Rattle.merge_core.specs.declared.state.MergeState.{MergeState}
use Rattle.merge_core.specs.MergeInputs.{inputs}
use Rattle.merge_core.specs.BoxedLines.{boxed_line}
use Rattle.merge_core.specs.Collections.{OverTexts}
use Rattle.merge_core.specs.Gathering.{IsGroup, all_done}
use Rattle.devices.specs.Device.{Grows}
use Rattle.merge_core.specs.Reached.{Reached}
use Rattle.merge_core.specs.Spending.{AreReadTo}

-- The lines of this pair, which no waiting line is below, were being taken. No source that tells its bytes was read
-- beyond them.
pub record HaltedGroup {S : Type 0} (past : List ℕ → Bool) (text : S → Option (List ℕ)) (olds : List S)
    (begun : MergeState) (news : List S) (merge : MergeState) : Type 0 where
  pub pair : Pair
  pub above : (b : Option Pair) → AllByRecursion (λ w. IsAbove b (waiting_pair w)) begun.queue → IsAbove b pair
  pub least : NoneBelow pair begun.queue
  pub read : OverTexts (map text olds) (λ texts.
      AllByRecursion (λ m. Below (member_pair m) pair) (all_done past texts (inputs begun))
      → AreReadTo past text (Some pair) news merge.cursors.items)

-- A sink, by what it wrote of lines: it came from this state and output to others by these lines
module _ {K : Type 0} (consumer : SinkGhosts K) (sink : K) (old : Option (List ℕ)) where
  abbrev pub CameTo : K → Option (List ℕ) → List Member → Type 0
  CameTo state now lines =
      (begin : K) → (start : Option (List ℕ)) → consumer.Wrote begin sink [] start old
      → consumer.Wrote begin state lines start now

-- a group was taken, or no line waited, or a fault came while a group was being taken; the further lines are these
abbrev pub EndedGroup : {S E : Type 0} → (List ℕ → Bool) → Ghosts S → List S → MergeState
    → Result (Option (Box Line Global)) E → List S → MergeState → List Member → Type 0
EndedGroup past device olds old result news new rest =
    MatchResult result (λ first. IsGroup past device olds old news new (boxed_line first) rest)
    (λ _. HaltedGroup past device.text olds old news new)

-- a point of a merge: its sources, what it knows of them, its sink, and what was written
pub record MergePoint (S K : Type 0) : Type 0 where
  pub sources : List S
  pub merge : MergeState
  pub sink : K
  pub written : Option (List ℕ)

abbrev pub point_of : {S K : Type 0} → List S → MergeState → K → Option (List ℕ) → MergePoint S K
point_of ss m sink written = record { sources = ss; merge = m; sink = sink; written = written }

-- What a sink says of itself, and what sources say; the point before
module _ {K S : Type 0} (consumer : SinkGhosts K) (past : List ℕ → Bool) (device : Ghosts S) (before : MergePoint S K)
  where
    -- these lines were passed on when the merge was at this point
    pub record SoFar (now : MergePoint S K) : Type 0 where
      pub bound : Option Pair
      pub taken : List Member
      pub reached : Reached past device before.sources before.merge now.sources now.merge bound taken
      pub came : CameTo consumer before.sink before.written now.sink now.written taken

    -- the sink wants more lines, if it did before
    abbrev pub StillWants : K → Type 0
    StillWants sink = (consumer.Enough before.sink → ⊥) → consumer.Enough sink → ⊥

    -- of these lines the last ones share a pair, and before them the sink wanted more
    pub record LastGroup (bound : Option Pair) (taken : List Member) : Type 0 where
      pub pair : Pair
      pub earlier : List Member
      pub group : List Member
      pub state : K
      pub middle : Option (List ℕ)
      pub bound_is : bound ≡ Some pair
      pub split : taken ≡ earlier ++ group
      pub below : AllByRecursion (λ m. Below (member_pair m) pair) earlier
      pub alike : AllByRecursion (λ m. Alike (member_pair m) pair) group
      pub more : StillWants state
      pub came : CameTo consumer before.sink before.written state middle earlier

    -- all lines were passed on and none waits, or the sink has enough, which it got with the last lines
    pub record Passed (now : MergePoint S K) (all : Bool) : Type 0 where
      pub so_far : SoFar now
      pub last : all ≡ false → LastGroup so_far.bound so_far.taken
      pub ended : all ≡ true → now.merge.queue ≡ []
      pub enough : all ≡ false → consumer.Enough now.sink
      pub further : all ≡ true → StillWants now.sink

    -- these lines were taken before a fault, or while the sink failed
    pub record BrokenMerge (written : Option (List ℕ)) : Type 0 where
      pub sources : List S
      pub merge : MergeState
      pub bound : Option Pair
      pub taken : List Member
      pub reached : Reached past device before.sources before.merge sources merge bound taken
      pub wrote : (begin : K) → (start : Option (List ℕ)) → consumer.Wrote begin before.sink [] start before.written
          → ((state : K) × consumer.Wrote begin state taken start written) ⊎ consumer.Broke begin taken start written

    -- lines were passed on before a fault, and those of the next pair were being read
    pub record HaltedMerge (now : MergePoint S K) : Type 0 where
      pub point : MergePoint S K
      pub so_far : SoFar point
      pub more : StillWants point.sink
      pub grows : Grows point.written now.written
      pub next : Pair
      pub above : IsAbove so_far.bound next
      pub least : NoneBelow next point.merge.queue
      pub read : OverTexts (map device.text before.sources) (λ _.
          AreReadTo past device.text (Some next) now.sources now.merge.cursors.items)

    -- a merge ended, or broke off at a fault
    abbrev pub EndedMerge : {E : Type 0} → Result Bool E → MergePoint S K → Type 0
    EndedMerge result now = MatchResult result (Passed now) (λ _. BrokenMerge now.written × HaltedMerge now)
