-- What one pass over sources reads of the lines of a query.
use Rattle.std.specs.Prelude.{◌≡◌, ◌⊎◌, ℕ, ◌-◌, ◌^◌, ◌+◌, ◌≤◌, List, [], ◌++◌, length, map, min, Bool, true, Option}
use Rattle.std.specs.Prelude.{Result, MatchResult, false}
use Rattle.std.specs.List.{AllZip, filter, sum}
use Rattle.cdxj_core.specs.Members.{Member}
use Rattle.source_core.specs.declared.source.Source.{Ghosts}
use Rattle.query_text.specs.Queries.{QueryValue}
use Rattle.query_text.specs.Matching.{is_past}
use Rattle.merge_core.specs.Collections.{OverIndexes, OverTexts, all_lines, collection}
use Rattle.merge_core.specs.Merging.{CameTo}
use Rattle.devices.specs.Device.{Grows}
use Rattle.merge_core.specs.Runs.{IsPart}
use Rattle.merge_core.specs.SourceLines.{AreLinesOf}
use Rattle.merge_core.specs.Spending.{AllGaveWithin, search_steps}
use Rattle.merge_core.specs.Counts.{OverShares}
use Rattle.merge_core.specs.declared.sink.Sink.{Ghosts as SinkGhosts}
use Rattle.query_core.specs.declared.pass.Pass.{Pass}
use Rattle.query_core.specs.PageWriting.{AreAtMost, captures_over}
use Rattle.query_core.specs.Reach.{in_reach}

module _ (q : QueryValue) where
  -- the captures of these lines come first of the others'
  abbrev pub AreFirst : List Member → List Member → Type 0
  AreFirst all taken = (rest : List Member) × (captures_over q q.resume all ≡ captures_over q q.resume taken ++ rest)

  -- Of each source consecutive lines were read, which are an index by themselves, and so many together. If all lines of
  -- the range were read, they have no further captures.
  pub record IsOfParts (texts : List (List ℕ)) (taken : List Member) (all : Bool) (lines : ℕ) : Type 0 where
    pub parts : List (List Member)
    pub each : (whole : Bool) → (whole ≡ true → all ≡ true)
        → AllZip (IsPart (is_past q.target) whole) texts parts
    pub count : lines ≡ min (sum (map length parts)) (2 ^ 64 - 1)
    pub first : AreFirst (collection parts) taken
    pub ended : all ≡ true → captures_over q q.resume (collection parts) ≡ captures_over q q.resume taken

module _ (q : QueryValue) (told : List (Option (List ℕ))) where
  -- lines of the sources, which over indexes come first, and are all of the range if this says so
  pub record Took (taken : List Member) (all : Bool) : Type 0 where
    pub lines : AreLinesOf told taken
    pub first : OverIndexes told (λ texts indexes. AreFirst q (collection indexes) taken)
    pub whole : all ≡ true → OverIndexes told (λ texts indexes.
        captures_over q q.resume (collection indexes) ≡ captures_over q q.resume taken)

  -- what sources gave for so many captures
  abbrev pub GaveFor : {S : Type 0} → Ghosts S → List Member → List S → List S → Type 0
  GaveFor device earlier olds news = OverIndexes told (λ texts indexes.
      (limit : Option ℕ) → AreAtMost limit (captures_over q q.resume earlier)
      → AllGaveWithin device (in_reach q q.resume limit (collection indexes)) texts indexes olds news)

  -- so many lines were read, no more than are in reach of as many captures, and one of each source
  abbrev pub ReadFor : List Member → ℕ → Type 0
  ReadFor earlier lines = OverIndexes told (λ texts indexes.
      (limit : Option ℕ) → AreAtMost limit (captures_over q q.resume earlier)
      → lines ≤ length (filter (in_reach q q.resume limit (collection indexes)) (all_lines indexes)) + length told)

-- What a sink says of itself, and what sources say. The query; the sources, which are read from one list of states to
-- another; the sink and what was written, before and after.
module _ {K S : Type 0} (consumer : SinkGhosts K) (device : Ghosts S) (q : QueryValue) (olds news : List S) (sink : K)
    (old : Option (List ℕ)) where
  -- after these lines the sink wanted more; the sources gave no more than their captures need
  pub record WantedMore (earlier : List Member) : Type 0 where
    pub state : K
    pub middle : Option (List ℕ)
    pub more : (consumer.Enough sink → ⊥) → consumer.Enough state → ⊥
    pub came : CameTo consumer sink old state middle earlier
    pub within : GaveFor q (map device.text olds) device earlier olds news

  -- these lines were taken, all of the range or enough
  pub record TookLines (last : K) (new : Option (List ℕ)) (pass : Pass) : Type 0 where
    pub lines : List Member
    pub came : CameTo consumer sink old last new lines
    pub took : Took q (map device.text olds) lines pass.all
    pub parts : OverTexts (map device.text olds) (λ texts. IsOfParts q texts lines pass.all pass.lines)
    pub earlier : List Member
    pub later : List Member
    pub split : captures_over q q.resume lines ≡ captures_over q q.resume earlier ++ later
    pub before : WantedMore earlier
    pub few : ReadFor q (map device.text olds) earlier pass.lines
    pub enough : pass.all ≡ false → consumer.Enough last
    pub probes : pass.probes ≤ search_steps device olds
    pub held : OverShares (map device.text olds) (λ most. pass.held ≤ length olds + most)

  -- these lines were taken before a fault, or while the sink failed
  pub record BrokeOff (new : Option (List ℕ)) : Type 0 where
    pub lines : List Member
    pub wrote : (begin : K) → (start : Option (List ℕ)) → consumer.Wrote begin sink [] start old
        → ((k : K) × consumer.Wrote begin k lines start new) ⊎ consumer.Broke begin lines start new
    pub took : Took q (map device.text olds) lines false

  -- these lines were taken before a fault, after which the output may have grown
  pub record Halted (new : Option (List ℕ)) : Type 0 where
    pub earlier : List Member
    pub first : OverIndexes (map device.text olds) (λ texts indexes. AreFirst q (collection indexes) earlier)
    pub before : WantedMore earlier
    pub grows : Grows before.middle new

  -- a pass ended, or broke off at a fault
  abbrev pub EndedPass : {E : Type 0} → Result Pass E → K → Option (List ℕ) → Type 0
  EndedPass result last new = MatchResult result (TookLines last new) (λ _. BrokeOff new × Halted new)
