-- How far a merge of several sources has come.
use Rattle.std.specs.Prelude.{◌≡◌, ℕ, List, map, Bool, Option}
use Rattle.std.specs.List.{AllByRecursion}
use Rattle.cdxj_places.specs.Pairs.{Pair}
use Rattle.cdxj_places.specs.Places.{place_cmp}
use Rattle.cdxj_places.specs.Rising.{rising, Rises}
use Rattle.cdxj_core.specs.Members.{Member, member_pair, member_place}
use Rattle.source_core.specs.declared.source.Source.{Ghosts}
use Rattle.merge_core.specs.declared.state.MergeState.{MergeState}
use Rattle.merge_core.specs.PairOrders.{IsAbove, IsUpto}
use Rattle.merge_core.specs.SourceLines.{HasEntry}
use Rattle.merge_core.specs.WaitingLines.{waiting_pair}
use Rattle.merge_core.specs.MergeInputs.{AllMoved, MergeInput, Ready, inputs}
use Rattle.merge_core.specs.Gathering.{all_done}
use Rattle.merge_core.specs.Collections.{KeepsSources, OverTexts}

module _ {S : Type 0} (past : List ℕ → Bool) (device : Ghosts S) where
  -- These lines were handed on: each was read as an entry, they rise, and none is above the bound. If the bytes of all
  -- sources are known, they are all that are done
  pub record Handed (old : List S) (fs : List MergeInput) (bound : Option Pair) (taken : List Member) : Type 0 where
    pub entries : AllByRecursion HasEntry taken
    pub upto : AllByRecursion (λ m. IsUpto bound (member_pair m)) taken
    pub rises : Rises member_place place_cmp taken
    pub told : OverTexts (map device.text old) (λ texts.
        (taken ≡ rising member_place place_cmp (all_done past texts fs))
        × AllByRecursion (λ m. IsUpto bound (member_pair m)) (all_done past texts fs))

  -- from these sources and this merge it came to those: the lines that wait stand above the bound
  pub record Reached (old : List S) (begun : MergeState) (ss : List S) (m : MergeState) (bound : Option Pair)
      (taken : List Member) : Type 0 where
    pub ready : Ready past device ss m
    pub kept : KeepsSources device old ss
    pub moved : AllMoved device old begun ss m
    pub above : AllByRecursion (λ w. IsAbove bound (waiting_pair w)) m.queue
    pub handed : Handed old (inputs m) bound taken
