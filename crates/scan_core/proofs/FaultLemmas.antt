-- One of known archives is the first that is at fault.
use Rattle.query_core.proofs.Words.{[], ℕ, ◌++◌, ◌<◌, ◌≤◌, ◌∷◌, ◌≡◌, Bool, Known, List, append-nil, append_assoc, arith}
use Rattle.query_core.proofs.Words.{Some, get_or, length, map, suc, take, zero}
use Rattle.warc_core.specs.{Kind.Kind, declared.next.TheConstants.HEAD_LIMIT}
use Rattle.cdxj_core.specs.Entries.{EntryValue}
use Rattle.capture_core.specs.CaptureAnswer.{usual_limits}
use Rattle.archives.specs.State.{ToldArchive}
use Rattle.index_core.specs.{Laws.AcceptedIsWhole, Laws.WholeIsNotRefused, declared.fault.IndexFault.IndexFault}
use Rattle.index_core.specs.declared.fault.IndexFault.TheVariants as index
use Rattle.scan_core.specs.Archives.{AreCapturesOf, AreCapturesOfEach, AreNewNames, IsFaultOfArchive, IsNewName}
use Rattle.scan_core.specs.Archives.{nothing_told}
use Rattle.scan_core.specs.FaultLaws.{FirstFaultIsOne, IsNoFailure}

module _ (accepted_is_whole : AcceptedIsWhole) (whole_is_not_refused : WholeIsNotRefused) (types : Kind → Bool) where
  -- an archive that is accepted under a new name isn't at fault
  no_fault : (earlier : List (List ℕ)) (name archive : List ℕ) (input : ToldArchive) (captures : List EntryValue)
      (fault : IndexFault) → input.bytes ≡ Some archive → IsNewName earlier name → AreCapturesOf types name input captures
      → IsFaultOfArchive types earlier name input fault → IsNoFailure fault → ⊥
  no_fault earlier name archive input captures (index.Capture f) told new accepted found mine =
      let is = rw told at accepted.1 in
      let refused = rw told at found.1 in
      mine (whole_is_not_refused types usual_limits HEAD_LIMIT input.packing name archive refused.0 f
      (accepted_is_whole types usual_limits HEAD_LIMIT input.packing name archive captures is) refused.1)
  no_fault earlier name archive input captures fault told new accepted found mine = grind arith

  -- so none of those before the first one is
  none_before : (earlier names archives : List (List ℕ)) (inputs : List ToldArchive) (captures : List (List EntryValue))
      (i j : ℕ) (fault : IndexFault) → i < j → j ≤ length names → Known (map (λ input. input.bytes) inputs) archives
      → AreNewNames earlier (take j names) → AreCapturesOfEach types (take j names) (take j inputs) captures
      → IsFaultOfArchive types (earlier ++ take i names) (get_or names i []) (get_or inputs i nothing_told) fault
      → IsNoFailure fault → ⊥
  none_before earlier (name ∷ names) (archive ∷ archives) (input ∷ inputs) (c ∷ captures) zero (suc j) fault l m known new
      accepted found mine = no_fault earlier name archive input c fault known.0 new.0 accepted.0
      (rw append-nil at found) mine
  none_before earlier (name ∷ names) (archive ∷ archives) (input ∷ inputs) (c ∷ captures) (suc i) (suc j) fault l m known
      new accepted found mine = none_before (earlier ++ name ∷ []) names archives inputs captures i j fault (omega arith)
      (omega arith) known.1 new.1 accepted.1 (rw (append_assoc earlier (name ∷ []) (take i names)) found) mine
  none_before earlier (name ∷ names) (archive ∷ archives) (input ∷ inputs) [] i (suc j) fault l m known new accepted found
      mine = absurd accepted
  none_before earlier (name ∷ names) (archive ∷ archives) [] captures i (suc j) fault l m known new accepted found mine =
      absurd accepted
  none_before earlier (name ∷ names) [] (input ∷ inputs) captures i (suc j) fault l m known new accepted found mine =
      absurd known
  none_before earlier (name ∷ names) [] [] captures i (suc j) fault l m known new accepted found mine = absurd accepted
  none_before earlier names archives inputs captures i zero fault l m known new accepted found mine =
      absurd (omega (arith, l))
  none_before earlier [] archives inputs captures i (suc j) fault l m known new accepted found mine =
      absurd (omega (arith, m))

both_ways : (i j : ℕ) → (i < j → ⊥) → (j < i → ⊥) → i ≡ j
both_ways i j these those = grind arith

pub first_fault_is_one : AcceptedIsWhole → WholeIsNotRefused → FirstFaultIsOne
first_fault_is_one whole law types names archives inputs i j this that known a mine b other = both_ways i j
    (λ l. none_before whole law types [] names archives inputs b.captures i j this l (omega (arith, b.inside)) known
    b.before.named b.before.accepted a.refused mine)
    (λ l. none_before whole law types [] names archives inputs a.captures j i that l (omega (arith, a.inside)) known
    a.before.named a.before.accepted b.refused other)
