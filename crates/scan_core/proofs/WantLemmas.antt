-- A scan of which nothing is at fault is refused for want of memory.
use Rattle.query_core.proofs.Words.{[], ℕ, ◌++◌, ◌<◌, ◌∷◌, ◌≡◌, AllByRecursion, AllZip, Bool, List}
use Rattle.query_core.proofs.Words.{append-nil, append_assoc, arith, get_or, length, suc, take, zero}
use Rattle.std.proofs.Common.{set}
use Rattle.warc_core.specs.{Kind.Kind, declared.next.TheConstants.HEAD_LIMIT}
use Rattle.devices.specs.Device.{next_count}
use Rattle.capture_core.specs.CaptureAnswer.{usual_limits}
use Rattle.index_core.specs.{Laws.WholeIsNotRefused, declared.fault.IndexFault.IndexFault}
use Rattle.scan_core.specs.{Failures.CountsAt, Scanning.IsScanFault, declared.fault.ScanFault.TheVariants.Archive}
use Rattle.archives.specs.State.{ToldArchive}
use Rattle.scan_core.specs.Archives.{AreNewNames, IsFaultOfArchive, IsNewName, nothing_told}
use Rattle.scan_core.specs.Laws.{IsToldWhole, IsWantOfRoom, MayRise, OnlyMemoryIsWanting}
use Rattle.index_core.specs.declared.fault.IndexFault.TheVariants as index

-- ---- what is known of each archive

new_at : (earlier names : List (List ℕ)) (i : ℕ) → AreNewNames earlier names → i < length names
    → IsNewName (earlier ++ take i names) (get_or names i [])
new_at earlier (n ∷ names) (suc i) h l =
    grind (arith, append_assoc, new_at (earlier ++ n ∷ []) names i h.1 (omega arith))
new_at earlier names i h l = grind (arith, append-nil)

-- the archive with this number is told, and accepted whole
whole_at : (types : Kind → Bool) (names : List (List ℕ)) (inputs : List ToldArchive) (i : ℕ)
    → AllZip (IsToldWhole types) names inputs → i < length names
    → IsToldWhole types (get_or names i []) (get_or inputs i nothing_told)
whole_at types (n ∷ names) (input ∷ inputs) (suc i) whole l = whole_at types names inputs i whole.1 (omega arith)
whole_at types names inputs i whole l = grind arith

-- ---- no device failed

-- the count of an input stays, so it didn't fail
stayed : (i : ℕ) (counts : List ℕ) (n : ℕ) → AllByRecursion MayRise counts → i < length counts → counts ≡ set counts i n
    → n ≡ next_count (get_or counts i 0) → ⊥
stayed zero (n ∷ counts) m may l same e = grind arith
stayed (suc i) (n ∷ counts) m may l same e = stayed i counts m may.1 (omega arith) (cc) e
stayed i [] m may l same e = absurd (omega arith)

-- ---- an archive's fault

module _ (whole_is_not_refused : WholeIsNotRefused) (types : Kind → Bool) (names : List (List ℕ))
    (inputs : List ToldArchive) (i : ℕ) (counts : List ℕ) (new : AreNewNames [] names)
    (whole : AllZip (IsToldWhole types) names inputs) (inside : i < length names)
    (may : AllByRecursion MayRise counts) where
  archive_want : (fault : IndexFault)
      → IsFaultOfArchive types (take i names) (get_or names i []) (get_or inputs i nothing_told) fault
      → CountsAt i fault counts counts → IsWantOfRoom (Archive i fault)
  archive_want (index.Capture f) h k =
      let w = whole_at types names inputs i whole inside in
      let found = rw w.told at h.1 in
      let no = whole_is_not_refused types usual_limits HEAD_LIMIT (get_or inputs i nothing_told).packing
      (get_or names i []) w.archive found.0 f w.whole found.1 in grind (arith, stayed)
  archive_want fault h k = let fresh = new_at [] names i new inside in grind arith

pub only_memory : WholeIsNotRefused → OnlyMemoryIsWanting
unfolding IsScanFault
only_memory law types names inputs sizes text fault counts count s h may k may' k' = grind (arith, archive_want)
