-- A scan of two archives, and the text that it writes.
use Rattle.std.specs.Prelude.{ℕ, List, [], ◌∷◌, ◌++◌, codes, Some, Ok}
use Rattle.index_core.specs.Packing.{Plain}
use Rattle.index_core.specs.State.{ToldArchive}
use Rattle.capture_core.specs.Types.{includes, usual_types}
use Rattle.scan_core.specs.Laws.{IsScannable, MayRise}
use Rattle.scan_core.specs.Scanning.{Scanned}
use Rattle.door_examples.specs.Archives.{a_archive, b_archive}
use Rattle.door_examples.specs.Texts.{orgs_text}

-- two pages of one capture each; the first ends with the key of the second
abbrev pub scanned_text : List ℕ
scanned_text = codes "org,a)/ 0\n\norg%2Ca%29%2F+20250102030405+a.warc+0\norg,b)/ 0\n"

-- a plain archive of these bytes
abbrev pub plain_of : List ℕ → ToldArchive
plain_of bytes = record { packing = Plain; bytes = Some bytes }

-- The scan of the two archives, the later one first, writes the two pages.
abbrev pub TwoAreScanned : Type 0
TwoAreScanned =
    Scanned (includes usual_types) (codes "b.warc" ∷ codes "a.warc" ∷ []) (plain_of b_archive ∷ plain_of a_archive ∷ [])
    (1 ∷ []) orgs_text (Ok 2) (Some []) (Some scanned_text)

-- The scan of the first archive alone writes one page, behind what there was.
abbrev pub OneIsScanned : List ℕ → Type 0
OneIsScanned before =
    Scanned (includes usual_types) (codes "a.warc" ∷ []) (plain_of a_archive ∷ []) (1 ∷ []) orgs_text (Ok 1) (Some before)
    (Some (before ++ codes "org,a)/ 0\n"))

-- Nothing is at fault that is asked of the scan, and a device that never failed may fail.
pub record TwoAreScannable : Type 0 where
  pub scannable : IsScannable (includes usual_types) (codes "b.warc" ∷ codes "a.warc" ∷ []) (plain_of b_archive ∷ plain_of a_archive ∷ []) (1 ∷ []) orgs_text
  pub rises : MayRise 0
