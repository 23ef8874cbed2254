-- The reports on archives that a command writes.
use Rattle.std.specs.Prelude.{◌≡◌, ◌⊎◌, ℕ, List, [], ◌++◌, length, Option, Result, codes, nat_lt, if◌then◌else◌}
use Rattle.std.specs.Io.KnownBytes.{Appends}
use Rattle.devices.specs.Device.{AppendsPrefix}
use Rattle.index_core.specs.declared.fault.IndexFault.{IndexFault}
use Rattle.index_core.specs.declared.fault.IndexFault.TheVariants as faults
use Rattle.index_core.specs.declared.verified.Verified.{Verified}
use Rattle.archives.specs.Packing.{form_of}
use Rattle.archives.specs.State.{ToldArchive}
use Rattle.index_core.specs.Listing.{Lists}
use Rattle.index_core.specs.Verifying.{Verifies}
use Rattle.outcomes.specs.declared.outcome.Outcome.{Outcome}
use Rattle.outcomes.specs.declared.outcome.Outcome.TheVariants as outcomes
use Rattle.tasks.specs.declared.reports.ArchiveReport.{ArchiveReport}
use Rattle.tasks.specs.declared.reports.ArchiveReport.TheVariants as reports
use Rattle.tasks.specs.Each.{GoesOver}
use Rattle.tasks.specs.Opening.{IsUnopened, OpensFirst, WithTold}
use Rattle.outcomes.specs.Outcome.{outcome_of, verification_outcome}

-- `NAME:`
abbrev pub heading : List ℕ → List ℕ
heading name = name ++ codes ":\n"

-- what stands above the report on one of so many archives
abbrev pub heading_among : ℕ → List ℕ → List ℕ
heading_among count name = if nat_lt 1 count then heading name else []

-- the report on an archive was written, by the outcome of its call
abbrev pub WritesReport : ArchiveReport → ToldArchive → Outcome → Option (List ℕ) → Option (List ℕ) → Type 0
WritesReport reports.Listing archive outcome before after =
    (answer : Result ℕ IndexFault) × (outcome ≡ outcome_of answer) × Lists (form_of archive.packing) archive.bytes answer before after
WritesReport reports.Verdicts archive outcome before after =
    (answer : Result Verified IndexFault) × (outcome ≡ verification_outcome answer)
    × Verifies (form_of archive.packing) archive.bytes answer before after

-- the report was written below a heading, or the output failed in the heading
abbrev pub WritesBelow : List ℕ → ArchiveReport → ToldArchive → Outcome → Option (List ℕ) → Option (List ℕ) → Type 0
WritesBelow heading report archive outcome before after =
    ((headed : Option (List ℕ)) × Appends before headed heading × WritesReport report archive outcome headed after)
    ⊎ ((outcome ≡ outcomes.Index faults.Write) × AppendsPrefix before after heading)

-- the report on the archive of this name, which is one of so many, was written, unless it couldn't be opened
abbrev pub ReportsOnOne : (List ℕ → ToldArchive → Type 0) → (List ℕ → Type 0) → ArchiveReport → ℕ → Option (List ℕ)
    → List ℕ → Outcome → Option (List ℕ) → Type 0
ReportsOnOne Tells Failed report count before name outcome after =
    OpensFirst (IsUnopened (Failed name) outcome) (after ≡ before)
    (WithTold (Tells name) (λ told. WritesBelow (heading_among count name) report told outcome before after))

-- the reports on the archives of these names were written, one after another
abbrev pub ReportsOn : (List ℕ → ToldArchive → Type 0) → (List ℕ → Type 0) → ArchiveReport → List (List ℕ)
    → Option (List ℕ) → Option (List ℕ) → Outcome → Type 0
ReportsOn Tells Failed report names before after outcome =
    GoesOver (ReportsOnOne Tells Failed report (length names)) outcomes.Done before names outcome after
