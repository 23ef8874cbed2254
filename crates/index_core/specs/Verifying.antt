-- The verification of an archive: the digest of each block against the one that its record gives.
use Rattle.std.specs.Prelude.{ℕ, List, ◌++◌, length, Option, Result, codes, decimal}
use Rattle.std.specs.List.{sum_by}
use Rattle.warc_core.specs.declared.verdict.Verdict.{Verdict}
use Rattle.warc_core.specs.declared.verdict.Verdict.TheVariants as verdicts
use Rattle.capture_core.specs.BlockDigest.{verdict_name}
use Rattle.index_core.specs.declared.fault.IndexFault.{IndexFault}
use Rattle.index_core.specs.declared.verified.Verified.{Verified}
use Rattle.archives.specs.Form.{Form, placed_of}
use Rattle.archives.specs.Walking.{Judged, verdict_in}
use Rattle.index_core.specs.Report.{Reports, Wording}

-- `OFFSET VERDICT`
unfoldable pub verdict_line : ℕ → Verdict → List ℕ
verdict_line offset verdict = decimal offset ++ codes " " ++ verdict_name verdict ++ codes "\n"

-- one for a block with another digest
abbrev pub differing_by : Verdict → ℕ
differing_by verdicts.Differs = 1
differing_by verdict = 0

-- what a verification says of an archive
abbrev pub verification : Wording Verified Judged
verification = record {
  placed = λ j. j.0;
  line = λ j. verdict_line j.0.place.offset j.1;
  tally = λ judged. record { records = length judged; differing = sum_by (λ j. differing_by j.1) judged };
  said = λ r. (placed_of r, verdict_in r);
}

-- what a verification wrote, by its answer
abbrev pub Verifies : Form → Option (List ℕ) → Result Verified IndexFault → Option (List ℕ) → Option (List ℕ) → Type 0
Verifies form = Reports form verification
