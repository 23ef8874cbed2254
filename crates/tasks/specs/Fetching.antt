-- The record that a command fetches.
use Rattle.std.specs.Prelude.{◌≡◌, ℕ, List, Option, Result, IfErr}
use Rattle.index_core.specs.declared.fault.IndexFault.{IndexFault}
use Rattle.archives.specs.State.{ToldArchive}
use Rattle.warc_core.specs.declared.next.TheConstants.{HEAD_LIMIT}
use Rattle.index_core.specs.FetchingIn.{FetchesIn, IsUnwrittenBy}
use Rattle.index_core.specs.OneRecord.{WritesOneRecord}
use Rattle.outcomes.specs.declared.outcome.Outcome.{Outcome}
use Rattle.outcomes.specs.Outcome.{outcome_of}

-- what was written of the record at an offset of the archive, by the outcome: nothing for a fault that was met before
pub record WritesRecord (len : Option ℕ) (offset : ℕ) (archive : ToldArchive) (before after : Option (List ℕ))
    (unchanged : Type 0) (outcome : Outcome) : Type 0 where
  pub answer : Result ℕ IndexFault
  pub outcome_is : outcome ≡ outcome_of answer
  pub fetches : FetchesIn archive.packing len offset archive.bytes answer before after
  pub one : WritesOneRecord HEAD_LIMIT answer before after
  pub unwritten : IfErr answer (λ fault. IsUnwrittenBy archive.packing len offset fault → unchanged)
