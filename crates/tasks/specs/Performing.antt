-- What the program does for each task.
use Rattle.std.specs.Prelude.{◌≡◌, ℕ, List, Option, None, map}
use Rattle.capture_core.specs.Types.{includes}
use Rattle.command_line.specs.Commands.{Meaning, ToList, ToVerify, ToIndex, ToMerge, ToCheck, ToQuery, ToPages, ToServe}
use Rattle.command_line.specs.Commands.{ToGet, ToScan}
use Rattle.outcomes.specs.declared.outcome.Outcome.{Outcome}
use Rattle.tasks.specs.declared.reports.ArchiveReport.TheVariants as reports
use Rattle.tasks.specs.Checks.{ChecksIndexes}
use Rattle.tasks.specs.Fetching.{WritesRecord}
use Rattle.tasks.specs.Indexing.{IndexesArchives}
use Rattle.tasks.specs.Merging.{MergesIndexes}
use Rattle.tasks.specs.Opening.{IsUnopened, AreUnopenedIndexes, OpensFirst, WithTold}
use Rattle.archives.specs.State.{ToldArchive}
use Rattle.tasks.specs.Queries.{AnswersLines, AnswersPages, AnswersQuery, ReadsFirst}
use Rattle.tasks.specs.Reports.{ReportsOn}
use Rattle.tasks.specs.Scanning.{ScansNamed}

-- What opens files tells: how the archive of a name may be, and the bytes of the index of a name, as far as they are known; that the
-- opening of one failed; and which bytes standard input may have.
pub record Openings : Type 1 where
  pub TellsArchive : List ℕ → ToldArchive → Type 0
  pub index_of : List ℕ → Option (List ℕ)
  pub ArchiveFailed : List ℕ → Type 0
  pub IndexFailed : List ℕ → Type 0
  pub TellsInput : Option (List ℕ) → Type 0

-- what the files of an opener tell
abbrev pub openings : {F : Type 0} → (F → List ℕ → ToldArchive → Type 0) → (F → List ℕ → Option (List ℕ))
    → (F → List ℕ → Type 0) → (F → List ℕ → Type 0) → (F → Option (List ℕ) → Type 0) → F → Openings
openings TellsArchive index_of ArchiveFailed IndexFailed TellsInput files = record {
  TellsArchive = TellsArchive files;
  index_of = index_of files;
  ArchiveFailed = ArchiveFailed files;
  IndexFailed = IndexFailed files;
  TellsInput = TellsInput files;
}

-- what was written before and after; that the output is unchanged; and the outcome
module _ (files : Openings) (before after : Option (List ℕ)) (unchanged : Type 0) (outcome : Outcome) where
  -- the indexes of these names were opened, and this was done with them
  abbrev pub OverIndexFiles : List (List ℕ) → Type 0 → Type 0
  OverIndexFiles names done = OpensFirst (AreUnopenedIndexes files.IndexFailed names outcome) unchanged done

  unfoldable pub Performs : Meaning → Type 0
  Performs (ToList names) = ReportsOn files.TellsArchive files.ArchiveFailed reports.Listing names before after outcome
  Performs (ToVerify names) =
      ReportsOn files.TellsArchive files.ArchiveFailed reports.Verdicts names before after outcome
  Performs (ToIndex types input names) =
      IndexesArchives files.TellsArchive files.ArchiveFailed types input names before after unchanged outcome
  Performs (ToMerge names) =
      OverIndexFiles names (MergesIndexes (map files.index_of names) before after unchanged outcome)
  Performs (ToCheck names) = ChecksIndexes files.index_of files.IndexFailed names before after outcome
  Performs (ToQuery text names) = ReadsFirst text outcome unchanged (λ query.
      OverIndexFiles names (AnswersQuery query (map files.index_of names) before after unchanged outcome))
  Performs (ToPages sizes text names) = ReadsFirst text outcome unchanged (λ query.
      OverIndexFiles names (AnswersPages query sizes (map files.index_of names) before after unchanged outcome))
  Performs (ToServe names) = (input : Option (List ℕ)) × files.TellsInput input
      × OverIndexFiles names (AnswersLines (map files.index_of names) input before after unchanged outcome)
  Performs (ToGet len offset name) =
      OpensFirst (IsUnopened (files.ArchiveFailed name) outcome) unchanged
      (WithTold (files.TellsArchive name) (λ told. WritesRecord len offset told before after unchanged outcome))
  Performs (ToScan types input sizes text names) = ScansNamed files.TellsArchive files.ArchiveFailed (includes types) input
      sizes text names before after unchanged outcome

-- the same archive, of which no bytes are told
abbrev pub without_bytes : ToldArchive → ToldArchive
without_bytes archive = record archive { bytes = None }

-- the same files, of which no bytes of an archive or of standard input are told
abbrev pub untold : Openings → Openings
untold files = record files {
  TellsArchive = λ name told. (archive : ToldArchive) × files.TellsArchive name archive × (told ≡ without_bytes archive);
  TellsInput = λ input. input ≡ None;
}
