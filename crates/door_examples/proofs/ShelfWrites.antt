-- What each task writes of the files of the examples.
use Rattle.std.proofs.Common.{◌≡◌, ℕ, List, Some}
use Rattle.command_line.specs.Commands.{Meaning}
use Rattle.index_core.specs.Laws.{OneIndexed, OneStands, PlainIsWhole}
use Rattle.outcomes.specs.declared.outcome.Outcome.{Outcome}
use Rattle.outcomes.specs.declared.outcome.Outcome.TheVariants as outcomes
use Rattle.query_core.specs.OneText.{PagesAreOne, RepliesAreOne}
use Rattle.scan_core.specs.Laws.{ScanIsOne}
use Rattle.tasks.specs.Performing.{Performs}
use Rattle.door_examples.specs.Archives.{a_archive}
use Rattle.door_examples.specs.Shelf.{WritesOfShelf, query_line}
use Rattle.door_examples.specs.Texts.{a_line}
use Rattle.door_examples.proofs.ShelfFiles.{files, on_shelf}
use Rattle.door_examples.proofs.ShelfQueries.{HasOneList, checks, merges, paginates, queries, scans, serves}
use Rattle.door_examples.proofs.ShelfReports.{HasOneReading, gets, indexes, lists, verifies}

-- the laws by which there is one text
pub record HasLaws : Type 0 where
  pub reading : HasOneReading
  pub records : PlainIsWhole
  pub stands : OneStands
  pub captures : OneIndexed
  pub members : HasOneList
  pub pages : PagesAreOne
  pub replies : RepliesAreOne
  pub scan : ScanIsOne

pub writes : (laws : HasLaws) (failed : Type 0) (archive_of index_of : List ℕ → List ℕ) (input before after : List ℕ)
    (unchanged : Type 0) (outcome : Outcome) (task : Meaning)
    → archive_of ≡ (λ name. a_archive) → index_of ≡ (λ name. a_line) → input ≡ query_line → outcome ≡ outcomes.Done
    → Performs (files failed archive_of index_of input) (Some before) (Some after) unchanged outcome task
    → WritesOfShelf task before after
writes laws failed archive_of index_of input before after unchanged outcome task archive index lines done performs =
    let on = λ (other : Meaning) (same : task ≡ other). on_shelf failed archive_of index_of input before after unchanged
    outcome task other archive index lines done same performs in
    record {
      list = λ same. lists failed before after unchanged laws.reading laws.records (on _ same);
      verify = λ same. verifies failed before after unchanged laws.reading laws.records (on _ same);
      index = λ same. indexes failed laws.captures before after unchanged (on _ same);
      merge = λ same. merges failed before after unchanged (on _ same);
      check = λ same. checks failed before after unchanged laws.members (on _ same);
      query = λ same. queries failed before after unchanged (on _ same);
      pages = λ same. paginates failed before after unchanged laws.pages (on _ same);
      serve = λ same. serves failed before after unchanged laws.replies (on _ same);
      get = λ same. gets failed before after unchanged laws.stands (on _ same);
      scan = λ same. scans failed before after unchanged laws.scan (on _ same);
    }
