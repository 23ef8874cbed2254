-- Files in memory, and what the tasks write of them.
use Rattle.std.specs.Prelude.{◌≡◌, ℕ, List, [], ◌∷◌, ◌++◌, codes, None, Some}
use Rattle.index_core.specs.State.{ToldArchive}
use Rattle.capture_core.specs.Types.{usual_types}
use Rattle.command_line.specs.Commands.{Meaning, ToList, ToVerify, ToIndex, ToMerge, ToCheck, ToQuery, ToPages, ToServe}
use Rattle.command_line.specs.Commands.{ToGet, ToScan}
use Rattle.tasks.specs.Performing.{Openings}
use Rattle.door_examples.specs.Archives.{a_archive}
use Rattle.door_examples.specs.Scans.{plain_of}
use Rattle.door_examples.specs.Texts.{a_line, orgs_text}

-- the names of the archive and of the index
abbrev pub archive_name : List ℕ
archive_name = codes "a.warc"

abbrev pub index_name : List ℕ
index_name = codes "a.cdxj"

-- a query, as standard input
abbrev pub query_line : List ℕ
query_line = codes "key=org,a)/&fl=urlkey\n"

-- the archive, as it is told
abbrev pub told_archive : ToldArchive
told_archive = plain_of a_archive

-- One archive has all names of archives, and one index all names of indexes. This is so where one isn't opened.
abbrev pub shelf : Type 0 → Openings
shelf failed = record {
  TellsArchive = λ name told. told ≡ told_archive;
  index_of = λ name. Some a_line;
  ArchiveFailed = λ name. failed;
  IndexFailed = λ name. failed;
  TellsInput = λ told. told ≡ Some query_line;
}

-- what a task has written that ended as done
pub record WritesOfShelf (task : Meaning) (before after : List ℕ) : Type 0 where
  pub list : task ≡ ToList (archive_name ∷ []) → after ≡ before ++ codes "0 201 resource\n"
  pub verify : task ≡ ToVerify (archive_name ∷ []) → after ≡ before ++ codes "0 absent\n"
  pub index : task ≡ ToIndex usual_types None (archive_name ∷ []) → after ≡ before ++ a_line
  pub merge : task ≡ ToMerge (index_name ∷ index_name ∷ []) → after ≡ before ++ a_line
  pub check : task ≡ ToCheck (index_name ∷ []) → after ≡ before ++ codes "a.cdxj 1\n"
  pub query : task ≡ ToQuery orgs_text (index_name ∷ []) → after ≡ before ++ codes "org,a)/ 0\n"
  pub pages : task ≡ ToPages (1 ∷ []) orgs_text (index_name ∷ []) → after ≡ before ++ codes "org,a)/ 0\n"
  pub serve : task ≡ ToServe (index_name ∷ []) → after ≡ before ++ codes "org,a)/\n.\n"
  pub get : task ≡ ToGet None 0 archive_name → after ≡ before ++ a_archive
  pub scan : task ≡ ToScan usual_types None (1 ∷ []) orgs_text (archive_name ∷ [])
      → after ≡ before ++ codes "org,a)/ 0\n"

-- what the program has written that ended with the status 0, by its arguments
pub record RunsOfShelf (words : List (List ℕ)) (before after : List ℕ) : Type 0 where
  pub list : words ≡ codes "list" ∷ archive_name ∷ [] → after ≡ before ++ codes "0 201 resource\n"
  pub verify : words ≡ codes "verify" ∷ archive_name ∷ [] → after ≡ before ++ codes "0 absent\n"
  pub query : words ≡ codes "query" ∷ orgs_text ∷ index_name ∷ [] → after ≡ before ++ codes "org,a)/ 0\n"
  pub unknown : words ≡ codes "lst" ∷ archive_name ∷ [] → ⊥
