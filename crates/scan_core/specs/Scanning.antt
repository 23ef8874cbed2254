-- What a scan of archives owes.
use Rattle.std.specs.Prelude.{◌≡◌, ℕ, ◌<◌, ◌≤◌, ⊤, Bool, List, length, drop, suc, true, false, Option, Result, Ok, Err}
use Rattle.std.specs.Prelude.{IfErr, MatchResult}
use Rattle.cdxj_core.specs.Members.{Member}
use Rattle.warc_core.specs.Kind.{Kind}
use Rattle.cdxj_core.specs.Entries.{EntryValue}
use Rattle.index_core.specs.declared.fault.IndexFault.TheVariants as index
use Rattle.index_core.specs.Indexing.{HaveOwnPlaces}
use Rattle.query_text.specs.declared.fault.QueryFault.TheVariants as refusal
use Rattle.query_text.specs.declared.query.TheConstants.{QUERY_LIMIT}
use Rattle.query_text.specs.Queries.{QueryValue, query_of}
use Rattle.query_core.specs.declared.fault.AnswerFault.{AnswerFault}
use Rattle.query_core.specs.declared.fault.AnswerFault.TheVariants as answer
use Rattle.query_core.specs.declared.merging.TheConstants.{SOURCES_LIMIT}
use Rattle.query_core.specs.Paging.{are_sizes, WritesPages, WrotePages, WrotePagesInPart}
use Rattle.scan_core.specs.declared.fault.ScanFault.{ScanFault}
use Rattle.scan_core.specs.declared.fault.ScanFault.TheVariants.{Query, Archive, Answer}
use Rattle.scan_core.specs.Archives.{AreIndexed, IsFirstFault}
use Rattle.archives.specs.State.{ToldArchive}
use Rattle.scan_core.specs.Captures.{all_captures, captured_lines}

-- the sizes are given and positive, the text means this query, and the archives aren't too many
pub record IsAsked (ns text : List ℕ) (count : ℕ) (query : QueryValue) : Type 0 where
  pub sizes : are_sizes ns ≡ true
  pub meaning : query_of QUERY_LIMIT text ≡ Ok query
  pub few : count ≤ SOURCES_LIMIT

-- The types of records that are indexed; the archives, by their names and by what their inputs hold; the sizes of
-- pages, and the query's text
module _ (types : Kind → Bool) (names : List (List ℕ)) (inputs : List ToldArchive) (sizes text : List ℕ) where
  -- The pages of the archives' captures were written, or after a fault a front of them: joined, they are exactly those
  -- that the query selects, each once, in the order of places.
  pub record Scanned (result : Result ℕ ScanFault) (old new : Option (List ℕ)) : Type 0 where
    pub query : QueryValue
    pub asked : IsAsked sizes text (length names) query
    pub captures : List (List EntryValue)
    pub indexed : AreIndexed types names inputs captures
    pub once : HaveOwnPlaces (all_captures captures)
    pub wrote : MatchResult result (WrotePages query (captured_lines captures) sizes old new)
        (λ _. WrotePagesInPart query (captured_lines captures) sizes old new)

  -- Why nothing or no more was written. What comes before the fault in this order isn't at fault.
  unfoldable pub IsScanFault : ScanFault → Type 0
  IsScanFault (Answer answer.BadSizes) = are_sizes sizes ≡ false
  IsScanFault (Query refusal.Memory) = are_sizes sizes ≡ true
  IsScanFault (Query fault) = (are_sizes sizes ≡ true) × (query_of QUERY_LIMIT text ≡ Err fault)
  IsScanFault (Answer answer.TooManySources) =
      (are_sizes sizes ≡ true) × (query : QueryValue) × (query_of QUERY_LIMIT text ≡ Ok query)
      × (SOURCES_LIMIT < length names)
  IsScanFault (Archive i fault) = (query : QueryValue) × IsAsked sizes text (length names) query
      × IsFirstFault types names inputs i fault
  IsScanFault (Answer answer.Memory) = ⊤
  IsScanFault (Answer answer.Write) = ⊤
  IsScanFault (Answer fault) = ⊥

-- the archive that is named is the first that isn't indexed
abbrev pub IsArchiveFault : (Kind → Bool) → List (List ℕ) → List ToldArchive → ScanFault → Type 0
IsArchiveFault types names inputs (Archive i fault) = IsFirstFault types names inputs i fault
IsArchiveFault types names inputs other = ⊥

-- pages over indexes in memory end for want of memory, or where the output failed
abbrev pub IsPagesFault : AnswerFault → Type 0
IsPagesFault answer.Memory = ⊤
IsPagesFault answer.Write = ⊤
IsPagesFault other = ⊥

-- the pages of lines of indexes in memory were written, or after such a fault a front of them
pub record WritesKnownPages (q : QueryValue) (lines : List Member) (sizes : List ℕ) (result : Result ℕ AnswerFault)
    (old new : Option (List ℕ)) : Type 0 where
  pub wrote : WritesPages q lines sizes result old new
  pub fault : IfErr result IsPagesFault

-- the fault was met before anything was written
abbrev pub IsBeforeWriting : ScanFault → Type 0
IsBeforeWriting (Query fault) = ⊤
IsBeforeWriting (Archive i fault) = ⊤
IsBeforeWriting (Answer answer.BadSizes) = ⊤
IsBeforeWriting (Answer answer.TooManySources) = ⊤
IsBeforeWriting (Answer fault) = ⊥

-- the archives that a fault leaves unread: all, those from the one at fault on, or those after it
unfoldable pub LeavesUnread : {X : Type 0} → List X → List X → ScanFault → Type 0
LeavesUnread old new (Query fault) = new ≡ old
LeavesUnread old new (Answer answer.BadSizes) = new ≡ old
LeavesUnread old new (Answer answer.TooManySources) = new ≡ old
LeavesUnread old new (Archive i index.BadName) = drop i new ≡ drop i old
LeavesUnread old new (Archive i index.DuplicateName) = drop i new ≡ drop i old
LeavesUnread old new (Archive i fault) = drop (suc i) new ≡ drop (suc i) old
LeavesUnread old new (Answer fault) = ⊤
