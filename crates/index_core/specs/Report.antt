-- A report on an archive: a line for each of its records, and one for its fault.
use Rattle.std.specs.Prelude.{◌≡◌, ℕ, ◌+◌, ⊤, ◌⊎◌, List, [], ◌++◌, flat_map, Option, None, Some, Result, Ok, Err}
use Rattle.std.specs.Prelude.{IfSome, codes, decimal, map}
use Rattle.std.specs.Io.KnownBytes.{Appends}
use Rattle.warc_core.specs.declared.fault.Cause.{Cause}
use Rattle.warc_core.specs.declared.fault.Cause.TheVariants as causes
use Rattle.warc_core.specs.declared.fault.Fault.{Fault}
use Rattle.warc_core.specs.declared.phase.Phase.TheVariants.{Between}
use Rattle.warc_core.specs.Cause.{cause_name}
use Rattle.devices.specs.Device.{AppendsPrefix, next_count}
use Rattle.warc_core.specs.HeadView.{HeadView, record_length}
use Rattle.warc_core.specs.ReaderView.{ReaderView, StandsAt}
use Rattle.capture_core.specs.declared.fault.CaptureFault.TheVariants.{Archive}
use Rattle.index_core.specs.declared.fault.IndexFault.{IndexFault}
use Rattle.archives.specs.Contents.{ArchiveContents}
use Rattle.archives.specs.Form.{Form, Placed, Stored, Follow, IsPossibleFault, WalksOver}
use Rattle.index_core.specs.declared.fault.IndexFault.TheVariants as faults

-- `fault OFFSET CAUSE`
unfoldable pub fault_line : Fault → List ℕ
fault_line f = codes "fault " ++ decimal f.offset ++ codes " " ++ cause_name f.cause ++ codes "\n"

-- the cause isn't the archive's
abbrev pub IsNoDamage : Cause → Type 0
IsNoDamage cause = (cause ≡ causes.Memory) ⊎ (cause ≡ causes.Read)

-- What a report says of each record: the record's place and head, its line, the answer for all, and what is said of a
-- stored record.
pub record Wording (A X : Type 0) : Type 0 where
  pub placed : X → Placed
  pub line : X → List ℕ
  pub tally : List X → A
  pub said : Stored → X

-- the lines of what is said of these records
abbrev pub lines_of : {A X : Type 0} → Wording A X → List Stored → List ℕ
lines_of words records = flat_map words.line (map words.said records)

-- the line of a fault, if there is one
abbrev pub fault_text : Option Fault → List ℕ
fault_text None = []
fault_text (Some f) = fault_line f

-- the answer, unless a fault ends the report
abbrev pub ends_with : {A : Type 0} → A → Option Fault → Result A IndexFault
ends_with answer None = Ok answer
ends_with answer (Some f) = Err (faults.Capture (Archive f))

-- what a report answers and writes on an archive that is read as this
abbrev pub report_answer : {A X : Type 0} → Wording A X → ArchiveContents → Result A IndexFault
report_answer words c = ends_with (words.tally (map words.said c.records)) c.fault

abbrev pub report_text : {A X : Type 0} → Wording A X → ArchiveContents → List ℕ
report_text words c = lines_of words c.records ++ fault_text c.fault

module _ {A X : Type 0} (form : Form) (words : Wording A X) where
  -- this is said of the first records of the archive; what comes next is found from `end` on, where these bytes are left
  abbrev pub SaysOf : List ℕ → List X → ℕ → List ℕ → Type 0
  SaysOf archive items end rest =
      (records : List Stored) × WalksOver form 0 archive records end rest × (items ≡ map words.said records)

  -- This is said of records that follow one another up to `end`. If the archive is known, they are its first, and of the
  -- bytes behind them this holds.
  pub record ReadTo (left : Option (List ℕ)) (items : List X) (end : ℕ) (Behind : List ℕ → Type 0) : Type 0 where
    pub follow : Follow form words.placed 0 items end
    pub known : IfSome left (λ archive. (rest : List ℕ) × SaysOf archive items end rest × Behind rest)

  -- they are followed by this fault: for want of memory, by the input's failure, or because the archive is damaged
  abbrev pub ReadToFault : Option (List ℕ) → List X → Fault → Type 0
  ReadToFault left items f = (end : ℕ) × form.Follows end f.offset
      × ReadTo left items end (λ rest. IsPossibleFault form end rest f)

  -- What a call wrote that reports on an archive, by its answer: the lines of all records; the lines of those before a
  -- fault, and the fault's line; or a prefix of that.
  abbrev pub Reports : Option (List ℕ) → Result A IndexFault → Option (List ℕ) → Option (List ℕ) → Type 0
  Reports left (Ok answer) before after =
      (items : List X) × (end : ℕ) × ReadTo left items end (λ rest. form.next end rest ≡ Ok (None, []))
      × (answer ≡ words.tally items) × Appends before after (flat_map words.line items)
  Reports left (Err (faults.Capture (Archive f))) before after =
      (items : List X) × ReadToFault left items f × Appends before after (flat_map words.line items ++ fault_line f)
  Reports left (Err faults.Write) before after =
      (items : List X) × (f : Fault) × ReadToFault left items f
      × AppendsPrefix before after (flat_map words.line items ++ fault_line f)
  Reports left (Err other) before after = ⊥

-- a report is refused for the archive's fault, or where the output failed
abbrev pub IsReportFault : IndexFault → Type 0
IsReportFault (faults.Capture (Archive f)) = ⊤
IsReportFault faults.Write = ⊤
IsReportFault other = ⊥

-- the fault's line was written, or a prefix of it before the output failed
abbrev pub WritesFault : Fault → IndexFault → Option (List ℕ) → Option (List ℕ) → ℕ → ℕ → Type 0
WritesFault fault (faults.Capture (Archive f)) before after count count' = (f ≡ fault)
    × Appends before after (fault_line fault) × (count' ≡ count)
WritesFault fault faults.Write before after count count' = AppendsPrefix before after (fault_line fault)
    × (count' ≡ next_count count)
WritesFault fault other before after count count' = ⊥

-- where a reader stands after a whole record, or at the end
abbrev pub Passes : ReaderView → ℕ → Option HeadView → Type 0
Passes new offset None = StandsAt new offset Between
Passes new offset (Some h) = StandsAt new (offset + record_length h) Between
