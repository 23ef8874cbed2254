-- What is known of a compressed archive while the members are read.
use Rattle.std.specs.Prelude.{◌≡◌, ◌⊎◌, ◌||◌, ℕ, ◌+◌, ◌-◌, ◌^◌, ◌<◌, ◌≤◌, ⊤, nat_lt}
use Rattle.std.specs.Prelude.{Bool, true, false, List, [], length}
use Rattle.std.specs.Prelude.{Option, None, Some, option_map, Result, Ok, Err, if◌then◌else◌}
use Rattle.deflate_bits.specs.declared.fault.DeflateFault.{DeflateFault}
use Rattle.gzip_members.specs.declared.members.Members.{Members}
use Rattle.gzip_members.specs.Faults.{member_fault}
use Rattle.gzip_members.specs.Left.{behind_of, left_of, text_of}
use Rattle.gzip_members.specs.Members.{member_in}
use Rattle.gzip_members.specs.Reading.{Taken, total_of}
use Rattle.gzip_members.specs.Starts.{begins_member}
use Rattle.warc_core.specs.declared.fault.Cause.{Cause}
use Rattle.warc_core.specs.declared.fault.Cause.TheVariants as causes
use Rattle.warc_core.specs.declared.fault.Fault.{Fault}
use Rattle.warc_core.specs.declared.next.TheConstants.{HEAD_LIMIT}
use Rattle.warc_core.specs.Answers.{CountsRead}
use Rattle.warc_core.specs.HeadView.{HeadView, RecordBeginsAt}
use Rattle.warc_core.specs.Next.{next_at}
use Rattle.warc_core.specs.Reading.{IsPossibleCause, Reads}
use Rattle.warc_core.specs.ReaderView.{IsUnread, ReaderState, ReaderView}
use Rattle.archives.specs.declared.member_opening.Opening.{Opening}
use Rattle.archives.specs.declared.member_opening.Opening.TheVariants.{Empty, End, Record}
use Rattle.archives.specs.declared.member_opening.OpenRecord.{OpenRecord}
use Rattle.archives.specs.Form.{Comes, ComesRecord, IsPossibleFault, Placed, Stored}
use Rattle.archives.specs.Packed.{member_cause, packed}

-- what is left of a member: text and the bytes behind it, or its fault
abbrev pub Left : Type 0
Left = Result (List ℕ × List ℕ) DeflateFault

-- known bytes of a file behind those that were passed; nothing is said of a file of 2^63 bytes or
-- more
abbrev pub within_file : ℕ → Option (List ℕ) → Option (List ℕ)
within_file passed None = None
within_file passed (Some bytes) = if nat_lt (2 ^ 63 - 1) (passed + length bytes) then None else Some bytes

-- the bytes of the file that were not taken
abbrev pub file_ahead : Taken → Option (List ℕ)
file_ahead now = within_file now.passed now.ahead

-- a reader of records, and the text of the member that it reads
abbrev pub text_state : {I : Type 0} {g : _} → ReaderView → Members I g → ReaderState
text_state {I} {g} reader m = record {
  reader = reader;
  remaining = text_of (left_of m);
  failures = g.failures m.source.input;
}

-- ---- a member's text was read further

-- of a member, what stands behind it is known, and how many bytes were taken at least, and the
-- file's length
pub record IsKnown (behind : Option (Result (List ℕ) DeflateFault)) (from : ℕ) (total : Option ℕ) (left : Option Left)
    (now : Taken) : Type 0 where
  pub stays : (r : Result (List ℕ) DeflateFault) → behind ≡ Some r → option_map behind_of left ≡ Some r
  pub onward : from ≤ now.passed
  pub counted : (n : ℕ) → total ≡ Some n → total_of now ≡ Some n

-- all that was known of it is known
abbrev pub ReadsOn : Option Left → Taken → Option Left → Taken → Type 0
ReadsOn left old left' new = IsKnown (option_map behind_of left) old.passed (total_of old) left' new

-- ---- a member was begun, or none

-- a member begins the bytes, and this is left of it; or none does, at the end; or why not
abbrev pub StartsMember : ℕ → List ℕ → Result Bool Fault → Option Left → Taken → Type 0
StartsMember start bytes (Ok false) left new = (bytes ≡ []) × (file_ahead new ≡ Some [])
StartsMember start bytes (Ok true) left new = (begins_member bytes ≡ Ok true) × (left ≡ Some (member_in bytes))
    × (total_of new ≡ Some (start + length bytes))
StartsMember start bytes (Err f) left new = IsPossibleFault (packed HEAD_LIMIT) start bytes f

-- ---- a member was read to its end

-- what is behind a member, once it was read to its end, or the fault of what it holds. Its own
-- comes first; then that of its text, where a record was found, or none; then that text follows the
-- record. Some of the text may be held.
abbrev pub closed_by : Result Bool Cause → Bool → Left → Result (List ℕ) Cause
closed_by found holds (Err fault) = Err (member_cause (member_fault fault))
closed_by (Err c) holds (Ok (text, behind)) = Err c
closed_by (Ok false) holds (Ok (text, behind)) = Ok behind
closed_by (Ok true) holds (Ok (text, behind)) =
    if holds || nat_lt 0 (length text) then Err causes.SeveralRecords else Ok behind

-- that was answered, and these bytes are ahead
abbrev pub ClosesTo : {A : Type 0} → Result (List ℕ) Cause → Result A Cause → Option (List ℕ) → Type 0
ClosesTo closed (Ok x) None = ⊥
ClosesTo closed (Ok x) (Some rest) = closed ≡ Ok rest
ClosesTo closed (Err c) after = IsPossibleCause c closed

-- whether text was left, at the end of a member of which this was left
abbrev pub EndsTo : Left → Result Bool Cause → Option (List ℕ) → Type 0
EndsTo (Ok (text, behind)) (Ok had) ahead = (had ≡ nat_lt 0 (length text)) × (ahead ≡ Some behind)
EndsTo (Ok (text, behind)) (Err c) ahead = (c ≡ causes.Memory) ⊎ (c ≡ causes.Read)
EndsTo (Err fault) (Ok had) ahead = ⊥
EndsTo (Err fault) (Err c) ahead =
    (c ≡ causes.Memory) ⊎ ((c ≡ causes.Read) ⊎ (c ≡ member_cause (member_fault fault)))

-- a failure of the input that ended the reading of the text was counted there
abbrev pub CountsClosing : {A : Type 0} → Result Bool Cause → Result A Cause → ℕ → ℕ → Type 0
CountsClosing (Ok b) r old new = CountsRead r old new
CountsClosing (Err causes.Read) r old new = (r ≡ Err causes.Read) × (new ≡ old)
CountsClosing (Err c) r old new = CountsRead r old new

-- ---- a record was begun in a member

-- A member begins with these bytes, and its text with this head. What is behind it is known, how
-- long the file is, and what of the text is ahead.
pub record HoldsHead (start : ℕ) (bytes : List ℕ) (h : HeadView) (left : Option Left) (new : Taken)
    (ahead : Option (List ℕ)) : Type 0 where
  pub begins : begins_member bytes ≡ Ok true
  pub near : start + length bytes ≤ 2 ^ 63 - 1
  pub behind : option_map behind_of left ≡ Some (behind_of (member_in bytes))
  pub counted : total_of new ≡ Some (start + length bytes)
  pub reads : Reads (next_at HEAD_LIMIT 0) (Ok (Some h)) (text_of (Some (member_in bytes))) ahead

-- what comes next where these bytes are ahead is what comes next at the offset, with the others
abbrev pub IsLater : ℕ → List ℕ → Taken → Type 0
IsLater offset bytes now = (later : List ℕ) × (file_ahead now ≡ Some later)
    × ((packed HEAD_LIMIT).next offset bytes ≡ (packed HEAD_LIMIT).next now.passed later)

-- what stands at the front of the member that begins these bytes; one without text was read to its
-- end
abbrev pub OpensMember : ℕ → List ℕ → Result Opening Fault → Option Left → Taken → Option (List ℕ) → Type 0
OpensMember start bytes (Ok (Record h)) left new ahead = HoldsHead start bytes h left new ahead
OpensMember start bytes (Ok Empty) left new ahead = IsLater start bytes new
OpensMember start bytes (Ok End) left new ahead = (bytes ≡ []) × (file_ahead new ≡ Some [])
OpensMember start bytes (Err f) left new ahead = IsPossibleFault (packed HEAD_LIMIT) start bytes f

-- the head is the reader's last, at the front of a text
pub record OpensHead (new : ReaderView) (h : HeadView) : Type 0 where
  pub unread : IsUnread new h
  pub begins : RecordBeginsAt 0 h

-- if there is a head, the reader has it
abbrev pub IfHead : Result Opening Fault → (HeadView → Type 0) → Type 0
IfHead (Ok (Record h)) P = P h
IfHead (Ok Empty) P = ⊤
IfHead (Ok End) P = ⊤
IfHead (Err f) P = ⊤

-- a member began
abbrev pub Begins : Result Opening Fault → Type 0
Begins (Ok (Record h)) = ⊤
Begins (Ok Empty) = ⊤
Begins (Ok End) = ⊥
Begins (Err f) = ⊥

-- where the first record stands from an offset on; members without text were passed over
abbrev pub OpensRecord : ℕ → List ℕ → Result (Option OpenRecord) Fault → Option Left → Taken
    → Option (List ℕ) → Type 0
OpensRecord offset bytes (Ok None) left new ahead =
    Comes (packed HEAD_LIMIT) offset (Ok None) (Some bytes) (file_ahead new)
OpensRecord offset bytes (Ok (Some r)) left new ahead = (later : List ℕ)
    × ((packed HEAD_LIMIT).next offset bytes ≡ (packed HEAD_LIMIT).next r.start later)
    × HoldsHead r.start later r.head left new ahead
OpensRecord offset bytes (Err f) left new ahead = IsPossibleFault (packed HEAD_LIMIT) offset bytes f

-- of a file that may not be known: a record from an offset on, some of whose member was taken
pub record StandsOpen (offset : ℕ) (r : OpenRecord) (passed : ℕ) (new : ReaderView) : Type 0 where
  pub follows : offset ≤ r.start
  pub further : r.start < passed
  pub opens : OpensHead new r.head

-- ---- a record was taken from a member

-- The record of the member that begins these bytes was read to its end, and this holds of what was
-- taken from it; or why it was not.
abbrev pub TakesMember : {X : Type 0} → (X → Placed) → (X → Stored → Type 0) → ℕ → List ℕ → Result X Fault
    → Option (List ℕ) → Type 0
TakesMember placed P start bytes (Ok x) after =
    ComesRecord (packed HEAD_LIMIT) start (placed x) (P x) (Some bytes) after
TakesMember placed P start bytes (Err f) after = IsPossibleFault (packed HEAD_LIMIT) start bytes f

-- the record of this head, whose member ends where so many bytes were taken
abbrev pub taken_record : OpenRecord → ℕ → Placed
taken_record r passed = record { head = r.head; place = record { offset = r.start; length = passed - r.start } }
