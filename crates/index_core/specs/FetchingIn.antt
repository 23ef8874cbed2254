-- The record that a call fetches, by how the archive keeps its records.
use Rattle.std.specs.Prelude.{◌≡◌, ℕ, ◌-◌, ⊤, ◌⊎◌, true, false, List, length, drop, Option, None, Some}
use Rattle.std.specs.Prelude.{Result, Ok, Err, IfSome, option_map, Bool, []}
use Rattle.std.specs.Io.KnownBytes.{Appends}
use Rattle.devices.specs.Device.{AppendsPrefix}
use Rattle.gzip_members.specs.declared.fault.MemberFault.{MemberFault}
use Rattle.gzip_members.specs.declared.fault.MemberFault.TheVariants.{Cut, NoMember}
use Rattle.gzip_members.specs.Members.{member_in}
use Rattle.gzip_members.specs.Starts.{begins_member}
use Rattle.warc_core.specs.declared.next.TheConstants.{HEAD_LIMIT}
use Rattle.warc_core.specs.declared.fault.Cause.{Cause}
use Rattle.warc_core.specs.declared.fault.Cause.TheVariants as causes
use Rattle.warc_core.specs.HeadView.{HeadView}
use Rattle.capture_core.specs.declared.fault.CaptureFault.TheVariants.{Archive}
use Rattle.archives.specs.Packed.{member_cause, member_holds}
use Rattle.archives.specs.Packing.{Packing, Packed, Plain}
use Rattle.index_core.specs.declared.fault.IndexFault.{IndexFault}
use Rattle.index_core.specs.declared.fault.IndexFault.TheVariants as faults
use Rattle.index_core.specs.Fetching.{Fetches, IsMetBefore}
use Rattle.index_core.specs.FetchingAt.{FetchesAt}

-- a member is of the length that was asked for, if one was
abbrev pub IsOfLength : Option ℕ → ℕ → Type 0
IsOfLength None len = ⊤
IsOfLength (Some asked) len = len ≡ asked

-- the limit of a head, and the bytes from the offset on
module _ (limit : ℕ) (bytes : List ℕ) where
  -- a member begins them that holds one record, whose text this is, and these bytes are behind it
  pub record HoldsRecord (text behind : List ℕ) : Type 0 where
    pub begins : begins_member bytes ≡ Ok true
    pub head : HeadView
    pub holds : member_holds limit bytes ≡ Ok (Some (head, text), behind)

  -- no member begins them, or one that holds nothing, or one of another length
  abbrev pub HoldsNone : Option ℕ → Type 0
  HoldsNone asked = (begins_member bytes ≡ Ok false) ⊎ ((begins_member bytes ≡ Err NoMember)
      ⊎ (((behind : List ℕ) × (begins_member bytes ≡ Ok true) × (member_holds limit bytes ≡ Ok (None, behind)))
      ⊎ ((text : List ℕ) × (behind : List ℕ) × HoldsRecord text behind
      × (IsOfLength asked (length bytes - length behind) → ⊥))))

  -- why none of them is read as a record
  abbrev pub IsMemberFault : Cause → Type 0
  IsMemberFault cause = (cause ≡ causes.Memory) ⊎ ((cause ≡ causes.Read) ⊎ ((begins_member bytes ≡ Ok true
      × (member_holds limit bytes ≡ Err cause)) ⊎ ((begins_member bytes ≡ Err Cut) × (cause ≡ causes.CutMember))))

  -- at most the text of their member is written, where that has one
  abbrev pub WritesOfMember : Option (List ℕ) → Option (List ℕ) → Type 0
  WritesOfMember before after = (text behind : List ℕ) → member_in bytes ≡ Ok (text, behind)
      → AppendsPrefix before after text

-- What a call has written that fetches the record of the member at an offset, of a length or of any, and what it says
-- of the bytes from there on where they are known. What precedes the offset isn't judged.
abbrev pub FetchesMember : ℕ → Option ℕ → ℕ → Option (List ℕ) → Result ℕ IndexFault → Option (List ℕ)
    → Option (List ℕ) → Type 0
FetchesMember limit asked offset known (Ok n) before after =
    (text : List ℕ) × (n ≡ length text) × Appends before after text
    × IfSome known (λ bytes. (behind : List ℕ) × HoldsRecord limit bytes text behind
    × IsOfLength asked (length bytes - length behind))
FetchesMember limit asked offset known (Err faults.NoRecord) before after = IfSome known
    (λ bytes. HoldsNone limit bytes asked × WritesOfMember limit bytes before after)
FetchesMember limit asked offset known (Err (faults.Capture (Archive f))) before after =
    (f.offset ≡ offset) × IfSome known (λ bytes. IsMemberFault limit bytes f.cause
    × WritesOfMember limit bytes before after)
FetchesMember limit asked offset known (Err faults.Write) before after = IfSome known
    (λ bytes. WritesOfMember limit bytes before after)
FetchesMember limit asked offset known (Err other) before after = ⊥

-- why a record can't be read, unless the output failed
abbrev pub cause_in : IndexFault → Option Cause
cause_in (faults.Capture (Archive f)) = Some f.cause
cause_in fault = None

-- why no record is fetched where no member was begun
abbrev pub not_begun : ℕ → MemberFault → IndexFault
not_begun offset NoMember = faults.NoRecord
not_begun offset fault = faults.Capture (Archive (record { offset = offset; cause = member_cause fault }))

-- what precedes an offset was passed over, or the file ends by it
abbrev pub PassesTo : ℕ → Bool → Option (List ℕ) → List ℕ → Type 0
PassesTo offset true ahead archive = ahead ≡ Some (drop offset archive)
PassesTo offset false ahead archive = drop offset archive ≡ []

-- the input failed at its first bytes, so that it isn't known how the archive keeps its records
abbrev pub not_looked : IndexFault
not_looked = faults.Capture (Archive (record { offset = 0; cause = causes.Read }))

-- the same of an archive of either form: of a plain one the record at the offset, or the one of a length, whatever
-- precedes it
abbrev pub FetchesIn : Packing → Option ℕ → ℕ → Option (List ℕ) → Result ℕ IndexFault → Option (List ℕ)
    → Option (List ℕ) → Type 0
FetchesIn Plain None offset left answer before after = Fetches HEAD_LIMIT offset left answer before after
FetchesIn Plain (Some len) offset left answer before after = FetchesAt HEAD_LIMIT offset len left answer before after
FetchesIn Packed asked offset left answer before after =
    FetchesMember HEAD_LIMIT asked offset (option_map (drop offset) left) answer before after
    ⊎ ((answer ≡ Err not_looked) × (after ≡ before))

-- nothing was written before this fault: in a plain archive it was met before the offset, or no record begins there. Of
-- a member of another length a part may have been written.
abbrev pub IsUnwrittenBy : Packing → Option ℕ → ℕ → IndexFault → Type 0
IsUnwrittenBy Plain asked offset fault = IsMetBefore offset fault
IsUnwrittenBy Packed None offset fault = fault ≡ faults.NoRecord
IsUnwrittenBy Packed (Some len) offset fault = ⊥
