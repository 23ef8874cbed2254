-- Compressed archives: each record is a member of gzip of its own (RFC 1952; ISO 28500:2017, Annex
-- D).
use Rattle.std.specs.Prelude.{◌≡◌, ℕ, zero, suc, ◌+◌, ◌-◌, ◌≤◌, Bool, true, false, List, [], ◌∷◌, length}
use Rattle.std.specs.Prelude.{Option, None, Some, Result, Ok, Err}
use Rattle.deflate_bits.specs.declared.fault.DeflateFault.{DeflateFault}
use Rattle.gzip_members.specs.declared.fault.MemberFault.{MemberFault}
use Rattle.gzip_members.specs.declared.fault.MemberFault.TheVariants as faults
use Rattle.gzip_members.specs.Faults.{member_fault}
use Rattle.gzip_members.specs.Members.{member_in}
use Rattle.gzip_members.specs.Starts.{begins_member}
use Rattle.warc_core.specs.declared.fault.Cause.{Cause}
use Rattle.warc_core.specs.declared.fault.Cause.TheVariants as causes
use Rattle.warc_core.specs.declared.fault.Fault.{Fault}
use Rattle.warc_core.specs.HeadView.{HeadView, block_at}
use Rattle.warc_core.specs.Walk.{record_at}
use Rattle.archives.specs.Form.{Form, Stored}

-- why a member can't be read, as a cause
abbrev pub member_cause : MemberFault → Cause
member_cause faults.Read = causes.Read
member_cause faults.NoMember = causes.NoMember
member_cause faults.Bad = causes.BadMember
member_cause faults.Cut = causes.CutMember
member_cause faults.TooFar = causes.TooFar
member_cause faults.TooLong = causes.Memory

-- the head of the record that a member holds, and the member's text; nothing where the text is
-- empty
abbrev pub Held : Type 0
Held = Option (HeadView × List ℕ)

-- what a text holds, by what was read from its front
abbrev pub held_by : List ℕ → Result (Option HeadView × List ℕ) Cause → Result Held Cause
held_by text (Ok (None, more)) = Ok None
held_by text (Ok (Some h, [])) = Ok (Some (h, text))
held_by text (Ok (Some h, b ∷ more)) = Err causes.SeveralRecords
held_by text (Err c) = Err c

-- what a member of this text holds, with the bytes behind it
abbrev pub held_with : List ℕ → Result Held Cause → Result (Held × List ℕ) Cause
held_with behind (Ok held) = Ok (held, behind)
held_with behind (Err c) = Err c

-- by what was read of the member: its own fault comes first
abbrev pub held_in : ℕ → Result (List ℕ × List ℕ) DeflateFault → Result (Held × List ℕ) Cause
held_in limit (Ok (text, behind)) = held_with behind (held_by text (record_at limit 0 text))
held_in limit (Err fault) = Err (member_cause (member_fault fault))

-- what the member that begins these bytes holds, and the bytes behind it
unfoldable pub member_holds : ℕ → List ℕ → Result (Held × List ℕ) Cause
member_holds limit bytes = held_in limit (member_in bytes)

-- the record that a member at an offset holds; the member begins the bytes, and these are behind it
abbrev pub packed_record : ℕ → List ℕ → HeadView → List ℕ → List ℕ → Stored
packed_record offset bytes h text behind = record {
  head = h;
  block = block_at h text;
  place = record { offset = offset; length = length bytes - length behind };
}

-- what comes next at an offset
abbrev pub Found : Type 0
Found = Result (Option Stored × List ℕ) Fault

-- by what the member there holds; one that holds nothing is passed over, and `more` says what comes
-- next behind it
abbrev pub packed_next : (ℕ → List ℕ → Found) → ℕ → List ℕ → Result (Held × List ℕ) Cause → Found
packed_next more offset bytes (Ok (None, behind)) = more (offset + (length bytes - length behind)) behind
packed_next more offset bytes (Ok (Some (h, text), behind)) =
    Ok (Some (packed_record offset bytes h text behind), behind)
packed_next more offset bytes (Err c) = Err (record { offset = offset; cause = c })

-- by whether a member begins there
abbrev pub packed_at : (ℕ → List ℕ → Found) → ℕ → ℕ → List ℕ → Result Bool MemberFault → Found
packed_at more limit offset bytes (Ok false) = Ok (None, [])
packed_at more limit offset bytes (Ok true) = packed_next more offset bytes (member_holds limit bytes)
packed_at more limit offset bytes (Err fault) = Err (record { offset = offset; cause = member_cause fault })

-- with at most n members; each takes a byte at least, so there are at most as many as bytes
unfoldable pub packed_within : ℕ → ℕ → ℕ → List ℕ → Found
packed_within limit zero offset bytes = Ok (None, [])
packed_within limit (suc n) offset bytes = packed_at (packed_within limit n) limit offset bytes (begins_member bytes)

-- An archive is compressed: each record is a member, with a head of at most this length.
unfoldable pub packed : ℕ → Form
packed limit = record {
  next = λ offset bytes. packed_within limit (suc (length bytes)) offset bytes;
  Follows = λ from to. from ≤ to;
  MayStand = λ h place. h.start ≡ 0;
}
