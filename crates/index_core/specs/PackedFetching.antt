-- Laws of the records to which the captures of a compressed archive lead.
use Rattle.std.specs.Prelude.{◌≡◌, ℕ, ◌+◌, Bool, List, length, drop, Option, Some, Result}
use Rattle.cdxj_places.specs.Rising.{IsIn}
use Rattle.warc_core.specs.declared.next.TheConstants.{HEAD_LIMIT}
use Rattle.warc_core.specs.Kind.{Kind}
use Rattle.cdxj_core.specs.Entries.{EntryValue}
use Rattle.capture_core.specs.CaptureAnswer.{Limits}
use Rattle.archives.specs.Captures.{IsCaptureFrom}
use Rattle.archives.specs.Packed.{packed, packed_record}
use Rattle.archives.specs.Packing.{Packed}
use Rattle.index_core.specs.declared.fault.IndexFault.{IndexFault}
use Rattle.index_core.specs.FetchingIn.{FetchesIn, HoldsRecord, IsOfLength}
use Rattle.index_core.specs.FetchingLaws.{WroteRecord}
use Rattle.index_core.specs.Laws.{IsIndexed}

-- A member begins at the capture's offset, and is as long as the capture says. It holds a record, whose text this is. The
-- capture is that record's.
pub record StandsInMember (types : Kind → Bool) (limits : Limits) (limit : ℕ) (name archive : List ℕ) (e : EntryValue)
    (text : List ℕ) : Type 0 where
  pub behind : List ℕ
  pub holds : HoldsRecord limit (drop e.offset archive) text behind
  pub size : length (drop e.offset archive) ≡ e.length + length behind
  pub capture : IsCaptureFrom types limits (packed limit) name
      (packed_record e.offset (drop e.offset archive) holds.head text behind) (Some e)

-- each capture of a compressed archive stands in a member, and both forms of `get` write that record's text
abbrev pub PackedCapturesAreFetched : Type 0
PackedCapturesAreFetched = (types : Kind → Bool) (limits : Limits) (name archive : List ℕ)
    (captures : List EntryValue) (e : EntryValue)
    → IsIndexed types limits (packed HEAD_LIMIT) name archive captures → IsIn e captures
    → (text : List ℕ) × StandsInMember types limits HEAD_LIMIT name archive e text
    × ((asked : Option ℕ) (result : Result ℕ IndexFault) (before after : Option (List ℕ))
    → IsOfLength asked e.length → FetchesIn Packed asked e.offset (Some archive) result before after
    → WroteRecord text result before after)

-- the same member stands there under any limit of heads that accepts the archive
abbrev pub PackedCapturesStand : Type 0
PackedCapturesStand = (types : Kind → Bool) (limits : Limits) (limit : ℕ) (name archive : List ℕ)
    (captures : List EntryValue) (e : EntryValue)
    → IsIndexed types limits (packed limit) name archive captures → IsIn e captures
    → (text : List ℕ) × StandsInMember types limits limit name archive e text
