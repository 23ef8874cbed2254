-- The causes of faults: their names, as listings print them, and which calls answer them.
use Rattle.std.specs.Prelude.{◌≡◌, ◌≢◌, ◌⊎◌, ℕ, Bool, true, false, List, codes}
use Rattle.warc_core.specs.declared.fault.Cause.{Cause}
use Rattle.warc_core.specs.declared.fault.Cause.TheVariants as causes

abbrev pub cause_name : Cause → List ℕ
cause_name causes.Memory = codes "Memory"
cause_name causes.Read = codes "Read"
cause_name causes.Version = codes "Version"
cause_name causes.ShortHead = codes "ShortHead"
cause_name causes.HeadTooLong = codes "HeadTooLong"
cause_name causes.FieldLine = codes "FieldLine"
cause_name causes.Missing = codes "Missing"
cause_name causes.Repeated = codes "Repeated"
cause_name causes.BadLength = codes "BadLength"
cause_name causes.BadDate = codes "BadDate"
cause_name causes.ShortBlock = codes "ShortBlock"
cause_name causes.Closing = codes "Closing"
cause_name causes.TooFar = codes "TooFar"
cause_name causes.NoMember = codes "NoMember"
cause_name causes.BadMember = codes "BadMember"
cause_name causes.CutMember = codes "CutMember"
cause_name causes.SeveralRecords = codes "SeveralRecords"

-- the cause is a member's, in a compressed archive
abbrev pub is_of_member : Cause → Bool
is_of_member causes.NoMember = true
is_of_member causes.BadMember = true
is_of_member causes.CutMember = true
is_of_member causes.SeveralRecords = true
is_of_member cause = false

-- the reading of a block ends so
abbrev pub StopsBlock : Cause → Type 0
StopsBlock cause = (cause ≡ causes.Read) ⊎ (cause ≡ causes.ShortBlock)

-- the reading of a block and its closing ends so
abbrev pub StopsRecord : Cause → Type 0
StopsRecord cause = (cause ≡ causes.Read) ⊎ ((cause ≡ causes.ShortBlock) ⊎ (cause ≡ causes.Closing))

-- the reading of a head ends so
abbrev pub StopsHead : Cause → Type 0
StopsHead cause = (cause ≢ causes.ShortBlock) × (cause ≢ causes.Closing) × (is_of_member cause ≡ false)
