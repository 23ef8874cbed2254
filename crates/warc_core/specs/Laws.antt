-- Laws over the definitions of records, archives and damage.
use Rattle.std.specs.Prelude.{◌≡◌, ℕ, ◌≤◌, List, Option, [], ◌++◌, Some, Ok, ◌⊎◌}
use Rattle.std.specs.List.{concat}
use Rattle.warc_head.specs.Parts.{HeadParts}
use Rattle.warc_core.specs.declared.fault.Cause.{Cause}
use Rattle.warc_core.specs.Cause.{StopsHead}
use Rattle.warc_core.specs.HeadView.{HeadView}
use Rattle.warc_core.specs.Next.{next_at}
use Rattle.warc_core.specs.Walk.{record_at, AreRecords, IsDamaged}
use Rattle.warc_core.specs.RecordText.{IsHead, IsRecordText, IsReadFrom, AreTexts}

-- what is read as a record is spelled as one, and the rest follows it
abbrev pub ReadIsSpelled : Type 0
ReadIsSpelled = (limit start : ℕ) (bytes rest : List ℕ) (h : HeadView) → record_at limit start bytes ≡ Ok (Some h, rest)
    →
    (block : List ℕ) × (text : List ℕ) × IsReadFrom limit start h block text × (bytes ≡ text ++ rest)

-- what is spelled as a record is read as it, whatever follows
abbrev pub SpelledIsRead : Type 0
SpelledIsRead = (limit start : ℕ) (h : HeadView) (block text rest : List ℕ) → IsReadFrom limit start h block text
    → record_at limit start (text ++ rest) ≡ Ok (Some h, rest)

-- no record text is a proper prefix of another
abbrev pub NoPrefix : Type 0
NoPrefix = (limit : ℕ) (head head' : List ℕ) (parts parts' : HeadParts) (block block' text more : List ℕ)
    → IsRecordText limit head parts block text → IsRecordText limit head' parts' block' (text ++ more) → more ≡ []

-- an archive is the texts of its records, one after another
abbrev pub RecordsAreSpelled : Type 0
RecordsAreSpelled = (limit : ℕ) (archive : List ℕ) (heads : List HeadView) → AreRecords limit archive heads
    → (texts : List (List ℕ)) × AreTexts limit 0 heads texts × (archive ≡ concat texts)

-- texts of records, one after another, are an archive of these records
abbrev pub SpelledAreRecords : Type 0
SpelledAreRecords = (limit : ℕ) (heads : List HeadView) (texts : List (List ℕ)) → AreTexts limit 0 heads texts
    → AreRecords limit (concat texts) heads

-- an archive has one list of records or one damage, and never both
pub record OneReading (limit : ℕ) (archive : List ℕ) : Type 0 where
  pub one_list : (hs gs : List HeadView) → AreRecords limit archive hs → AreRecords limit archive gs → hs ≡ gs
  pub one_damage : (hs gs : List HeadView) (o p : ℕ) (c d : Cause) → IsDamaged limit archive hs o c
      → IsDamaged limit archive gs p d → (hs ≡ gs) × (o ≡ p) × (c ≡ d)
  pub not_both : (hs gs : List HeadView) (o : ℕ) (c : Cause) → AreRecords limit archive hs
      → IsDamaged limit archive gs o c → ⊥

-- every text has records or damage
abbrev pub RecordsOrDamage : Type 0
RecordsOrDamage = (limit : ℕ) (archive : List ℕ) → ((heads : List HeadView) × AreRecords limit archive heads)
    ⊎ ((heads : List HeadView) × (offset : ℕ) × (c : Cause) × IsDamaged limit archive heads offset c)

-- no record stands where an archive is damaged
abbrev pub NoRecordAtDamage : Type 0
NoRecordAtDamage = (limit : ℕ) (archive : List ℕ) (heads : List HeadView) (offset : ℕ) (cause : Cause)
    (d : IsDamaged limit archive heads offset cause) (h : HeadView) (block text more : List ℕ) → d.rest ≡ text ++ more
    → IsReadFrom limit offset h block text → ⊥

-- a head that is read is a head text, and stands in front of what follows it
abbrev pub HeadIsSpelled : Type 0
HeadIsSpelled = (limit start : ℕ) (bytes rest : List ℕ) (h : HeadView) → next_at limit start bytes ≡ Ok (Some h, rest)
    → IsHead limit h × (h.start ≡ start) × (bytes ≡ h.raw ++ rest)

-- where an archive is damaged behind a head, in a block or its closing, the head is read, and stands in front of what
-- is left
abbrev pub HeadAtDamage : Type 0
HeadAtDamage = (limit : ℕ) (archive : List ℕ) (heads : List HeadView) (offset : ℕ) (cause : Cause)
    (d : IsDamaged limit archive heads offset cause) → (StopsHead cause → ⊥) →
    (h : HeadView) × (rest : List ℕ) × (next_at limit offset d.rest ≡ Ok (Some h, rest)) × IsHead limit h
    × (h.start ≡ offset) × (d.rest ≡ h.raw ++ rest)

-- a record text is one under a higher limit of heads
abbrev pub TextStays : Type 0
TextStays = (low high : ℕ) → low ≤ high → (head : List ℕ) (parts : HeadParts) (block text : List ℕ)
    → IsRecordText low head parts block text → IsRecordText high head parts block text

-- what is read as a record, or as the end, is read so under a higher limit
abbrev pub ReadingStays : Type 0
ReadingStays = (low high : ℕ) → low ≤ high → (start : ℕ) (bytes rest : List ℕ) (read : Option HeadView)
    → record_at low start bytes ≡ Ok (read, rest) → record_at high start bytes ≡ Ok (read, rest)

-- an archive of records has the same records under a higher limit
abbrev pub RecordsStay : Type 0
RecordsStay = (low high : ℕ) → low ≤ high → (archive : List ℕ) (heads : List HeadView) → AreRecords low archive heads
    → AreRecords high archive heads
