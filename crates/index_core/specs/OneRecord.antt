-- What is written of a record, whatever is known of its archive.
use Rattle.std.specs.Prelude.{◌≡◌, ◌⊎◌, ℕ, List, length, Option, Result, MatchResult}
use Rattle.std.specs.Io.KnownBytes.{Appends}
use Rattle.warc_core.specs.HeadView.{HeadView}
use Rattle.warc_core.specs.RecordText.{IsRecordText}
use Rattle.devices.specs.Device.{AppendsPrefix}

-- the limit of a head
module _ (limit : ℕ) where
  -- a text is one record: a head, a block of the length that the head says, and CR LF CR LF
  abbrev pub IsOneRecord : List ℕ → Type 0
  IsOneRecord text = (h : HeadView) × (block : List ℕ) × IsRecordText limit h.raw h.parts block text

  -- nothing was written, or a front of one record
  abbrev pub WritesPart : Option (List ℕ) → Option (List ℕ) → Type 0
  WritesPart before after = (after ≡ before)
      ⊎ ((text : List ℕ) × IsOneRecord text × AppendsPrefix before after text)

  -- one record was written, of the length that is answered; or after a fault a front of one, or nothing
  abbrev pub WritesOneRecord : {E : Type 0} → Result ℕ E → Option (List ℕ) → Option (List ℕ) → Type 0
  WritesOneRecord result before after = MatchResult result
      (λ n. (text : List ℕ) × IsOneRecord text × (n ≡ length text) × Appends before after text)
      (λ _. WritesPart before after)
