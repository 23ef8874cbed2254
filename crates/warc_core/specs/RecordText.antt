-- A record as a text (ISO 28500:2017, clauses 4 to 6).
use Rattle.std.specs.Prelude.{◌≡◌, ℕ, ◌+◌, ◌-◌, ◌^◌, ◌<◌, ◌≤◌, ◌⊎◌, true, false, List, [], ◌∷◌, ◌++◌, length, take, Ok}
use Rattle.warc_head.specs.Fields.{Field}
use Rattle.warc_head.specs.Folding.{IsSpelling}
use Rattle.warc_head.specs.Lines.{line_end}
use Rattle.warc_head.specs.Parts.{HeadParts, parts_in}
use Rattle.warc_core.specs.HeadText.{version_1_1, version_1_0, is_closed}
use Rattle.warc_core.specs.HeadView.{HeadView, record_length}
use Rattle.warc_core.specs.Record.{closing}

-- the version line of a record
abbrev pub IsVersionLine : List ℕ → Type 0
IsVersionLine line = (line ≡ version_1_1) ⊎ (line ≡ version_1_0)

-- a text is a version line, the lines of these fields and an empty line, within the limit; it ends with CR LF CR LF,
-- and no shorter front of it does
pub record IsHeadText (limit : ℕ) (fields : List Field) (text : List ℕ) : Type 0 where
  pub version : List ℕ
  pub body : List ℕ
  pub spelled : text ≡ version ++ (body ++ line_end)
  pub is_version : IsVersionLine version
  pub is_body : IsSpelling body fields
  pub closed : is_closed text ≡ true
  pub first : (n : ℕ) → n < length text → is_closed (take n text) ≡ false
  pub small : length text ≤ limit

-- a text is a head, and its fields say these parts
pub record IsRecordHead (limit : ℕ) (parts : HeadParts) (text : List ℕ) : Type 0 where
  pub is_head : IsHeadText limit parts.fields text
  pub says : parts_in parts.fields ≡ Ok parts

-- a text is a head, a block of the length that the head says, and CR LF CR LF
pub record IsRecordText (limit : ℕ) (head : List ℕ) (parts : HeadParts) (block text : List ℕ) : Type 0 where
  pub spelled : text ≡ head ++ (block ++ closing)
  pub is_head : IsRecordHead limit parts head
  pub block_length : length block ≡ parts.block_length

-- the record that was read from a place is this text
pub record IsReadFrom (limit start : ℕ) (h : HeadView) (block text : List ℕ) : Type 0 where
  pub is_text : IsRecordText limit h.raw h.parts block text
  pub start_is : h.start ≡ start
  pub fits : start + record_length h ≤ 2 ^ 63 - 1

-- a head is what its text says, and its record ends by the greatest offset
pub record IsHead (limit : ℕ) (h : HeadView) : Type 0 where
  pub is_text : IsRecordHead limit h.parts h.raw
  pub fits : h.start + record_length h ≤ 2 ^ 63 - 1

-- these texts are the records with these heads, one after another from this offset
abbrev pub AreTexts : ℕ → ℕ → List HeadView → List (List ℕ) → Type 0
AreTexts limit start [] [] = Unit {0}
AreTexts limit start [] (text ∷ texts) = ⊥
AreTexts limit start (h ∷ heads) [] = ⊥
AreTexts limit start (h ∷ heads) (text ∷ texts) = (block : List ℕ) × IsReadFrom limit start h block text
    × AreTexts limit (start + record_length h) heads texts
