-- A head that is found is a head text, and a head text is found.
use Rattle.warc_core.proofs.Words.{◌≡◌, ℕ, ◌+◌, ◌-◌, ◌≤◌, true, List, ◌++◌, Ok, length, drop, arith}
use Rattle.warc_core.proofs.Words.{take-append-drop, HeadParts, is_closed, IsFoundHead}
use Rattle.std.proofs.lemmas.List.{drop-drop}
use Rattle.warc_head.specs.Fields.{fields_of}
use Rattle.warc_head.specs.Lines.{line_end}
use Rattle.warc_head.specs.Parts.{parts_in, field_lines_in}
use Rattle.warc_head.proofs.FoldingLemmas.{fields_spelled}
use Rattle.warc_head.proofs.SpellingLemmas.{body}
use Rattle.warc_core.specs.Head.{parts_or_cause}
use Rattle.warc_core.specs.RecordText.{IsRecordHead}
use Rattle.warc_core.proofs.ClosingLemmas.{closed-last}
use Rattle.warc_core.proofs.HeadLemmas.{version-line, closed-long}
use Rattle.warc_head.specs.Parts as parts

-- a text that was found as a head, and read as these parts
pub record IsFoundOf (limit : ℕ) (parts : HeadParts) (text : List ℕ) : Type 0 where
  pub found : IsFoundHead limit text
  pub says : parts_or_cause text ≡ Ok parts

-- what is read of a text is read of its fields
read-in : (raw : List ℕ) (p : HeadParts) → parts_or_cause raw ≡ Ok p → (fields_of (field_lines_in raw) ≡ Ok p.fields)
    × (parts_in p.fields ≡ Ok p)
unfolding parts_or_cause parts.parts_of parts_in
read-in raw p h = grind arith

read-back : (raw : List ℕ) (p : HeadParts) → fields_of (field_lines_in raw) ≡ Ok p.fields → parts_in p.fields ≡ Ok p
    → parts_or_cause raw ≡ Ok p
unfolding parts_or_cause parts.parts_of
read-back raw p f h = grind arith

-- the last line of a closed text is empty
last-empty : (text : List ℕ) → is_closed text ≡ true → 12 ≤ length text → drop 10 text ≡ field_lines_in text ++ line_end
last-empty text h l =
    let n = length text - 2 - 10 in
    let at : length text - 4 + 2 ≡ 10 + n = omega arith in
    let end = closed-last text h in
    let d = drop-drop n 10 text in
    let f = drop-drop 2 (length text - 4) text in
    grind (arith, take-append-drop)

pub found-spelled : (limit : ℕ) (raw : List ℕ) (p : HeadParts) → IsFoundHead limit raw → parts_or_cause raw ≡ Ok p
    → IsRecordHead limit p raw
found-spelled limit raw p f h =
    let r = read-in raw p h in
    let long = closed-long raw f.closed f.version in
    let v = version-line raw f.version (omega arith) in
    let split = take-append-drop 10 raw in
    grind (arith, body, last-empty, fields_spelled)

pub spelled-found : (limit : ℕ) (raw : List ℕ) (p : HeadParts) → IsRecordHead limit p raw → IsFoundOf limit p raw
spelled-found limit raw p h =
    let whole : field_lines_in raw ≡ h.is_head.body = grind (arith, body) in
    grind (arith, read-back, (fields_spelled h.is_head.body p.fields).1)
