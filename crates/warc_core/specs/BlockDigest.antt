-- What WARC-Block-Digest (ISO 28500:2017, 5.8) says of a block, where it names SHA-1.
use Rattle.std.specs.Prelude.{ℕ, ◌+◌, ◌==◌, ◌&&◌, ◌||◌, nat_le, Bool, List, length, take, drop, codes, Option, None}
use Rattle.std.specs.Prelude.{Some, Result, Ok, if◌then◌else◌}
use Rattle.std.specs.List.{list_all}
use Rattle.std.specs.Str.{str_eq_ignore_ascii_case}
use Rattle.sha1.specs.Sha1.{sha1}
use Rattle.warc_core.specs.declared.fault.Cause.{Cause}
use Rattle.warc_core.specs.Reading.{◌>>=◌}
use Rattle.warc_core.specs.Record.{after_record}
use Rattle.warc_core.specs.declared.verdict.Verdict.{Verdict}
use Rattle.warc_core.specs.declared.verdict.Verdict.TheVariants as verdicts
use Rattle.warc_core.specs.Base32.{base32_of, letter_a, letter_z, digit_2, digit_7}

-- the names of verdicts, as listings print them
abbrev pub verdict_name : Verdict → List ℕ
verdict_name verdicts.Same = codes "same"
verdict_name verdicts.Differs = codes "differs"
verdict_name verdicts.NotSha1 = codes "not-sha1"
verdict_name verdicts.Absent = codes "absent"

-- what stands before a SHA-1 digest, in any case
abbrev pub label : List ℕ
label = codes "sha1:"

-- a letter in lower case
abbrev pub lower : ℕ → ℕ
lower letter = letter + 32

-- a byte of the alphabet of RFC 4648, section 6, in any case
abbrev pub is_base32_letter : ℕ → Bool
is_base32_letter b = (nat_le letter_a b && nat_le b letter_z) ||
    (nat_le (lower letter_a) b && nat_le b (lower letter_z)) || (nat_le digit_2 b && nat_le b digit_7)

-- 32 letters: twenty bytes
abbrev pub is_base32_text : List ℕ → Bool
is_base32_text text = length text == 32 && list_all is_base32_letter text

-- the text of the SHA-1 digest that a value holds, if it holds one
unfoldable pub sha1_text : List ℕ → Option (List ℕ)
sha1_text value =
    if str_eq_ignore_ascii_case (take (length label) value) label && is_base32_text (drop (length label) value)
    then Some (drop (length label) value) else None

-- a digest's text against a digest
abbrev pub digest_verdict : List ℕ → List ℕ → Verdict
digest_verdict text digest = if str_eq_ignore_ascii_case text (base32_of digest) then verdicts.Same else
    verdicts.Differs

-- the verdict on a block, by the digest's text in the value, if there is one
abbrev pub judged : Option (List ℕ) → List ℕ → Verdict
judged None = λ block. verdicts.NotSha1
judged (Some text) = λ block. digest_verdict text (sha1 block)

-- the verdict on a block, by the value of the field
abbrev pub verdict_of : Option (List ℕ) → List ℕ → Verdict
verdict_of None = λ block. verdicts.Absent
verdict_of (Some value) = judged (sha1_text value)

-- what judge says of the block of n bytes that comes next, and what follows its record
unfoldable pub judge_record : (List ℕ → Verdict) → ℕ → List ℕ → Result (Verdict × List ℕ) Cause
judge_record judge n bytes = do
  rest ← after_record n bytes
  Ok (judge (take n bytes), rest.1)
