-- The texts of an entry, from bytes that may not be UTF-8.
use Rattle.std.specs.Prelude.{ℕ, List, if◌then◌else◌}
use Rattle.std.specs.Str.{is_utf8}
use Rattle.percent_encoding.specs.Percent.{percent_encode}
use Rattle.percent_encoding.specs.declared.ascii_set.TheConstants.AsciiSet.{EMPTY}

-- the text of a value: UTF-8 as it is; of other bytes each from 0x80 is percent-encoded (URL Standard, section 1.3)
unfoldable pub utf8_text : List ℕ → List ℕ
utf8_text value = if is_utf8 value then value else percent_encode EMPTY value
