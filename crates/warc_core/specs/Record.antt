-- What follows a head: a block and its closing.
use Rattle.std.specs.Prelude.{ℕ, ◌==◌, nat_lt, codes, List, [], ◌∷◌, length, drop, Result, Ok, Err, if◌then◌else◌}
use Rattle.warc_core.specs.declared.fault.Cause.{Cause}
use Rattle.warc_core.specs.declared.fault.Cause.TheVariants as causes
use Rattle.warc_core.specs.Reading.{◌>>=◌}

-- CR LF CR LF
abbrev pub closing : List ℕ
closing = codes "\r\n\r\n"

-- what follows the text, where it begins the bytes
unfoldable pub after_text : List ℕ → List ℕ → Result (Unit {0} × List ℕ) Cause
after_text [] bytes = Ok (tt, bytes)
after_text (c ∷ text) [] = Err causes.Closing
after_text (c ∷ text) (b ∷ bytes) = if b == c then after_text text bytes else Err causes.Closing

-- what follows a block of n bytes
unfoldable pub after_block : ℕ → List ℕ → Result (Unit {0} × List ℕ) Cause
after_block n bytes = if nat_lt (length bytes) n then Err causes.ShortBlock else Ok (tt, drop n bytes)

-- what follows a block of n bytes and its closing
unfoldable pub after_record : ℕ → List ℕ → Result (Unit {0} × List ℕ) Cause
after_record n bytes = do
  block ← after_block n bytes
  after_text closing block.1
