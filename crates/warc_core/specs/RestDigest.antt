-- What calls read of an open record's block.
use Rattle.std.specs.Prelude.{ℕ, List, ◌++◌, take, Result, Ok}
use Rattle.sha1.specs.Sha1.{sha1}
use Rattle.warc_core.specs.declared.fault.Cause.{Cause}
use Rattle.warc_core.specs.Reading.{◌>>=◌}
use Rattle.warc_core.specs.Record.{after_block}

-- the SHA-1 (FIPS 180-4) of these bytes and the n bytes of a block that come next, and what follows them
unfoldable pub digest_of_rest : ℕ → List ℕ → List ℕ → Result (List ℕ × List ℕ) Cause
digest_of_rest n start bytes = do
  rest ← after_block n bytes
  Ok (sha1 (start ++ take n bytes), rest.1)
