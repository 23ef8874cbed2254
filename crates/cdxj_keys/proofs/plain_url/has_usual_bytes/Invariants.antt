use Rattle.std.proofs.Common.{◌≡◌, take}
use Rattle.std.specs.List.{list_all}
use Rattle.cdxj_keys.specs.PlainUrls.{is_usual_byte}
use Rattle.cdxj_keys.proofs.plain_url.has_usual_bytes.Given as goal

abbrev pub invariant-loop-byte : goal.invariant-loop-byte
invariant-loop-byte l = l.good ≡ list_all is_usual_byte (take l.byte-index l.text)
