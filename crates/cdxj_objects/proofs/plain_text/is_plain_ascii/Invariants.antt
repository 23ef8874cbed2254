use Rattle.std.proofs.Common.{◌≡◌, take}
use Rattle.std.specs.List.{list_all}
use Rattle.cdxj_objects.specs.Plain.{is_plain_ascii}
use Rattle.cdxj_objects.proofs.plain_text.is_plain_ascii.Given as goal

abbrev pub invariant-loop-byte : goal.invariant-loop-byte
invariant-loop-byte l = l.good ≡ list_all is_plain_ascii (take l.byte-index l.text)
