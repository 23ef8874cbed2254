use Rattle.std.proofs.Common.{◌≡◌, take}
use Rattle.std.specs.List.{list_all}
use Rattle.cdxj_objects.specs.Plain.{is_printable}
use Rattle.cdxj_core.proofs.printable.is_printable.Given as goal

abbrev pub invariant-loop-byte : goal.invariant-loop-byte
invariant-loop-byte l = l.good ≡ list_all is_printable (take l.byte-index l.text)
