use Rattle.std.proofs.Common.{◌≡◌, take}
use Rattle.std.specs.List.{list_all}
use Rattle.cdxj_keys.specs.Key.{is_graphic}
use Rattle.cdxj_keys.proofs.key.is_graphic.Given as goal

abbrev pub invariant-loop-byte : goal.invariant-loop-byte
invariant-loop-byte l = l.good ≡ list_all is_graphic (take l.byte-index l.bytes)
