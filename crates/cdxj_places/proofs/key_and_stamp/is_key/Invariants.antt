use Rattle.std.proofs.Common.{◌≡◌, ◌&&◌, nat_lt, length, take}
use Rattle.std.specs.List.{list_all}
use Rattle.cdxj_places.specs.Pair.{is_key_byte}
use Rattle.cdxj_places.proofs.key_and_stamp.is_key.Given as goal

abbrev pub invariant-loop-byte : goal.invariant-loop-byte
invariant-loop-byte l = l.good ≡ (nat_lt 0 (length l.text) && list_all is_key_byte (take l.byte-index l.text))
