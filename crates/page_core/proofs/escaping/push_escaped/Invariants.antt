use Rattle.std.proofs.Common.{◌≡◌, ◌++◌, take}
use Rattle.page_core.specs.Rows.{escaped}
use Rattle.page_core.proofs.escaping.push_escaped.Given as goal

abbrev pub invariant-loop-byte : goal.invariant-loop-byte
invariant-loop-byte l = l.text.items ≡ l.fn.text.items ++ escaped (take l.byte-index l.value)
