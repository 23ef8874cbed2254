use Rattle.std.proofs.Common.{◌≡◌, ◌++◌, ◌+◌, ℕ, Option, Some, None, List, Ok, length}
use Rattle.std.specs.Borrow.{Bor}
use Rattle.query_text.specs.Readings.{and_then}
use Rattle.query_text.specs.Parts.{parts_left}
use Rattle.query_text.specs.Values.{fields_named, listed_fields}
use Rattle.query_text.proofs.fields.read_fields.Given as goal

-- the fields so far, and then those of the names that are left
abbrev pub invariant-loop-left : goal.invariant-loop-left
invariant-loop-left l =
    and_then (fields_named (parts_left 44 l.left)) (λ later. Ok (l.fields.items ++ later)) ≡ listed_fields l.fn.names

abbrev bytes_left : Option (Bor (List ℕ)) → ℕ
bytes_left None = 0
bytes_left (Some text) = length text.now + 1

abbrev pub decreases-loop-left : goal.decreases-loop-left
decreases-loop-left l = bytes_left l.left
