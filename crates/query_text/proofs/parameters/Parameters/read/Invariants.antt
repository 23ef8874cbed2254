use Rattle.std.proofs.Common.{◌≡◌, ◌+◌, ℕ, Option, Some, None, List, length}
use Rattle.std.specs.Borrow.{Bor}
use Rattle.query_text.specs.Parts.{parts_left}
use Rattle.query_text.specs.Parameters.{no_values, with_pieces, pieces_of}
use Rattle.query_text.specs.ParameterViews.{parameter_values}
use Rattle.query_text.proofs.parameters.Parameters.read.Given as goal

-- what is left, read after what was read, is the whole
abbrev pub invariant-loop-left : goal.invariant-loop-left
invariant-loop-left l =
    with_pieces (parameter_values l.parameters) (parts_left 38 l.left) ≡ with_pieces no_values (pieces_of l.text)

abbrev bytes_left : Option (Bor (List ℕ)) → ℕ
bytes_left None = 0
bytes_left (Some text) = length text.now + 1

abbrev pub decreases-loop-left : goal.decreases-loop-left
decreases-loop-left l = bytes_left l.left
