-- The lines of a text, cut after each line feed.
use Rattle.std.specs.Prelude.{ℕ, ◌==◌, List, [], ◌∷◌, if◌then◌else◌}
use Rattle.std.specs.List.{onto_first}
use Rattle.cdxj_places.specs.Bytes.{line_feed}

-- each line with its line feed; the last may lack it
abbrev pub lines : List ℕ → List (List ℕ)
lines [] = []
lines (b ∷ bytes) = if b == line_feed then (b ∷ []) ∷ lines bytes else onto_first b (lines bytes)
