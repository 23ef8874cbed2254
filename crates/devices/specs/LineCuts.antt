-- The lines of an input.
use Rattle.std.specs.Prelude.{◌≡◌, ℕ, ◌-◌, ◌==◌, Bool, false, List, [], ◌∷◌, length, take, map, slice_index}
use Rattle.std.specs.Prelude.{if◌then◌else◌}
use Rattle.std.specs.List.{AllByRecursion, onto_first}

abbrev pub is_line_feed : ℕ → Bool
is_line_feed b = b == 10

-- the text cut at each line feed, of which the last line may lack it
abbrev pub cut_lines : List ℕ → List (List ℕ)
cut_lines [] = []
cut_lines (b ∷ bs) = if is_line_feed b then [] ∷ cut_lines bs else onto_first b (cut_lines bs)

-- a line without one carriage return at its end
abbrev pub without_carriage_return : List ℕ → List ℕ
without_carriage_return line = if slice_index line (length line - 1) == 13 then take (length line - 1) line else line

-- the lines of an input
abbrev pub input_lines : List ℕ → List (List ℕ)
input_lines input = map without_carriage_return (cut_lines input)

abbrev pub HasNoLineFeed : List ℕ → Type 0
HasNoLineFeed = AllByRecursion (λ b. is_line_feed b ≡ false)
