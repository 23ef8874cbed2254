-- What contracts see of boxed lines.
use Rattle.std.specs.Prelude.{List, [], ◌∷◌, map, Option, None, Some, option_map, Box}
use Rattle.std.specs.Global.{Global}
use Rattle.cdxj_core.specs.declared.line.Line.{Line}
use Rattle.cdxj_core.specs.Members.{Member}

abbrev pub boxed_lines : List (Box Line Global) → List Member
boxed_lines = map (λ b. b.value)

abbrev pub boxed_line : Option (Box Line Global) → Option Member
boxed_line = option_map (λ b. b.value)

abbrev pub option_list : {X : Type 0} → Option X → List X
option_list None = []
option_list (Some x) = x ∷ []

-- the line, if there is one
abbrev pub boxed_option : Option (Box Line Global) → List Member
boxed_option line = option_list (boxed_line line)
