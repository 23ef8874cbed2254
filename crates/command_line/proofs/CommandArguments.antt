-- The arguments and the subcommands of a command, as they are added.
use Rattle.std.proofs.Common.{arith, refl, ◌≡◌, ℕ, ◌+◌, ◌<◌, ◌++◌, ◌∷◌, List, [], length, get_or, map, drop}
use Rattle.std.proofs.Common.{take}
use Rattle.std.proofs.lemmas.List.{map_more}
use Rattle.clap.specs.Words.{App, Rule, Shape, with_subcommand}
use Rattle.command_line.specs.Arguments.{with_commands, without_commands}
use Rattle.command_line.specs.Commands.{commands}
use Rattle.command_line.specs.Clap.{command_with, warcdx}
use Rattle.command_line.specs.Words.{Text}

-- a command with these arguments
abbrev pub app_with : Text → List Rule → App
app_with name rules = record { top = command_with name rules; subs = [] }

-- one more
pub one_more : {A : Type 0} (f : A → Rule) (name : Text) (xs : List A) (k : ℕ) (d : A) → k < length xs
    → app_with name (map f (take k xs) ++ f (get_or xs k d) ∷ []) ≡ app_with name (map f (take (k + 1) xs))
one_more f name xs k d inside = grind (arith, map_more)

-- one more subcommand, on what is known of those before it
pub more : {x a b : App} (s : Shape) → x ≡ with_subcommand a s → a ≡ b → x ≡ with_subcommand b s
more s h e = grind arith

-- all the commands
pub whole : (app first second third : App) → first ≡ without_commands → second ≡ with_commands first (take 3 commands)
    → third ≡ with_commands second (take 5 (drop 3 commands)) → app ≡ with_commands third (drop 8 commands)
    → app ≡ warcdx
whole app first second third f s t a = rw (a, t, s, f) refl
