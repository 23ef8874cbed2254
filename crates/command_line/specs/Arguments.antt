-- What clap knows of the arguments of a command, and of the commands of the program.
use Rattle.std.specs.Prelude.{List, [], true, codes, fold, map}
use Rattle.clap.specs.Words.{App, Rule, with_subcommand}
use Rattle.command_line.specs.declared.command.Argument.{Argument}
use Rattle.command_line.specs.declared.command.Argument.TheVariants as argument
use Rattle.command_line.specs.Words.{Text}
use Rattle.command_line.specs.Commands.{Form}
use Rattle.command_line.specs.Clap.{command_for, names_rule, option_rule, program, word_rule}

abbrev pub rule_for : Argument → Rule
rule_for argument.Types = option_rule (codes "types")
rule_for argument.Name = option_rule (codes "name")
rule_for argument.Length = option_rule (codes "length")
rule_for argument.Sizes = word_rule (codes "sizes")
rule_for argument.Query = word_rule (codes "query")
rule_for argument.Offset = word_rule (codes "offset")
rule_for argument.Archive = word_rule (codes "name")
rule_for argument.Archives = names_rule
rule_for argument.Indexes = names_rule

abbrev pub without_commands : App
without_commands = record { top = record program { is_leaf = true }; subs = [] }

-- these commands after those that are there
abbrev pub with_commands : App → List (Text × Form) → App
with_commands app more = fold with_subcommand app (map command_for more)
