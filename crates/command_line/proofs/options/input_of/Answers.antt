use Rattle.std.proofs.Common.{rules, tests, ◌∙◌, ap, option_map, string_bytes}
use Rattle.std.proofs.lemmas.Iterator.{YieldsList-from_slice}
use Rattle.std.proofs.lemmas.Iterator.Search.{find_from_yields_List}
use Rattle.clap.proofs.WalkLemmas.{find-map}
use Rattle.command_line.specs.Commands.{is_input}
use Rattle.command_line.proofs.Finding.{in_turn}
use Rattle.command_line.proofs.options.input_of.Goals as goal

pub returns : goal.returns
returns c =
    in_turn c.find.result (λ name. name.now)
    ∙ ap (option_map string_bytes)
    (find_from_yields_List (λ name. is_input (string_bytes name)) _ _ _ c.find.ensures.ran
    (YieldsList-from_slice c.args.names.now cc) (λ x b q k. search (rules, tests)))
    ∙ find-map is_input string_bytes c.args.names.now
