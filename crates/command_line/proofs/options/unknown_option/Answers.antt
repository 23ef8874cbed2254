use Rattle.std.proofs.Common.{rules, tests, ◌∙◌, ap, option_map, string_bytes}
use Rattle.std.proofs.lemmas.Iterator.{YieldsList-from_slice}
use Rattle.std.proofs.lemmas.Iterator.Search.{find_from_yields_List}
use Rattle.clap.proofs.WalkLemmas.{find-map}
use Rattle.command_line.specs.Words.{is_unknown_option}
use Rattle.command_line.proofs.Finding.{in_turn}
use Rattle.command_line.proofs.options.unknown_option.Goals as goal

pub returns : goal.returns
returns c =
    in_turn c.find.result (λ word. word.now)
    ∙ ap (option_map string_bytes)
    (find_from_yields_List (λ word. is_unknown_option (string_bytes word)) _ _ _ c.find.ensures.ran
    (YieldsList-from_slice c.args.words.now cc) (λ x b q k. search (rules, tests)))
    ∙ find-map is_unknown_option string_bytes c.args.words.now
