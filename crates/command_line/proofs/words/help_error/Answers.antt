use Rattle.std.proofs.Common.{◌≡◌, ◌∙◌, sym, ap, [], ◌∷◌}
use Rattle.clap.specs.Words.{app_of, fault_of, is_simple_and_free, kind_of}
use Rattle.command_line.specs.Commands.{help_or_usage}
use Rattle.command_line.specs.Clap.{warcdx}
use Rattle.command_line.proofs.CommandLine.{tells_help, never_taken, refused_help}
use Rattle.command_line.proofs.words.help_error.Goals as goal

pub unreachable-requires : goal.unreachable-requires
unreachable-requires c =
    let same : app_of c.in-Ok.command ≡ warcdx = c.in-Ok.ensures in
    let words = c.args.first.now ∷ c.args.help.now ∷ [] in
    let clear : fault_of (app_of c.in-Ok.command) words
    ≡ [] = c.in-Ok-try_get_matches_from.ensures.kinds (ap is_simple_and_free same) in
    never_taken (help_or_usage (c.args.first.now ∷ [])) (fault_of warcdx words)
    (tells_help c.args.first.now c.args.help.now c.requires.known c.requires.asks)
    (ap (λ a. fault_of a words) (sym same) ∙ clear)

pub returns-in-Err-try_get_matches_from : goal.returns-in-Err-try_get_matches_from
returns-in-Err-try_get_matches_from c =
    let same : app_of c.in-Ok.command ≡ warcdx = c.in-Ok.ensures in
    let words = c.args.first.now ∷ c.args.help.now ∷ [] in
    refused_help (help_or_usage (c.args.first.now ∷ [])) (fault_of warcdx words)
    (kind_of c.in-Err-try_get_matches_from.error)
    (tells_help c.args.first.now c.args.help.now c.requires.known c.requires.asks)
    (rw (ap (λ a. fault_of a words) same) at c.in-Err-try_get_matches_from.ensures.kinds (ap is_simple_and_free same))
