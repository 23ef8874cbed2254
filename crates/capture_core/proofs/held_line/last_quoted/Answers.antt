use Rattle.std.proofs.Common.{◌∙◌, take, drop, sym, ap}
use Rattle.std.specs.List.{after_last}
use Rattle.capture_core.specs.Spelling.{is_quote}
use Rattle.capture_core.proofs.HeldLines.{no_quote}
use Rattle.capture_core.proofs.held_line.last_quoted.Goals as goal

pub returns-in-None : goal.returns-in-None
returns-in-None c =
    let text = take c.saturating_sub.result c.args.line.now in
    ap (λ n. drop n text) (sym (no_quote text c.in-None.ensures))
    ∙ ap (λ n. after_last is_quote (take n c.args.line.now)) c.saturating_sub.ensures
