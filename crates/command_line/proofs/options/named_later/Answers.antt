use Rattle.std.proofs.Common.{◌∙◌, sym}
use Rattle.command_line.proofs.InputName.{later}
use Rattle.command_line.proofs.options.named_later.Goals as goal

pub returns-in-len5-up : goal.returns-in-len5-up
returns-in-len5-up c =
    later c.args.words.now c.command-item.result c.option-item.result c._text-item.result c.second-item.result c.name-item.result
    c.in-len5-up.len_at_least c.command-item.is c.option-item.is c._text-item.is c.second-item.is c.name-item.is
    (rw (sym c.deref.ensures, sym c.deref-2.ensures) (sym c.takes_option.ensures ∙ c.if-takes_option.true))
    (rw (sym c.deref-then-takes_option.ensures, sym c.deref-then-takes_option-2.ensures, sym c.deref-then-takes_option-3.ensures)
    (sym c.names_input.ensures ∙ c.if-names_input.true))
