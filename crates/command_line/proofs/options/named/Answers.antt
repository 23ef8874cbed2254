use Rattle.std.proofs.Common.{rules, ◌∙◌, sym}
use Rattle.command_line.proofs.InputName.{passed, short}
use Rattle.command_line.proofs.options.named.Goals.{in_default-via-then-words-lt3, in_default-via-in-len3-up+else-names_input}
use Rattle.command_line.proofs.options.named.Goals as goal

pub returns-in_default : goal.returns-in_default
returns-in_default c = c.named_later.ensures ∙ elim c.in_default.branch [
  | in_default-via-then-words-lt3 w ↦ short c.args.words.now (search rules)
  | in_default-via-in-len3-up+else-names_input w ↦
      passed c.args.words.now w.command-item.result w.option-item.result w.name-item.result
      w.in-len3-up.len_at_least w.command-item.is w.option-item.is w.name-item.is
      (rw (sym w.deref.ensures, sym w.deref-2.ensures, sym w.deref-3.ensures) (sym w.names_input.ensures ∙ w.if-names_input.false))
]
