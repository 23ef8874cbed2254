use Rattle.std.proofs.Common.{◌∙◌, ◌||◌, ap₂, arith}
use Rattle.std.proofs.lemmas.List.{take_all}
use Rattle.clap.specs.Words.{with_rule}
use Rattle.command_line.specs.Arguments.{rule_for}
use Rattle.command_line.proofs.CommandArguments.{app_with, one_more}
use Rattle.command_line.proofs.command.with_command.Goals as goal

pub loop-argument-preserved : goal.loop-argument-preserved
loop-argument-preserved c =
    let inv = c.loop-argument.invariant in
    let added = c.in_ok-command.ensures in
    record {
      app = added.shape c.clap_argument.ensures.local ∙ ap₂ with_rule inv.app c.clap_argument.ensures.rule
          ∙ one_more rule_for c.args.name.now c.args.arguments.now c.loop-argument.argument-index _
          c.loop-argument-test.true;
      globals = added.globals ∙ ap₂ ◌||◌ inv.globals c.clap_argument.ensures.local;
    }

pub returns : goal.returns
returns c = grind (arith, take_all, app_with)
