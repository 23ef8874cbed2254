use Rattle.std.proofs.Common.{◌≡◌, false, map, take}
use Rattle.clap.specs.Words.{app_of}
use Rattle.clap.specs.declared.builder.command.Command.TheViews.{out-Command as fields_of}
use Rattle.command_line.specs.Arguments.{rule_for}
use Rattle.command_line.proofs.CommandArguments.{app_with}
use Rattle.command_line.proofs.command.with_command.Given as goal

abbrev pub invariant-loop-argument : goal.invariant-loop-argument
invariant-loop-argument l = record {
  app : app_of l.command ≡ app_with l.name (map rule_for (take l.argument-index l.arguments));
  globals : (fields_of l.command).has_globals ≡ false;
}
