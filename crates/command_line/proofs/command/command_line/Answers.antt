use Rattle.std.proofs.lemmas.Result.{IfOk-weaker}
use Rattle.clap.specs.Words.{app_of}
use Rattle.command_line.proofs.CommandArguments.{whole}
use Rattle.command_line.proofs.command.command_line.Goals as goal

pub returns : goal.returns
returns c = IfOk-weaker c.with_record_commands.result _ _
    (λ command added. whole (app_of command) (app_of c.in_ok-program.field-0) (app_of c.in_ok-program-2.program)
    (app_of c.in_ok-program-3.program) c.in_ok-program.ensures c.in_ok-program-2.ensures c.in_ok-program-3.ensures added)
    c.with_record_commands.ensures
