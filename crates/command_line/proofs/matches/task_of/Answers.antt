use Rattle.std.proofs.Common.{◌≡◌, ◌∙◌, ap, List, Option, Some, None, option_map}
use Rattle.std.specs.Box.{box_value}
use Rattle.std.proofs.lemmas.Result.{IfOk-weaker}
use Rattle.clap.specs.Words.{Row, Text, rows_of, found_of}
use Rattle.clap.specs.declared.parser.matches.ArgMatches.TheViews.{out-ArgMatches, out-SubCommand}
use Rattle.command_line.specs.Clap.{matches_task}
use Rattle.command_line.proofs.matches.task_of.Goals as goal

-- the name and the rows are those of one subcommand
both : {A : Type 0} (s : Option A) (f : A → Text) (g : A → List Row) (name : Text) (rows : List Row) → Some name
    ≡ option_map f s
    → Some rows ≡ option_map (λ (p : Text × List Row). p.1) (option_map (λ a. (f a, g a)) s)
    → ◌≡◌ {A = Option (Text × List Row)} (Some (name, rows)) (option_map (λ a. (f a, g a)) s)
both None f g name rows n r = cc
both (Some a) f g name rows n r = cc

pub returns-in-Some : goal.returns-in-Some
returns-in-Some c =
    let n = rw c.in-Some.is at c.subcommand.ensures.name in
    let r = rw c.in-Some.is at c.subcommand.ensures.rows in
    IfOk-weaker c.command_task.result _ _
    (λ task h. h ∙ ap matches_task (both (out-ArgMatches c.args.matches.now).subcommand
    (λ b. (out-SubCommand (box_value b)).name.now) (λ b. rows_of (found_of (out-SubCommand (box_value b)).matches)) _ _
    n r))
    c.command_task.ensures
