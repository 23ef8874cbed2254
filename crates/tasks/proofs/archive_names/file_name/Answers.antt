use Rattle.std.proofs.Common.{Some, None}
use Rattle.tasks.proofs.LastSlash.{cut_at_last}
use Rattle.tasks.proofs.archive_names.file_name.Goals as goal

pub returns-in-Some : goal.returns-in-Some
returns-in-Some c = cut_at_last c.args.name.now (Some (c.in-Some._folder, c.in-Some.file)) c.in-Some.ensures.cases

pub returns-in-None : goal.returns-in-None
returns-in-None c = cut_at_last c.args.name.now None c.in-None.ensures.cases
