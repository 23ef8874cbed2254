use Rattle.std.proofs.Common.{take}
use Rattle.command_line.specs.Words.{texts}
use Rattle.tasks.specs.Indexing.{bytes_of_name}
use Rattle.tasks.specs.Scanning.{AreOpened}
use Rattle.tasks.proofs.scanning.open_archives.Given as goal

abbrev pub invariant-loop-name : goal.invariant-loop-name
invariant-loop-name g l =
    AreOpened g.F.Archive.Archive.state (g.F.Opener.tells_archive l.files) (bytes_of_name l.input)
    (texts (take l.name-index l.names)) l.archives.items
