use Rattle.std.proofs.Common.{◌≡◌, take, map}
use Rattle.command_line.specs.Words.{texts}
use Rattle.tasks.proofs.opening.open_remembering.Given as goal

abbrev pub invariant-loop-name : goal.invariant-loop-name
invariant-loop-name g l =
    map (λ index. index.text) l.indexes.items ≡ map (g.F.Opener.index_bytes l.files) (texts (take l.name-index l.names))
