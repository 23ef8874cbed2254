use Rattle.std.proofs.Common.{string_bytes}
use Rattle.devices.specs.Gathered.{gathered}
use Rattle.archives.specs.State.{told_of}
use Rattle.scan_core.proofs.ArchiveLemmas.{Indexing}
use Rattle.scan_core.proofs.indexing.index_archives.Given as goal

abbrev pub invariant-loop-i : goal.invariant-loop-i
invariant-loop-i g l =
    Indexing (λ n. string_bytes n.name) (λ n. told_of (g.A.Archive.state n.archive)) (λ n. (g.A.Archive.state n.archive).failures) gathered
    l.fn.types l.fn.inputs l.inputs l.i l.indexer l.indexes.items
