use Rattle.std.proofs.Common.{◌≡◌, map, take}
use Rattle.devices.specs.Gathered.{gathered}
use Rattle.source_core.specs.Slices.{slice_text}
use Rattle.scan_core.proofs.scanning.sources_of.Given as goal

abbrev pub invariant-loop-index : goal.invariant-loop-index
invariant-loop-index l = map slice_text l.sources.items ≡ map gathered (take l.index-index l.indexes)
