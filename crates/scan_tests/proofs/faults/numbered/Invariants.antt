use Rattle.std.specs.Prelude.{Some}
use Rattle.std.specs.List.{AllByRecursion}
use Rattle.index_core.specs.Plain.{plain_state}
use Rattle.scan_core.specs.State.{IsUnread}
use Rattle.scan_tests.proofs.faults.numbered.Given as goal

abbrev pub invariant-archives : goal.invariant-archives
invariant-archives l =
    AllByRecursion (λ n. IsUnread (plain_state n.archive.reader (Some n.archive.input.device) n.archive.input.failures))
    l.inputs.items
