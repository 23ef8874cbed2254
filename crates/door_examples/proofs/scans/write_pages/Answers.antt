use Rattle.std.proofs.Common.{◌∷◌, ℕ, [], map, IfErr, IfOk, Result, Ok, Err, string_bytes, subst}
use Rattle.scan_core.specs.declared.fault.ScanFault.{ScanFault}
use Rattle.scan_core.specs.Scanning.{Scanned}
use Rattle.scan_core.specs.State.{told_of}
use Rattle.scan_core.specs.Types.{includes}
use Rattle.door_examples.proofs.scans.write_pages.Goals as goal

of_ok : (P : ScanFault → Type 0) {X : Type 0} (r : Result ℕ ScanFault) → (IfErr r P → X) → IfOk r (λ _. X)
of_ok P (Ok n) wrote = wrote tt
of_ok P (Err fault) wrote = tt

pub returns : goal.returns
returns g c = record {
  pages = subst (λ types. IfOk c.scan.result (λ _. Scanned (includes types)
      (map (λ n. string_bytes n.name) c.args.archives.now)
      (map (λ n. told_of (g.A.Archive.state n.archive)) c.args.archives.now) (100 ∷ []) c.args.query.now c.scan.result
      (g.O.Output.written c.args.out.now) (g.O.Output.written c.scan.new.out)))
      c.usual.ensures (of_ok _ c.scan.result c.scan.ensures.scanned);
}
