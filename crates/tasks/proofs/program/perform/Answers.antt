use Rattle.std.proofs.Common.{◌≡◌, ℕ, List, Option, String, Global, map, subst, string_bytes}
use Rattle.capture_core.specs.Types.{includes}
use Rattle.command_line.specs.Words.{texts}
use Rattle.tasks.specs.Indexing.{bytes_of_name}
use Rattle.tasks.specs.Opening.{AreUnopenedIndexes, OpensFirst}
use Rattle.tasks.specs.Performing.{Performs}
use Rattle.tasks.specs.Queries.{AnswersLines}
use Rattle.tasks.specs.Scanning.{ScansNamed}
use Rattle.tasks.proofs.program.perform.Goals as goal

pub returns-in-Scan-clause-performs : goal.returns-in-Scan-clause-performs
unfolding Performs
returns-in-Scan-clause-performs g c =
    let task = c.in-Scan in
    let old = c.args.out.now in
    let new = c.scan_all.new.out in
    let scans = ScansNamed (g.F.Opener.tells_archive c.args.files.now)
    (g.F.Opener.archive_failed c.args.files.now) (includes task.types) in
    let ends : Option (List ℕ) → List ℕ → List ℕ → List (String Global)
    → Type 0 = λ given sizes query names. scans given sizes query (texts names) (g.O.Output.written old)
    (g.O.Output.written new) (new ≡ old) c.scan_all.result in
    let given = bytes_of_name c.as_deref-input.result in
    rw task.is
    (subst (λ given. ends given task.sizes.items (string_bytes task.query) task.names.items) c.as_deref-input.ensures.value
    (subst (λ sizes. ends given sizes (string_bytes task.query) task.names.items) c.deref-in-Scan.ensures.value
    (subst (λ query. ends given c.deref-in-Scan.result.now query task.names.items) c.deref-in-Scan-2.ensures
    (subst (λ names. ends given c.deref-in-Scan.result.now c.deref-in-Scan-2.result.now names) c.deref-in-Scan-3.ensures.value
    c.scan_all.ensures.scans))))

pub returns-in-Serve-clause-performs : goal.returns-in-Serve-clause-performs
unfolding Performs
returns-in-Serve-clause-performs g c =
    let opener = g.F.Opener in
    let files = c.args.files.now in
    let old = c.args.out.now in
    let new = c.serve_all.new.out in
    let result = c.serve_all.result in
    let ends : List (String Global)
    → Type 0 = λ names. OpensFirst (AreUnopenedIndexes (opener.index_failed files) (texts names) result) (new ≡ old)
    (AnswersLines (map (opener.index_bytes files) (texts names)) (g.F.Lines.Input.remaining c.input.result)
    (g.O.Output.written old) (g.O.Output.written new) (new ≡ old) result) in
    rw c.in-Serve.is
    (_, c.input.ensures, subst ends c.deref-in-Serve.ensures.value c.serve_all.ensures.answers)
