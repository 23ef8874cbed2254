use Rattle.std.proofs.Common.{arith, sym, ◌∙◌, ap, string_bytes, subst}
use Rattle.tasks.specs.Indexing.{archive_name, bytes_of_name}
use Rattle.tasks.specs.Opening.{OpensAs}
use Rattle.std.proofs.lemmas.Result.{err_from_is_err_and}
use Rattle.tasks.proofs.FailedNames.{unopened_archive}
use Rattle.tasks.proofs.NamedLemmas.{map-more, of_ok, opened-more}
use Rattle.tasks.proofs.scanning.open_archives.Goals as goal

pub returns-in_err-archive : goal.returns-in_err-archive
returns-in_err-archive g c =
    let failed = unopened_archive (g.F.Opener.archive_failed c.args.files.now) c.args.names.now c.loop-name.name-index
    c.name-item.result c.deref.result.now c.loop-name-test.true (sym c.name-item.is) c.deref.ensures
    c.in_err-archive.field-0.0 c.in_err-archive.ensures in
    grind (arith, err_from_is_err_and)

pub loop-name-preserved : goal.loop-name-preserved
loop-name-preserved g c =
    let pushed = sym c.is_err.ensures.value ∙ c.if-is_err.false in
    let tells = g.F.Opener.tells_archive c.args.files.now in
    opened-more g.F.Archive.Archive.state tells (bytes_of_name c.args.input) _ _ _ _ c.in_ok-archive.archive _ _
    (map-more string_bytes c.args.names.now c.loop-name.name-index c.name-item.result c.loop-name-test.true
    (sym c.name-item.is))
    (c.archive_name.ensures ∙ ap (archive_name (bytes_of_name c.args.input)) c.deref-in-loop-name.ensures)
    (subst (λ name. OpensAs (tells name) (g.F.Archive.Archive.state c.in_ok-archive.archive)) c.deref.ensures
    c.in_ok-archive.ensures)
    (of_ok c.push_named.result pushed c.push_named.ensures.names)
    (of_ok c.push_named.result pushed c.push_named.ensures.inputs)
    c.loop-name.invariant
