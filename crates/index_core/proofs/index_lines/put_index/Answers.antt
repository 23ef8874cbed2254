use Rattle.index_core.proofs.Words.{arith, Option, slice_get, subst, ap, ◌∙◌, filter_map}
use Rattle.index_core.proofs.Words.{EntryValue, entries_text}
use Rattle.devices.proofs.WritingLemmas.{wrote_nothing}
use Rattle.devices.specs.Writing.{WritesText}
use Rattle.cdxj_places.specs.declared.order.Row.{Row}
use Rattle.cdxj_places.proofs.NumberedRising.{found_all}
use Rattle.index_core.specs.Indexing.{in_places}
use Rattle.index_core.proofs.index_lines.put_index.Goals as goal

pub returns-in-Err-clause-lines : goal.returns-in-Err-clause-lines
returns-in-Err-clause-lines g c = grind (arith, wrote_nothing)

pub returns-in-Ok-clause-lines : goal.returns-in-Ok-clause-lines
returns-in-Ok-clause-lines g c =
    let found : Row → Option EntryValue = λ row. slice_get c.args.captures.now row.number in
    subst (λ es. WritesText c.put_lines.result (g.O.Output.written c.args.out.now)
    (g.O.Output.written c.put_lines.new.out) (entries_text es))
    (ap (filter_map found) c.deref.ensures.value
    ∙ found_all found c.in-Ok.rows.items (in_places c.args.captures.now) c.in-Ok.ensures) c.put_lines.ensures.lines
