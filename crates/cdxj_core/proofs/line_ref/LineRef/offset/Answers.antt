use Rattle.std.proofs.Common.{◌<◌, ◌^◌, sym, ◌∙◌, arith}
use Rattle.cdxj_objects.specs.Texts.{borrowed_view}
use Rattle.cdxj_core.proofs.KeptLemmas.{offset_read}
use Rattle.cdxj_core.proofs.line_ref.LineRef.offset.Goals as goal

pub unreachable-requires : goal.unreachable-requires
unreachable-requires c =
    let small : c.args.self.now.values.offset < 2 ^ 63 = grind (arith, c.self.view_is, c.self.invariant.offset_rule) in
    let read = offset_read (borrowed_view c.texts.result) c.args.self.now.values small c.texts.ensures in
    grind (arith, sym c.in-None.is ∙ c.read_offset.ensures.value ∙ read)

pub returns-clause-value : goal.returns-clause-value
returns-clause-value c =
    let small : c.args.self.now.values.offset < 2 ^ 63 = grind (arith, c.self.view_is, c.self.invariant.offset_rule) in
    let read = offset_read (borrowed_view c.texts.result) c.args.self.now.values small c.texts.ensures in
    grind (arith, sym c.in-Some.is ∙ c.read_offset.ensures.value ∙ read)
