use Rattle.std.proofs.Common.{◌≡◌, ap, arith, ◌∙◌}
use Rattle.cdxj_objects.specs.Objects.{object_text}
use Rattle.cdxj_objects.specs.Texts.{borrowed_view, text_members}
use Rattle.cdxj_core.specs.Entries.{entry_texts, keyed_view}
use Rattle.cdxj_core.proofs.LineJoined.{joined_line, line_with}
use Rattle.cdxj_core.proofs.writing.line_bytes.Goals as goal

pub returns : goal.returns
returns c =
    let e = keyed_view c.args.key.now c.args.entry in
    let said = c.members-texts.ensures e.key in
    let same : borrowed_view c.members-texts.result ≡ entry_texts e = grind arith in
    joined_line e.key e.stamp _ _ _ _ _ c.in_ok-line.ensures c.in_ok-push_stamp.ensures c.in_ok-push_object.ensures
    c.in_ok-push.ensures.items ∙ ap (λ t. line_with e.key e.stamp (object_text (text_members t))) same
