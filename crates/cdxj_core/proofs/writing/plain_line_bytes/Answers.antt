use Rattle.std.proofs.Common.{◌≡◌, ap, arith, string_bytes, ◌∙◌}
use Rattle.cdxj_objects.specs.Plain.{ArePlain, plain_text}
use Rattle.cdxj_objects.specs.Texts.{borrowed_view}
use Rattle.cdxj_objects.proofs.PlainBytes.{plain_decimal}
use Rattle.cdxj_objects.proofs.PlainLaw.{plain_text_is}
use Rattle.cdxj_core.specs.Entries.{entry_texts, keyed_view}
use Rattle.cdxj_core.proofs.LineJoined.{joined_line, line_with}
use Rattle.cdxj_core.proofs.writing.plain_line_bytes.Goals as goal

pub returns : goal.returns
returns c =
    let e = keyed_view (string_bytes c.args.key) c.args.entry in
    let said = c.members-texts.ensures e.key in
    let same : borrowed_view c.members-texts.result ≡ entry_texts e = grind arith in
    let plain : ArePlain (entry_texts e) = grind (arith, plain_decimal) in
    joined_line e.key e.stamp _ _ _ _ _ (grind arith) c.in_ok-push_stamp.ensures c.in_ok-push_plain_object.ensures
    c.in_ok-push.ensures.items
    ∙ ap (λ t. line_with e.key e.stamp (plain_text t)) same
    ∙ ap (line_with e.key e.stamp) (plain_text_is (entry_texts e) plain)
