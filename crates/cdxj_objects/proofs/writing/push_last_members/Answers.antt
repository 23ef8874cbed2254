use Rattle.std.proofs.Common.{◌++◌, ap, drop, ◌∙◌}
use Rattle.cdxj_objects.specs.Plain.{fronts, plain_pieces}
use Rattle.cdxj_objects.specs.Texts.{borrowed_view}
use Rattle.cdxj_objects.proofs.PlainLaw.{pushed}
use Rattle.cdxj_objects.proofs.writing.push_last_members.Goals as goal

pub returns : goal.returns
returns c =
    let t = borrowed_view c.args.texts.now in
    let all = plain_pieces t in
    c.in_ok-extend_from_slice.ensures.items
    ∙ ap (λ s. c.push_plain_member-3.new.line.items ++ s) c.as_bytes.ensures.value
    ∙ pushed (fronts.filename, t.filename) (drop 7 all) _ _ c.in_ok-push_plain_member-3.ensures
    ∙ pushed (fronts.offset, t.offset) (drop 6 all) _ _ c.in_ok-push_plain_member-2.ensures
    ∙ pushed (fronts.length, t.length) (drop 5 all) _ _ c.in_ok-push_plain_member.ensures
