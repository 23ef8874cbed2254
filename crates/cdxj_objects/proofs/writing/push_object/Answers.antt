use Rattle.std.proofs.Common.{◌++◌, ap, drop, ◌∙◌}
use Rattle.json.specs.Print.{escape}
use Rattle.cdxj_objects.specs.ObjectMembers.{map_members}
use Rattle.cdxj_objects.specs.Plain.{fronts, plain_pieces}
use Rattle.cdxj_objects.specs.Texts.{borrowed_view}
use Rattle.cdxj_objects.proofs.PlainLaw.{escaped_text_is, pushed}
use Rattle.cdxj_objects.proofs.writing.push_object.Goals as goal

pub returns : goal.returns
returns c =
    let texts = borrowed_view c.args.texts in
    let t = map_members escape texts in
    let all = plain_pieces t in
    c.in_ok-extend_from_slice.ensures.items
    ∙ ap (λ s. c.push_member-7.new.line.items ++ s) c.as_bytes.ensures.value
    ∙ pushed (fronts.filename, t.filename) (drop 7 all) _ _ c.in_ok-push_member-7.ensures
    ∙ pushed (fronts.offset, t.offset) (drop 6 all) _ _ c.in_ok-push_member-6.ensures
    ∙ pushed (fronts.length, t.length) (drop 5 all) _ _ c.in_ok-push_member-5.ensures
    ∙ pushed (fronts.digest, t.digest) (drop 4 all) _ _ c.in_ok-push_member-4.ensures
    ∙ pushed (fronts.status, t.status) (drop 3 all) _ _ c.in_ok-push_member-3.ensures
    ∙ pushed (fronts.mime, t.mime) (drop 2 all) _ _ c.in_ok-push_member-2.ensures
    ∙ pushed (fronts.url, t.url) (drop 1 all) _ _ c.in_ok-push_member.ensures
    ∙ ap (λ s. c.args.line.now.items ++ s) (escaped_text_is texts)
