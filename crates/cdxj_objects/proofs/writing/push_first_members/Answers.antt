use Rattle.std.proofs.Common.{drop, ◌∙◌}
use Rattle.cdxj_objects.specs.Plain.{fronts, plain_pieces}
use Rattle.cdxj_objects.specs.Texts.{borrowed_view}
use Rattle.cdxj_objects.proofs.PlainLaw.{pushed}
use Rattle.cdxj_objects.proofs.writing.push_first_members.Goals as goal

pub returns : goal.returns
returns c =
    let t = borrowed_view c.args.texts.now in
    let all = plain_pieces t in
    pushed (fronts.digest, t.digest) (drop 4 all) _ _ c.in_ok-push_plain_member-4.ensures
    ∙ pushed (fronts.status, t.status) (drop 3 all) _ _ c.in_ok-push_plain_member-3.ensures
    ∙ pushed (fronts.mime, t.mime) (drop 2 all) _ _ c.in_ok-push_plain_member-2.ensures
    ∙ pushed (fronts.url, t.url) (drop 1 all) _ _ c.in_ok-push_plain_member.ensures
