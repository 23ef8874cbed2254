use Rattle.std.proofs.Common.{◌≡◌, ℕ, List, ◌++◌, drop, ◌∙◌, arith, codes, length, length-append, option_map}
use Rattle.cdxj_objects.specs.declared.members.Members.{Members}
use Rattle.cdxj_objects.specs.FoundMembers.{raw_text}
use Rattle.cdxj_objects.specs.FoundViews.{value_view}
use Rattle.cdxj_objects.specs.ObjectMembers.{map_members}
use Rattle.cdxj_objects.specs.Plain.{fronts, plain_pieces}
use Rattle.cdxj_objects.specs.Spelling.{IsWritten}
use Rattle.cdxj_objects.specs.Texts.{TextsValue}
use Rattle.cdxj_objects.proofs.PlainLaw.{pushed}
use Rattle.cdxj_objects.proofs.spelling.push_members.Goals as goal

-- a front and a text were added to a text, which ends there
abbrev IsPushed : List ℕ → List ℕ → List ℕ → List ℕ → ℕ → Type 0
IsPushed old front text new end = (new ≡ old ++ (front ++ text)) × (end ≡ length new)

-- texts that were added behind their fronts, one after another, and where each ends
is_written : (t : TextsValue) (at : Members ℕ) (s0 s1 s2 s3 s4 s5 s6 s7 s8 : List ℕ) → at.url ≡ length s0
    → IsPushed s0 fronts.url t.url s1 at.mime → IsPushed s1 fronts.mime t.mime s2 at.status
    → IsPushed s2 fronts.status t.status s3 at.digest → IsPushed s3 fronts.digest t.digest s4 at.length
    → IsPushed s4 fronts.length t.length s5 at.offset → IsPushed s5 fronts.offset t.offset s6 at.filename
    → s7 ≡ s6 ++ (fronts.filename ++ t.filename) → s8 ≡ s7 ++ codes "\"}"
    → IsWritten s0 s8 t at
is_written t at s0 s1 s2 s3 s4 s5 s6 s7 s8 object url mime status digest size offset filename closed =
    let all = plain_pieces t in record {
      text_is = closed
          ∙ pushed (fronts.filename, t.filename) (drop 7 all) s6 s7 filename
          ∙ pushed (fronts.offset, t.offset) (drop 6 all) s5 s6 offset.0
          ∙ pushed (fronts.length, t.length) (drop 5 all) s4 s5 size.0
          ∙ pushed (fronts.digest, t.digest) (drop 4 all) s3 s4 digest.0
          ∙ pushed (fronts.status, t.status) (drop 3 all) s2 s3 status.0
          ∙ pushed (fronts.mime, t.mime) (drop 2 all) s1 s2 mime.0
          ∙ pushed (fronts.url, t.url) (drop 1 all) s0 s1 url.0;
      object = object;
      fronts = grind (arith, length-append);
    }

pub returns-clause-written : goal.returns-clause-written
returns-clause-written c =
    let t = map_members (λ member. raw_text (option_map value_view member)) c.args.members in
    is_written t _ _ _ _ _ _ _ _ _ _ (grind arith) (c.in_ok-mime.ensures.bytes, c.in_ok-mime.ensures.end)
    (c.in_ok-status.ensures.bytes, c.in_ok-status.ensures.end) (c.in_ok-digest.ensures.bytes, c.in_ok-digest.ensures.end)
    (c.in_ok-length.ensures.bytes, c.in_ok-length.ensures.end) (c.in_ok-offset.ensures.bytes, c.in_ok-offset.ensures.end)
    (c.in_ok-filename.ensures.bytes, c.in_ok-filename.ensures.end) c.in_ok-push_member.ensures.bytes
    c.in_ok-push_str.ensures.bytes
