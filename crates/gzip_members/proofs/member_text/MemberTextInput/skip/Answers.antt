use Rattle.std.proofs.Common.{arith}
use Rattle.gzip_members.specs.Left.{left_of}
use Rattle.gzip_members.proofs.TextLemmas.{behind-skipped, text-skipped}
use Rattle.gzip_members.proofs.member_text.MemberTextInput.skip.Goals as goal

pub invariant_of-self : goal.invariant_of-self
invariant_of-self g c =
    let old = c.args.self.now in record {
      behind = λ behind e.
          behind-skipped (left_of old.members) (left_of c.skip.new.self) c.skip.result c.skip.ensures.text c.skip.ensures.err behind
          (old.behind behind e);
      onward = omega (arith, old.onward, c.skip.ensures.moves.onward);
      counted = λ total e. c.skip.ensures.moves.counted total (old.counted total e);
    }

pub returns-clause-bytes : goal.returns-clause-bytes
returns-clause-bytes g c =
    text-skipped (left_of c.args.self.now.members) (left_of c.skip.new.self) c.skip.result c.skip.ensures.text c.skip.ensures.err
