use Rattle.std.proofs.Common.{arith}
use Rattle.gzip_members.specs.Left.{left_of}
use Rattle.gzip_members.proofs.TextLemmas.{behind-read, text-read}
use Rattle.gzip_members.proofs.member_text.MemberTextInput.read.Goals as goal

pub invariant_of-self : goal.invariant_of-self
invariant_of-self g c =
    let old = c.args.self.now in record {
      behind = λ behind e.
          behind-read (left_of old.members) (left_of c.read.new.self) c.read.result c.read.new.piece c.read.ensures.text c.read.ensures.err behind
          (old.behind behind e);
      onward = omega (arith, old.onward, c.read.ensures.moves.onward);
      counted = λ total e. c.read.ensures.moves.counted total (old.counted total e);
    }

pub returns-clause-bytes : goal.returns-clause-bytes
returns-clause-bytes g c =
    text-read (left_of c.args.self.now.members) (left_of c.read.new.self) c.read.result c.read.new.piece c.read.ensures.text c.read.ensures.err
    c.read.ensures.end
