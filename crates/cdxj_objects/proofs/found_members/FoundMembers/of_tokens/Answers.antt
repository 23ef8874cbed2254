use Rattle.std.proofs.Common.{arith}
use Rattle.cdxj_objects.proofs.FoundLaw.{no_brace}
use Rattle.cdxj_objects.proofs.found_members.FoundMembers.of_tokens.Goals as goal

pub returns-in_default : goal.returns-in_default
returns-in_default c = no_brace c.next.result c.args.reader.now c.next.new.self c.next.ensures.value (λ e. grind arith)
