use Rattle.index_core.proofs.Words.{ap, drop, inl, inr}
use Rattle.std.proofs.Common.{option_map}
use Rattle.gzip_members.specs.Reading.{taken}
use Rattle.archives.specs.MemberReading.{file_ahead}
use Rattle.archives.proofs.MemberLemmas.{some_known}
use Rattle.index_core.proofs.MemberFetchLemmas.{fault_there, nothing_there, past_end}
use Rattle.index_core.proofs.member_fetching.get_member.Goals as goal

pub returns-else-reached-clause-fetches : goal.returns-else-reached-clause-fetches
returns-else-reached-clause-fetches g c =
    let archive = file_ahead (taken c.args.members.source) in
    let w = g.O.Output.written c.args.out.now in
    let ended = rw c.if-reached.false at c.in-Ok.ensures.passes in
    nothing_there c.args.asked c.args.offset w w (option_map (drop c.args.offset) archive)
    (past_end c.args.asked c.args.offset archive ended)

pub returns-in-Err-clause-fetches : goal.returns-in-Err-clause-fetches
returns-in-Err-clause-fetches g c =
    let bytes = option_map (drop c.args.offset) (file_ahead (taken c.args.members.source)) in
    let w = g.O.Output.written c.args.out.now in
    let is = c.in-Err.ensures.fault in
    rw c.from.ensures (fault_there c.args.asked c.args.offset w w c.in-Err.fault bytes (ap (λ f. f.offset) is)
    (some_known bytes λ b e. inr (inl (ap (λ f. f.cause) is))))
