use Rattle.index_core.proofs.Words.{HEAD_LIMIT, arith, inl, inr, IfSome, ◌<◌}
use Rattle.gzip_members.specs.Reading.{taken}
use Rattle.index_core.specs.FetchingIn.{HoldsNone, IsMemberFault}
use Rattle.index_core.proofs.MemberFetchLemmas.{by_known, fault_there, holds_nothing, member_fault_is, nothing_there}
use Rattle.index_core.proofs.member_fetching.fetch_begun.Goals as goal

pub returns-in-Ok-Empty-clause-fetches : goal.returns-in-Ok-Empty-clause-fetches
returns-in-Ok-Empty-clause-fetches g c = λ known k.
    let opened = c.open_begun-members in
    let w = g.O.Output.written c.args.out.now in
    let new = taken opened.result.members.source in
    let further : c.args.start < new.passed = omega (arith, c.requires, opened.ensures.onward) in
    let opens = rw (c.in-Ok-Empty.is, c.in-Ok-Empty.field-0-is) at opened.ensures.opens in
    nothing_there c.args.asked c.args.start w w known
    (by_known _ (λ known. IfSome known (λ bytes. HoldsNone HEAD_LIMIT bytes c.args.asked)) known
    tt
    (λ bytes s. inr (inr (inl (holds_nothing c.args.start bytes s.1.0 new further (opens bytes s.1 s.0)))))
    k)

pub returns-in-Err-clause-fetches : goal.returns-in-Err-clause-fetches
returns-in-Err-clause-fetches g c = λ known k.
    let opened = c.open_begun-members in
    let w = g.O.Output.written c.args.out.now in
    let f = c.in-Err.fault in
    let opens = rw c.in-Err.is at opened.ensures.opens in
    let at = rw c.in-Err.is at opened.ensures.at in
    rw c.from.ensures (fault_there c.args.asked c.args.start w w f known at
    (by_known _ (λ known. IfSome known (λ bytes. IsMemberFault HEAD_LIMIT bytes f.cause)) known
    tt
    (λ bytes s. member_fault_is c.args.start bytes s.1.0 f at (opens bytes s.1 s.0))
    k))
