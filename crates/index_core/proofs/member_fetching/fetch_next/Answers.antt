use Rattle.index_core.proofs.Words.{Ok}
use Rattle.std.proofs.Common.{true, false}
use Rattle.gzip_members.specs.Left.{left_of}
use Rattle.gzip_members.specs.Reading.{taken}
use Rattle.archives.specs.MemberReading.{file_ahead}
use Rattle.archives.proofs.MemberLemmas.{IsBegun, begins_ok}
use Rattle.index_core.proofs.MemberFetchLemmas.{near_known, none_begun, not_begun_at, nothing_there}
use Rattle.index_core.proofs.member_fetching.fetch_next.Goals as goal

pub returns-then-begins-clause-fetches : goal.returns-then-begins-clause-fetches
returns-then-begins-clause-fetches g c =
    let old = taken c.args.members.source in
    let new = c.begin.new.self in
    let member : IsBegun old (Ok true) (left_of new) = rw c.if-begins.true at c.in-Ok.ensures.member in
    c.fetch_begun.ensures.fetches (file_ahead old)
    (near_known old _ (begins_ok old (taken new.source) true (left_of new) member c.in-Ok.ensures.moves))

pub returns-else-begins-clause-fetches : goal.returns-else-begins-clause-fetches
returns-else-begins-clause-fetches g c =
    let old = taken c.args.members.source in
    let w = g.O.Output.written c.args.out.now in
    let left = left_of c.begin.new.self in
    let member : IsBegun old (Ok false) left = rw c.if-begins.false at c.in-Ok.ensures.member in
    nothing_there c.args.asked old.passed w w (file_ahead old) (none_begun c.args.asked old left member)

pub returns-in-Err-clause-fetches : goal.returns-in-Err-clause-fetches
returns-in-Err-clause-fetches g c =
    let old = taken c.args.members.source in
    rw c.not_begun.ensures (not_begun_at c.args.asked old (left_of c.begin.new.self) c.in-Err.fault
    (g.O.Output.written c.args.out.now) c.in-Err.ensures.member)
