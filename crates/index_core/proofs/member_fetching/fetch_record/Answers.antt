use Rattle.index_core.proofs.Words.{HEAD_LIMIT, arith, Ok, Err, sym, ◌∙◌, IfSome, Archive}
use Rattle.gzip_members.specs.Left.{left_of}
use Rattle.gzip_members.specs.Reading.{taken}
use Rattle.archives.proofs.RecordLemmas.{counts_closed}
use Rattle.index_core.specs.FetchingIn.{FetchesMember, IsOfLength, WritesOfMember}
use Rattle.index_core.specs.declared.fault.IndexFault.TheVariants as faults
use Rattle.index_core.proofs.MemberFetchLemmas.{by_known, counted_in, member_stopped, output_stopped, record_fetched}
use Rattle.index_core.proofs.MemberFetchLemmas.{record_stopped, record_unasked, writes_record}
use Rattle.index_core.proofs.member_fetching.fetch_record.Goals as goal

pub returns-then-has_length-clause-fetches : goal.returns-then-has_length-clause-fetches
returns-then-has_length-clause-fetches g c = λ known k.
    let e = c.in-Ok-end_record.ensures in
    let read = c.copy-members in
    let mid = read.result.members in
    let w = g.O.Output.written c.args.out.now in
    let u = g.O.Output.written read.new.out in
    let copied = rw c.in-Ok.is at read.ensures.copies in
    let has : IsOfLength c.args.asked c.in-Ok-end_record.place.length = grind arith in
    by_known _ (λ known. FetchesMember HEAD_LIMIT c.args.asked c.args.start known (Ok c.in-Ok.length) w u) known
    (copied.wrote.front, copied.ends.0, copied.wrote.grown, tt)
    (λ bytes holds. record_fetched c.args.start bytes c.args.head.now (left_of c.args.members) (left_of mid)
    (taken c.args.members.source) (taken mid.source) (taken c.end_record.new.members.source)
    read.new.reader.held _ w u holds
    read.ensures.on c.requires.opens.begins.start_is c.in-Ok.length
    c.in-Ok-end_record.place e.moves copied e.place e.closes c.args.asked has)
    k

pub returns-else-has_length-clause-fetches : goal.returns-else-has_length-clause-fetches
returns-else-has_length-clause-fetches g c = λ known k.
    let e = c.in-Ok-end_record.ensures in
    let read = c.copy-members in
    let mid = read.result.members in
    let w = g.O.Output.written c.args.out.now in
    let u = g.O.Output.written read.new.out in
    let copied = rw c.in-Ok.is at read.ensures.copies in
    let other : IsOfLength c.args.asked c.in-Ok-end_record.place.length → ⊥ = grind arith in
    by_known _ (λ known. FetchesMember HEAD_LIMIT c.args.asked c.args.start known (Err faults.NoRecord) w u) known
    tt
    (λ bytes holds. record_unasked c.args.start bytes c.args.head.now (left_of c.args.members) (left_of mid)
    (taken c.args.members.source) (taken mid.source) (taken c.end_record.new.members.source)
    read.new.reader.held _ w u holds
    read.ensures.on c.requires.opens.begins.start_is c.in-Ok.length
    c.in-Ok-end_record.place e.moves copied e.place e.closes c.args.asked other)
    k

pub returns-in-Err-end_record-clause-fetches : goal.returns-in-Err-end_record-clause-fetches
returns-in-Err-end_record-clause-fetches g c = λ known k.
    let e = c.in-Err-end_record.ensures in
    let f = c.in-Err-end_record.fault in
    let read = c.copy-members in
    let mid = read.result.members in
    let w = g.O.Output.written c.args.out.now in
    let u = g.O.Output.written read.new.out in
    let copied = rw c.in-Ok.is at read.ensures.copies in
    rw c.from.ensures (by_known _
    (λ known. FetchesMember HEAD_LIMIT c.args.asked c.args.start known (Err (faults.Capture (Archive f))) w u) known
    (e.at, tt)
    (λ bytes holds. member_stopped c.args.start bytes c.args.head.now (left_of c.args.members) (left_of mid)
    (taken c.args.members.source) (taken mid.source) (taken c.end_record.new.members.source)
    read.new.reader.held _ w u holds
    read.ensures.on c.requires.opens.begins.start_is c.args.asked c.in-Ok.length f e.at
    copied e.closes)
    k)

pub returns-in-Some-clause-fetches : goal.returns-in-Some-clause-fetches
returns-in-Some-clause-fetches g c = λ known k.
    let e = c.end_fault-fault in
    let read = c.copy-members in
    let mid = read.result.members in
    let w = g.O.Output.written c.args.out.now in
    let u = g.O.Output.written read.new.out in
    let copied = rw c.in-Err.is at read.ensures.copies in
    rw c.from-in-Some.ensures (by_known _
    (λ known. FetchesMember HEAD_LIMIT c.args.asked c.args.start known (Err (faults.Capture (Archive e.result))) w u)
    known
    (e.ensures.at, tt)
    (λ bytes holds. record_stopped c.args.start bytes c.args.head.now (left_of c.args.members) (left_of mid)
    (taken c.args.members.source) (taken mid.source) (taken e.new.members.source) read.new.reader.held _ w u holds
    read.ensures.on c.requires.opens.begins.start_is c.args.asked c.in-Err.fault c.in-Some.cause
    e.result e.ensures.at (sym c.cause_in.ensures ∙ c.in-Some.is) copied e.ensures.closes)
    k)

pub returns-in-Some-clause-reads : goal.returns-in-Some-clause-reads
returns-in-Some-clause-reads g c =
    let e = c.end_fault-fault in
    rw c.from-in-Some.ensures (counts_closed c.in-Some.cause e.result.cause _ _ _
    (counted_in c.in-Err.fault c.in-Some.cause _ _ (sym c.cause_in.ensures ∙ c.in-Some.is)
    (rw c.in-Err.is at c.copy-members.ensures.reads)) e.ensures.failures)

pub returns-in-None-clause-fetches : goal.returns-in-None-clause-fetches
returns-in-None-clause-fetches g c = λ known k.
    let read = c.copy-members in
    let mid = read.result.members in
    let w = g.O.Output.written c.args.out.now in
    let u = g.O.Output.written read.new.out in
    let copied = rw c.in-Err.is at read.ensures.copies in
    output_stopped c.args.asked c.args.start w u c.args.head.now c.in-Err.fault known _ _
    (sym c.cause_in.ensures ∙ c.in-None.is) copied
    (by_known _ (λ known. IfSome known (λ bytes. WritesOfMember HEAD_LIMIT bytes w u)) known
    tt
    (λ bytes holds. writes_record c.args.start bytes c.args.head.now (left_of c.args.members) (left_of mid)
    (taken c.args.members.source) (taken mid.source) (taken mid.source) read.new.reader.held _ w u holds
    read.ensures.on c.requires.opens.begins.start_is (Err c.in-Err.fault) _ copied)
    k)
