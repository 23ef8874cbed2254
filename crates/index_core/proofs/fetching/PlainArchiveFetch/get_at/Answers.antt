use Rattle.index_core.proofs.Words.{HEAD_LIMIT, ap, refl, Fault}
use Rattle.index_core.proofs.FetchLemmas.{unread_stops_at}
use Rattle.index_core.proofs.fetching.PlainArchiveFetch.get_at.Goals as goal

pub returns-in-Err-clause-fetches : goal.returns-in-Err-clause-fetches
returns-in-Err-clause-fetches g c =
    let none = c.args.self.now.memory c.in-Err.field-0 c.in-Err.is in
    let fault : Fault = record { offset = c.args.offset; cause = c.in-Err.field-0.cause } in
    rw (c.in-Err.is, c.from.ensures) (unread_stops_at HEAD_LIMIT c.args.offset c.args.length fault _ _ refl
    (ap (λ f. f.cause) none) c.if-offset-gt-GREATEST_OFFSET.false)
