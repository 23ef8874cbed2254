use Rattle.warc_core.proofs.Words.{append-nil, []}
use Rattle.warc_core.proofs.ArchiveLemmas.{spelled-walk, end_of}
use Rattle.warc_core.proofs.laws.archive_is_its_records.Goals as goal

pub returns-clause-read : goal.returns-clause-read
returns-clause-read c limit heads texts a =
    let walks = spelled-walk limit 0 heads texts [] a in
    record { end = end_of 0 heads; walks = rw append-nil at walks }
