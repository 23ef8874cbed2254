use Rattle.index_core.proofs.PlainArchives.{plain_is_damaged, plain_is_whole}
use Rattle.index_core.proofs.laws.plain_archive_is_its_records.Goals as goal

pub returns : goal.returns
returns c = record { whole = plain_is_whole; damaged = plain_is_damaged }
