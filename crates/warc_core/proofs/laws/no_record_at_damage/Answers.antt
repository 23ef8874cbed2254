use Rattle.warc_core.proofs.ArchiveLemmas.{no-record}
use Rattle.warc_core.proofs.laws.no_record_at_damage.Goals as goal

pub returns : goal.returns
returns c = no-record
