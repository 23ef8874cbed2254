use Rattle.warc_core.proofs.DamageLemmas.{head-spelled, head-at-damage}
use Rattle.warc_core.proofs.laws.head_is_spelled.Goals as goal

pub returns : goal.returns
returns c = record { read = head-spelled; damaged = head-at-damage }
