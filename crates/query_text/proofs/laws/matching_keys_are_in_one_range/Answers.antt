use Rattle.query_text.proofs.RangeLaw.{match_not_below, past_upward}
use Rattle.query_text.proofs.laws.matching_keys_are_in_one_range.Goals as goal

pub returns-clause-low : goal.returns-clause-low
returns-clause-low c = match_not_below

pub returns-clause-upward : goal.returns-clause-upward
returns-clause-upward c = past_upward
