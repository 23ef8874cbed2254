use Rattle.warc_head.proofs.Words.{◌-◌, ◌≤◌, length, AllPassBetween, is_content}
use Rattle.warc_head.proofs.lines.plain_end.Given as goal

abbrev pub invariant-wide : goal.invariant-wide
invariant-wide l = (l.from ≤ l.at) × (l.at ≤ length l.text) × AllPassBetween is_content l.text l.from l.at

abbrev pub decreases-wide : goal.decreases-wide
decreases-wide l = length l.text - l.at

abbrev pub invariant-narrow : goal.invariant-narrow
invariant-narrow l = (l.from ≤ l.at) × (l.at ≤ length l.text) × AllPassBetween is_content l.text l.from l.at

abbrev pub decreases-narrow : goal.decreases-narrow
decreases-narrow l = length l.text - l.at

abbrev pub invariant-bytes : goal.invariant-bytes
invariant-bytes l = (l.from ≤ l.at) × (l.at ≤ length l.text) × AllPassBetween is_content l.text l.from l.at

abbrev pub decreases-bytes : goal.decreases-bytes
decreases-bytes l = length l.text - l.at
