use Rattle.warc_head.proofs.Words.{◌-◌, ◌≤◌, length, AllPassBetween, is_name_byte}
use Rattle.warc_head.proofs.field_lines.letters_end.Given as goal

abbrev pub invariant-steps : goal.invariant-steps
invariant-steps l = (l.at ≤ length l.line) × AllPassBetween is_name_byte l.line 0 l.at

abbrev pub decreases-steps : goal.decreases-steps
decreases-steps l = length l.line - l.at
