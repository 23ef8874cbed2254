use Rattle.warc_core.proofs.Words.{◌-◌, ◌≤◌, length}
use Rattle.warc_core.proofs.ClosingLemmas.{NoneBetween}
use Rattle.warc_core.proofs.head_text.closing_end.Given as goal

abbrev pub invariant-blocks-2 : goal.invariant-blocks-2
invariant-blocks-2 l = record {
  behind : l.before - 3 ≤ l.at;
  within : l.at ≤ length l.text;
  none : NoneBetween l.text l.before l.at;
}

abbrev pub decreases-blocks-2 : goal.decreases-blocks-2
decreases-blocks-2 l = length l.text - l.at
