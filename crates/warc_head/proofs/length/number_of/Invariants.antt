use Rattle.warc_head.proofs.Words.{◌≡◌, ◌-◌, ◌≤◌, ◌<◌, ◌^◌, length}
use Rattle.warc_head.specs.Length.{number_of, number_after, all_digits}
use Rattle.warc_head.proofs.length.number_of.Given as goal

abbrev pub invariant-loop-first : goal.invariant-loop-first
invariant-loop-first l = record {
  same : number_of l.text ≡ number_after l.number l.rest;
  digits : all_digits l.text ≡ all_digits l.rest;
  few : length l.rest ≤ 19;
  small : l.number < 10 ^ (19 - length l.rest);
}

abbrev pub decreases-loop-first : goal.decreases-loop-first
decreases-loop-first l = length l.rest
