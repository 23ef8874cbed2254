use Rattle.std.proofs.Common.{◌≡◌, ◌++◌, ◌≤◌, length}
use Rattle.cdxj_keys.proofs.Labels.{reversed_text}
use Rattle.cdxj_keys.proofs.host.push_reversed.Given as goal

abbrev pub invariant-loop-dot : goal.invariant-loop-dot
invariant-loop-dot l = record {
  whole : l.text.items ++ reversed_text l.rest ≡ l.initial.text.items ++ reversed_text l.domain;
  short : length l.rest ≤ length l.domain;
}

abbrev pub decreases-loop-dot : goal.decreases-loop-dot
decreases-loop-dot l = length l.rest
