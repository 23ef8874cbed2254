use Rattle.warc_head.proofs.Words.{◌≡◌, length, All, IsWithin, fields_at}
use Rattle.warc_head.specs.Fields.{value_of}
use Rattle.warc_head.proofs.spans.value_of.Given as goal

abbrev pub invariant-loop-first : goal.invariant-loop-first
invariant-loop-first l = record {
  value : value_of l.name (fields_at l.text l.spans) ≡ value_of l.name (fields_at l.text l.rest);
  within : All (IsWithin (length l.text)) l.rest;
}

abbrev pub decreases-loop-first : goal.decreases-loop-first
decreases-loop-first l = length l.rest
