use Rattle.warc_head.proofs.Words.{◌≡◌, ◌-◌, ◌≤◌, length, take, drop, All, line_end, IsWithin}
use Rattle.warc_head.proofs.Words.{fields_at}
use Rattle.warc_head.proofs.UsualLemmas.{NoneBefore, Seen}
use Rattle.warc_head.proofs.field_lines.usual_fields.Given as goal

abbrev pub invariant-lines : goal.invariant-lines
invariant-lines l = record {
  low : 10 ≤ l.at;
  high : l.at ≤ length l.text;
  before : take 2 (drop (l.at - 2) l.text) ≡ line_end;
  seen : Seen l.text l.at (fields_at l.text l.spans.items);
  within : All (IsWithin l.at) l.spans.items;
  none : NoneBefore l.text l.at;
}

abbrev pub decreases-lines : goal.decreases-lines
decreases-lines l = length l.text - l.at
