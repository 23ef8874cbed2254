use Rattle.warc_head.proofs.Words.{◌≡◌, ◌-◌, ◌≤◌, length, take, drop, All, field_lines_in}
use Rattle.warc_head.proofs.Words.{Continues, IsWithin, fields_at}
use Rattle.warc_head.specs.Fields.{fields_of}
use Rattle.warc_head.proofs.FieldLemmas.{going}
use Rattle.warc_head.proofs.field_lines.read_fields.Given as goal

abbrev pub invariant-lines : goal.invariant-lines
invariant-lines l = record {
  fields : fields_of (field_lines_in l.fn.text.items)
      ≡ going (fields_at l.text.items l.spans.items) (drop l.at (take l.end l.fn.text.items));
  text : Continues l.fn.text.items l.text.items;
  within : All (IsWithin (length l.text.items)) l.spans.items;
  end : l.end ≤ length l.fn.text.items;
}

abbrev pub decreases-lines : goal.decreases-lines
decreases-lines l = l.end - l.at
