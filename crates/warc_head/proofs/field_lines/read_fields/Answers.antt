use Rattle.warc_head.proofs.Words.{common_steps, ◌≡◌, ◌∙◌, ◌+◌, ℕ, List, length, take, drop, arith}
use Rattle.warc_head.proofs.Words.{append-nil, length-take-le, Field, EndsLine, IsWithin, between}
use Rattle.warc_head.proofs.Words.{field_at, fields_at, moved}
use Rattle.warc_head.proofs.FieldLemmas.{going, going-start, going-end, going-fault, going-first}
use Rattle.warc_head.proofs.FieldLemmas.{going-unnamed, going-began, going-continued, body_is}
use Rattle.warc_head.proofs.SpanLemmas.{field_added, span_added, Continues-trans}
use Rattle.warc_head.proofs.ReadLemmas.{size, filled, ended, line_is, line_held, inside_text}
use Rattle.warc_head.proofs.field_lines.read_fields.Goals.{In-Some}
use Rattle.warc_head.proofs.field_lines.read_fields.Goals.{then-continues+in_ok-continue_field}
use Rattle.warc_head.proofs.field_lines.read_fields.Goals.{else-continues+in-Some-field_in+in_ok-push}
use Rattle.warc_head.specs.declared.fault.HeadFault.TheVariants as faults
use Rattle.warc_head.proofs.field_lines.read_fields.Goals as goal

pub lines-init : goal.lines-init
lines-init c = grind (arith, going-start, body_is, append-nil)

pub returns-in_default-clause-answer : goal.returns-in_default-clause-answer
returns-in_default-clause-answer c = grind (arith, common_steps, going-fault, filled)

-- where a line stands
module _ (c : In-Some) where
  abbrev raw : List ℕ
  raw = c.args.text.now.items

  abbrev text : List ℕ
  text = c.lines.text.items

  abbrev end : ℕ
  end = c.saturating_sub-end.result

  abbrev at : ℕ
  at = c.lines.at

  abbrev stop : ℕ
  stop = c.in-Some.stop

  abbrev seen : List Field
  seen = fields_at text c.lines.spans.items

  ends : EndsLine (take end text) at stop
  ends = grind arith

  line : EndsLine (take end raw) at stop
  line = ended raw text c.lines.invariant.text end at c.lines.invariant.end stop (grind arith)

  same : between at stop text ≡ between at stop (take end raw)
  same = grind (arith, line_is)

pub returns-in_err-continue_field-clause-answer : goal.returns-in_err-continue_field-clause-answer
returns-in_err-continue_field-clause-answer c = grind (arith, common_steps, same, going, going-first, line)

pub returns-in_default-field_in-clause-answer : goal.returns-in_default-field_in-clause-answer
returns-in_default-field_in-clause-answer c =
    let d = (goal.at.returns-in_default-field_in-clause-answer c).In-Some in
    let this_is = same d in
    c.lines.invariant.fields ∙ going-unnamed _ _ _ (line d).line (seen d) faults.FieldLine (grind arith) (grind arith)

pub lines-preserved : goal.lines-preserved
lines-preserved c =
    let d = (goal.at.lines-preserved c).In-Some in
    let rest = drop (at d) (take (end d) (raw d)) in
    let this = between (at d) (stop d) (take (end d) (raw d)) in
    let later = drop (stop d + 2) (take (end d) (raw d)) in
    let kept = c.lines.invariant in
    let this_is = same d in
    elim c.if-continues.branch [
      | then-continues+in_ok-continue_field w ↦ (
          let e = w.in_ok-continue_field.ensures.fields in
          let on = going-continued rest this later (line d).line e.0 e.1 (grind arith) in
          rw (w.text-is, w.spans-is) (record {
            fields = grind arith;
            text = Continues-trans (raw d) (text d) w.continue_field.new.text.items kept.text
                w.in_ok-continue_field.ensures.text;
            within = w.in_ok-continue_field.ensures.within;
            end = kept.end;
          }))
      | else-continues+in-Some-field_in+in_ok-push w ↦ (
          let span = w.in-Some-field_in.span in
          let before = take (at d) (text d) in
          let stored = between (at d) (stop d) (text d) in
          let front : length before ≡ at d = grind (arith, length-take-le, line, inside_text, ends) in
          let held = line_held (raw d) (text d) kept.text (end d) (at d) kept.end (stop d) (ends d) in
          let moved_is : w.moved.result ≡ moved (length before) span = grind arith in
          let inside : IsWithin (length stored) span = grind arith in
          let added = field_added (text d) before stored (drop (stop d) (text d)) c.lines.spans.items span held inside
          in
          let began = going-began rest this later (line d).line (seen d) (field_at stored span) (grind arith)
          (grind arith) in
          rw (w.text-is, w.spans-is, w.in_ok-push.ensures.items, moved_is) (record {
            fields = rw added (kept.fields ∙ began);
            text = kept.text;
            within = grind (arith, span_added);
            end = kept.end;
          }))
    ]

pub returns-clause-answer : goal.returns-clause-answer
returns-clause-answer c = grind (arith, common_steps, size, going, going-end)
