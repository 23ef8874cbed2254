use Rattle.warc_head.proofs.Words.{◌≡◌, ◌+◌, Ok, length, arith, All-nil, EndsLine, IsWithin}
use Rattle.warc_head.proofs.Words.{between, field_at, fields_at, moved}
use Rattle.warc_head.specs.Fields.{field_in}
use Rattle.warc_head.proofs.UsualLemmas.{seen-more, none-more, ended-more, within-more, closes}
use Rattle.warc_head.proofs.UsualLemmas.{gives, start-none, start-seen, span-more, field-more}
use Rattle.warc_head.proofs.NameLemmas.{not_continued}
use Rattle.warc_head.proofs.field_lines.usual_fields.Goals as goal

pub lines-init : goal.lines-init
lines-init c = grind (arith, ended-more, start-seen, All-nil, start-none)

pub returns-then-stop-at : goal.returns-then-stop-at
returns-then-stop-at c =
    let kept = c.lines.invariant in
    let ends : EndsLine c.args.text.now c.lines.at c.in-Some.stop = grind arith in
    let empty : c.in-Some.stop ≡ c.lines.at = grind arith in (
      record {
        closes = closes c.args.text.now c.lines.at c.in-Some.stop ends kept.low empty kept.before kept.none;
        gives = gives c.args.text.now c.lines.at c.in-Some.stop ends kept.low empty kept.before kept.none _ kept.seen;
      },
      within-more c.lines.at (c.lines.at + 2) c.lines.spans.items (omega arith) kept.within,
    )

pub lines-preserved : goal.lines-preserved
lines-preserved c =
    let kept = c.lines.invariant in
    let text = c.args.text.now in
    let at = c.lines.at in
    let stop = c.in-Some.stop in
    let span = c.in-Some-field_in.span in
    let ends : EndsLine text at stop = grind arith in
    let line = between at stop text in
    let inside : IsWithin (length line) span = grind arith in
    let moved_is : c.moved.result ≡ moved at span = grind arith in
    let begins : field_in line ≡ Ok (field_at line span) = grind arith in
    let added = field-more text at stop ends c.lines.spans.items span inside in
    rw (c.in_ok-push.ensures.items, moved_is) (record {
      low = omega (arith, kept.low, ends.order);
      high = ends.within;
      before = ended-more text at stop ends;
      seen = rw added (seen-more text at stop ends kept.low (fields_at text c.lines.spans.items) (field_at line span) kept.seen
          (not_continued line (field_at line span) begins) begins);
      within = span-more text at stop ends c.lines.spans.items span inside kept.within;
      none = none-more text at stop ends (omega (arith, ends.order, c.if-stop-at.false)) kept.none;
    })
