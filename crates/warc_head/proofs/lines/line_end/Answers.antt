use Rattle.warc_head.proofs.Words.{arith, ◌-◌, length, drop, take, take_rest, line_end}
use Rattle.std.proofs.lemmas.Bool.Decides.{Decides-eqb}
use Rattle.std.proofs.lemmas.Slice.Eq.{starts_is}
use Rattle.warc_head.proofs.LineLemmas.{ends_line, ends_no_line}
use Rattle.warc_head.proofs.lines.line_end.Goals as goal

pub returns-then-starts_with : goal.returns-then-starts_with
returns-then-starts_with c =
    let text = c.args.text.now in
    let end = c.plain_end-end.result in
    let begins = starts_is Decides-eqb (take (length text - end) (drop end text)) line_end c.starts_with.result in
    ends_line text c.args.at end c.plain_end-end.ensures
    ((rw take_rest at (begins c.starts_with.ensures.value)).0 c.if-starts_with.true)

pub returns-else-starts_with : goal.returns-else-starts_with
returns-else-starts_with c =
    let text = c.args.text.now in
    let end = c.plain_end-end.result in
    let begins = starts_is Decides-eqb (take (length text - end) (drop end text)) line_end c.starts_with.result in
    ends_no_line text c.args.at end c.plain_end-end.ensures
    (λ more e. grind (arith, (rw take_rest at (begins c.starts_with.ensures.value)).1 more))
