use Rattle.std.proofs.Common.{◌≡◌, get_or, arith}
use Rattle.cdxj_objects.proofs.PlainCuts.{decimal_to}
use Rattle.cdxj_objects.proofs.plain.decimal_to.Goals as goal

pub returns : goal.returns
returns c =
    let text = c.args.text.now in
    let count = c.in_ok-count.count in
    let single : get_or text c.args.start 0 ≡ 48 → count ≡ 1 = grind arith in
    let ok = c.in_ok-count.ensures in
    decimal_to text c.args.start count ok.long ok.digits ok.few.0 ok.few.1 single
