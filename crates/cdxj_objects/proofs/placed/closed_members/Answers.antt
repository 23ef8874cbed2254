use Rattle.std.proofs.Common.{◌≡◌, ◌+◌, false, get_or, arith}
use Rattle.std.specs.Char.{is_ascii_digit}
use Rattle.cdxj_objects.proofs.PlacedLaw.{closed_placed}
use Rattle.cdxj_objects.proofs.PlainPlaces.{begun_order}
use Rattle.cdxj_objects.proofs.placed.closed_members.Goals as goal

pub texts_behind-texts-requires : goal.texts_behind-texts-requires
texts_behind-texts-requires c = begun_order c.args.text.now c.args.object c.args.fronts.now c.requires.begun

pub returns : goal.returns
returns c =
    let text = c.args.text.now in
    let closed = rw c.as_bytes-bytes.ensures.value at (c.is_closed.ensures c.if-not-is_closed.false) in
    let name : is_ascii_digit (get_or text (c.args.fronts.now.at.filename + 16) 0) ≡ false =
    grind (arith, c.is_ascii_digit.ensures.value, c.if-is_ascii_digit.false, c.texts_behind-texts.ensures, c.as_bytes-bytes.ensures.value) in
    rw c.texts_behind-texts.ensures (closed_placed text c.args.object c.args.fronts.now c.utf8.text c.requires.printable
    c.requires.begun closed name)
