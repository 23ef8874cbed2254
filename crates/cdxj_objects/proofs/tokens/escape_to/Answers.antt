use Rattle.std.proofs.Common.{arith}
use Rattle.cdxj_objects.proofs.EscapeLaw.{short_to, unit_to}
use Rattle.cdxj_objects.proofs.tokens.escape_to.Goals as goal

pub returns-then-is_short_escape : goal.returns-then-is_short_escape
returns-then-is_short_escape c =
    short_to c.args.text.now c.args.at (omega (arith, c.if-text-at-lt2.false, c.requires.within)) c.requires.backslash
    (grind arith)

pub returns-then-is_code_unit : goal.returns-then-is_code_unit
returns-then-is_code_unit c =
    unit_to c.args.text.now c.args.at (omega (arith, c.is_code_unit.ensures.within c.if-is_code_unit.true))
    c.requires.backslash (grind arith) (c.is_code_unit.ensures.digits c.if-is_code_unit.true)
