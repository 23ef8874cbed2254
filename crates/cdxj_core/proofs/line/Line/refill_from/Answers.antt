use Rattle.std.proofs.Common.{IfSome, refl, subst, arith}
use Rattle.cdxj_core.specs.declared.limit.TheConstants.{LINE_LIMIT}
use Rattle.cdxj_core.specs.KeptLine.{IsEntryOf}
use Rattle.cdxj_core.specs.Lines.{body_of}
use Rattle.cdxj_core.specs.ReadLine.{IsReadOf}
use Rattle.cdxj_core.proofs.MemberLemmas.{entry_is_short}
use Rattle.cdxj_core.proofs.line.Line.refill_from.Goals as goal

pub returns-in-Some-Written : goal.returns-in-Some-Written
returns-in-Some-Written c =
    let body = body_of c.args.line.now in
    let read = subst (λ read. IfSome read (IsReadOf LINE_LIMIT body)) c.in-Some-Written.is c.requires in
    let entry : IsEntryOf LINE_LIMIT body c.in-Some-Written.read =
    subst (IsReadOf LINE_LIMIT body) c.in-Some-Written.field-0-is read in
    grind (arith, entry c.args.line.now refl, entry_is_short)
