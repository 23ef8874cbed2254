use Rattle.std.proofs.Common.{arith}
use Rattle.std.proofs.lemmas.Str.{IsUtf8-string_bytes}
use Rattle.cdxj_core.proofs.entry.Entry.see_texts.Goals as goal

pub returns : goal.returns
returns c = rw (← c.self.view_is) (grind (arith, IsUtf8-string_bytes))
