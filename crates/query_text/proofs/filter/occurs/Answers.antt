use Rattle.std.proofs.Common.{arith}
use Rattle.std.proofs.lemmas.Str.Pattern.{contains_text}
use Rattle.query_text.proofs.Occurs.{occurs_found}
use Rattle.query_text.proofs.filter.occurs.Goals as goal

pub returns : goal.returns
returns c = occurs_found c.args.text.now c.args.value.now c.contains.result
    (grind (arith, contains_text))
