use Rattle.std.proofs.Common.{arith}
use Rattle.std.proofs.lemmas.List.{take_rest}
use Rattle.cdxj_keys.proofs.PlainTails.{path_and_query}
use Rattle.cdxj_keys.proofs.plain_url.is_plain_tail.Goals as goal

pub returns-then-is_plain_path : goal.returns-then-is_plain_path
returns-then-is_plain_path c = grind (arith, path_and_query, take_rest)
