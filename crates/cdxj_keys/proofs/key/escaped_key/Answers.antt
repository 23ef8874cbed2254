use Rattle.std.proofs.Common.{◌<◌, ℕ, arith}
use Rattle.std.proofs.lemmas.List.Elements.{All-from_get_or}
use Rattle.cdxj_keys.proofs.FoldedKey.{folded_is_key}
use Rattle.cdxj_keys.proofs.key.escaped_key.Goals as goal

pub returns-clause-key : goal.returns-clause-key
returns-clause-key c =
    let text = c.args.text.now in
    let small = All-from_get_or (λ (b : ℕ). b < 256) text 0 (λ i below. omega (arith, c.type_inv.text i)) in
    grind (arith, folded_is_key)
