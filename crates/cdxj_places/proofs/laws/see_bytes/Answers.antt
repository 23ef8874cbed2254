use Rattle.std.proofs.Common.{ℕ, ◌<◌, arith}
use Rattle.std.proofs.lemmas.List.Elements.{All-from_get_or}
use Rattle.cdxj_places.proofs.laws.see_bytes.Goals as goal

pub returns : goal.returns
returns c = All-from_get_or (λ (b : ℕ). b < 256) c.args.bytes.now 0 (λ i l. omega (arith, c.type_inv.bytes i))
