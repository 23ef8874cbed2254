use Rattle.std.proofs.Common.{ℕ, ◌-◌, ◌^◌, bit_xor, ap, sym, ◌∙◌}
use Rattle.crc_32.specs.Crc.{crc_register}
use Rattle.crc_32.proofs.CrcLemmas.{crc_register-append, turned}
use Rattle.crc_32.proofs.checksum.Crc32.update.Goals as goal

pub returns-clause-text : goal.returns-clause-text
returns-clause-text c =
    λ text e.
    ap (λ (v : ℕ). bit_xor v (2 ^ 32 - 1)) (c.register_after.ensures
    ∙ ap (λ (v : ℕ). crc_register v c.args.bytes.now) (turned (crc_register (2 ^ 32 - 1) text) c.args.checksum e)
    ∙ sym (crc_register-append (2 ^ 32 - 1) text c.args.bytes.now))
