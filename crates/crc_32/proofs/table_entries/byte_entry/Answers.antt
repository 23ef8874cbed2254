use Rattle.std.proofs.Common.{◌≡◌, ℕ, suc, ◌+◌, ◌-◌, ap, sym, ◌∙◌, arith}
use Rattle.crc_32.specs.Crc.{crc_bits}
use Rattle.crc_32.proofs.CrcLemmas.{crc_bits-suc, crc_bits-none}
use Rattle.crc_32.proofs.table_entries.byte_entry.Goals as goal

pub bits-preserved : goal.bits-preserved
bits-preserved c =
    let n : ℕ = 8 - (c.bits.counter + 1) in
    let e : 8 - c.bits.counter ≡ suc n = omega arith in
    ap (λ (v : ℕ). crc_bits n v) c.bit_step-register.ensures ∙ sym (crc_bits-suc n c.bits.register)
    ∙ ap (λ (v : ℕ). crc_bits v c.bits.register) (sym e) ∙ c.bits.invariant

pub returns : goal.returns
returns c =
    let e : 0 ≡ 8 - c.bits.counter = omega arith in
    sym (crc_bits-none c.bits.register) ∙ ap (λ (v : ℕ). crc_bits v c.bits.register) e ∙ c.bits.invariant
