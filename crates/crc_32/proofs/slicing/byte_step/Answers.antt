use Rattle.std.proofs.Common.{◌≡◌, ℕ, ◌+◌, ◌*◌, ◌/◌, ◌%◌, get_or, bit_xor, ap, sym, ◌∙◌, arith}
use Rattle.std.proofs.lemmas.Nat.{xor_shr, mod_below}
use lib.Bits.{xor_zero_r}
use Rattle.crc_32.specs.Crc.{crc_bits}
use Rattle.crc_32.proofs.CrcLemmas.{by_byte, crc_bits-none, table_entry}
use Rattle.crc_32.proofs.slicing.byte_step.Goals as goal

pub returns : goal.returns
returns c =
    let r : ℕ = c.args.register in
    let b : ℕ = c.args.byte in
    let x : ℕ = bit_xor r b in
    let small : b / 256 ≡ 0 = omega arith in
    let split : x / 256 ≡ bit_xor (r / 256) (b / 256) = xor_shr r b 8 in
    let high : r / 256 ≡ x / 256 = sym (split ∙ ap (λ (v : ℕ). bit_xor (r / 256) v) small ∙ xor_zero_r (r / 256)) in
    let place : x % 256 ≡ 256 * 0 + x % 256 = omega arith in
    let entry : get_or c.args.tables.now (x % 256) 0 ≡ crc_bits 8 (x % 256) =
    ap (λ (v : ℕ). get_or c.args.tables.now v 0) place ∙ table_entry c.args.tables.now 256 0 (x % 256) c.requires (omega (arith, mod_below x 256)) (mod_below x 256 (omega arith)) in
    ap (λ (v : ℕ). bit_xor v (get_or c.args.tables.now (x % 256) 0)) high
    ∙ ap (λ (v : ℕ). bit_xor (x / 256) v) entry
    ∙ ap (λ (v : ℕ). bit_xor v (crc_bits 8 (x % 256))) (sym (crc_bits-none (x / 256)))
    ∙ sym (by_byte 0 x)
