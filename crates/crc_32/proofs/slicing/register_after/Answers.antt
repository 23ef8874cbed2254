use Rattle.std.proofs.Common.{◌≡◌, ℕ, ◌+◌, ◌%◌, ◌^◌, ◌≤◌, List, length, drop, bit_xor, ap, sym, ◌∙◌, arith, rules}
use Rattle.deflate_bits.specs.Bits.{little_endian}
use Rattle.crc_32.specs.Crc.{crc_bits, crc_register}
use Rattle.crc_32.proofs.CrcLemmas.{block_step}
use Rattle.crc_32.proofs.slicing.register_after.Goals as goal

pub sixteen-preserved : goal.sixteen-preserved
sixteen-preserved c =
    let s : List ℕ = c.args.bytes.now in
    let at : ℕ = c.sixteen.at in
    let r : ℕ = c.sixteen.crc in
    let room : at + 16 ≤ length s = omega arith in
    let low : ℕ = little_endian (drop at s) % 2 ^ 64 in
    let high : ℕ = little_endian (drop (at + 8) s) % 2 ^ 64 in
    let second : c.word_part-second.result ≡ crc_bits 64 high =
    c.word_part-second.ensures ∙ ap (λ (v : ℕ). crc_bits 64 v) c.word_at.ensures in
    let first : c.word_part-first.result ≡ crc_bits 128 (bit_xor low r) =
    c.word_part-first.ensures ∙ ap (λ (v : ℕ). crc_bits 128 (bit_xor v r)) c.word_at-in-sixteen.ensures in
    record {
      within = room;
      same =
          ap (λ (v : ℕ). crc_register (bit_xor v c.word_part-first.result) (drop (at + 16) s)) second
          ∙ ap (λ (v : ℕ). crc_register (bit_xor (crc_bits 64 high) v) (drop (at + 16) s)) first
          ∙ sym (block_step r s at (λ i. search (rules, c.type_inv.bytes i)) room) ∙ c.sixteen.invariant.same;
    }
