use Rattle.std.proofs.Common.{◌≡◌, ℕ, ◌+◌, ◌-◌, ◌*◌, ◌/◌, ◌%◌, List, bit_xor, get_or, ap, sym, subst, ◌∙◌, arith}
use Rattle.std.proofs.lemmas.Grind.{common_steps}
use Rattle.crc_32.specs.Crc.{crc_bits}
use Rattle.crc_32.specs.Tables.{HasEntries}
use Rattle.crc_32.proofs.CrcLemmas.{next_entry, one_more}
use Rattle.crc_32.proofs.table_entries.table_entries.Goals as goal

pub others-preserved : goal.others-preserved
others-preserved c =
    let n : ℕ = c.others.place in
    let xs : List ℕ = c.others.entries.items in
    let before : ℕ = n - 256 in
    let back : before + 256 ≡ n = omega arith in
    let old : get_or xs before 0 ≡ crc_bits (8 * (before / 256 + 1)) (before % 256) = c.others.invariant.entries.each before (omega arith) in
    let entry : c.byte_step-entry.result ≡ crc_bits (8 * (n / 256 + 1)) (n % 256) =
    c.byte_step-entry.ensures ∙ ap (λ (v : ℕ). crc_bits 8 (bit_xor v 0)) (grind (arith, common_steps, c.index.ensures) ∙ old)
    ∙ next_entry before ∙ ap (λ (v : ℕ). crc_bits (8 * (v / 256 + 1)) (v % 256)) back in
    let P : List ℕ → Type 0 = λ l. HasEntries l (n + 1) in
    record {
      size = grind (arith, common_steps, c.others.invariant.size);
      entries = subst P (sym (c.in_ok-push-2.ensures.items)) (one_more xs n c.byte_step-entry.result c.others.invariant.size c.others.invariant.entries entry);
    }
