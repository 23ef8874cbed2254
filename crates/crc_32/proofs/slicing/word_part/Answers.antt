use Rattle.std.proofs.Common.{◌≡◌, ℕ, ◌+◌, ◌*◌, ◌/◌, ◌%◌, ◌<◌, List, get_or, bit_xor, arith}
use Rattle.crc_32.specs.Crc.{crc_bits}
use Rattle.crc_32.specs.Tables.{HasEntries}
use Rattle.crc_32.proofs.CrcLemmas.{peeled, last_byte}
use Rattle.crc_32.proofs.slicing.word_part.Goals as goal

pub returns : goal.returns
returns c =
    let t : List ℕ = c.args.tables.now in
    let has : HasEntries t 4096 = c.requires.tables in
    let b : ℕ = c.args.base in
    let w : ℕ = c.args.word in
    let step : (j x rest : ℕ) → j < 8 → rest ≡ crc_bits (8 * (b + j)) (x / 256)
    → bit_xor rest (get_or t (256 * (b + j) + x % 256) 0) ≡ crc_bits (8 * (b + (j + 1))) x =
    λ j x rest small e. peeled t b j x rest has (omega arith) e in
    let w1 : ℕ = w / 256 in
    let w2 : ℕ = w1 / 256 in
    let w3 : ℕ = w2 / 256 in
    let w4 : ℕ = w3 / 256 in
    let w5 : ℕ = w4 / 256 in
    let w6 : ℕ = w5 / 256 in
    let w7 : ℕ = w6 / 256 in
    let small : w7 < 256 = omega arith in
    step 7 w _ (omega arith) (step 6 w1 _ (omega arith) (step 5 w2 _ (omega arith) (step 4 w3 _ (omega arith)
    (step 3 w4 _ (omega arith) (step 2 w5 _ (omega arith) (step 1 w6 _ (omega arith) (last_byte t b w7 has (omega arith) small)))))))
