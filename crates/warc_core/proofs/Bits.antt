-- The bits of a byte, by a computation over all bytes.
use Rattle.warc_core.proofs.Words.{◌≡◌, ℕ, ◌+◌, ◌<◌, true, arith}
use Rattle.std.proofs.Common.{◌*◌, ◌/◌, ◌%◌, eqb}
use Rattle.std.proofs.lemmas.Bool.{agree_below, agree_below_at, eqb-true}

-- two functions that agree at each byte, by computing both
pub agree_at : (f g : ℕ → ℕ) → agree_below (λ v. eqb (f v) (g v)) (λ _. true) 256 ≡ true → (b : ℕ) → b < 256 → f b ≡ g b
agree_at f g same b h = eqb-true (f b) (g b) (agree_below_at (λ v. eqb (f v) (g v)) (λ _. true) 256 b same h)

pub first : (a : ℕ) → a < 256 → a / 8 ≡ 16 * (a / 128 % 2) + 8 * (a / 64 % 2) + 4 * (a / 32 % 2) + 2 * (a / 16 % 2) + a
    / 8 % 2
first = grind arith

pub second : (a b : ℕ) → a < 256 → b < 256 → a % 8 * 4 + b / 64
    ≡ 16 * (a / 4 % 2) + 8 * (a / 2 % 2) + 4 * (a / 1 % 2) + 2 * (b / 128 % 2) + b / 64 % 2
second a b h k = grind arith

pub third : (b : ℕ) → b < 256 → b / 2 % 32 ≡ 16 * (b / 32 % 2) + 8 * (b / 16 % 2) + 4 * (b / 8 % 2) + 2 * (b / 4 % 2) +
    b / 2 % 2
third = grind arith

pub fourth : (b c : ℕ) → b < 256 → c < 256 → b % 2 * 16 + c / 16
    ≡ 16 * (b / 1 % 2) + 8 * (c / 128 % 2) + 4 * (c / 64 % 2) + 2 * (c / 32 % 2) + c / 16 % 2
fourth b c h k = grind arith

pub fifth : (c d : ℕ) → c < 256 → d < 256 → c % 16 * 2 + d / 128
    ≡ 16 * (c / 8 % 2) + 8 * (c / 4 % 2) + 4 * (c / 2 % 2) + 2 * (c / 1 % 2) + d / 128 % 2
fifth c d h k = grind arith

pub sixth : (d : ℕ) → d < 256 → d / 4 % 32 ≡ 16 * (d / 64 % 2) + 8 * (d / 32 % 2) + 4 * (d / 16 % 2) + 2 * (d / 8 % 2) +
    d / 4 % 2
sixth = grind arith

pub seventh : (d e : ℕ) → d < 256 → e < 256 → d % 4 * 8 + e / 32
    ≡ 16 * (d / 2 % 2) + 8 * (d / 1 % 2) + 4 * (e / 128 % 2) + 2 * (e / 64 % 2) + e / 32 % 2
seventh d e h k = grind arith

pub eighth : (e : ℕ) → e < 256 → e % 32 ≡ 16 * (e / 16 % 2) + 8 * (e / 8 % 2) + 4 * (e / 4 % 2) + 2 * (e / 2 % 2) + e /
    1 % 2
eighth = grind arith
