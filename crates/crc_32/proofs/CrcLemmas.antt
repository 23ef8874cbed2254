-- The division is linear, so that tables of its parts give the whole.
use Rattle.std.proofs.Common.{◌≡◌, ◌⊎◌, ℕ, zero, suc, ◌+◌, ◌-◌, ◌*◌, ◌/◌, ◌%◌, ◌^◌, ◌<◌, ◌≤◌, cond, eqb, List, [], ◌∷◌, length, get_or, refl, sym, ap, ◌∙◌, inl, inr, arith, bit_xor}
use Rattle.std.proofs.Math.Nat.{pow-suc, mul_assoc}
use Rattle.std.proofs.lemmas.Bool.{cases_eq}
use Rattle.std.proofs.lemmas.Nat.{xor_shr, xor_mod, xor_comm, div-add-mod', mod_below}
use lib.Bits.{xor_assoc, xor_shifted, xor_zero_r}
use Rattle.std.proofs.Common.{◌++◌, length-append, take, drop, length-take, length-drop, take-append-drop}
use Rattle.std.proofs.Math.Nat.{mod-eq_of_lt}
use Rattle.std.proofs.lemmas.Nat.{mod-pow-add, pow_pos}
use Rattle.std.proofs.lemmas.Bool.{cases_lt}
use Rattle.std.proofs.lemmas.List.{get_or-drop, get_or-take, get_or_past, drop-drop, get_or_append_left}
use Rattle.std.proofs.Math.Seq.{get_or-append_right}
use Rattle.deflate_bits.specs.Bits.{little_endian}
use Rattle.deflate_bits.proofs.BitLemmas.{little_endian-drop}
use Rattle.crc_32.specs.Tables.{HasEntries}
use Rattle.crc_32.specs.Crc.{crc_after, crc_bit, crc_bits, crc_register}

-- the four parts of two sums
pub xor_swap : (a b c d : ℕ) → bit_xor (bit_xor a b) (bit_xor c d) ≡ bit_xor (bit_xor a c) (bit_xor b d)
xor_swap a b c d =
    xor_assoc a b (bit_xor c d)
    ∙ ap (λ (v : ℕ). bit_xor a v) (sym (xor_assoc b c d) ∙ ap (λ (v : ℕ). bit_xor v d) (xor_comm b c) ∙ xor_assoc c b d)
    ∙ sym (xor_assoc a c (bit_xor b d))

-- what a bit takes away
abbrev taken : ℕ → ℕ
taken bit = cond (eqb bit 1) 0xedb88320 0

bit_cases : (a : ℕ) → (a % 2 ≡ 0) ⊎ (a % 2 ≡ 1)
bit_cases a = elim (cases_eq (a % 2) 0) [ inl e ↦ inl e | inr e ↦ inr (omega (arith, e)) ]

taken_xor : (a b : ℕ) → taken (bit_xor (a % 2) (b % 2)) ≡ bit_xor (taken (a % 2)) (taken (b % 2))
taken_xor a b = elim (bit_cases a) [
  | inl e ↦ elim (bit_cases b) [
    | inl f ↦ rw (e, f) refl
    | inr f ↦ rw (e, f) refl
  ]
  | inr e ↦ elim (bit_cases b) [
    | inl f ↦ rw (e, f) refl
    | inr f ↦ rw (e, f) refl
  ]
]

pub crc_bit_is : (a : ℕ) → crc_bit a ≡ bit_xor (a / 2) (taken (a % 2))
unfolding crc_bit
crc_bit_is a = refl

pub crc_bit-xor : (a b : ℕ) → crc_bit (bit_xor a b) ≡ bit_xor (crc_bit a) (crc_bit b)
crc_bit-xor a b =
    crc_bit_is (bit_xor a b)
    ∙ ap (λ (v : ℕ). bit_xor v (taken (bit_xor a b % 2))) (xor_shr a b 1)
    ∙ ap (λ (v : ℕ). bit_xor (bit_xor (a / 2) (b / 2)) (taken v)) (xor_mod a b 1)
    ∙ ap (λ (v : ℕ). bit_xor (bit_xor (a / 2) (b / 2)) v) (taken_xor a b)
    ∙ xor_swap (a / 2) (b / 2) (taken (a % 2)) (taken (b % 2))
    ∙ ap (λ (v : ℕ). bit_xor v (bit_xor (b / 2) (taken (b % 2)))) (sym (crc_bit_is a))
    ∙ ap (λ (v : ℕ). bit_xor (crc_bit a) v) (sym (crc_bit_is b))

pub crc_bits-xor : (n a b : ℕ) → crc_bits n (bit_xor a b) ≡ bit_xor (crc_bits n a) (crc_bits n b)
unfolding crc_bits
crc_bits-xor zero a b = refl
crc_bits-xor (suc n) a b = ap (λ (v : ℕ). crc_bits n v) (crc_bit-xor a b) ∙ crc_bits-xor n (crc_bit a) (crc_bit b)

-- bits that do not leave the register
pub crc_bits-high : (n h : ℕ) → crc_bits n (h * 2 ^ n) ≡ h
unfolding crc_bits
crc_bits-high zero h = omega arith
crc_bits-high (suc n) h =
    let e : h * 2 ^ suc n ≡ h * 2 ^ n * 2 = ap (λ (v : ℕ). h * v) (pow-suc 2 n) ∙ sym (mul_assoc h (2 ^ n) 2) in
    let half : h * 2 ^ suc n / 2 ≡ h * 2 ^ n = omega (arith, e) in
    let even : h * 2 ^ suc n % 2 ≡ 0 = omega (arith, e) in
    let step : crc_bit (h * 2 ^ suc n) ≡ h * 2 ^ n =
    crc_bit_is (h * 2 ^ suc n) ∙ ap (λ (v : ℕ). bit_xor v (taken (h * 2 ^ suc n % 2))) half
    ∙ ap (λ (v : ℕ). bit_xor (h * 2 ^ n) (taken v)) even ∙ xor_zero_r (h * 2 ^ n) in
    ap (λ (v : ℕ). crc_bits n v) step ∙ crc_bits-high n h

-- m bits, and then n more
pub crc_bits-add : (m n a : ℕ) → crc_bits (m + n) a ≡ crc_bits n (crc_bits m a)
unfolding crc_bits
crc_bits-add zero n a =
    let e : 0 + n ≡ n = omega arith in
    ap (λ (v : ℕ). crc_bits v a) e
crc_bits-add (suc m) n a =
    let e : suc m + n ≡ suc (m + n) = omega arith in
    ap (λ (v : ℕ). crc_bits v a) e ∙ crc_bits-add m n (crc_bit a)

pub crc_bits-zero : (n : ℕ) → crc_bits n 0 ≡ 0
crc_bits-zero n =
    let e : 0 ≡ 0 * 2 ^ n = omega arith in
    ap (λ (v : ℕ). crc_bits n v) e ∙ crc_bits-high n 0

-- the low byte of the register goes through the table, and the rest moves down
pub by_byte : (n x : ℕ) → crc_bits (8 + n) x ≡ bit_xor (crc_bits n (x / 256)) (crc_bits (8 + n) (x % 256))
by_byte n x =
    let e : x ≡ bit_xor (x / 256 * 2 ^ 8) (x % 256) = sym (div-add-mod' x 256) ∙ sym (xor_shifted (x / 256) 8 (x % 256) (mod_below x 256 (omega arith))) in
    ap (λ (v : ℕ). crc_bits (8 + n) v) e ∙ crc_bits-xor (8 + n) (x / 256 * 2 ^ 8) (x % 256)
    ∙ ap (λ (v : ℕ). bit_xor v (crc_bits (8 + n) (x % 256)))
    (crc_bits-add 8 n (x / 256 * 2 ^ 8) ∙ ap (λ (v : ℕ). crc_bits n v) (crc_bits-high 8 (x / 256)))

pub crc_bits-none : (a : ℕ) → crc_bits 0 a ≡ a
unfolding crc_bits
crc_bits-none a = refl

-- what each byte leaves, with zeros in the place of those behind it
abbrev pub parts : List ℕ → ℕ
parts [] = 0
parts (byte ∷ bytes) = bit_xor (crc_bits (8 + 8 * length bytes) byte) (parts bytes)

-- slicing: the register and the bytes of a block are added apart
pub sliced : (register : ℕ) (bytes : List ℕ) → crc_register register bytes ≡ bit_xor (crc_bits (8 * length bytes) register) (parts bytes)
sliced register [] = sym (xor_zero_r (crc_bits 0 register) ∙ crc_bits-none register)
sliced register (byte ∷ bytes) =
    let n : ℕ = 8 * length bytes in
    let x : ℕ = bit_xor register byte in
    let e : 8 + n ≡ 8 * length (byte ∷ bytes) = omega arith in
    sliced (crc_bits 8 x) bytes
    ∙ ap (λ (v : ℕ). bit_xor v (parts bytes)) (sym (crc_bits-add 8 n x) ∙ crc_bits-xor (8 + n) register byte)
    ∙ xor_assoc (crc_bits (8 + n) register) (crc_bits (8 + n) byte) (parts bytes)
    ∙ ap (λ (v : ℕ). bit_xor (crc_bits v register) (parts (byte ∷ bytes))) e

-- the entry of byte b in table k
pub table_entry : (t : List ℕ) (n k b : ℕ) → HasEntries t n → 256 * k + b < n → b < 256 → get_or t (256 * k + b) 0 ≡ crc_bits (8 * (k + 1)) b
table_entry t n k b has inside byte =
    let high : (256 * k + b) / 256 ≡ k = omega arith in
    let low : (256 * k + b) % 256 ≡ b = omega arith in
    has.each (256 * k + b) inside ∙ ap (λ (v : ℕ). crc_bits (8 * (v + 1)) ((256 * k + b) % 256)) high
    ∙ ap (λ (v : ℕ). crc_bits (8 * (k + 1)) v) low

-- the low byte of a word by its table, before the rest of the word
pub peeled : (t : List ℕ) (b j x rest : ℕ) → HasEntries t 4096 → b + j < 16 → rest ≡ crc_bits (8 * (b + j)) (x / 256)
    → bit_xor rest (get_or t (256 * (b + j) + x % 256) 0) ≡ crc_bits (8 * (b + (j + 1))) x
peeled t b j x rest has small e =
    let n : ℕ = 8 * (b + j) in
    let m : 8 * (b + j + 1) ≡ 8 + n = omega arith in
    let m2 : 8 * (b + (j + 1)) ≡ 8 + n = omega arith in
    let entry : get_or t (256 * (b + j) + x % 256) 0 ≡ crc_bits (8 + n) (x % 256) =
    table_entry t 4096 (b + j) (x % 256) has (omega (arith, mod_below x 256)) (mod_below x 256 (omega arith)) ∙ ap (λ (v : ℕ). crc_bits v (x % 256)) m in
    ap (λ (v : ℕ). bit_xor rest v) entry ∙ ap (λ (v : ℕ). bit_xor v (crc_bits (8 + n) (x % 256))) e
    ∙ sym (by_byte n x) ∙ ap (λ (v : ℕ). crc_bits v x) (sym m2)

pub last_byte : (t : List ℕ) (b x : ℕ) → HasEntries t 4096 → b < 16 → x < 256 → get_or t (256 * b + x % 256) 0 ≡ crc_bits (8 * (b + 1)) x
last_byte t b x has small byte =
    let e : x % 256 ≡ x = omega arith in
    table_entry t 4096 b (x % 256) has (omega (arith, mod_below x 256)) (mod_below x 256 (omega arith)) ∙ ap (λ (v : ℕ). crc_bits (8 * (b + 1)) v) e

-- bytes as one word: the register after them
pub as_word : (register : ℕ) (bytes : List ℕ) → ((i : ℕ) → get_or bytes i 0 < 256)
    → crc_register register bytes ≡ crc_bits (8 * length bytes) (bit_xor register (little_endian bytes))
as_word register [] h = sym (ap (λ (v : ℕ). crc_bits 0 v) (xor_zero_r register) ∙ crc_bits-none register)
as_word register (b ∷ bytes) h =
    let n : ℕ = 8 * length bytes in
    let w : ℕ = little_endian bytes in
    let byte : b < 256 = h 0 in
    let e : 8 + n ≡ 8 * length (b ∷ bytes) = omega arith in
    let sum : bit_xor b (w * 2 ^ 8) ≡ b + 256 * w = xor_comm b (w * 2 ^ 8) ∙ xor_shifted w 8 b byte ∙ omega arith in
    as_word (crc_bits 8 (bit_xor register b)) bytes (λ i. h (suc i))
    ∙ ap (λ (v : ℕ). crc_bits n (bit_xor (crc_bits 8 (bit_xor register b)) v)) (sym (crc_bits-high 8 w))
    ∙ ap (λ (v : ℕ). crc_bits n v) (sym (crc_bits-xor 8 (bit_xor register b) (w * 2 ^ 8)))
    ∙ sym (crc_bits-add 8 n (bit_xor (bit_xor register b) (w * 2 ^ 8)))
    ∙ ap (λ (v : ℕ). crc_bits (8 + n) v) (xor_assoc register b (w * 2 ^ 8) ∙ ap (λ (v : ℕ). bit_xor register v) sum)
    ∙ ap (λ (v : ℕ). crc_bits v (bit_xor register (b + 256 * w))) e

-- 16 bytes are two words, of which each has its part
pub two_words : (register low high : ℕ) → low < 2 ^ 64 → crc_bits 128 (bit_xor register (low + high * 2 ^ 64))
    ≡ bit_xor (crc_bits 64 high) (crc_bits 128 (bit_xor low register))
two_words register low high small =
    let sum : low + high * 2 ^ 64 ≡ bit_xor (high * 2 ^ 64) low = sym (xor_shifted high 64 low small ∙ omega arith) in
    ap (λ (v : ℕ). crc_bits 128 v)
    (xor_comm register (low + high * 2 ^ 64) ∙ ap (λ (v : ℕ). bit_xor v register) sum ∙ xor_assoc (high * 2 ^ 64) low register)
    ∙ crc_bits-xor 128 (high * 2 ^ 64) (bit_xor low register)
    ∙ ap (λ (v : ℕ). bit_xor v (crc_bits 128 (bit_xor low register)))
    (crc_bits-add 64 64 (high * 2 ^ 64) ∙ ap (λ (v : ℕ). crc_bits 64 v) (crc_bits-high 64 high))

-- the first bytes as a number
pub little_endian-take : (n : ℕ) (s : List ℕ) → ((i : ℕ) → get_or s i 0 < 256) → little_endian (take n s) ≡ little_endian s % 2 ^ (8 * n)
little_endian-take zero s h = omega arith
little_endian-take (suc n) [] h = sym (mod-eq_of_lt (pow_pos (8 * suc n)))
little_endian-take (suc n) (b ∷ s) h =
    let byte : b < 256 = h 0 in
    let m : 8 * suc n ≡ 8 * n + 8 = omega arith in
    let v : ℕ = b + 256 * little_endian s in
    let high : v / 2 ^ 8 ≡ little_endian s = omega arith in
    let low : v % 2 ^ 8 ≡ b = omega arith in
    let e : v % 2 ^ (8 * n + 8) ≡ v / 2 ^ 8 % 2 ^ (8 * n) * 2 ^ 8 + v % 2 ^ 8 = mod-pow-add v (8 * n) 8 in
    let f : v / 2 ^ 8 % 2 ^ (8 * n) ≡ little_endian s % 2 ^ (8 * n) = ap (λ (k : ℕ). k % 2 ^ (8 * n)) high in
    ap (λ (k : ℕ). b + 256 * k) (little_endian-take n s (λ i. h (suc i))) ∙ omega (arith, e, f, low, ap (λ (k : ℕ). v % 2 ^ k) m)

pub crc_register-append : (register : ℕ) (xs ys : List ℕ) → crc_register register (xs ++ ys) ≡ crc_register (crc_register register xs) ys
crc_register-append register [] ys = refl
crc_register-append register (b ∷ xs) ys = crc_register-append (crc_bits 8 (bit_xor register b)) xs ys

-- a block of 16 bytes
pub block_step : (register : ℕ) (s : List ℕ) (at : ℕ) → ((i : ℕ) → get_or s i 0 < 256) → at + 16 ≤ length s
    → crc_register register (drop at s)
    ≡ crc_register (bit_xor (crc_bits 64 (little_endian (drop (at + 8) s) % 2 ^ 64)) (crc_bits 128 (bit_xor (little_endian (drop at s) % 2 ^ 64) register)))
    (drop (at + 16) s)
block_step register s at h room =
    let x : List ℕ = drop at s in
    let bytes : (i : ℕ) → get_or x i 0 < 256 = λ i. omega (arith, get_or-drop at s i 0, h (at + i)) in
    let front : List ℕ = take 16 x in
    let front_bytes : (i : ℕ) → get_or front i 0 < 256 = λ i. elim (cases_lt i 16) [
      | inl lt ↦ omega (arith, get_or-take 16 x i 0 lt, bytes i)
      | inr ge ↦ omega (arith, get_or_past front i 0 (omega (arith, length-take 16 x)))
    ] in
    let long : length front ≡ 16 = omega (arith, length-take 16 x, length-drop at s) in
    let low : ℕ = little_endian x % 2 ^ 64 in
    let high : ℕ = little_endian (drop (at + 8) s) % 2 ^ 64 in
    let second : little_endian (drop (at + 8) s) ≡ little_endian x / 2 ^ 64 = ap (λ (l : List ℕ). little_endian l) (sym (drop-drop 8 at s)) ∙ little_endian-drop 8 x bytes in
    let whole : little_endian front ≡ low + high * 2 ^ 64 =
    little_endian-take 16 x bytes ∙ mod-pow-add (little_endian x) 64 64 ∙ ap (λ (v : ℕ). v % 2 ^ 64 * 2 ^ 64 + low) (sym second) ∙ omega arith in
    let size : 8 * length front ≡ 128 = omega arith in
    ap (λ (l : List ℕ). crc_register register l) (sym (take-append-drop 16 x)) ∙ crc_register-append register front (drop 16 x)
    ∙ ap (λ (l : List ℕ). crc_register (crc_register register front) l) (drop-drop 16 at s)
    ∙ ap (λ (v : ℕ). crc_register v (drop (at + 16) s))
    (as_word register front front_bytes ∙ ap (λ (n : ℕ). crc_bits n (bit_xor register (little_endian front))) size
    ∙ ap (λ (v : ℕ). crc_bits 128 (bit_xor register v)) whole
    ∙ two_words register low high (mod_below (little_endian x) (2 ^ 64) (pow_pos 64)))

-- bit by bit
pub crc_bits-suc : (n a : ℕ) → crc_bits (suc n) a ≡ crc_bits n (crc_bit a)
unfolding crc_bits
crc_bits-suc n a = refl

-- an entry of the next table, by the first one
pub next_entry : (i : ℕ) → crc_bits 8 (bit_xor (crc_bits (8 * (i / 256 + 1)) (i % 256)) 0) ≡ crc_bits (8 * ((i + 256) / 256 + 1)) ((i + 256) % 256)
next_entry i =
    let m : 8 * ((i + 256) / 256 + 1) ≡ 8 * (i / 256 + 1) + 8 = omega arith in
    let low : (i + 256) % 256 ≡ i % 256 = omega arith in
    ap (λ (v : ℕ). crc_bits 8 v) (xor_zero_r (crc_bits (8 * (i / 256 + 1)) (i % 256)))
    ∙ sym (crc_bits-add (8 * (i / 256 + 1)) 8 (i % 256))
    ∙ ap (λ (v : ℕ). crc_bits v (i % 256)) (sym m) ∙ ap (λ (v : ℕ). crc_bits (8 * ((i + 256) / 256 + 1)) v) (sym low)

-- a checksum turned over again is the register
pub turned : (register checksum : ℕ) → checksum ≡ bit_xor register (2 ^ 32 - 1) → bit_xor checksum (2 ^ 32 - 1) ≡ register
turned register checksum e =
    ap (λ (v : ℕ). bit_xor v (2 ^ 32 - 1)) e ∙ xor_assoc register (2 ^ 32 - 1) (2 ^ 32 - 1) ∙ xor_zero_r register

-- an entry behind those that are there
pub one_more : (xs : List ℕ) (n v : ℕ) → length xs ≡ n → HasEntries xs n → v ≡ crc_bits (8 * (n / 256 + 1)) (n % 256)
    → HasEntries (xs ++ v ∷ []) (n + 1)
one_more xs n v size has e =
    let long : length (xs ++ v ∷ []) ≡ n + 1 = length-append xs (v ∷ []) ∙ omega arith in
    record {
      enough = omega arith;
      each = λ i h. elim (cases_lt i n) [
        | inl lt ↦ get_or_append_left xs (v ∷ []) 0 i (omega arith) ∙ has.each i lt
        | inr ge ↦
            let same : i ≡ n = omega arith in
            let first : i - length xs ≡ 0 = omega arith in
            get_or-append_right xs (v ∷ []) i 0 (omega arith) ∙ ap (λ (k : ℕ). get_or (v ∷ []) k 0) first ∙ e
            ∙ ap (λ (k : ℕ). crc_bits (8 * (k / 256 + 1)) (k % 256)) (sym same)
      ];
    }

-- the checksum goes on from piece to piece
pub crc_after-append : (checksum : ℕ) (xs ys : List ℕ) → crc_after (crc_after checksum xs) ys ≡ crc_after checksum (xs ++ ys)
crc_after-append checksum xs ys =
    let register = crc_register (bit_xor checksum (2 ^ 32 - 1)) xs in
    ap (λ (v : ℕ). bit_xor (crc_register v ys) (2 ^ 32 - 1)) (turned register (crc_after checksum xs) refl)
    ∙ ap (λ (v : ℕ). bit_xor v (2 ^ 32 - 1)) (sym (crc_register-append (bit_xor checksum (2 ^ 32 - 1)) xs ys))
