-- A member is read alike with more bytes behind it.
use Rattle.std.proofs.Common.{◌≡◌, ℕ, zero, suc, ◌+◌, ◌-◌, ◌*◌, ◌/◌, ◌%◌, ◌^◌, ◌≤◌, ◌==◌, Bool, true, false, nat_lt, List, [], ◌∷◌, ◌++◌, length, take, drop, Result, Ok, Err, refl, sym, ap, ◌∙◌, subst, inl, inr, arith, length-append}
use Rattle.std.specs.Bool.{if◌then◌else◌}
use Rattle.std.proofs.lemmas.Bool.{le-ltb, lt-ltb, cases_lt}
use Rattle.std.proofs.lemmas.List.{take-append-le, drop-append-le}
use Rattle.deflate_bits.specs.declared.fault.DeflateFault.{DeflateFault}
use Rattle.deflate_bits.specs.declared.fault.DeflateFault.TheVariants.{Bad, Cut}
use Rattle.deflate_bits.specs.Bits.{bits_of, little_endian}
use Rattle.deflate_bits.specs.Reading.{◌>>=◌}
use Rattle.deflate_symbols.proofs.PieceLemmas.{bits_small}
use Rattle.crc_32.specs.Crc.{crc_32}
use Rattle.inflate.specs.Heads.{AtBlock}
use Rattle.inflate.specs.Blocks.{inflated}
use Rattle.inflate.specs.Laws.{followed}
use Rattle.inflate.proofs.ByteLemmas.{length-bits_of}
use Rattle.inflate.proofs.GrowLemmas.{inflated_leaves}
use Rattle.inflate.proofs.LawLemmas.{inflated_stays}
use Rattle.inflate.proofs.RestLemmas.{rest_fewer}
use Rattle.gzip_members.specs.Header.{Parted, byte_in, pair_in, past_in, text_in, name_in, extra_in, sum_is, sum_in, is_set, where_set, is_known, flags_in, fields_in, header_in}
use Rattle.gzip_members.specs.Laws.{IsMember}
use Rattle.gzip_members.specs.Members.{bytes_behind, size_in, trailer_in, with_text, closed, body_in, body_behind, member_in}
use Rattle.gzip_members.proofs.BodyLemmas.{bits_front}

-- what was read wasn't cut
abbrev pub IsWhole : {A : Type 0} → Result A DeflateFault → Type 0
IsWhole (Ok x) = Unit {0}
IsWhole (Err Bad) = Unit {0}
IsWhole (Err Cut) = ⊥

whole_first : {A B : Type 0} (r : Result A DeflateFault) (g : A → Result B DeflateFault) → IsWhole (r >>= g) → IsWhole r
whole_first (Ok x) g w = tt
whole_first (Err Bad) g w = tt
whole_first (Err Cut) g w = w

-- ---- the header

-- the same with more bytes behind
abbrev parted : {A : Type 0} → List ℕ → Result (A × Parted) DeflateFault → Result (A × Parted) DeflateFault
parted more (Ok x) = Ok (x.0, (x.1.0, x.1.1 ++ more))
parted more (Err e) = Err e

abbrev Stays : {A : Type 0} → (Parted → Result (A × Parted) DeflateFault) → Type 0
Stays f = (p : Parted) (more : List ℕ) → IsWhole (f p) → f (p.0, p.1 ++ more) ≡ parted more (f p)

then_parted : {A B : Type 0} (more : List ℕ) (r : Result (A × Parted) DeflateFault) (g : A × Parted → Result (B × Parted) DeflateFault)
    → IsWhole (r >>= g) → ((a : A) → Stays (λ p. g (a, p))) → (parted more r >>= g) ≡ parted more (r >>= g)
then_parted more (Ok x) g w stays = stays x.0 x.1 more w
then_parted more (Err e) g w stays = refl

then_stays : {A B : Type 0} (f : Parted → Result (A × Parted) DeflateFault) (g : A × Parted → Result (B × Parted) DeflateFault)
    → Stays f → ((a : A) → Stays (λ p. g (a, p))) → Stays (λ p. f p >>= g)
then_stays f g first second p more w =
    ap (λ r. r >>= g) (first p more (whole_first (f p) g w)) ∙ then_parted more (f p) g w second

if_parted : {A : Type 0} (more : List ℕ) (b : Bool) (r s then_r then_s : Result (A × Parted) DeflateFault) → (IsWhole r → then_r ≡ parted more r)
    → (IsWhole s → then_s ≡ parted more s) → IsWhole (if b then r else s) → (if b then then_r else then_s) ≡ parted more (if b then r else s)
if_parted more true r s then_r then_s h k w = h w
if_parted more false r s then_r then_s h k w = k w

byte_stays : Stays byte_in
byte_stays (read, []) more w = absurd w
byte_stays (read, byte ∷ bytes) more w = refl

pair_stays : Stays pair_in
unfolding pair_in
pair_stays = then_stays byte_in _ byte_stays (λ low. then_stays byte_in (λ high. Ok (low + 256 * high.0, high.1)) byte_stays (λ high p more w. refl))

past_stays : (n : ℕ) → Stays (past_in n)
unfolding past_in
past_stays zero p more w = refl
past_stays (suc n) p more w = then_stays byte_in (λ byte. past_in n byte.1) byte_stays (λ byte. past_stays n) p more w

text_stays : (read bytes more : List ℕ) → IsWhole (text_in read bytes) → text_in read (bytes ++ more) ≡ parted more (text_in read bytes)
unfolding text_in
text_stays read [] more w = absurd w
text_stays read (byte ∷ bytes) more w =
    if_parted more (byte == 0) (Ok (tt, (read ++ byte ∷ [], bytes))) (text_in (read ++ byte ∷ []) bytes)
    (Ok (tt, (read ++ byte ∷ [], bytes ++ more))) (text_in (read ++ byte ∷ []) (bytes ++ more))
    (λ v. refl) (text_stays (read ++ byte ∷ []) bytes more) w

name_stays : Stays name_in
name_stays (read, bytes) more w = text_stays read bytes more w

extra_stays : Stays extra_in
unfolding extra_in
extra_stays = then_stays pair_in (λ size. past_in size.0 size.1) pair_stays past_stays

sum_stays : Stays sum_in
unfolding sum_in
sum_stays (read, bytes) more w =
    ap (λ r. r >>= sum_is (read, bytes)) (pair_stays (read, bytes) more (whole_first (pair_in (read, bytes)) (sum_is (read, bytes)) w))
    ∙ then_parted more (pair_in (read, bytes)) (sum_is (read, bytes)) w
    (λ sum p m v. if_parted m (sum == crc_32 read % 2 ^ 16) (Ok (tt, p)) (Err Bad) (Ok (tt, (p.0, p.1 ++ m))) (Err Bad) (λ u. refl) (λ u. refl) v)

where_stays : (flag flags : ℕ) (field : Parted → Result (Unit {0} × Parted) DeflateFault) → Stays field → Stays (where_set flag flags field)
where_stays flag flags field stays p more w =
    if_parted more (is_set flag flags) (field p) (Ok (tt, p)) (field (p.0, p.1 ++ more)) (Ok (tt, (p.0, p.1 ++ more))) (stays p more) (λ v. refl) w

flags_stays : Stays flags_in
unfolding flags_in
flags_stays =
    then_stays (past_in 2) _ (past_stays 2) λ name. then_stays byte_in _ byte_stays λ method. then_stays byte_in _ byte_stays λ flags p more w.
    if_parted more (is_known method flags) (Ok (flags, p)) (Err Bad) (Ok (flags, (p.0, p.1 ++ more))) (Err Bad) (λ v. refl) (λ v. refl) w

fields_stays : (flags : ℕ) → Stays (fields_in flags)
unfolding fields_in
fields_stays flags =
    then_stays (where_set 4 flags extra_in) _ (where_stays 4 flags extra_in extra_stays) λ a.
    then_stays (where_set 8 flags name_in) _ (where_stays 8 flags name_in name_stays) λ b.
    then_stays (where_set 16 flags name_in) _ (where_stays 16 flags name_in name_stays) λ c.
    where_stays 2 flags sum_in sum_stays

header_stays : Stays header_in
unfolding header_in
header_stays = then_stays flags_in _ flags_stays λ flags. then_stays (past_in 6) _ (past_stays 6) λ fixed. fields_stays flags

-- ---- the trailer

abbrev pub left : List ℕ → Result (List ℕ) DeflateFault → Result (List ℕ) DeflateFault
left more (Ok rest) = Ok (rest ++ more)
left more (Err e) = Err e

if_left : (more : List ℕ) (b : Bool) (r s : Result (List ℕ) DeflateFault) → (IsWhole r → s ≡ left more r) → IsWhole (if b then r else Err Bad)
    → (if b then s else Err Bad) ≡ left more (if b then r else Err Bad)
if_left more true r s h w = h w
if_left more false r s h w = refl

-- four bytes that are compared
four_stays : (number : ℕ) (bytes more : List ℕ) (r s : Result (List ℕ) DeflateFault) → (4 ≤ length bytes → IsWhole r → s ≡ left more r)
    → IsWhole (if nat_lt (length bytes) 4 then Err Cut else (if little_endian (take 4 bytes) == number then r else Err Bad))
    → (if nat_lt (length (bytes ++ more)) 4 then Err Cut else (if little_endian (take 4 (bytes ++ more)) == number then s else Err Bad))
    ≡ left more (if nat_lt (length bytes) 4 then Err Cut else (if little_endian (take 4 bytes) == number then r else Err Bad))
four_stays number bytes more r s h w = elim (cases_lt (length bytes) 4) [
  | inl short ↦ (let e : nat_lt (length bytes) 4 ≡ true = lt-ltb (length bytes) 4 short in absurd (rw e at w))
  | inr long ↦
      let a : nat_lt (length (bytes ++ more)) 4 ≡ false = le-ltb (length (bytes ++ more)) 4 (omega (arith, length-append bytes more)) in
      let b : nat_lt (length bytes) 4 ≡ false = le-ltb (length bytes) 4 long in
      let v : IsWhole (if little_endian (take 4 bytes) == number then r else Err Bad) = (rw b at w) in
      ap (λ x. if x then Err Cut else (if little_endian (take 4 (bytes ++ more)) == number then s else Err Bad)) a
      ∙ ap (λ l. if little_endian l == number then s else Err Bad) (take-append-le 4 bytes more long)
      ∙ if_left more (little_endian (take 4 bytes) == number) r s (h long) v
      ∙ sym (ap (λ x. left more (if x then Err Cut else (if little_endian (take 4 bytes) == number then r else Err Bad))) b)
]

size_stays : (size : ℕ) (bytes more : List ℕ) → IsWhole (size_in size bytes) → size_in size (bytes ++ more) ≡ left more (size_in size bytes)
unfolding size_in
size_stays size bytes more w =
    four_stays size bytes more (Ok (drop 4 bytes)) (Ok (drop 4 (bytes ++ more))) (λ long v. ap (λ l. Ok l) (drop-append-le 4 bytes more long)) w

pub trailer_stays : (sum size : ℕ) (bytes more : List ℕ) → IsWhole (trailer_in sum size bytes)
    → trailer_in sum size (bytes ++ more) ≡ left more (trailer_in sum size bytes)
unfolding trailer_in
trailer_stays sum size bytes more w =
    four_stays sum bytes more (size_in size (drop 4 bytes)) (size_in size (drop 4 (bytes ++ more)))
    (λ long v. ap (size_in size) (drop-append-le 4 bytes more long) ∙ size_stays size (drop 4 bytes) more v) w

-- ---- the data

behind_stays : (bytes more bits : List ℕ) → length bits ≤ 8 * length bytes
    → bytes_behind (bytes ++ more) (bits ++ bits_of more) ≡ bytes_behind bytes bits ++ more
behind_stays bytes more bits few =
    let e : length (bytes ++ more) - length (bits ++ bits_of more) / 8 ≡ length bytes - length bits / 8 =
    omega (arith, length-append bytes more, length-append bits (bits_of more), length-bits_of more) in
    ap (λ n. drop n (bytes ++ more)) e ∙ drop-append-le (length bytes - length bits / 8) bytes more (omega arith)

text_behind : (text more : List ℕ) (r : Result (List ℕ) DeflateFault) → (left more r >>= with_text text) ≡ followed more (r >>= with_text text)
text_behind text more (Ok rest) = refl
text_behind text more (Err e) = refl

closed_stays : (bytes more text bits : List ℕ) → length bits ≤ 8 * length bytes → IsWhole (closed bytes (text, bits))
    → closed (bytes ++ more) (text, bits ++ bits_of more) ≡ followed more (closed bytes (text, bits))
closed_stays bytes more text bits few w =
    let sum = crc_32 text in
    let size = length text % 2 ^ 32 in
    let behind = bytes_behind bytes bits in
    let whole : IsWhole (trailer_in sum size behind) = whole_first (trailer_in sum size behind) (with_text text) w in
    ap (λ l. trailer_in sum size l >>= with_text text) (behind_stays bytes more bits few)
    ∙ ap (λ r. r >>= with_text text) (trailer_stays sum size behind more whole)
    ∙ text_behind text more (trailer_in sum size behind)

unpacked_stays : (bytes more : List ℕ) (r : Result (List ℕ × List ℕ) DeflateFault) → ((x : List ℕ × List ℕ) → r ≡ Ok x → length x.1 ≤ 8 * length bytes)
    → IsWhole (r >>= closed bytes) → (followed (bits_of more) r >>= closed (bytes ++ more)) ≡ followed more (r >>= closed bytes)
unpacked_stays bytes more (Ok (text, bits)) few w = closed_stays bytes more text bits (few (text, bits) refl) w
unpacked_stays bytes more (Err e) few w = refl

body_stays : (bytes more : List ℕ) → IsWhole (body_in bytes) → body_in (bytes ++ more) ≡ followed more (body_in bytes)
unfolding body_in
body_stays bytes more w =
    let bits = bits_of bytes in
    let whole : IsWhole (inflated bits) = whole_first (inflated bits) (closed bytes) w in
    let bytes_whole : length (bits_of more) % 8 ≡ 0 = omega (arith, length-bits_of more) in
    ap (λ l. inflated l >>= closed (bytes ++ more)) (bits_front bytes more 0 (omega arith))
    ∙ ap (λ r. r >>= closed (bytes ++ more)) (inflated_stays (bits_of more) bytes_whole AtBlock bits [] tt (bits_small bytes) whole)
    ∙ unpacked_stays bytes more (inflated bits)
    (λ x e. omega (arith, rest_fewer 0 bits (inflated bits) x (inflated_leaves AtBlock bits []) e, length-bits_of bytes)) w

-- ---- the member

headed_stays : (more : List ℕ) (r : Result (Unit {0} × Parted) DeflateFault) → IsWhole (r >>= body_behind)
    → (parted more r >>= body_behind) ≡ followed more (r >>= body_behind)
headed_stays more (Ok (u, header)) w = body_stays header.1 more w
headed_stays more (Err e) w = refl

-- what was read of a member stays with more bytes behind it
pub member_stays : (bytes more : List ℕ) → IsWhole (member_in bytes) → member_in (bytes ++ more) ≡ followed more (member_in bytes)
unfolding member_in
member_stays bytes more w =
    ap (λ r. r >>= body_behind) (header_stays ([], bytes) more (whole_first (header_in ([], bytes)) body_behind w))
    ∙ headed_stays more (header_in ([], bytes)) w

-- more bytes behind a member are left
pub member_followed : (bytes more text : List ℕ) → IsMember bytes text → member_in (bytes ++ more) ≡ Ok (text, more)
member_followed bytes more text is =
    let whole : IsWhole (member_in bytes) = subst (λ r. IsWhole r) (sym is.reads) tt in
    member_stays bytes more whole ∙ ap (followed more) is.reads
