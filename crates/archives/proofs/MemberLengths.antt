-- What is behind a member is shorter than what the member begins.
use Rattle.archives.proofs.Words.{◌≡◌, ℕ, ◌<◌, ◌≤◌, List, [], ◌∷◌, ◌++◌, Result, Ok, Err, arith}
use Rattle.archives.proofs.Words.{length, refl}
use Rattle.std.proofs.Common.{zero, suc, length-drop, ◌^◌, ◌%◌}
use Rattle.deflate_bits.specs.declared.fault.DeflateFault.{DeflateFault}
use Rattle.deflate_bits.specs.Bits.{bits_of}
use Rattle.deflate_bits.specs.Reading.{◌>>=◌}
use Rattle.crc_32.specs.Crc.{crc_32}
use Rattle.inflate.specs.Blocks.{inflated}
use Rattle.gzip_members.specs.Header.{Parted, byte_in, pair_in, past_in, text_in, name_in, extra_in}
use Rattle.gzip_members.specs.Header.{sum_in, where_set}
use Rattle.std.specs.Bool.{if◌then◌else◌}
use Rattle.deflate_bits.specs.declared.fault.DeflateFault.TheVariants.{Bad}
use Rattle.gzip_members.specs.Header.{is_known, flags_in, fields_in, header_in}
use Rattle.gzip_members.specs.Members.{bytes_behind, size_in, trailer_in, with_text, closed, body_in}
use Rattle.gzip_members.specs.Members.{body_behind, member_in}

-- what is read from the front leaves no more than there was
abbrev Shrinks : {A : Type 0} → (Parted → Result (A × Parted) DeflateFault) → Type 0
Shrinks {A} f = (p : Parted) (x : A × Parted) → f p ≡ Ok x → length x.1.1 ≤ length p.1

-- one reading behind another
both_shrink : {A B : Type 0} (f : Parted → Result (A × Parted) DeflateFault)
    (more : A → Parted → Result (B × Parted) DeflateFault)
    → Shrinks f → ((a : A) → Shrinks (more a)) → Shrinks (λ p. f p >>= λ x. more x.0 x.1)
both_shrink {A} {B} f more s t p x e = by_first (f p) refl e
  where
    by_first : (r : Result (A × Parted) DeflateFault) → f p ≡ r → (r >>= λ y. more y.0 y.1) ≡ Ok x
        → length x.1.1 ≤ length p.1
    by_first (Ok y) h k = (let a = s p y h in let b = t y.0 y.1 x k in omega arith)
    by_first (Err fault) h k = absurd cc

byte_shrinks : Shrinks byte_in
byte_shrinks (read, []) x e = absurd cc
byte_shrinks (read, byte ∷ bytes) x e = grind arith

pair_shrinks : Shrinks pair_in
unfolding pair_in
pair_shrinks p x e = grind (arith, byte_shrinks)

past_shrinks : (n : ℕ) → Shrinks (past_in n)
unfolding past_in
past_shrinks zero p x e = grind arith
past_shrinks (suc n) p x e = both_shrink byte_in _ byte_shrinks (λ byte. past_shrinks n) p x e

text_shrinks : (read bytes : List ℕ) (x : Unit {0} × Parted) → text_in read bytes ≡ Ok x → length x.1.1 ≤ length bytes
unfolding text_in
text_shrinks read [] x e = absurd cc
text_shrinks read (byte ∷ bytes) x e = grind (arith, text_shrinks (read ++ byte ∷ []) bytes x)

name_shrinks : Shrinks name_in
name_shrinks (read, bytes) x e = text_shrinks read bytes x e

extra_shrinks : Shrinks extra_in
unfolding extra_in
extra_shrinks = both_shrink pair_in _ pair_shrinks past_shrinks

sum_shrinks : Shrinks sum_in
unfolding sum_in
sum_shrinks p x e = grind (arith, pair_shrinks)

where_shrinks : (flag flags : ℕ) (field : Parted → Result (Unit {0} × Parted) DeflateFault) → Shrinks field
    → Shrinks (where_set flag flags field)
where_shrinks flag flags field s p x e = grind (arith, s)

flags_shrinks : Shrinks flags_in
unfolding flags_in
flags_shrinks =
    both_shrink (past_in 2) _ (past_shrinks 2) λ name. both_shrink byte_in _ byte_shrinks λ method.
    both_shrink byte_in _ byte_shrinks λ flags p. known_shrinks method (flags, p)
  where
    known_shrinks : (method : ℕ) (p x : ℕ × Parted) → (if is_known method p.0 then Ok p else Err Bad) ≡ Ok x
        → length x.1.1 ≤ length p.1.1
    known_shrinks method p x e = grind arith

fields_shrinks : (flags : ℕ) → Shrinks (fields_in flags)
unfolding fields_in
fields_shrinks flags =
    both_shrink (where_set 4 flags extra_in) _ (where_shrinks 4 flags extra_in extra_shrinks) λ a.
    both_shrink (where_set 8 flags name_in) _ (where_shrinks 8 flags name_in name_shrinks) λ b.
    both_shrink (where_set 16 flags name_in) _ (where_shrinks 16 flags name_in name_shrinks) λ c.
    where_shrinks 2 flags sum_in sum_shrinks

header_shrinks : Shrinks header_in
unfolding header_in
header_shrinks =
    both_shrink flags_in _ flags_shrinks λ flags.
    both_shrink (past_in 6) _ (past_shrinks 6) λ fixed. fields_shrinks flags

trailer_less : (sum size : ℕ) (bytes behind : List ℕ) → trailer_in sum size bytes ≡ Ok behind
    → length behind < length bytes
unfolding trailer_in size_in
trailer_less sum size bytes behind e = grind (arith, length-drop)

text_with : (text t behind : List ℕ) (r : Result (List ℕ) DeflateFault) → (r >>= with_text t) ≡ Ok (text, behind)
    → r ≡ Ok behind
text_with text t behind (Ok rest) e = grind arith
text_with text t behind (Err fault) e = absurd cc

closed_less : (bytes text behind : List ℕ) (r : Result (List ℕ × List ℕ) DeflateFault)
    → (r >>= closed bytes) ≡ Ok (text, behind)
    → length behind < length bytes
closed_less bytes text behind (Ok (t, bits)) e =
    let trailer = text_with text t behind _ e in
    let less = trailer_less (crc_32 t) (length t % 2 ^ 32) (bytes_behind bytes bits) behind trailer in
    omega (arith, length-drop {A = ℕ})
closed_less bytes text behind (Err fault) e = absurd cc

body_less : (bytes text behind : List ℕ) → body_in bytes ≡ Ok (text, behind) → length behind < length bytes
unfolding body_in
body_less bytes text behind e = closed_less bytes text behind (inflated (bits_of bytes)) e

member_by : (bytes text behind : List ℕ) (r : Result (Unit {0} × Parted) DeflateFault) → header_in ([], bytes) ≡ r
    → (r >>= body_behind) ≡ Ok (text, behind) → length behind < length bytes
member_by bytes text behind (Ok (u, header)) h e =
    let shrinks = header_shrinks ([], bytes) (u, header) h in
    let less = body_less header.1 text behind e in
    omega arith
member_by bytes text behind (Err fault) h e = absurd cc

pub member_less : (bytes text behind : List ℕ) → member_in bytes ≡ Ok (text, behind) → length behind < length bytes
unfolding member_in
member_less bytes text behind e = member_by bytes text behind (header_in ([], bytes)) refl e
