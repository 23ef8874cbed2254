-- A member is read from its own bytes, and from none behind them.
use Rattle.std.proofs.Common.{◌≡◌, ℕ, zero, suc, ◌+◌, ◌-◌, ◌*◌, ◌/◌, ◌%◌, ◌^◌, ◌≤◌, ◌==◌, Bool, true, false, nat_lt, List, [], ◌∷◌, ◌++◌, length, take, drop, Result, Ok, Err, refl, sym, ap, ◌∙◌, arith, append_assoc, length-append, length-drop}
use Rattle.std.specs.Bool.{if◌then◌else◌}
use Rattle.std.proofs.lemmas.Bool.{le-ltb}
use Rattle.std.proofs.lemmas.List.{take-append-drop, take-append-le, length-take-le}
use Rattle.std.proofs.Math.Seq.{take-append_seam, drop-append_seam}
use Rattle.deflate_bits.specs.declared.fault.DeflateFault.{DeflateFault}
use Rattle.deflate_bits.specs.declared.fault.DeflateFault.TheVariants.{Bad, Cut}
use Rattle.deflate_bits.specs.Bits.{bits_of, little_endian}
use Rattle.deflate_bits.specs.Reading.{◌>>=◌}
use Rattle.deflate_symbols.proofs.PieceLemmas.{bits_small}
use Rattle.crc_32.specs.Crc.{crc_32}
use Rattle.inflate.specs.Heads.{AtBlock}
use Rattle.inflate.specs.Blocks.{inflated}
use Rattle.inflate.proofs.ByteLemmas.{length-bits_of}
use Rattle.inflate.proofs.TakenLemmas.{inflated_takes}
use Rattle.gzip_members.specs.Header.{Parted, byte_in, pair_in, past_in, text_in, name_in, extra_in, sum_is, sum_in, is_set, where_set, is_known, flags_in, fields_in, header_in}
use Rattle.gzip_members.specs.Laws.{IsMember}
use Rattle.gzip_members.specs.Members.{bytes_behind, size_in, trailer_in, with_text, closed, body_in, body_behind, member_in}
use Rattle.gzip_members.specs.Starts.{begins_member}
use Rattle.gzip_members.proofs.BodyLemmas.{bits_front}
use Rattle.gzip_members.proofs.StayLemmas.{IsWhole, left, trailer_stays}

ok_or : {A : Type 0} → Result A DeflateFault → A → A
ok_or (Ok x) other = x
ok_or (Err e) other = other

same_ok : {A : Type 0} (x y : A) → ◌≡◌ {A = Result A DeflateFault} (Ok x) (Ok y) → x ≡ y
unfolding ok_or
same_ok x y e = ap (λ r. ok_or r x) e

-- ---- the header

-- this was read from a front of the bytes, whatever is behind it
abbrev IsOfFront : {A : Type 0} → (Parted → Result (A × Parted) DeflateFault) → Parted → A × Parted → Type 0
IsOfFront f p x = (front : List ℕ) × (p.1 ≡ front ++ x.1.1) × ((more : List ℕ) → f (p.0, front ++ more) ≡ Ok (x.0, (x.1.0, more)))

abbrev Takes : {A : Type 0} → (Parted → Result (A × Parted) DeflateFault) → Parted → Type 0
Takes {A} f p = (x : A × Parted) → f p ≡ Ok x → IsOfFront f p x

then_takes : {A B : Type 0} (f : Parted → Result (A × Parted) DeflateFault) (g : A × Parted → Result (B × Parted) DeflateFault) (p : Parted)
    → Takes f p → ((a : A) (q : Parted) → Takes (λ q. g (a, q)) q) → Takes (λ q. f q >>= g) p
then_takes {A} {B} f g p first second y e = by_first (f p) refl e
  where
    by_first : (r : Result (A × Parted) DeflateFault) → f p ≡ r → (r >>= g) ≡ Ok y → IsOfFront (λ q. f q >>= g) p y
    by_first (Ok x) h k =
        let s = first x h in
        let t = second x.0 x.1 y k in (
          s.0 ++ t.0,
          s.1 ∙ ap (λ (l : List ℕ). s.0 ++ l) t.1 ∙ sym (append_assoc s.0 t.0 y.1.1),
          λ more.
              ap (λ (l : List ℕ). f (p.0, l) >>= g) (append_assoc s.0 t.0 more) ∙ ap (λ r. r >>= g) (s.2 (t.0 ++ more)) ∙ t.2 more,
        )
    by_first (Err fault) h k = absurd cc

if_takes : {A : Type 0} (b : Bool) (f g : Parted → Result (A × Parted) DeflateFault) (p : Parted) → Takes f p → Takes g p
    → Takes (λ q. if b then f q else g q) p
if_takes true f g p s t = s
if_takes false f g p s t = t

ok_takes : {A : Type 0} (a : A) (p : Parted) → Takes (λ q. Ok (a, q)) p
ok_takes {A} a p x e =
    let is : (a, p) ≡ x = same_ok (a, p) x e in
    ([], ap (λ (y : A × Parted). y.1.1) is, λ more. ap (λ (y : A × Parted). Ok (y.0, (y.1.0, more))) is)

err_takes : {A : Type 0} (p : Parted) → Takes {A = A} (λ q. Err Bad) p
err_takes p x e = absurd cc

byte_takes : (p : Parted) → Takes byte_in p
byte_takes (read, []) x e = absurd cc
byte_takes (read, byte ∷ bytes) x e =
    let is : (byte, (read ++ byte ∷ [], bytes)) ≡ x = same_ok _ x e in
    (byte ∷ [], ap (λ (y : ℕ × Parted). byte ∷ y.1.1) is, λ more. ap (λ (y : ℕ × Parted). Ok (y.0, (y.1.0, more))) is)

pair_takes : (p : Parted) → Takes pair_in p
unfolding pair_in
pair_takes p =
    then_takes byte_in _ p (byte_takes p) λ low q. then_takes byte_in (λ high. Ok (low + 256 * high.0, high.1)) q (byte_takes q) λ high q. ok_takes (low + 256 * high) q

past_takes : (n : ℕ) (p : Parted) → Takes (past_in n) p
unfolding past_in
past_takes zero p = ok_takes tt p
past_takes (suc n) p = then_takes byte_in (λ byte. past_in n byte.1) p (byte_takes p) λ byte q. past_takes n q

text_takes : (read bytes : List ℕ) → Takes name_in (read, bytes)
unfolding text_in
text_takes read [] x e = absurd cc
text_takes read (byte ∷ bytes) x e = by_end (byte == 0) refl (text_takes (read ++ byte ∷ []) bytes) e
  where
    by_end : (b : Bool) → (byte == 0) ≡ b → Takes name_in (read ++ byte ∷ [], bytes)
        → (if b then Ok (tt, (read ++ byte ∷ [], bytes)) else text_in (read ++ byte ∷ []) bytes) ≡ Ok x
        → IsOfFront name_in (read, byte ∷ bytes) x
    by_end true h more_takes k =
        let is : (tt, (read ++ byte ∷ [], bytes)) ≡ x = same_ok _ x k in (
          byte ∷ [],
          ap (λ (y : Unit {0} × Parted). byte ∷ y.1.1) is,
          λ more.
              ap (λ b. if b then Ok (tt, (read ++ byte ∷ [], more)) else text_in (read ++ byte ∷ []) more) h
              ∙ ap (λ (y : Unit {0} × Parted). Ok (y.0, (y.1.0, more))) is,
        )
    by_end false h more_takes k =
        let q = more_takes x k in (
          byte ∷ q.0,
          ap (λ (l : List ℕ). byte ∷ l) q.1,
          λ more.
              ap (λ b. if b then Ok (tt, (read ++ byte ∷ [], q.0 ++ more)) else text_in (read ++ byte ∷ []) (q.0 ++ more)) h ∙ q.2 more,
        )

name_takes : (p : Parted) → Takes name_in p
name_takes (read, bytes) = text_takes read bytes

extra_takes : (p : Parted) → Takes extra_in p
unfolding extra_in
extra_takes p = then_takes pair_in (λ size. past_in size.0 size.1) p (pair_takes p) past_takes

sum_takes : (p : Parted) → Takes sum_in p
unfolding sum_in
sum_takes (read, bytes) =
    then_takes pair_in (sum_is (read, [])) (read, bytes) (pair_takes (read, bytes)) λ sum q.
    if_takes (sum == crc_32 read % 2 ^ 16) (λ q. Ok (tt, q)) (λ q. Err Bad) q (ok_takes tt q) (err_takes q)

where_takes : (flag flags : ℕ) (field : Parted → Result (Unit {0} × Parted) DeflateFault) → ((p : Parted) → Takes field p)
    → (p : Parted) → Takes (where_set flag flags field) p
where_takes flag flags field takes p = if_takes (is_set flag flags) field (λ q. Ok (tt, q)) p (takes p) (ok_takes tt p)

flags_takes : (p : Parted) → Takes flags_in p
unfolding flags_in
flags_takes p =
    then_takes (past_in 2) _ p (past_takes 2 p) λ name q. then_takes byte_in _ q (byte_takes q) λ method q. then_takes byte_in _ q (byte_takes q) λ flags q.
    if_takes (is_known method flags) (λ q. Ok (flags, q)) (λ q. Err Bad) q (ok_takes flags q) (err_takes q)

fields_takes : (flags : ℕ) (p : Parted) → Takes (fields_in flags) p
unfolding fields_in
fields_takes flags p =
    then_takes (where_set 4 flags extra_in) _ p (where_takes 4 flags extra_in extra_takes p) λ a q.
    then_takes (where_set 8 flags name_in) _ q (where_takes 8 flags name_in name_takes q) λ b q.
    then_takes (where_set 16 flags name_in) _ q (where_takes 16 flags name_in name_takes q) λ c q.
    where_takes 2 flags sum_in sum_takes q

header_takes : (p : Parted) → Takes header_in p
unfolding header_in
header_takes p =
    then_takes flags_in _ p (flags_takes p) λ flags q. then_takes (past_in 6) _ q (past_takes 6 q) λ fixed q. fields_takes flags q

-- ---- the trailer

-- four bytes that were compared
four_alone : (number : ℕ) (bytes rest : List ℕ) (r : Result (List ℕ) DeflateFault)
    → (if nat_lt (length bytes) 4 then Err Cut else (if little_endian (take 4 bytes) == number then r else Err Bad)) ≡ Ok rest
    → (4 ≤ length bytes) × (r ≡ Ok rest)
four_alone number bytes rest r e = grind arith

whole_four : (number : ℕ) (bytes : List ℕ) (r : Result (List ℕ) DeflateFault) → 4 ≤ length bytes → IsWhole r
    → IsWhole (if nat_lt (length bytes) 4 then Err Cut else (if little_endian (take 4 bytes) == number then r else Err Bad))
whole_four number bytes r h w =
    let short : nat_lt (length bytes) 4 ≡ false = le-ltb (length bytes) 4 h in
    rw short ((elim (little_endian (take 4 bytes) == number) as (λ b. IsWhole (if b then r else Err Bad)) [
      | true ↦ w
      | false ↦ tt
    ]))

whole_trailer : (sum size : ℕ) (bytes : List ℕ) → 8 ≤ length bytes → IsWhole (trailer_in sum size bytes)
unfolding trailer_in size_in
whole_trailer sum size bytes h =
    whole_four sum bytes _ (omega arith) (whole_four size (drop 4 bytes) (Ok (drop 4 (drop 4 bytes))) (omega (arith, length-drop 4 bytes)) tt)

-- a trailer leaves all but its own bytes
trailer_leaves : (sum size : ℕ) (bytes behind : List ℕ) → trailer_in sum size bytes ≡ Ok behind
    → (8 ≤ length bytes) × (length behind + 8 ≡ length bytes)
unfolding trailer_in size_in
trailer_leaves sum size bytes behind e =
    let p = four_alone sum bytes behind _ e in
    let q = four_alone size (drop 4 bytes) behind (Ok (drop 4 (drop 4 bytes))) p.1 in
    let rest : drop 4 (drop 4 bytes) ≡ behind = same_left _ behind q.1 in (
      omega (arith, length-drop 4 bytes, q.0),
      omega (arith, length-drop 4 bytes, length-drop 4 (drop 4 bytes), q.0, ap (λ (l : List ℕ). length l) rest),
    )
  where
    same_left : (x y : List ℕ) → ◌≡◌ {A = Result (List ℕ) DeflateFault} (Ok x) (Ok y) → x ≡ y
    same_left x y k = same_ok x y k

no_bytes : (bytes : List ℕ) → length bytes ≡ 0 → bytes ≡ []
no_bytes [] e = refl
no_bytes (b ∷ bytes) e = absurd (omega arith)

-- what is left by a trailer of its own bytes
left_alone : (rest behind : List ℕ) (r : Result (List ℕ) DeflateFault) → left rest r ≡ Ok behind → length rest ≡ length behind
    → (r ≡ Ok []) × (rest ≡ behind)
left_alone rest behind (Ok t) e size =
    let same : t ++ rest ≡ behind = same_ok (t ++ rest) behind e in
    let none : t ≡ [] = no_bytes t (omega (arith, size, ap (λ (l : List ℕ). length l) same, length-append t rest)) in
    (ap (λ (l : List ℕ). Ok l) none, sym (ap (λ (l : List ℕ). l ++ rest) none) ∙ same)
left_alone rest behind (Err fault) e size = absurd cc

trailer_alone : (sum size : ℕ) (bytes behind : List ℕ) → trailer_in sum size bytes ≡ Ok behind
    → (front : List ℕ) × (bytes ≡ front ++ behind) × (length front ≡ 8) × (trailer_in sum size front ≡ Ok [])
trailer_alone sum size bytes behind e =
    let h = trailer_leaves sum size bytes behind e in
    let front = take 8 bytes in
    let rest = drop 8 bytes in
    let split : front ++ rest ≡ bytes = take-append-drop 8 bytes in
    let eight : length front ≡ 8 = length-take-le 8 bytes h.0 in
    let whole : IsWhole (trailer_in sum size front) = whole_trailer sum size front (omega (arith, eight)) in
    let found : left rest (trailer_in sum size front) ≡ Ok behind =
    sym (trailer_stays sum size front rest whole) ∙ ap (trailer_in sum size) split ∙ e in
    let p = left_alone rest behind (trailer_in sum size front) found (omega (arith, h.1, length-drop 8 bytes)) in
    (front, sym split ∙ ap (λ (l : List ℕ). front ++ l) p.1, eight, p.0)

-- ---- the data

text_with : (text t behind : List ℕ) (r : Result (List ℕ) DeflateFault) → (r >>= with_text t) ≡ Ok (text, behind)
    → (r ≡ Ok behind) × (t ≡ text)
text_with text t behind (Ok rest) e =
    let same : (t, rest) ≡ (text, behind) = same_ok _ _ e in
    (ap (λ (x : List ℕ × List ℕ). Ok x.1) same, ap (λ (x : List ℕ × List ℕ). x.0) same)
text_with text t behind (Err fault) e = absurd cc

-- the bits of a front of bytes, behind a shorter front
bits_alone : (one behind front rest : List ℕ) → bits_of (one ++ behind) ≡ front ++ rest → length front ≤ 8 * length one
    → bits_of one ≡ front ++ drop (length front) (bits_of one)
bits_alone one behind front rest e inside =
    let k = length front in
    let same : take k (bits_of one) ≡ front =
    sym (take-append-le k (bits_of one) (bits_of behind) (omega (arith, inside, length-bits_of one)))
    ∙ ap (take k) (sym (bits_front one behind 0 (omega arith)) ∙ e) ∙ take-append_seam front rest in
    sym (take-append-drop k (bits_of one)) ∙ ap (λ (l : List ℕ). l ++ drop k (bits_of one)) same

abbrev IsAlone : List ℕ → List ℕ → List ℕ → Type 0
IsAlone bytes text behind = (one : List ℕ) × (bytes ≡ one ++ behind) × (body_in one ≡ Ok (text, []))

closed_alone : (bytes text behind t rest : List ℕ) → inflated (bits_of bytes) ≡ Ok (t, rest) → closed bytes (t, rest) ≡ Ok (text, behind)
    → IsAlone bytes text behind
unfolding body_in
closed_alone bytes text behind t rest unpacked e =
    let sum = crc_32 t in
    let size = length t % 2 ^ 32 in
    let n = length bytes - length rest / 8 in
    let p = text_with text t behind (trailer_in sum size (drop n bytes)) e in
    let q = trailer_alone sum size (drop n bytes) behind p.0 in
    let first = take n bytes in
    let one = first ++ q.0 in
    let f = inflated_takes AtBlock (bits_of bytes) [] tt (bits_small bytes) (t, rest) unpacked in
    let front = f.0 in
    let split : bytes ≡ one ++ behind =
    sym (take-append-drop n bytes) ∙ ap (λ (l : List ℕ). first ++ l) q.1 ∙ sym (append_assoc first q.0 behind) in
    let short : length first ≡ n = length-take-le n bytes (omega arith) in
    let long : length one ≡ n + 8 = omega (arith, length-append first q.0, short, q.2) in
    let all : length front + length rest ≡ 8 * length bytes =
    omega (arith, length-append front rest, ap (λ (l : List ℕ). length l) f.1, length-bits_of bytes) in
    let inside : length front ≤ 8 * length one = omega (arith, all, long) in
    let tail = drop (length front) (bits_of one) in
    let own : bits_of one ≡ front ++ tail =
    bits_alone one behind front rest (ap bits_of (sym split) ∙ f.1) inside in
    let left : length tail ≡ 8 * (n + 8) - length front = omega (arith, length-drop (length front) (bits_of one), length-bits_of one, long) in
    let odd : length tail ≡ 64 + length rest % 8 = omega (arith, left, all) in
    let read : inflated (bits_of one) ≡ Ok (t, tail) = ap inflated own ∙ f.2 tail (omega (arith, odd)) in
    let at : length one - length tail / 8 ≡ length first = omega (arith, long, odd, short) in
    let found : bytes_behind one tail ≡ q.0 = ap (λ (k : ℕ). drop k one) at ∙ drop-append_seam first q.0 in (
      one,
      split,
      ap (λ r. r >>= closed one) read ∙ ap (λ (l : List ℕ). trailer_in sum size l >>= with_text t) found
          ∙ ap (λ r. r >>= with_text t) q.3 ∙ ap (λ (l : List ℕ). Ok (l, [])) p.1,
    )

body_alone : (bytes text behind : List ℕ) → body_in bytes ≡ Ok (text, behind) → IsAlone bytes text behind
unfolding body_in
body_alone bytes text behind e = by_data (inflated (bits_of bytes)) refl e
  where
    by_data : (r : Result (List ℕ × List ℕ) DeflateFault) → inflated (bits_of bytes) ≡ r → (r >>= closed bytes) ≡ Ok (text, behind)
        → IsAlone bytes text behind
    by_data (Ok (t, rest)) h k = closed_alone bytes text behind t rest h k
    by_data (Err fault) h k = absurd cc

-- ---- the member

-- bytes that begin as those of a member
begins_alone : (bytes one behind text : List ℕ) → begins_member bytes ≡ Ok true → bytes ≡ one ++ behind → member_in one ≡ Ok (text, [])
    → begins_member one ≡ Ok true
unfolding member_in header_in flags_in past_in
begins_alone bytes [] behind text b e read = absurd cc
begins_alone bytes (first ∷ []) behind text b e read = absurd cc
begins_alone bytes (first ∷ second ∷ one) behind text b e read = ap begins_member (sym e) ∙ b

header_alone : (bytes text behind : List ℕ) (r : Result (Unit {0} × Parted) DeflateFault) → header_in ([], bytes) ≡ r
    → (r >>= body_behind) ≡ Ok (text, behind) → (one : List ℕ) × (bytes ≡ one ++ behind) × (member_in one ≡ Ok (text, []))
unfolding member_in
header_alone bytes text behind (Ok x) h k =
    let p = header_takes ([], bytes) x h in
    let q = body_alone x.1.1 text behind k in (
      p.0 ++ q.0,
      p.1 ∙ ap (λ (l : List ℕ). p.0 ++ l) q.1 ∙ sym (append_assoc p.0 q.0 behind),
      ap (λ r. r >>= body_behind) (p.2 q.0) ∙ q.2,
    )
header_alone bytes text behind (Err fault) h k = absurd cc

-- a member's own bytes are the member
pub member_alone : (bytes text behind : List ℕ) → begins_member bytes ≡ Ok true → member_in bytes ≡ Ok (text, behind)
    → (one : List ℕ) × (bytes ≡ one ++ behind) × IsMember one text
unfolding member_in
member_alone bytes text behind b e =
    let p = header_alone bytes text behind (header_in ([], bytes)) refl e in
    (p.0, p.1, record { begins = begins_alone bytes p.0 behind text b p.1 p.2; reads = p.2 })
