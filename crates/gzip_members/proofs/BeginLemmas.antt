-- A member is begun.
use Rattle.std.proofs.Common.{◌≡◌, ℕ, ◌+◌, ◌-◌, ◌%◌, ◌^◌, ◌≤◌, true, false, nat_lt, List, [], length, Option, None, Some, Result, Ok, Err, refl, sym, ap, ◌∙◌, subst, inl, inr, arith, zero-add}
use Rattle.std.specs.Bool.{if◌then◌else◌}
use Rattle.std.proofs.lemmas.Bool.{le-ltb}
use Rattle.std.specs.Io.KnownBytes.{Keeps}
use Rattle.deflate_bits.specs.declared.fault.DeflateFault.{DeflateFault}
use Rattle.deflate_bits.specs.Bits.{bits_of}
use Rattle.deflate_bits.specs.Reading.{◌>>=◌}
use Rattle.crc_32.specs.Crc.{crc_32}
use Rattle.inflate.specs.Heads.{AtBlock}
use Rattle.inflate.specs.Blocks.{inflated}
use Rattle.inflate.specs.Inflating.{place_of}
use Rattle.gzip_members.specs.declared.fault.MemberFault.{MemberFault}
use Rattle.gzip_members.specs.declared.fault.MemberFault.TheVariants.{Read, NoMember, Bad, Cut, TooFar, TooLong}
use Rattle.gzip_members.specs.declared.body.Body.{Body}
use Rattle.gzip_members.specs.declared.body.Stage.TheVariants.{Data}
use Rattle.gzip_members.specs.Header.{header_in}
use Rattle.gzip_members.specs.Members.{bytes_behind, trailer_in, with_text, closed, body_in, body_behind, member_in}
use Rattle.gzip_members.specs.Reading.{ReadsFrom}
use Rattle.gzip_members.specs.Starts.{AnswersStart, StartsFrom, begins_member}
use Rattle.gzip_members.specs.Bodies.{TextSoFar, text_so_far, closing, left_in, left_in_data}
use Rattle.gzip_members.specs.Left.{left_ahead, BeginsMember}
use Rattle.gzip_members.proofs.StepLemmas.{left-data}

-- a member begins there
begins : (bytes : List ℕ) → AnswersStart (Ok true) (Some bytes) → begins_member bytes ≡ Ok true
begins bytes (inl e) = absurd cc
begins bytes (inr e) = sym e

-- a header was read from its first byte on
pub starts-ok : (sum was is at : ℕ) (before mid after : Option (List ℕ)) → at ≡ was → Keeps before mid
    → AnswersStart (Ok true) before → ReadsFrom header_in (Ok tt) 0 sum at is mid after
    → StartsFrom (Ok true) was is before after
starts-ok sum was is at None mid after e k b r = tt
starts-ok sum was is at (Some z) None after e k b r = absurd k
starts-ok sum was is at (Some z) (Some w) None e k b r = absurd r
starts-ok sum was is at (Some z) (Some w) (Some rest) e k b r =
    let h = r.0 [] refl in
    let same = ap (λ l. header_in ([], l)) (sym k) ∙ h.1 in
    (begins z b, (h.0, same), r.1 ∙ ap (λ n. n + length w) e ∙ ap (λ (l : List ℕ). was + length l) k)

pub starts-not : (fault : MemberFault) (sum was is at : ℕ) (before mid after : Option (List ℕ)) → at ≡ was
    → Keeps before mid → AnswersStart (Ok true) before → ReadsFrom header_in (Err fault) 0 sum at is mid after
    → StartsFrom (Err fault) was is before after
starts-not fault sum was is at None mid after e k b r = tt
starts-not fault sum was is at (Some z) None after e k b r = absurd k
starts-not Read sum was is at (Some z) (Some w) after e k b r = tt
starts-not NoMember sum was is at (Some z) (Some w) after e k b r = absurd (r [] refl)
starts-not Bad sum was is at (Some z) (Some w) after e k b r =
    (begins z b, ap (λ l. header_in ([], l)) (sym k) ∙ r [] refl)
starts-not Cut sum was is at (Some z) (Some w) after e k b r =
    inr (begins z b, ap (λ l. header_in ([], l)) (sym k) ∙ r [] refl)
starts-not TooFar sum was is at (Some z) (Some w) after e k b r = omega (arith, r [] refl, ap length k)
starts-not TooLong sum was is at (Some z) (Some w) after e k b r = absurd (r [] refl)

-- the text of a whole member
abbrev none_yet : TextSoFar
none_yet = record { text = []; given = 0; checksum = 0; size = 0 }

closed-is : (bytes : List ℕ) (r : Result (List ℕ × List ℕ) DeflateFault) → (r >>= closing none_yet bytes) ≡ (r >>= closed bytes)
closed-is bytes (Ok (text, bits)) =
    ap (λ n. trailer_in (crc_32 text) (n % 2 ^ 32) (bytes_behind bytes bits) >>= with_text text) (zero-add (length text))
closed-is bytes (Err e) = refl

whole-left : (bytes : List ℕ) → left_in_data AtBlock 0 none_yet bytes ≡ body_in bytes
unfolding left_in_data body_in
whole-left bytes = closed-is bytes (inflated (bits_of bytes))

read-member : (bytes rest now : List ℕ) → header_in ([], bytes) ≡ Ok (tt, (now, rest)) → member_in bytes ≡ body_in rest
unfolding member_in
read-member bytes rest now e = ap (λ r. r >>= body_behind) e

begun-from : (b : Body) (was is : ℕ) (bytes : List ℕ) (after : Option (List ℕ)) → left_in b ≡ body_in → StartsFrom (Ok true) was is (Some bytes) after
    → was + length bytes ≤ 2 ^ 63 - 1
    → (begins_member bytes ≡ Ok true) × (left_ahead b is after ≡ Some (member_in bytes))
begun-from b was is bytes None all s near = absurd s
begun-from b was is bytes (Some rest) all s near =
    let h : is + length rest ≤ 2 ^ 63 - 1 = omega (arith, s.2) in
    let short : nat_lt (2 ^ 63 - 1) (is + length rest) ≡ false = le-ltb (2 ^ 63 - 1) (is + length rest) h in
    let left = ap (λ v. if v then None else Some (left_in b rest)) short
    ∙ ap (λ f. Some (f rest)) all ∙ ap (λ r. Some r) (sym (read-member bytes rest s.1.0 s.1.1)) in
    (s.0, left)

-- what is left of a member that was begun is its text, and what is behind it
pub begun : (b : Body) (was is : ℕ) (before after : Option (List ℕ)) (bytes : List ℕ) → b.stage ≡ Data → place_of b.inflater ≡ AtBlock → b.bits ≡ 0
    → text_so_far b ≡ none_yet → StartsFrom (Ok true) was is before after → before ≡ Some bytes → was + length bytes ≤ 2 ^ 63 - 1
    → (begins_member bytes ≡ Ok true) × (left_ahead b is after ≡ Some (member_in bytes))
begun b was is before after bytes stage place bits text s e near =
    let all : left_in b ≡ body_in = λ i bytes. (left-data b bytes stage
    ∙ ap (λ p. left_in_data p b.bits (text_so_far b) bytes) place ∙ ap (λ k. left_in_data AtBlock k (text_so_far b) bytes) bits
    ∙ ap (λ t. left_in_data AtBlock 0 t bytes) text ∙ whole-left bytes) i in
    let P : Option (List ℕ) → Type 0 = λ o. StartsFrom (Ok true) was is o after in
    begun-from b was is bytes after all (subst P e s) near

no-member : (fault : MemberFault) (was is : ℕ) (bytes : List ℕ) (after : Option (List ℕ)) (left : Option (Result (List ℕ × List ℕ) DeflateFault))
    → StartsFrom (Err fault) was is (Some bytes) after → was + length bytes ≤ 2 ^ 63 - 1 → BeginsMember bytes (Err fault) left
unfolding member_in
no-member Read was is bytes after left s near = tt
no-member NoMember was is bytes after left s near = s
no-member Bad was is bytes after left s near = (s.0, ap (λ r. r >>= body_behind) s.1)
no-member Cut was is bytes after left (inl s) near = inl s
no-member Cut was is bytes after left (inr s) near = inr (s.0, ap (λ r. r >>= body_behind) s.1)
no-member TooFar was is bytes after left s near = absurd (omega arith)
no-member TooLong was is bytes after left s near = absurd s

-- why no member was begun
pub not-begun : (fault : MemberFault) (was is : ℕ) (before after : Option (List ℕ)) (bytes : List ℕ) (left : Option (Result (List ℕ × List ℕ) DeflateFault))
    → StartsFrom (Err fault) was is before after → before ≡ Some bytes → was + length bytes ≤ 2 ^ 63 - 1 → BeginsMember bytes (Err fault) left
not-begun fault was is before after bytes left s e near =
    let P : Option (List ℕ) → Type 0 = λ o. StartsFrom (Err fault) was is o after in
    no-member fault was is bytes after left (subst P e s) near
