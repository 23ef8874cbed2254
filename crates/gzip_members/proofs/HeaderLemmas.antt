-- Laws of reading a header step by step.
use Rattle.std.proofs.Common.{◌≡◌, ℕ, zero, suc, ◌+◌, ◌-◌, ◌<◌, ◌≤◌, List, [], ◌∷◌, ◌++◌, Option, None, Some, Result, Ok, Err, refl, sym, ap, ◌∙◌, arith, length, true, false}
use Rattle.std.specs.Bool.{⊤, ◌==◌, if◌then◌else◌}
use Rattle.deflate_bits.specs.declared.fault.DeflateFault.{DeflateFault}
use Rattle.deflate_bits.specs.Reading.{◌>>=◌}
use Rattle.crc_32.specs.Crc.{crc_32}
use Rattle.gzip_members.specs.declared.fault.MemberFault.{MemberFault}
use Rattle.gzip_members.specs.declared.fault.MemberFault.TheVariants.{Read, NoMember, Bad, Cut, TooFar, TooLong}
use Rattle.gzip_members.specs.Header.{Parted, byte_in, past_in, text_in, name_in}
use Rattle.gzip_members.specs.Reading.{Reads, ReadsFrom, Taken}

-- what is read from the start on is what is read later from here on
abbrev pub ContinuesFrom : {A : Type 0} → (Parted → Result (A × Parted) DeflateFault) → (Parted → Result (A × Parted) DeflateFault) → ℕ → ℕ → ℕ → ℕ
    → Option (List ℕ) → Option (List ℕ) → Type 0
ContinuesFrom whole later old new was is None now = ⊤
ContinuesFrom whole later old new was is (Some z) None = ⊥
ContinuesFrom whole later old new was is (Some z) (Some rest) = ((read : List ℕ) → old ≡ crc_32 read
    → (now : List ℕ) × (whole (read, z) ≡ later (now, rest)) × (new ≡ crc_32 now)) × (is + length rest ≡ was + length z)

abbrev pub Continues : {A : Type 0} → (Parted → Result (A × Parted) DeflateFault) → (Parted → Result (A × Parted) DeflateFault) → Taken → Taken → Type 0
Continues whole later old new = ContinuesFrom whole later old.checksum new.checksum old.passed new.passed old.ahead new.ahead

starts-from : {A : Type 0} (f : Parted → Result (A × Parted) DeflateFault) (sum passed : ℕ) (z : Option (List ℕ)) → ContinuesFrom f f sum sum passed passed z z
starts-from f sum passed None = tt
starts-from f sum passed (Some z) = (λ read e. (read, refl, e), refl)

pub continues-start : {A : Type 0} (f : Parted → Result (A × Parted) DeflateFault) (now : Taken) → Continues f f now now
continues-start f now = starts-from f now.checksum now.passed now.ahead

byte-from : {A : Type 0} (whole later next : Parted → Result (A × Parted) DeflateFault) (byte start mid new was is will : ℕ)
    (z before after : Option (List ℕ))
    → ((read bytes rest now : List ℕ) → byte_in (read, bytes) ≡ Ok (byte, (now, rest)) → later (read, bytes) ≡ next (now, rest))
    → ContinuesFrom whole later start mid was is z before → ReadsFrom byte_in (Ok byte) mid new is will before after
    → ContinuesFrom whole next start new was will z after
byte-from whole later next byte start mid new was is will None before after step c r = tt
byte-from whole later next byte start mid new was is will (Some z) None after step c r = absurd c
byte-from whole later next byte start mid new was is will (Some z) (Some b) None step c r = absurd r
byte-from whole later next byte start mid new was is will (Some z) (Some b) (Some rest) step c r = (
  λ read e.
      let d = c.0 read e in
      let h = r.0 d.0 d.2 in
      (h.0, d.1 ∙ step d.0 b rest h.0 h.1, h.2),
  r.1 ∙ c.1,
)

-- one byte on
pub continues-byte : {A : Type 0} (whole later next : Parted → Result (A × Parted) DeflateFault) (byte : ℕ) (start mid new : Taken)
    → ((read bytes rest now : List ℕ) → byte_in (read, bytes) ≡ Ok (byte, (now, rest)) → later (read, bytes) ≡ next (now, rest))
    → Continues whole later start mid → Reads byte_in (Ok byte) mid new → Continues whole next start new
continues-byte whole later next byte start mid new step c r =
    byte-from whole later next byte start.checksum mid.checksum new.checksum start.passed mid.passed new.passed start.ahead mid.ahead new.ahead step c r

ends-from : {A : Type 0} (whole later : Parted → Result (A × Parted) DeflateFault) (start mid new was is will : ℕ) (result : Result A MemberFault)
    (z before after : Option (List ℕ)) → ContinuesFrom whole later start mid was is z before → ReadsFrom later result mid new is will before after
    → ReadsFrom whole result start new was will z after
ends-from whole later start mid new was is will result None before after c r = tt
ends-from whole later start mid new was is will result (Some z) None after c r = absurd c
ends-from whole later start mid new was is will (Ok x) (Some z) (Some b) None c r = absurd r
ends-from whole later start mid new was is will (Ok x) (Some z) (Some b) (Some rest) c r = (
  λ read e.
      let d = c.0 read e in let h = r.0 d.0 d.2 in (h.0, d.1 ∙ h.1, h.2),
  r.1 ∙ c.1,
)
ends-from whole later start mid new was is will (Err Read) (Some z) (Some b) after c r = λ read e. tt
ends-from whole later start mid new was is will (Err NoMember) (Some z) (Some b) after c r = λ read e. let d = c.0 read e in r d.0 d.2
ends-from whole later start mid new was is will (Err Bad) (Some z) (Some b) after c r = λ read e. let d = c.0 read e in d.1 ∙ r d.0 d.2
ends-from whole later start mid new was is will (Err Cut) (Some z) (Some b) after c r = λ read e. let d = c.0 read e in d.1 ∙ r d.0 d.2
ends-from whole later start mid new was is will (Err TooFar) (Some z) (Some b) after c r = λ read e.
    let d = c.0 read e in rw (sym c.1) (r d.0 d.2)
ends-from whole later start mid new was is will (Err TooLong) (Some z) (Some b) after c r = λ read e. let d = c.0 read e in r d.0 d.2

-- where what is left is read, all is
pub continues-ends : {A : Type 0} (whole later : Parted → Result (A × Parted) DeflateFault) (start mid new : Taken) (result : Result A MemberFault)
    → Continues whole later start mid → Reads later result mid new → Reads whole result start new
continues-ends whole later start mid new result c r =
    ends-from whole later start.checksum mid.checksum new.checksum start.passed mid.passed new.passed result start.ahead mid.ahead new.ahead c r

refused-from : {A B : Type 0} (first : Parted → Result (A × Parted) DeflateFault) (more : A × Parted → Result (B × Parted) DeflateFault)
    (fault : MemberFault) (old new was is : ℕ) (before after : Option (List ℕ)) → ReadsFrom first (Err fault) old new was is before after
    → ReadsFrom (λ bytes. first bytes >>= more) (Err fault) old new was is before after
refused-from first more fault old new was is None after r = tt
refused-from first more Read old new was is (Some z) after r = λ read e. tt
refused-from first more NoMember old new was is (Some z) after r = λ read e. r read e
refused-from first more Bad old new was is (Some z) after r = λ read e. ap (λ found. found >>= more) (r read e)
refused-from first more Cut old new was is (Some z) after r = λ read e. ap (λ found. found >>= more) (r read e)
refused-from first more TooFar old new was is (Some z) after r = λ read e. r read e
refused-from first more TooLong old new was is (Some z) after r = λ read e. r read e

-- a first step that is refused is that of all
pub refused-first : {A B : Type 0} (first : Parted → Result (A × Parted) DeflateFault) (more : A × Parted → Result (B × Parted) DeflateFault)
    (fault : MemberFault) (old new : Taken) → Reads first (Err fault) old new → Reads (λ bytes. first bytes >>= more) (Err fault) old new
refused-first first more fault old new r = refused-from first more fault old.checksum new.checksum old.passed new.passed old.ahead new.ahead r

past-more : (n byte : ℕ) (read bytes rest now : List ℕ) → byte_in (read, bytes) ≡ Ok (byte, (now, rest))
    → past_in (suc n) (read, bytes) ≡ past_in n (now, rest)
unfolding past_in
past-more n byte read bytes rest now e = ap (λ found. found >>= (λ (b : ℕ × Parted). past_in n b.1)) e

none-from : (sum passed : ℕ) (z : Option (List ℕ)) → ReadsFrom (past_in zero) (Ok tt) sum sum passed passed z z
unfolding past_in
none-from sum passed None = tt
none-from sum passed (Some z) = (λ read e. (read, refl, e), refl)

past-from : (count byte n : ℕ) (start mid new : Taken) → Continues (past_in count) (past_in (suc n)) start mid → Reads byte_in (Ok byte) mid new
    → Continues (past_in count) (past_in n) start new
past-from count byte n start mid new c r = continues-byte (past_in count) (past_in (suc n)) (past_in n) byte start mid new (past-more n byte) c r

pub past-step : (count left byte : ℕ) (start mid new : Taken) → 0 < left → Continues (past_in count) (past_in left) start mid
    → Reads byte_in (Ok byte) mid new → Continues (past_in count) (past_in (left - 1)) start new
past-step count zero byte start mid new more c r = absurd (omega arith)
past-step count (suc n) byte start mid new more c r =
    let e : n ≡ suc n - 1 = omega arith in
    rw (sym e) (past-from count byte n start mid new c r)

past-cut : (n : ℕ) (fault : MemberFault) (old new : Taken) → 0 < n → Reads byte_in (Err fault) old new → Reads (past_in n) (Err fault) old new
unfolding past_in
past-cut zero fault old new more r = absurd (omega arith)
past-cut (suc n) fault old new more r = refused-first byte_in (λ (b : ℕ × Parted). past_in n b.1) fault old new r

pub past-refused : (count left : ℕ) (fault : MemberFault) (start mid new : Taken) → 0 < left → Continues (past_in count) (past_in left) start mid
    → Reads byte_in (Err fault) mid new → Reads (past_in count) (Err fault) start new
past-refused count left fault start mid new more c r =
    continues-ends (past_in count) (past_in left) start mid new (Err fault) c (past-cut left fault mid new more r)

pub past-done : (count left : ℕ) (start now : Taken) → left ≤ 0 → Continues (past_in count) (past_in left) start now
    → Reads (past_in count) (Ok tt) start now
past-done count zero start now done c =
    continues-ends (past_in count) (past_in zero) start now now (Ok tt) c (none-from now.checksum now.passed now.ahead)
past-done count (suc n) start now done c = absurd (omega arith)

pub ruleset past_rules = (continues-start, past-step, past-refused, past-done)

abbrev found_or : Result (ℕ × Parted) DeflateFault → ℕ × Parted → ℕ × Parted
found_or (Ok x) other = x
found_or (Err fault) other = other

same_found : (x y : ℕ × Parted) → ◌≡◌ {A = Result (ℕ × Parted) DeflateFault} (Ok x) (Ok y) → x ≡ y
same_found x y e = ap (λ r. found_or r x) e

name-more : (byte : ℕ) (read bytes rest now : List ℕ) → (byte == 0) ≡ false → byte_in (read, bytes) ≡ Ok (byte, (now, rest))
    → name_in (read, bytes) ≡ name_in (now, rest)
unfolding text_in
name-more byte read [] rest now some e = absurd cc
name-more byte read (b ∷ bytes) rest now some e =
    let p : ◌≡◌ {A = ℕ × Parted} (b, (read ++ b ∷ [], bytes)) (byte, (now, rest)) = same_found _ _ e in
    let f : (b == 0) ≡ false = ap (λ (q : ℕ × Parted). q.0 == 0) p ∙ some in
    ap (λ t. if t then Ok (tt, (read ++ b ∷ [], bytes)) else text_in (read ++ b ∷ []) bytes) f ∙ ap (λ (q : ℕ × Parted). name_in q.1) p

name-last : (byte : ℕ) (read bytes rest now : List ℕ) → (byte == 0) ≡ true → byte_in (read, bytes) ≡ Ok (byte, (now, rest))
    → name_in (read, bytes) ≡ Ok (tt, (now, rest))
unfolding text_in
name-last byte read [] rest now none e = absurd cc
name-last byte read (b ∷ bytes) rest now none e =
    let p : ◌≡◌ {A = ℕ × Parted} (b, (read ++ b ∷ [], bytes)) (byte, (now, rest)) = same_found _ _ e in
    let f : (b == 0) ≡ true = ap (λ (q : ℕ × Parted). q.0 == 0) p ∙ none in
    ap (λ t. if t then Ok (tt, (read ++ b ∷ [], bytes)) else text_in (read ++ b ∷ []) bytes) f ∙ ap (λ (q : ℕ × Parted). Ok (tt, q.1)) p

name-cut : (read bytes : List ℕ) (fault : DeflateFault) → byte_in (read, bytes) ≡ Err fault → name_in (read, bytes) ≡ Err fault
unfolding text_in
name-cut read [] fault e = cc
name-cut read (b ∷ bytes) fault e = absurd cc

pub name-step : (byte : ℕ) (start mid new : Taken) → (byte == 0) ≡ false → Continues name_in name_in start mid
    → Reads byte_in (Ok byte) mid new → Continues name_in name_in start new
name-step byte start mid new some c r =
    continues-byte name_in name_in name_in byte start mid new (λ read bytes rest now e. name-more byte read bytes rest now some e) c r

name-found : (byte old new was is : ℕ) (before after : Option (List ℕ)) → (byte == 0) ≡ true → ReadsFrom byte_in (Ok byte) old new was is before after
    → ReadsFrom name_in (Ok tt) old new was is before after
name-found byte old new was is None after none r = tt
name-found byte old new was is (Some z) None none r = absurd r
name-found byte old new was is (Some z) (Some rest) none r = (
  λ read e.
      let h = r.0 read e in (h.0, name-last byte read z rest h.0 none h.1, h.2),
  r.1,
)

pub name-done : (byte : ℕ) (start mid new : Taken) → (byte == 0) ≡ true → Continues name_in name_in start mid
    → Reads byte_in (Ok byte) mid new → Reads name_in (Ok tt) start new
name-done byte start mid new none c r = continues-ends name_in name_in start mid new (Ok tt) c
    (name-found byte mid.checksum new.checksum mid.passed new.passed mid.ahead new.ahead none r)

refused-name : (fault : MemberFault) (old new was is : ℕ) (before after : Option (List ℕ)) → ReadsFrom byte_in (Err fault) old new was is before after
    → ReadsFrom name_in (Err fault) old new was is before after
refused-name fault old new was is None after r = tt
refused-name Read old new was is (Some z) after r = λ read e. tt
refused-name NoMember old new was is (Some z) after r = λ read e. r read e
refused-name Bad old new was is (Some z) after r = λ read e. name-cut read z _ (r read e)
refused-name Cut old new was is (Some z) after r = λ read e. name-cut read z _ (r read e)
refused-name TooFar old new was is (Some z) after r = λ read e. r read e
refused-name TooLong old new was is (Some z) after r = λ read e. r read e

pub name-refused : (fault : MemberFault) (start mid new : Taken) → Continues name_in name_in start mid
    → Reads byte_in (Err fault) mid new → Reads name_in (Err fault) start new
name-refused fault start mid new c r = continues-ends name_in name_in start mid new (Err fault) c
    (refused-name fault mid.checksum new.checksum mid.passed new.passed mid.ahead new.ahead r)
