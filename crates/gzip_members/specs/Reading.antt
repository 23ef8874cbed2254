-- What a call reads from the front of a file's bytes.
use Rattle.std.specs.Prelude.{◌≡◌, ℕ, ◌+◌, ◌-◌, ◌^◌, ◌<◌, ◌≤◌, ⊤, List, length, drop, Option, None, Some, option_map, Result, Ok, Err}
use Rattle.devices.specs.Device.{next_count}
use Rattle.deflate_bits.specs.declared.fault.DeflateFault.{DeflateFault}
use Rattle.deflate_bits.specs.declared.fault.DeflateFault.TheVariants as faults
use Rattle.crc_32.specs.Crc.{crc_32}
use Rattle.gzip_members.specs.declared.fault.MemberFault.{MemberFault}
use Rattle.gzip_members.specs.declared.fault.MemberFault.TheVariants.{Read, NoMember, Bad, Cut, TooFar, TooLong}
use Rattle.std.specs.Io.KnownBytes.{prepend_known}
use Rattle.gzip_members.specs.declared.checked_input.CheckedInput.{CheckedInput}
use Rattle.gzip_members.specs.Header.{Parted}

-- what is ahead in the file, where that is known, the checksum of what was taken, and the number of bytes taken
pub record Taken : Type 0 where
  pub ahead : Option (List ℕ)
  pub checksum : ℕ
  pub passed : ℕ

abbrev pub taken : {I : Type 0} {g : _} → CheckedInput I g → Taken
taken {I} {g} c = record { ahead = prepend_known c.ahead (g.remaining c.input); checksum = c.checksum; passed = c.passed }

-- the number of bytes taken and ahead, where those are known: the file's length
abbrev pub total_of : Taken → Option ℕ
total_of t = option_map (λ bytes. t.passed + length bytes) t.ahead

-- a call took some bytes or none, and read some ahead or none
pub record Moves (old new : Taken) : Type 0 where
  -- no byte that was taken is given back
  pub onward : old.passed ≤ new.passed
  -- each known byte was taken, or is ahead
  pub counted : (total : ℕ) → total_of old ≡ Some total → total_of new ≡ Some total

-- a fault is the one that the bytes give, unless the input failed or the file is too long
abbrev pub IsFault : {A : Type 0} → MemberFault → ℕ → Result A DeflateFault → Type 0
IsFault Read whole read = ⊤
IsFault NoMember whole read = ⊥
IsFault Bad whole read = read ≡ Err faults.Bad
IsFault Cut whole read = read ≡ Err faults.Cut
IsFault TooFar whole read = 2 ^ 63 - 1 < whole
IsFault TooLong whole read = ⊥

-- a call answered what f reads at the front of the known bytes and left those behind, and kept the checksum of what was
-- read and the number of bytes
abbrev pub ReadsFrom : {A : Type 0} → (Parted → Result (A × Parted) DeflateFault) → Result A MemberFault → ℕ → ℕ → ℕ → ℕ
    → Option (List ℕ) → Option (List ℕ) → Type 0
ReadsFrom f r old new was is None after = ⊤
ReadsFrom f (Ok x) old new was is (Some z) None = ⊥
ReadsFrom f (Ok x) old new was is (Some z) (Some rest) = ((read : List ℕ) → old ≡ crc_32 read
    → (now : List ℕ) × (f (read, z) ≡ Ok (x, (now, rest))) × (new ≡ crc_32 now)) × (is + length rest ≡ was + length z)
ReadsFrom f (Err e) old new was is (Some z) after = (read : List ℕ) → old ≡ crc_32 read → IsFault e (was + length z) (f (read, z))

abbrev pub Reads : {A : Type 0} → (Parted → Result (A × Parted) DeflateFault) → Result A MemberFault → Taken → Taken → Type 0
Reads f r old new = ReadsFrom f r old.checksum new.checksum old.passed new.passed old.ahead new.ahead

-- an answer of Read goes with one more failure of the input, any other with none
abbrev pub CountsMember : {A : Type 0} → Result A MemberFault → ℕ → ℕ → Type 0
CountsMember (Ok x) old new = new ≡ old
CountsMember (Err Read) old new = new ≡ next_count old
CountsMember (Err NoMember) old new = new ≡ old
CountsMember (Err Bad) old new = new ≡ old
CountsMember (Err Cut) old new = new ≡ old
CountsMember (Err TooFar) old new = new ≡ old
CountsMember (Err TooLong) old new = new ≡ old

-- what was found in the first n bytes leaves those behind
abbrev pub GivesRest : ℕ → List ℕ → Result (Unit {0}) DeflateFault → Result (List ℕ) DeflateFault → Type 0
GivesRest n bytes (Ok u) read = read ≡ Ok (drop n bytes)
GivesRest n bytes (Err e) read = read ≡ Err e

-- the first n known bytes were passed over, or all if there are fewer
abbrev pub PassesOver : ℕ → Option (List ℕ) → Option (List ℕ) → Type 0
PassesOver n None after = ⊤
PassesOver n (Some bytes) None = ⊥
PassesOver n (Some bytes) (Some rest) = rest ≡ drop n bytes
