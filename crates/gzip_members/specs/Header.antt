-- The header of a member (RFC 1952, 2.3).
use Rattle.std.specs.Prelude.{ℕ, zero, suc, ◌+◌, ◌*◌, ◌/◌, ◌%◌, ◌^◌, ◌==◌, ◌&&◌, nat_lt, Bool, List, [], ◌∷◌, ◌++◌, Result, Ok, Err, if◌then◌else◌}
use Rattle.deflate_bits.specs.declared.fault.DeflateFault.{DeflateFault}
use Rattle.deflate_bits.specs.declared.fault.DeflateFault.TheVariants.{Bad, Cut}
use Rattle.deflate_bits.specs.Reading.{◌>>=◌}
use Rattle.crc_32.specs.Crc.{crc_32}

-- the bytes of a header that were read, and those behind them
abbrev pub Parted : Type 0
Parted = List ℕ × List ℕ

-- the next byte
abbrev pub byte_in : Parted → Result (ℕ × Parted) DeflateFault
byte_in (read, []) = Err Cut
byte_in (read, byte ∷ bytes) = Ok (byte, (read ++ byte ∷ [], bytes))

-- two bytes as a number, the first the least significant
unfoldable pub pair_in : Parted → Result (ℕ × Parted) DeflateFault
pair_in bytes = do
  low ← byte_in bytes
  high ← byte_in low.1
  Ok (low.0 + 256 * high.0, high.1)

-- n bytes of any kind
unfoldable pub past_in : ℕ → Parted → Result (Unit {0} × Parted) DeflateFault
past_in zero bytes = Ok (tt, bytes)
past_in (suc n) bytes = do
  byte ← byte_in bytes
  past_in n byte.1

-- a text, up to and with the zero that ends it
unfoldable pub text_in : List ℕ → List ℕ → Result (Unit {0} × Parted) DeflateFault
text_in read [] = Err Cut
text_in read (byte ∷ bytes) = if byte == 0 then Ok (tt, (read ++ byte ∷ [], bytes)) else text_in (read ++ byte ∷ []) bytes

-- whether one of the flags is set, by its value
abbrev pub is_set : ℕ → ℕ → Bool
is_set flag flags = flags / flag % 2 == 1

-- what a field reads where its flag is set
abbrev pub where_set : ℕ → ℕ → (Parted → Result (Unit {0} × Parted) DeflateFault) → Parted → Result (Unit {0} × Parted) DeflateFault
where_set flag flags field bytes = if is_set flag flags then field bytes else Ok (tt, bytes)

-- the extra field: its length, and so many bytes (FEXTRA)
unfoldable pub extra_in : Parted → Result (Unit {0} × Parted) DeflateFault
extra_in bytes = do
  size ← pair_in bytes
  past_in size.0 size.1

-- a name or a comment (FNAME, FCOMMENT)
abbrev pub name_in : Parted → Result (Unit {0} × Parted) DeflateFault
name_in (read, bytes) = text_in read bytes

-- the checksum of the header in front of it (FHCRC): the lowest 16 bits of CRC-32
abbrev pub sum_is : Parted → ℕ × Parted → Result (Unit {0} × Parted) DeflateFault
sum_is (read, bytes) (sum, behind) = if sum == crc_32 read % 2 ^ 16 then Ok (tt, behind) else Err Bad

unfoldable pub sum_in : Parted → Result (Unit {0} × Parted) DeflateFault
sum_in bytes = pair_in bytes >>= sum_is bytes

-- the method is deflate, and no reserved flag is set
abbrev pub is_known : ℕ → ℕ → Bool
is_known method flags = method == 8 && nat_lt flags 32

-- the four bytes that every header begins with; of these the first two say that it is one
unfoldable pub flags_in : Parted → Result (ℕ × Parted) DeflateFault
flags_in bytes = do
  name ← past_in 2 bytes
  method ← byte_in name.1
  flags ← byte_in method.1
  if is_known method.0 flags.0 then Ok flags else Err Bad

-- the optional fields
unfoldable pub fields_in : ℕ → Parted → Result (Unit {0} × Parted) DeflateFault
fields_in flags bytes = do
  extra ← where_set 4 flags extra_in bytes
  name ← where_set 8 flags name_in extra.1
  comment ← where_set 16 flags name_in name.1
  where_set 2 flags sum_in comment.1

-- a header; the time, the extra flags and the system are six bytes
unfoldable pub header_in : Parted → Result (Unit {0} × Parted) DeflateFault
header_in bytes = do
  flags ← flags_in bytes
  fixed ← past_in 6 flags.1
  fields_in flags.0 fixed.1
