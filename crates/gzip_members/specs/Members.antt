-- Members (RFC 1952, 2.2 and 2.3).
use Rattle.std.specs.Prelude.{ℕ, ◌-◌, ◌/◌, ◌%◌, ◌^◌, ◌==◌, nat_lt, List, [], length, take, drop, Result, Ok, Err, if◌then◌else◌}
use Rattle.deflate_bits.specs.declared.fault.DeflateFault.{DeflateFault}
use Rattle.deflate_bits.specs.declared.fault.DeflateFault.TheVariants.{Bad, Cut}
use Rattle.deflate_bits.specs.Bits.{bits_of, little_endian}
use Rattle.deflate_bits.specs.Reading.{◌>>=◌}
use Rattle.crc_32.specs.Crc.{crc_32}
use Rattle.inflate.specs.Blocks.{inflated}
use Rattle.gzip_members.specs.Header.{Parted, header_in}

-- the bytes behind those of which these bits are left: the data end with a byte
abbrev pub bytes_behind : List ℕ → List ℕ → List ℕ
bytes_behind bytes bits = drop (length bytes - length bits / 8) bytes

-- the text's length modulo 2^32 (ISIZE)
unfoldable pub size_in : ℕ → List ℕ → Result (List ℕ) DeflateFault
size_in size bytes =
    if nat_lt (length bytes) 4 then Err Cut else (if little_endian (take 4 bytes) == size then Ok (drop 4 bytes) else Err Bad)

-- the trailer: the text's checksum (CRC32), and its length; what is behind it
unfoldable pub trailer_in : ℕ → ℕ → List ℕ → Result (List ℕ) DeflateFault
trailer_in sum size bytes =
    if nat_lt (length bytes) 4 then Err Cut else (if little_endian (take 4 bytes) == sum then size_in size (drop 4 bytes) else Err Bad)

-- a text with the bytes behind its member
abbrev pub with_text : List ℕ → List ℕ → Result (List ℕ × List ℕ) DeflateFault
with_text text behind = Ok (text, behind)

-- the trailer of a text's data, of which these bits are left
abbrev pub closed : List ℕ → List ℕ × List ℕ → Result (List ℕ × List ℕ) DeflateFault
closed bytes (text, bits) = trailer_in (crc_32 text) (length text % 2 ^ 32) (bytes_behind bytes bits) >>= with_text text

-- the text of a member behind its header, and the bytes behind the member
unfoldable pub body_in : List ℕ → Result (List ℕ × List ℕ) DeflateFault
body_in bytes = inflated (bits_of bytes) >>= closed bytes

abbrev pub body_behind : Unit {0} × Parted → Result (List ℕ × List ℕ) DeflateFault
body_behind (u, header) = body_in header.1

-- the text of the member that begins these bytes, and the bytes behind it
unfoldable pub member_in : List ℕ → Result (List ℕ × List ℕ) DeflateFault
member_in bytes = header_in ([], bytes) >>= body_behind
