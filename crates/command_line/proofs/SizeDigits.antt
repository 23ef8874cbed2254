-- What `parse` answers at one to seven digits.
use Rattle.std.proofs.Common.{◌≡◌, ℕ, ◌<◌, ◌≤◌, ◌^◌, true, List, length, Result, Ok, arith}
use Rattle.std.specs.List.{list_all}
use Rattle.std.specs.Char.{is_ascii_digit}
use Rattle.std.specs.Str.Parse.{digits_value, ParsesUnsigned}
use Rattle.std.proofs.lemmas.Str.Parse.{parse_gives, digits_value_short}
use Rattle.cdxj_places.proofs.Offsets.{own}

pub size_parsed : {E : Type 0} (bs : List ℕ) (r : Result ℕ E) → ParsesUnsigned 64 10 bs r → list_all is_ascii_digit bs
    ≡ true → 0 < length bs → length bs ≤ 7 → r ≡ Ok (digits_value 10 bs)
size_parsed bs r h digits some short =
    let small : digits_value 10 bs < 10 ^ 7 = digits_value_short own bs 7 digits short in
    parse_gives own 64 bs r h digits some (omega (arith, small))
