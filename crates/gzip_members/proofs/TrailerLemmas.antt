-- Trailers with more bytes behind them.
use Rattle.std.proofs.Common.{◌≡◌, ℕ, ◌≤◌, ◌==◌, ◌⊎◌, Bool, true, false, nat_lt, List, [], ◌∷◌, ◌++◌, length, take, drop, Result, Ok, Err, refl, sym, ap, ◌∙◌, arith, length-append, length-drop, inl, inr}
use Rattle.std.specs.Bool.{if◌then◌else◌}
use Rattle.std.proofs.lemmas.Bool.{le-ltb}
use Rattle.std.proofs.lemmas.List.{take-append-le, drop-append-le}
use Rattle.deflate_bits.specs.declared.fault.DeflateFault.{DeflateFault}
use Rattle.deflate_bits.specs.declared.fault.DeflateFault.TheVariants.{Bad, Cut}
use Rattle.deflate_bits.specs.Bits.{little_endian}
use Rattle.deflate_bits.specs.Reading.{◌>>=◌}
use Rattle.gzip_members.specs.declared.body.Body.{Body}
use Rattle.gzip_members.specs.declared.body.Stage.{Stage}
use Rattle.gzip_members.specs.declared.body.Stage.TheVariants.{Trailer, Ended, Refused}
use Rattle.gzip_members.specs.Members.{size_in, trailer_in, with_text}
use Rattle.gzip_members.specs.Bodies.{left_by, left_in, left_at_trailer}
use Rattle.gzip_members.specs.Windows.{WindowView}
use Rattle.gzip_members.proofs.StepLemmas.{left-trailer}

-- the same with more bytes behind
abbrev followed : List ℕ → Result (List ℕ) DeflateFault → Result (List ℕ) DeflateFault
followed more (Ok rest) = Ok (rest ++ more)
followed more (Err e) = Err e

if-followed : (more : List ℕ) (b : Bool) (r s : Result (List ℕ) DeflateFault)
    → (if b then followed more r else followed more s) ≡ followed more (if b then r else s)
if-followed more true r s = refl
if-followed more false r s = refl

-- four bytes that are compared
four-more : (number : ℕ) (bytes more : List ℕ) (then_is then_was : Result (List ℕ) DeflateFault) → 4 ≤ length bytes → then_is ≡ followed more then_was
    → (if nat_lt (length (bytes ++ more)) 4 then Err Cut else (if little_endian (take 4 (bytes ++ more)) == number then then_is else Err Bad))
    ≡ followed more (if nat_lt (length bytes) 4 then Err Cut else (if little_endian (take 4 bytes) == number then then_was else Err Bad))
four-more number bytes more then_is then_was h e =
    let long : 4 ≤ length (bytes ++ more) = omega (arith, length-append bytes more) in
    let a : nat_lt (length (bytes ++ more)) 4 ≡ false = le-ltb (length (bytes ++ more)) 4 long in
    let b : nat_lt (length bytes) 4 ≡ false = le-ltb (length bytes) 4 h in
    ap (λ v. if v then Err Cut else (if little_endian (take 4 (bytes ++ more)) == number then then_is else Err Bad)) a
    ∙ ap (λ l. if little_endian l == number then then_is else Err Bad) (take-append-le 4 bytes more h)
    ∙ ap (λ r. if little_endian (take 4 bytes) == number then r else Err Bad) e
    ∙ if-followed more (little_endian (take 4 bytes) == number) then_was (Err Bad)
    ∙ sym (ap (λ v. followed more (if v then Err Cut else (if little_endian (take 4 bytes) == number then then_was else Err Bad))) b)

pub append-nil : (xs : List ℕ) → xs ++ [] ≡ xs
append-nil [] = refl
append-nil (x ∷ xs) = ap (λ l. x ∷ l) (append-nil xs)

nothing-follows : (r : Result (List ℕ) DeflateFault) → r ≡ followed [] r
nothing-follows (Ok rest) = ap (λ l. Ok l) (sym (append-nil rest))
nothing-follows (Err e) = refl

size-more : (size : ℕ) (bytes more : List ℕ) → 4 ≤ length bytes → size_in size (bytes ++ more) ≡ followed more (size_in size bytes)
unfolding size_in
size-more size bytes more h =
    four-more size bytes more (Ok (drop 4 (bytes ++ more))) (Ok (drop 4 bytes)) h (ap (λ l. Ok l) (drop-append-le 4 bytes more h))

trailer-more : (sum size : ℕ) (bytes more : List ℕ) → 8 ≤ length bytes → trailer_in sum size (bytes ++ more) ≡ followed more (trailer_in sum size bytes)
unfolding trailer_in
trailer-more sum size bytes more h =
    let four : 4 ≤ length bytes = omega arith in
    let left : 4 ≤ length (drop 4 bytes) = omega (arith, length-drop 4 bytes) in
    four-more sum bytes more (size_in size (drop 4 (bytes ++ more))) (size_in size (drop 4 bytes)) four
    (ap (size_in size) (drop-append-le 4 bytes more four) ∙ size-more size (drop 4 bytes) more left)

-- a trailer that was compared over enough bytes, or all
compared : (sum size : ℕ) (bytes more : List ℕ) (is_whole : Bool) → (8 ≤ length bytes) ⊎ (is_whole ≡ true) → (is_whole ≡ true → more ≡ [])
    → trailer_in sum size (bytes ++ more) ≡ followed more (trailer_in sum size bytes)
compared sum size bytes more is_whole (inl enough) whole = trailer-more sum size bytes more enough
compared sum size bytes more is_whole (inr all) whole =
    ap (λ l. trailer_in sum size (bytes ++ l)) (whole all) ∙ ap (trailer_in sum size) (append-nil bytes)
    ∙ nothing-follows (trailer_in sum size bytes) ∙ sym (ap (λ l. followed l (trailer_in sum size bytes)) (whole all))

pub closed-left : (old new : Body) (bytes : List ℕ) (is_whole : Bool) → old.stage ≡ Trailer → new.stage ≡ Ended → new.window ≡ old.window
    → (8 ≤ length bytes) ⊎ (is_whole ≡ true) → 8 ≤ length bytes → trailer_in old.checksum old.size bytes ≡ Ok (drop 8 bytes)
    → (more : List ℕ) → (is_whole ≡ true → more ≡ []) → left_in old (bytes ++ more) ≡ left_in new (drop 8 (bytes ++ more))
unfolding left_in left_at_trailer
closed-left old new bytes is_whole at ended window enough long read more whole =
    left-trailer old (bytes ++ more) at
    ∙ ap (λ r. r >>= with_text (drop old.window.given old.window.text))
    (compared old.checksum old.size bytes more is_whole enough whole ∙ ap (followed more) read ∙ ap (λ l. Ok l) (sym (drop-append-le 8 bytes more long)))
    ∙ ap (λ (w : WindowView). with_text (drop w.given w.text) (drop 8 (bytes ++ more))) (sym window)
    ∙ sym (ap (λ (s : Stage). left_by s new (drop 8 (bytes ++ more))) ended)

pub unclosed-left : (old new : Body) (bytes : List ℕ) (is_whole : Bool) (e : DeflateFault) → old.stage ≡ Trailer → new.stage ≡ Refused e
    → (8 ≤ length bytes) ⊎ (is_whole ≡ true) → trailer_in old.checksum old.size bytes ≡ Err e
    → (more : List ℕ) → (is_whole ≡ true → more ≡ []) → left_in old (bytes ++ more) ≡ left_in new (bytes ++ more)
unfolding left_in left_at_trailer
unclosed-left old new bytes is_whole e at refused enough read more whole =
    left-trailer old (bytes ++ more) at
    ∙ ap (λ r. r >>= with_text (drop old.window.given old.window.text)) (compared old.checksum old.size bytes more is_whole enough whole ∙ ap (followed more) read)
    ∙ sym (ap (λ (s : Stage). left_by s new (bytes ++ more)) refused)
