-- Tokens of HTTP are the names of fields: both are of the visible ASCII characters but the separators.
use Rattle.warc_head.proofs.Words.{◌≡◌, ℕ, suc, ◌<◌, ◌≤◌, Bool, true, false, ◌&&◌, List, [], ◌∷◌}
use Rattle.warc_head.proofs.Words.{get_or, length, take, Ok, arith, length-take-le, refl, list_all}
use Rattle.warc_head.proofs.Words.{◌==◌, nat_tests, AllPassBetween, Field, continues, is_name_byte}
use Rattle.warc_head.proofs.Words.{is_name}
use Rattle.std.proofs.Common.{zero}
use Rattle.std.specs.Bool.{beq}
use Rattle.std.specs.Prelude.{not, nat_lt, slice_index}
use Rattle.httparse.specs.Grammar.{is_token_byte, is_token}
use Rattle.warc_head.specs.Fields.{at_colon, field_in}
use Rattle.warc_head.specs.Spans.{EndsName}
use Rattle.warc_head.proofs.LineLemmas.{colon_at}

-- the two tests agree below n
agree_below : (ℕ → Bool) → (ℕ → Bool) → ℕ → Bool
agree_below f g zero = true
agree_below f g (suc n) = beq (f n) (g n) && agree_below f g n

agree_at : (f g : ℕ → Bool) (n : ℕ) → agree_below f g n ≡ true → (b : ℕ) → b < n → f b ≡ g b
unfolding agree_below
agree_at f g (suc n) h b lt = grind (arith, agree_at f g n)
agree_at f g zero h b lt = grind arith

-- each of the 256 bytes, by computing
token_byte : (b : ℕ) → b < 256 → is_token_byte b ≡ is_name_byte b
unfolding agree_below is_token_byte
token_byte b lt = agree_at is_token_byte is_name_byte 256 refl b lt

token_bytes : (name : List ℕ) → ((k : ℕ) → get_or name k 0 < 256) → list_all is_token_byte name
    ≡ list_all is_name_byte name
token_bytes [] h = refl
token_bytes (b ∷ bs) h = grind (arith, token_byte, h 0, token_bytes bs (λ k. h (suc k)))

some_byte : (n : ℕ) → nat_lt 0 n ≡ not (n == 0)
some_byte n = grind (arith, nat_tests)

pub token_is_name : (name : List ℕ) → ((k : ℕ) → get_or name k 0 < 256) → is_token name ≡ is_name name
token_is_name name h = grind (arith, some_byte, token_bytes)

-- the first bytes of a line, which a name may contain
name_bytes : (line : List ℕ) (end : ℕ) → AllPassBetween is_name_byte line 0 end → end ≤ length line
    → list_all is_name_byte (take end line) ≡ true
name_bytes (b ∷ bs) (suc end) pass l =
    let first = pass 0 (omega arith) (omega arith) in
    let ih = name_bytes bs end (λ k m n. pass (suc k) (omega arith) (omega arith)) (omega arith) in
    grind arith
name_bytes line end pass l = grind arith

-- no colon is among them
no_colon : (b : ℕ) → is_name_byte b ≡ true → (b == 58) ≡ true → ⊥
no_colon b h e = grind arith

-- where a colon follows them, they are a name
pub name_before : (line : List ℕ) (end : ℕ) → 0 < end → end < length line → AllPassBetween is_name_byte line 0 end
    → slice_index line end ≡ 58 → EndsName line end
unfolding field_in
name_before line end some within pass mark = grind (arith, name_bytes, length-take-le, colon_at, no_colon, get_or, some_byte, nat_tests)

-- a line that begins a field doesn't go on with the field before
pub not_continued : (line : List ℕ) (f : Field) → field_in line ≡ Ok f → continues line ≡ false
unfolding field_in at_colon
not_continued [] f h = refl
not_continued (b ∷ bs) f h = grind arith
