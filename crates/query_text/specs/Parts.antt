-- A query text, cut into its parameters.
use Rattle.std.specs.Prelude.{ℕ, ◌==◌, ◌||◌, Bool, not, List, [], Option, Some, None}
use Rattle.std.specs.Borrow.{Bor}
use Rattle.std.specs.List.{slice_split}
use Rattle.std.specs.Str.Lossy.{utf8_lossy}
use Rattle.form_urlencoded.specs.Form.{decode}
use Rattle.query_text.specs.Readings.{Text}

-- the parts between the signs of what is left, if anything is
abbrev pub parts_left : ℕ → Option (Bor Text) → List Text
parts_left sign None = []
parts_left sign (Some text) = slice_split (λ b. b == sign) text.now

-- `b'='`
abbrev pub is_equals : ℕ → Bool
is_equals b = b == 61

-- neither `b'+'` nor `b'%'`, and so no sign of the form encoding
abbrev pub is_plain : ℕ → Bool
is_plain b = not (b == 43 || b == 37)

-- the text that a name or a value of a form stands for
abbrev pub decoded : Text → Text
decoded text = utf8_lossy (decode text)
