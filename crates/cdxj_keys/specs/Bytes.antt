-- The bytes that have a meaning of their own in a URL.
use Rattle.std.specs.Prelude.{ℕ}

abbrev pub percent : ℕ
percent = 37

abbrev pub comma : ℕ
comma = 44

abbrev pub hyphen : ℕ
hyphen = 45

abbrev pub full_stop : ℕ
full_stop = 46

abbrev pub slash : ℕ
slash = 47

abbrev pub question_mark : ℕ
question_mark = 63
