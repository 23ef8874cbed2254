-- An archive and the texts of its records.
use Rattle.warc_core.proofs.Words.{◌≡◌, ℕ, ◌+◌, List, [], ◌∷◌, ◌++◌, Some, Ok, append_assoc, length}
use Rattle.warc_core.proofs.Words.{append-nil, length-append, arith, HeadView, record_length, Walks}
use Rattle.std.proofs.Common.{sym}
use Rattle.std.specs.List.{concat}
use Rattle.warc_core.specs.Next.{next_at}
use Rattle.warc_core.specs.RecordText.{AreTexts}
use Rattle.warc_core.specs.Laws.{NoRecordAtDamage}
use Rattle.warc_core.proofs.SpelledLemmas.{read-spelled, spelled-read, head-there, head-read-there}
use Rattle.warc_core.proofs.SpelledLemmas.{next-there}

-- what is walked is spelled
pub walk-spelled : (limit start : ℕ) (bytes : List ℕ) (heads : List HeadView) (end : ℕ) (rest : List ℕ)
    → Walks limit start bytes heads end rest → (texts : List (List ℕ)) × AreTexts limit start heads texts
    × (bytes ≡ concat texts ++ rest)
walk-spelled limit start bytes [] end rest w = ([], tt, sym w.1)
walk-spelled limit start bytes (h ∷ heads) end rest w =
    let r = read-spelled limit start bytes w.0 h w.1 in
    let t = walk-spelled limit (start + record_length h) w.0 heads end rest w.2 in
    (r.1 ∷ t.0, (r.0, r.2, t.1), grind (arith, append_assoc))

-- where the records of texts end
abbrev pub end_of : ℕ → List HeadView → ℕ
end_of start [] = start
end_of start (h ∷ heads) = end_of (start + record_length h) heads

-- what is spelled is walked
pub spelled-walk : (limit start : ℕ) (heads : List HeadView) (texts : List (List ℕ)) (rest : List ℕ)
    → AreTexts limit start heads texts → Walks limit start (concat texts ++ rest) heads (end_of start heads) rest
spelled-walk limit start (h ∷ heads) (text ∷ texts) rest a =
    grind (arith, append_assoc, spelled-read, spelled-walk limit (start + record_length h) heads texts rest a.2)
spelled-walk limit start heads texts rest a = grind arith

-- no record begins where damage does
pub no-record : NoRecordAtDamage
no-record limit archive heads offset cause d h block text more e r = grind (arith, spelled-read)

-- what was walked over stands in front of what is left
pub walk-front : (limit start : ℕ) (bytes : List ℕ) (heads : List HeadView) (end : ℕ) (rest : List ℕ)
    → Walks limit start bytes heads end rest → (front : List ℕ) × (bytes ≡ front ++ rest) × (end ≡ start + length front)
walk-front limit start bytes (h ∷ heads) end rest w =
    let r = read-spelled limit start bytes w.0 h w.1 in
    let f = walk-front limit (start + record_length h) w.0 heads end rest w.2 in
    (r.1 ++ f.0, grind (arith, append_assoc), grind (arith, length-append))
walk-front limit start bytes [] end rest w = grind arith

-- a head that was read stands in front of its block
pub next-spelled : (limit start : ℕ) (bytes rest : List ℕ) (h : HeadView) → next_at limit start bytes
    ≡ Ok (Some h, rest) → (bytes ≡ h.raw ++ rest) × (h.start ≡ start)
next-spelled limit start bytes rest h e =
    let r = head-read-there limit start bytes rest h (next-there limit start bytes rest h e) in
    ((head-there limit bytes h.raw rest r.0).1, r.2)

pub ruleset archive_rules = (walk-spelled, append-nil)
