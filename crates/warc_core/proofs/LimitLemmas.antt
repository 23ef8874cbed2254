-- Records under a higher limit of heads.
use Rattle.warc_core.proofs.Words.{◌≡◌, ◌≤◌, ℕ, ◌+◌, List, [], ◌∷◌, None, Some, Ok, arith, HeadView}
use Rattle.warc_core.proofs.Words.{record_length, Walks}
use Rattle.warc_core.specs.Next.{next_at}
use Rattle.warc_core.specs.Walk.{record_at}
use Rattle.warc_core.specs.Laws.{TextStays, ReadingStays, RecordsStay}
use Rattle.warc_core.proofs.SpelledLemmas.{read-spelled, spelled-read}
use Rattle.warc_core.proofs.WalkLemmas.{none_at_end}

pub text_stays : TextStays
text_stays low high up head parts block text r = grind arith

end_stays : (low high start : ℕ) (rest : List ℕ) → record_at low start [] ≡ Ok (None, rest) → record_at high start []
    ≡ Ok (None, rest)
unfolding record_at next_at
end_stays low high start rest e = e

pub reading_stays : ReadingStays
reading_stays low high up start bytes rest None e = grind (arith, none_at_end, end_stays)
reading_stays low high up start bytes rest (Some h) e = grind (arith, read-spelled, spelled-read)

walks_stay : (low high : ℕ) → low ≤ high
    → (start : ℕ) (bytes : List ℕ) (heads : List HeadView) (end : ℕ) (rest : List ℕ)
    → Walks low start bytes heads end rest → Walks high start bytes heads end rest
walks_stay low high up start bytes (h ∷ heads) end rest w =
    grind (arith, reading_stays, walks_stay low high up (start + record_length h) w.0 heads end rest)
walks_stay low high up start bytes [] end rest w = w

pub records_stay : RecordsStay
records_stay low high up archive heads r = grind (arith, walks_stay)

pub ruleset limit_rules = (text_stays, reading_stays, records_stay)
