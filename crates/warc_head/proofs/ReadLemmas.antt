-- A line of a text that begins with the lines of a head.
use Rattle.warc_head.proofs.Words.{◌≡◌, ℕ, ◌+◌, ◌-◌, ◌<◌, ◌≤◌, List, ◌++◌, length, take, drop}
use Rattle.warc_head.proofs.Words.{arith, length-drop, length-append, take-append-drop, drop-drop}
use Rattle.warc_head.proofs.Words.{EndsLine, Continues, between}
use Rattle.std.proofs.lemmas.List.{take-append-le, length-take-le}
use Rattle.warc_head.proofs.SpanLemmas.{between_more}

module _ (raw text : List ℕ) (held : Continues raw text) (end at : ℕ) (inside : end ≤ length raw) where
  pub size : length (take end raw) ≡ end
  size = length-take-le end raw inside

  pub filled : at < end → 0 < length (drop at (take end raw))
  filled below = grind (arith, size, length-drop)

  module _ (stop : ℕ) (ends : EndsLine (take end text) at stop) where
    pub ended : EndsLine (take end raw) at stop
    ended = grind (arith, take-append-le)

    pub line_is : between at stop text ≡ between at stop (take end raw)
    line_is = grind (arith, take-append-drop, take-append-le, between_more (take end raw) (drop end text))

    pub line_held : text ≡ take at text ++ (between at stop text ++ drop stop text)
    line_held = grind (arith, take-append-drop, take-append-drop (stop - at) (drop at text), drop-drop)

    -- what follows the line
    pub shorter : length text ≡ length raw + length held.0
    shorter = grind (arith, length-append)

    pub inside_text : stop ≤ length text
    inside_text = omega (arith, ended.within, size, shorter, inside)
