-- A record has one capture.
use Rattle.std.proofs.Common.{arith, ◌≡◌, ℕ, List, Bool, true, false, cond, Option, None, Some, option_map, refl}
use Rattle.httparse.specs.Grammar.{ResponseHead}
use Rattle.warc_core.specs.Kind.{Kind}
use Rattle.warc_core.specs.HeadView.{HeadView}
use Rattle.cdxj_core.specs.Entries.{EntryValue}
use Rattle.capture_core.specs.declared.place.Place.{Place}
use Rattle.capture_core.specs.HttpHead.{IsHeadOf}
use Rattle.capture_core.specs.Indexed.{may_have_head, url_of}
use Rattle.capture_core.specs.Capture.{IsCaptureUnder, entry_of, response_of, digest_of, payload_of, OneCapture}
use Rattle.capture_core.specs.Capture.{HasCapture}
use Rattle.capture_core.proofs.HeadLemmas.{one_head}

pub one_capture : OneCapture
one_capture types limit few place h block name a b x y = grind (arith, one_head)

-- ---- it has one

head_for : (may : Bool) (limit few : ℕ) (block : List ℕ) (f : Option (ResponseHead × List ℕ))
    → IsHeadOf limit few block f
    → (g : Option (ResponseHead × List ℕ)) × cond may (IsHeadOf limit few block g) (g ≡ None)
head_for true limit few block f is = (f, is)
head_for false limit few block f is = (None, refl)

some_under : (url : Option (List ℕ)) (limit few : ℕ) (place : Place) (h : HeadView) (block name : List ℕ)
    (f : Option (ResponseHead × List ℕ)) → IsHeadOf limit few block f
    → (captured : Option EntryValue) × IsCaptureUnder url limit few place h block name captured
some_under None limit few place h block name f is = (None, refl)
some_under (Some url) limit few place h block name f is =
    let g = head_for (may_have_head h) limit few block f is in (
      Some (entry_of place h name (option_map (λ p. response_of p.0) g.0) (digest_of h (payload_of block g.0)) url),
      (g.0, g.1, refl),
    )

pub some_capture : (types : Kind → Bool) (limit few : ℕ) (h : HeadView) (block name : List ℕ)
    (f : Option (ResponseHead × List ℕ)) → IsHeadOf limit few block f → HasCapture types limit few h block name
some_capture types limit few h block name f is place = some_under (url_of types h) limit few place h block name f is
