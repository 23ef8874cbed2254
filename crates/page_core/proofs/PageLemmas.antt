-- A page in the pieces in which it is written.
use Rattle.std.proofs.Common.{arith, ◌≡◌, ℕ, List, [], ◌∷◌, ◌++◌, Option, refl, sym, append_assoc}
use Rattle.std.proofs.Common.{subst}
use Rattle.std.specs.Prelude.{flat_map}
use Rattle.std.proofs.lemmas.List.Concat.{flat_map-append}
use Rattle.std.proofs.lemmas.List.Folds.{flat_map-map}
use Rattle.devices.specs.Device.{AppendsPrefix}
use Rattle.cdxj_core.specs.Members.{Member}
use Rattle.page_core.specs.Form.{FormValue, Text}
use Rattle.page_core.specs.PageText.{page_text, page_start, row_text, page_end, begun, PageInPieces, BegunIsFront}
use Rattle.devices.proofs.WritingLemmas.{prefix_longer}

pub page_in_pieces : PageInPieces
page_in_pieces (Text fields) members key = refl
page_in_pieces form members key = grind (arith, flat_map-append, flat_map-map, append_assoc)

-- a capture more
pub begun-more : (form : FormValue) (members : List Member) (m : Member) → begun form (members ++ m ∷ []) ≡ begun form
    members ++ row_text form m
begun-more form members m = grind (arith, flat_map-append, append_assoc)

pub begun-append : (form : FormValue) (members later : List Member) → begun form (members ++ later) ≡ begun form members
    ++ flat_map (row_text form) later
begun-append form members later = grind (arith, flat_map-append, append_assoc)

pub begun_is_front : BegunIsFront
begun_is_front form members later key = (
  flat_map (row_text form) later ++ page_end form key,
  grind (arith, page_in_pieces, begun-append, append_assoc),
)

-- ---- what an output has after each call

-- ---- after a fault: a front of each page that begins with these captures

-- in the start
pub front-start : (old new : Option (List ℕ)) (form : FormValue) (members : List Member) (key : Option (List ℕ))
    → AppendsPrefix old new (page_start form) → AppendsPrefix old new (page_text form members key)
front-start old new form members key p =
    subst (AppendsPrefix old new) (sym (page_in_pieces form members key)) (grind (arith, prefix_longer))
