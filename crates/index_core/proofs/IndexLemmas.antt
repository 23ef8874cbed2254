-- The lines of an index, and captures that have their own places.
use Rattle.index_core.proofs.Words.{arith, ◌≡◌, ◌∙◌, ℕ, ◌+◌, ◌<◌, List, [], ◌∷◌, ◌++◌, length, map}
use Rattle.index_core.proofs.Words.{take, drop, Option, refl, sym, ap, AllByRecursion, filter_map}
use Rattle.index_core.proofs.Words.{EntryValue, entries_text}
use Rattle.std.proofs.Common.{suc, get_or}
use Rattle.std.specs.declared.cmp.Ordering.TheVariants.{Equal}
use Rattle.std.proofs.lemmas.List.{take-append-drop, at_drop_more, take_more}
use Rattle.std.proofs.lemmas.List.Concat.{flat_map-append}
use Rattle.std.proofs.lemmas.List.Elements.{filter_map-append}
use Rattle.cdxj_core.specs.Entries.{HasLine, entry_place}
use Rattle.cdxj_core.specs.Indexes.{IsIndex}
use Rattle.cdxj_core.specs.Members.{entry_member}
use Rattle.cdxj_core.proofs.IndexLemmas.{index_written, never_falls}
use Rattle.cdxj_places.proofs.PlaceOrder.{place_cmp_total}
use Rattle.cdxj_places.proofs.RisingLaws.{each_rising, rises_rising}
use Rattle.cdxj_places.specs.Places.{place_cmp}
use Rattle.cdxj_places.specs.Rising.{put}
use Rattle.index_core.specs.Indexing.{index_text, in_places, HaveOwnPlaces}

-- ---- lines

-- the lines of what is found of each
module _ {A : Type 0} (found : A → Option EntryValue) where
  abbrev found_text : List A → List ℕ
  found_text us = entries_text (filter_map found us)

  found_append : (us vs : List A) → found_text (us ++ vs) ≡ found_text us ++ found_text vs
  found_append us vs = grind (arith, filter_map-append, flat_map-append)

  -- those before one, those of this one, and those after it
  pub lines_at : (us : List A) (k : ℕ) (d : A) → k < length us → found_text us
      ≡ found_text (take k us) ++ (found_text (get_or us k d ∷ []) ++ found_text (drop (k + 1) us))
  lines_at us k d h =
      ap found_text (sym (take-append-drop k us)) ∙ found_append (take k us) (drop k us)
      ∙ ap (λ (t : List ℕ). found_text (take k us) ++ t)
      (at_drop_more found_text us k d h ∙ found_append (get_or us k d ∷ []) (drop (k + 1) us))

  -- those of one more
  pub lines_more : (us : List A) (k : ℕ) (d : A) → k < length us → found_text (take (k + 1) us)
      ≡ found_text (take k us) ++ found_text (get_or us k d ∷ [])
  lines_more us k d h = ap found_text (take_more us k d h) ∙ found_append (take k us) (get_or us k d ∷ [])

-- ---- places

one_more : (e : EntryValue) (es : List EntryValue)
    → AllByRecursion (λ other. place_cmp (entry_place e) (entry_place other) ≡ Equal → ⊥) es
    → length (put entry_place place_cmp e es) ≡ suc (length es)
one_more e [] h = refl
one_more e (f ∷ es) h = grind (arith, one_more e es h.1)

-- none is lost where each has its own place
pub all_in_places : (es : List EntryValue) → HaveOwnPlaces es → length (in_places es) ≡ length es
all_in_places [] h = refl
all_in_places (e ∷ es) h = grind (arith, one_more, each_rising, place_cmp_total, all_in_places es h.1)

-- the lines of captures that can be written are an index, in the order of places
pub index_in_places : (limit : ℕ) (es : List EntryValue) → AllByRecursion (HasLine limit) es
    → IsIndex limit (index_text es) (map entry_member (in_places es))
index_in_places limit es h = grind (arith, index_written, each_rising, never_falls, rises_rising, place_cmp_total)
