-- Captures that stay sound: each has its own place, under a name that was added.
use Rattle.index_core.proofs.Words.{◌≡◌, ℕ, ◌<◌, ◌≤◌, List, [], ◌∷◌, ◌++◌, Option, IfSome}
use Rattle.index_core.proofs.Words.{option_to_list, append-nil, arith, HeadView, EntryValue}
use Rattle.index_core.proofs.Words.{is_among}
use Rattle.std.proofs.Common.{true}
use Rattle.std.specs.FinMap.{slice_cmp-IsAntisymmetric, nat_cmp-IsAntisymmetric}
use Rattle.std.specs.declared.cmp.Ordering.TheVariants.{Equal}
use Rattle.std.proofs.lemmas.List.Folds.{list_any-append}
use Rattle.std.proofs.lemmas.Slice.Eq.{bytes_eq-Decides}
use Rattle.cdxj_core.specs.Entries.{entry_place}
use Rattle.cdxj_places.specs.Places.{place_cmp}
use Rattle.cdxj_places.proofs.RisingLaws.{each_join, each_weaker}
use Rattle.capture_core.specs.CaptureAnswer.{IsEntryOf}
use Rattle.capture_core.specs.declared.place.Place.{Place}
use Rattle.archives.specs.Form.{end_of}
use Rattle.index_core.specs.Indexing.{HaveOwnPlaces, AreSound, StandBefore}

-- ---- places

-- a capture that stands before the offset has another place than one at the offset
apart : (name : List ℕ) (o : ℕ) (x e : EntryValue) → e.offset ≡ o → e.filename ≡ name
    → (x.filename ≡ name → x.offset < o) → place_cmp (entry_place x) (entry_place e) ≡ Equal → ⊥
apart name o x e at named before q = grind (arith, slice_cmp-IsAntisymmetric, nat_cmp-IsAntisymmetric)

places_push : (name : List ℕ) (o : ℕ) (xs : List EntryValue) (e : EntryValue) → e.offset ≡ o → e.filename ≡ name
    → StandBefore name o xs → HaveOwnPlaces xs → HaveOwnPlaces (xs ++ e ∷ [])
places_push name o [] e at named before own = (tt, tt)
places_push name o (x ∷ xs) e at named before own = (
  each_join (λ other. place_cmp (entry_place x) (entry_place other) ≡ Equal → ⊥) xs (e ∷ []) own.0
      (apart name o x e at named before.0, tt),
  places_push name o xs e at named before.1 own.1,
)

-- what a record from the offset on adds stands before its end
pub before_step : (name : List ℕ) (limit o : ℕ) (place : Place) (h : HeadView) (xs : List EntryValue)
    (captured : Option EntryValue)
    → o ≤ place.offset → 0 < place.length → IfSome captured (IsEntryOf place h name limit) → StandBefore name o xs
    → StandBefore name (end_of place) (xs ++ option_to_list captured)
before_step name limit o place h xs captured from filled e before =
    grind (arith, append-nil, each_weaker, each_join)

-- captures that stand before an offset stand before any behind it
before_later : (name : List ℕ) (o p : ℕ) (xs : List EntryValue) → o ≤ p → StandBefore name o xs → StandBefore name p xs
before_later name o p xs l before = grind (arith, each_weaker)

pub sound_step : (limit : ℕ) (names : List (List ℕ)) (name : List ℕ) (o : ℕ) (place : Place) (h : HeadView)
    (xs : List EntryValue) (captured : Option EntryValue) → is_among names name ≡ true → o ≤ place.offset
    → IfSome captured (IsEntryOf place h name limit)
    → StandBefore name o xs → AreSound limit names xs → AreSound limit names (xs ++ option_to_list captured)
sound_step limit names name o place h xs captured used from e before s =
    let later = before_later name o place.offset xs from before in
    grind (arith, append-nil, places_push, each_join)

-- ---- names

pub among_more : (names more : List (List ℕ)) (name : List ℕ) → is_among names name ≡ true
    → is_among (names ++ more) name ≡ true
among_more names more name h = grind (arith, list_any-append)

pub among_last : (names : List (List ℕ)) (name : List ℕ) → is_among (names ++ name ∷ []) name ≡ true
among_last names name = grind (arith, list_any-append, bytes_eq-Decides)

-- captures stay sound under more names
pub sound_under : (limit : ℕ) (names new : List (List ℕ)) (name : List ℕ) (xs : List EntryValue) → new ≡ names
    ++ name ∷ [] → AreSound limit names xs → AreSound limit new xs
sound_under limit names new name xs e s = record {
  places = s.places;
  named = each_weaker (λ y k. rw e (among_more names (name ∷ []) y.filename k)) xs s.named;
  lines = s.lines;
}
