-- The names of archives that were opened in turn.
use Rattle.std.proofs.Common.{arith, ◌≡◌, ℕ, ◌+◌, ◌<◌, List, [], ◌∷◌, ◌++◌, ◌∙◌, false, Option, Result, IfOk, is_err}
use Rattle.std.proofs.Common.{map, length, get_or, take, ap, sym}
use Rattle.std.proofs.lemmas.List.{map-append}
use Rattle.std.proofs.lemmas.Simd.{map-map}
use Rattle.std.proofs.lemmas.Grind.{take_at_read}
use Rattle.scan_core.specs.declared.named.Named.{Named}
use Rattle.tasks.specs.Indexing.{archive_name}
use Rattle.std.specs.List.{AllByRecursion, AllZip}
use Rattle.archives.specs.State.{ArchiveState, IsUnread, ToldArchive, told_of}
use Rattle.tasks.specs.Opening.{OpensAs}
use Rattle.tasks.specs.Scanning.{AreOpened, archive_names, inputs}

-- the values of one more
pub map-more : {X Y : Type 0} (f : X → Y) (xs : List X) (i : ℕ) (x : X) → i < length xs → get_or xs i x ≡ x
    → map f (take (i + 1) xs) ≡ map f (take i xs) ++ f x ∷ []
map-more f xs i x h e = grind (arith, take_at_read, map-append)

-- what holds where a call succeeded
pub of_ok : {A E P : Type 0} (r : Result A E) → is_err r ≡ false → IfOk r (λ _. P) → P
of_ok r e p = grind arith

-- what holds place by place holds with one more
zip-more : {X Y : Type 0} (R : X → Y → Type 0) (xs : List X) (ys : List Y) (x : X) (y : Y) → AllZip R xs ys → R x y
    → AllZip R (xs ++ x ∷ []) (ys ++ y ∷ [])
zip-more R [] [] x y all more = (more, tt)
zip-more R (a ∷ xs) (b ∷ ys) x y all more = (all.0, zip-more R xs ys x y all.1 more)
zip-more R [] (b ∷ ys) x y all more = absurd all
zip-more R (a ∷ xs) [] x y all more = absurd all

-- one more archive was opened
pub opened-more : {A : Type 0} (state : A → ArchiveState) (Tells : List ℕ → ToldArchive → Type 0)
    (given : Option (List ℕ)) (before after : List (List ℕ)) (name named : List ℕ) (input : A) (old new : List (Named A))
    → after ≡ before ++ name ∷ [] → named ≡ archive_name given name → OpensAs (Tells name) (state input)
    → archive_names new ≡ archive_names old ++ named ∷ [] → inputs new ≡ inputs old ++ input ∷ []
    → AreOpened state Tells given before old → AreOpened state Tells given after new
opened-more state Tells given before after name named input old new grown is has names gained opened = record {
  named = grind (arith, map-append);
  opened =
      let left : map (λ archive. state archive.archive) new
      ≡ map (λ archive. state archive.archive) old ++ state input ∷ [] =
      sym (map-map state (λ archive. archive.archive) new) ∙ ap (map state) gained
      ∙ grind (arith, map-append, map-map) in
      rw (grown, left) (zip-more (λ name s. OpensAs (Tells name) s) _ _ _ _ opened.opened has);
}

-- archives that were opened are as they may be told, and none of them was read
pub opened_told : {A : Type 0} (state : A → ArchiveState) (Tells : List ℕ → ToldArchive → Type 0)
    (names : List (List ℕ)) (archives : List (Named A))
    → AllZip (λ name s. OpensAs (Tells name) s) names (map (λ archive. state archive.archive) archives)
    → AllZip Tells names (map (λ archive. told_of (state archive.archive)) archives)
opened_told state Tells [] [] o = tt
opened_told state Tells (name ∷ names) (a ∷ archives) o = (o.0.1, opened_told state Tells names archives o.1)
opened_told state Tells [] (a ∷ archives) o = absurd o
opened_told state Tells (name ∷ names) [] o = absurd o

pub all_unread : {A : Type 0} (state : A → ArchiveState) (Tells : List ℕ → ToldArchive → Type 0)
    (names : List (List ℕ)) (archives : List (Named A))
    → AllZip (λ name s. OpensAs (Tells name) s) names (map (λ archive. state archive.archive) archives)
    → AllByRecursion (λ archive. IsUnread (state archive.archive)) archives
all_unread state Tells names [] o = tt
all_unread state Tells (name ∷ names) (a ∷ archives) o = (o.0.0, all_unread state Tells names archives o.1)
all_unread state Tells [] (a ∷ archives) o = absurd o
