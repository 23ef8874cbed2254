-- What a call that writes the pages of a query owes of them.
use Rattle.std.specs.Prelude.{◌≡◌, ℕ, ◌-◌, ◌^◌, ⊤, List, [], ◌∷◌, ◌++◌, length, flat_map, min, Bool, ◌&&◌, nat_lt}
use Rattle.std.specs.Prelude.{Option, None, Some}
use Rattle.std.specs.List.{list_all}
use Rattle.std.specs.Io.KnownBytes.{Appends}
use Rattle.cdxj_places.specs.Places.{PlaceValue, place_cmp, resume_place, resume_text}
use Rattle.cdxj_places.specs.Rising.{Rises}
use Rattle.cdxj_core.specs.Members.{Member, member_place}
use Rattle.devices.specs.Device.{AppendsPrefix}
use Rattle.query_text.specs.Queries.{QueryValue}
use Rattle.page_core.specs.Pages.{Page, FullButLast}
use Rattle.query_core.specs.QueryPages.{IsQueryChain, chain_text, query_captures}

-- one or more sizes, none of them 0
abbrev pub are_sizes : List ℕ → Bool
are_sizes sizes = nat_lt 0 (length sizes) && list_all (λ size. nat_lt 0 size) sizes

-- the texts of pages, one after another
abbrev pub pages_text : QueryValue → List (Page Member PlaceValue) → List ℕ
pages_text q pages = flat_map (chain_text q) pages

-- the place's resume key is read as the place
abbrev pub IsReadBack : PlaceValue → Type 0
IsReadBack place = resume_place (resume_text place) ≡ Some place

-- the page's key is the place of its last capture, and is read as that place
pub record EndsWithKey (page : Page Member PlaceValue) : Type 0 where
  pub before : List Member
  pub last : Member
  pub members : page.members ≡ before ++ last ∷ []
  pub next : page.next ≡ Some (member_place last)
  pub read : IsReadBack (member_place last)

-- every page but the last has its key
abbrev pub KeysButLast : List (Page Member PlaceValue) → Type 0
KeysButLast [] = ⊤
KeysButLast (page ∷ []) = ⊤
KeysButLast (page ∷ other ∷ rest) = EndsWithKey page × KeysButLast (other ∷ rest)

-- a page of nothing, without a key
abbrev pub empty_page : Page Member PlaceValue
empty_page = record { members = []; next = None }

-- The pages of these sizes were written, of lines that rise by place, and are so many. Joined, they are exactly the
-- captures that the query asks for, each once, in the order of places. Every page but the last is full and ends with a
-- key from which the next one goes on. Where there are no captures there is one empty page.
pub record WrotePages (q : QueryValue) (lines : List Member) (sizes : List ℕ) (old new : Option (List ℕ)) (number : ℕ) :
    Type 0 where
  pub pages : List (Page Member PlaceValue)
  pub chain : IsQueryChain q lines sizes pages
  pub joined : flat_map (λ page. page.members) pages ≡ query_captures q lines
  pub rises : Rises member_place place_cmp (query_captures q lines)
  pub full : FullButLast sizes pages
  pub keys : KeysButLast pages
  pub empty : query_captures q lines ≡ [] → pages ≡ empty_page ∷ []
  pub text : Appends old new (pages_text q pages)
  pub count : number ≡ min (length pages) (2 ^ 64 - 1)

-- a front of the texts of such pages was written
abbrev pub WrotePagesInPart : QueryValue → List Member → List ℕ → Option (List ℕ) → Option (List ℕ) → Type 0
WrotePagesInPart q lines sizes old new = (pages : List (Page Member PlaceValue)) × IsQueryChain q lines sizes pages
    × AppendsPrefix old new (pages_text q pages)
