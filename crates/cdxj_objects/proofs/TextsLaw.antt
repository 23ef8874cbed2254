-- The object of seven texts is read as these texts.
use Rattle.std.proofs.Common.{◌≡◌, List, [], ◌∷◌, Some}
use Rattle.serde_json.specs.Data.{Data, object, no_members}
use Rattle.serde_json.specs.Read.{read}
use Rattle.cdxj_objects.specs.ObjectMembers.{names}
use Rattle.cdxj_objects.specs.Objects.{object_text}
use Rattle.cdxj_objects.specs.Texts.{TextsValue, text_members}
use Rattle.cdxj_objects.proofs.ObjectLaw.{Pair, put_all, read_object}

abbrev pub behind_first : List Pair → List Pair
behind_first [] = []
behind_first (m ∷ ms) = ms

abbrev pub first_of : TextsValue → Pair
first_of t = (names.url, t.url)

abbrev pub later_of : TextsValue → List Pair
later_of t = behind_first (text_members t)

abbrev pub data_of : TextsValue → Data
data_of t = object (put_all (text_members t) no_members)

pub read_texts : (t : TextsValue) → read (object_text (text_members t)) ≡ Some (data_of t)
read_texts t = read_object (first_of t) (later_of t)
