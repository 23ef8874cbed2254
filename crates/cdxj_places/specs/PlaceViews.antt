-- What contracts see of a place.
use Rattle.cdxj_places.specs.declared.place.Place.{Place}
use Rattle.cdxj_places.specs.Places.{PlaceValue}

abbrev pub place_view : Place → PlaceValue
place_view p = record {
  key = p.key.now;
  stamp = p.stamp;
  filename = p.filename.now;
  offset = p.offset;
}
