use Rattle.ic_names.proofs.Growing.{entered_keeps, grown_keeps, one_place}
use Rattle.ic_names.proofs.laws.places_are_kept.Goals as goal

pub returns : goal.returns
returns c = record {
  entered = entered_keeps;
  grown = grown_keeps;
  one = one_place;
}
