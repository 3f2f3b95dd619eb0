-- Where the tables are in order, the members and the open halls of a session rise.
use Rattle.exam_rules.proofs.Words.{keys_of, nat_cmp, IsStrictlySortedBy-filter, Code, Relations, has_live_entry}
use Rattle.exam_rules.proofs.Words.{ListsRise, AreInOrder, Candidates, Openings}
use Rattle.exam_rules.proofs.Naming.{halls_rise}

pub lists_rise : (r : Relations) (s : Code) → AreInOrder r → ListsRise r s
lists_rise r s up = record {
  numbers = IsStrictlySortedBy-filter nat_cmp (has_live_entry r s) (keys_of r.candidates) (up Candidates);
  codes = halls_rise s r.openings (up Openings);
}
