-- What an office holds.
use Rattle.std.specs.Prelude.{ℕ, List, []}
use Rattle.std.specs.BTreeMap.{BTreeMap}
use Rattle.exam_rules.specs.declared.facts.Facts.{Facts}
use Rattle.exam_rules.specs.Relations.{Code, Relations, no_relations, relations_of}

-- where each candidate sits in each session
abbrev pub Seats : Type 0
Seats = List ((Code × ℕ) × Code)

pub record State : Type 0 where
  pub relations : Relations
  pub seats : Seats

-- the office of the facts and the seats that the program holds
abbrev pub office_of : Facts → BTreeMap (Code × ℕ) Code → State
office_of facts seats = record { relations = relations_of facts; seats = seats.entries }

-- no facts, and nobody seated
abbrev pub empty_state : State
empty_state = record { relations = no_relations; seats = [] }
