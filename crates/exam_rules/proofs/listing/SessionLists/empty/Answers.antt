use Rattle.exam_rules.proofs.Words.{Global, IsStrictlySortedBy, Entrant, Code, listed}
use Rattle.std.proofs.Common.{ap, refl, List, Vec}
use Rattle.exam_rules.proofs.listing.SessionLists.empty.Goals as goal

pub returns : goal.returns
unfolding IsStrictlySortedBy
returns c = record {
  numbers = λ s. refl;
  members = λ s. ap (λ (rows : List (Code × Vec Entrant Global)). listed rows s) c.new.ensures.empty;
  halls = λ s. ap (λ (rows : List (Code × Vec Code Global)). listed rows s) c.new-2.ensures.empty;
  rising = λ s. record { numbers = tt; codes = tt };
}
