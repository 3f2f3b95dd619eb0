-- The place is that of the first number that is not less. If the candidate is not there, all before are less and all
-- behind are greater, so the candidate is nowhere.
use Rattle.exam_rules.proofs.Words.{All, IsNonDecreasingBy, Entrant}
use Rattle.std.proofs.Common.{◌≡◌, ◌≢◌, ◌<◌, ℕ, List, Bool, true, false, nat_lt, length, get_or, eq-eqb, refl, arith}
use Rattle.std.specs.List.Sorted.{IsPartitionPoint}
use Rattle.std.proofs.lemmas.Bool.{both_ways, ltb-true, ltb-false}
use Rattle.std.proofs.lemmas.Option.{IfSome_then}
use Rattle.exam_rules.proofs.listing.paper_among.Goals as goal

-- nobody has the number, if the first whose number is no smaller does not have it
absent : (xs : List Entrant) (n i : ℕ) → IsNonDecreasingBy (λ (e : Entrant). e.number) xs
    → IsPartitionPoint (λ (e : Entrant). nat_lt e.number n ≡ true) (λ (e : Entrant). nat_lt e.number n ≡ false) xs i
    → ((d : Entrant) → i < length xs → (get_or xs i d).number ≢ n)
    → All (λ (e : Entrant). e.number ≢ n) xs
absent xs n i up point other k d inside same = inner (nat_lt k i) refl
  where
    inner : (b : Bool) → nat_lt k i ≡ b → ⊥
    inner true e =
        let low = ltb-true (get_or xs k d).number n (point.0 k d (omega arith) (ltb-true k i e)) in
        omega arith
    inner false e =
        let from = ltb-false k i e in
        let high = ltb-false (get_or xs i d).number n (point.1 i d (omega arith) (omega arith)) in
        let rise = up i k d from inside in
        other d (omega arith) (omega arith)

pub returns-clause-found : goal.returns-clause-found
returns-clause-found c =
    IfSome_then c.paper_at.result c.paper_at.ensures.found (λ paper at. (c.place_of.result, at.0, at.1))

pub returns-clause-none_only_if_absent : goal.returns-clause-none_only_if_absent
returns-clause-none_only_if_absent c = λ up none.
    absent c.args.entrants.now c.args.number c.place_of.result up (c.place_of.ensures.place up)
    (λ d inside same. both_ways _ (c.paper_at.ensures.none none inside d) (eq-eqb _ _ same))
