-- One more order after others.
use Rattle.exam_theorem.proofs.Words.{State, Given, shown, Outcome}
use Rattle.std.proofs.Common.{◌≡◌, ◌∙◌, List, [], ◌∷◌, ◌++◌, refl, sym, ap, subst}
use Rattle.std.specs.Prelude.{map}
use Rattle.exam_theorem.specs.Following.{AreEach}
use Rattle.exam_theorem.specs.declared.orders.Order.{Order}

pub shown_more : (orders : List Order) (x : Order) → map shown (orders ++ x ∷ []) ≡ map shown orders ++ shown x ∷ []
shown_more [] x = refl
shown_more (y ∷ orders) x = ap (λ rest. shown y ∷ rest) (shown_more orders x)

module _ (Leads : Given → State → Outcome → State → Type 0) where
  each_more : (orders : List Given) (x : Given) (outcomes : List Outcome) (outcome : Outcome) (before mid after : State)
      → AreEach Leads orders before outcomes mid → Leads x mid outcome after
      → AreEach Leads (orders ++ x ∷ []) before (outcomes ++ outcome ∷ []) after
  each_more [] x [] outcome before mid after so_far next =
      (after, subst (λ b. Leads x b outcome after) so_far next, refl)
  each_more [] x (p ∷ outcomes) outcome before mid after so_far next = absurd so_far
  each_more (y ∷ orders) x [] outcome before mid after so_far next = absurd so_far
  each_more (y ∷ orders) x (p ∷ outcomes) outcome before mid after so_far next =
      (so_far.0, so_far.1, each_more orders x outcomes outcome so_far.0 mid after so_far.2 next)

  module _ (orders longer : List Order) (x : Order) (one_more : longer ≡ orders ++ x ∷ [])
      (outcomes all : List Outcome) (outcome : Outcome) (pushed : all ≡ outcomes ++ outcome ∷ []) where
    pub next_of_each : (before mid after : State) → AreEach Leads (map shown orders) before outcomes mid
        → Leads (shown x) mid outcome after → AreEach Leads (map shown longer) before all after
    next_of_each before mid after so_far next =
        subst (λ (given : List Given). AreEach Leads given before all after)
        (sym (ap (map shown) one_more ∙ shown_more orders x))
        (subst (λ (ends : List Outcome). AreEach Leads (map shown orders ++ shown x ∷ []) before ends after)
        (sym pushed)
        (each_more (map shown orders) (shown x) outcomes outcome before mid after so_far next))
