-- Orders that pass in turn.
use Rattle.exam_theorem.proofs.Words.{Ghosts, state, HasCleanDisk, IsSound, OfficeIn, Given, shown, IsAtRest, Outcome}
use Rattle.std.proofs.Common.{◌≡◌, ◌∙◌, List, [], ◌∷◌, ◌++◌, refl, sym, ap, subst}
use Rattle.std.specs.Prelude.{map}
use Rattle.exam_theorem.specs.Life.{ArePassed, Passes}
use Rattle.exam_theorem.specs.declared.orders.Order.{Order}
use Rattle.exam_theorem.proofs.Listing.{shown_more}

module _ {S : Type 0} (g : Ghosts S) where
  passed_more : (orders : List Given) (x : Given) (outcomes : List Outcome) (outcome : Outcome)
      (old mid new : OfficeIn S)
      → ArePassed g orders old outcomes mid → Passes g x mid outcome new
      → ArePassed g (orders ++ x ∷ []) old (outcomes ++ outcome ∷ []) new
  passed_more [] x [] outcome old mid new so_far next =
      (new, subst (λ (o : OfficeIn S). Passes g x o outcome new) so_far next, refl)
  passed_more [] x (p ∷ outcomes) outcome old mid new so_far next = absurd so_far
  passed_more (y ∷ orders) x [] outcome old mid new so_far next = absurd so_far
  passed_more (y ∷ orders) x (p ∷ outcomes) outcome old mid new so_far next =
      (so_far.0, so_far.1, passed_more orders x outcomes outcome so_far.0 mid new so_far.2 next)

  module _ (orders longer : List Order) (x : Order) (one_more : longer ≡ orders ++ x ∷ [])
      (outcomes all : List Outcome) (outcome : Outcome) (pushed : all ≡ outcomes ++ outcome ∷ []) where
    pub next_passed : (old mid new : OfficeIn S) → ArePassed g (map shown orders) old outcomes mid
        → Passes g (shown x) mid outcome new → ArePassed g (map shown longer) old all new
    next_passed old mid new so_far next =
        subst (λ (given : List Given). ArePassed g given old all new)
        (sym (ap (map shown) one_more ∙ shown_more orders x))
        (subst (λ (ends : List Outcome). ArePassed g (map shown orders ++ shown x ∷ []) old ends new) (sym pushed)
        (passed_more (map shown orders) (shown x) outcomes outcome old mid new so_far next))

  -- no fault of the disk is forgotten
  pub passed_clean : (orders : List Given) (outcomes : List Outcome) (old new : OfficeIn S)
      → ArePassed g orders old outcomes new → HasCleanDisk (state g new.database) → HasCleanDisk (state g old.database)
  passed_clean [] [] old new passed clean = subst (λ (o : OfficeIn S). HasCleanDisk (state g o.database)) passed clean
  passed_clean [] (p ∷ outcomes) old new passed clean = absurd passed
  passed_clean (x ∷ orders) [] old new passed clean = absurd passed
  passed_clean (x ∷ orders) (p ∷ outcomes) old new passed clean =
      passed.1.settles.was_clean (passed_clean orders outcomes passed.0 new passed.2 clean)

  passed_sound : (orders : List Given) (outcomes : List Outcome) (old new : OfficeIn S)
      → ArePassed g orders old outcomes new → IsSound (state g new.database) → IsSound (state g old.database)
  passed_sound [] [] old new passed sound = subst (λ (o : OfficeIn S). IsSound (state g o.database)) passed sound
  passed_sound [] (p ∷ outcomes) old new passed sound = absurd passed
  passed_sound (x ∷ orders) [] old new passed sound = absurd passed
  passed_sound (x ∷ orders) (p ∷ outcomes) old new passed sound =
      passed.1.settles.was_sound (passed_sound orders outcomes passed.0 new passed.2 sound)

  -- after the orders the office is at rest again
  pub passed_rests : (orders : List Given) (outcomes : List Outcome) (old new : OfficeIn S)
      → ArePassed g orders old outcomes new → IsAtRest g old → IsSound (state g new.database) → IsAtRest g new
  passed_rests [] [] old new passed rest sound = subst (IsAtRest g) (sym passed) rest
  passed_rests [] (p ∷ outcomes) old new passed rest sound = absurd passed
  passed_rests (x ∷ orders) [] old new passed rest sound = absurd passed
  passed_rests (x ∷ orders) (p ∷ outcomes) old new passed rest sound =
      passed_rests orders outcomes passed.0 new passed.2
      (passed.1.settles.rests rest (passed_sound orders outcomes passed.0 new passed.2 sound)) sound
