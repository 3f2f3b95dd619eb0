-- Of a lodging's checks: they come one after the other.
use Rattle.std.proofs.Common.{◌≡◌, Bool, true, false, cond, List, [], ◌∷◌, ◌++◌, None, Some, refl}
use Rattle.exam_types.specs.declared.refusal.Refusal.{Refusal}
use Rattle.exam_commands.specs.Changes.{first_refusal}

pub first_passed : (xs ys : List (Bool × Refusal)) → first_refusal xs ≡ None
    → first_refusal (xs ++ ys) ≡ first_refusal ys
first_passed [] ys ok = refl
first_passed (x ∷ xs) ys ok = inner x.0 ok (first_passed xs ys)
  where
    inner : (b : Bool) → cond b (Some x.1) (first_refusal xs) ≡ None
        → (first_refusal xs ≡ None → first_refusal (xs ++ ys) ≡ first_refusal ys)
        → cond b (Some x.1) (first_refusal (xs ++ ys)) ≡ first_refusal ys
    inner true failed rest = absurd (let differ : Some x.1 ≡ None = failed in cc)
    inner false passed rest = rest passed

pub first_failed : (xs ys : List (Bool × Refusal)) (e : Refusal) → first_refusal xs ≡ Some e
    → first_refusal (xs ++ ys) ≡ Some e
first_failed [] ys e failed = absurd (let differ : None ≡ Some e = failed in cc)
first_failed (x ∷ xs) ys e failed = inner x.0 failed (first_failed xs ys e)
  where
    inner : (b : Bool) → cond b (Some x.1) (first_refusal xs) ≡ Some e
        → (first_refusal xs ≡ Some e → first_refusal (xs ++ ys) ≡ Some e)
        → cond b (Some x.1) (first_refusal (xs ++ ys)) ≡ Some e
    inner true here rest = here
    inner false later rest = rest later

pub both_passed : (xs ys : List (Bool × Refusal)) → first_refusal (xs ++ ys) ≡ None
    → (first_refusal xs ≡ None) × (first_refusal ys ≡ None)
both_passed [] ys ok = (refl, ok)
both_passed (x ∷ xs) ys ok = inner x.0 ok (both_passed xs ys)
  where
    inner : (b : Bool) → cond b (Some x.1) (first_refusal (xs ++ ys)) ≡ None
        → (first_refusal (xs ++ ys) ≡ None → (first_refusal xs ≡ None) × (first_refusal ys ≡ None))
        → (cond b (Some x.1) (first_refusal xs) ≡ None) × (first_refusal ys ≡ None)
    inner true failed rest = absurd (let differ : Some x.1 ≡ None = failed in cc)
    inner false passed rest = rest passed
