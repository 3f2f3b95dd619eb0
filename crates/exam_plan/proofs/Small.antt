-- Small facts that several proofs share: the value of an option, two orders that decide in turn, and what holds of each
-- element of a list.
use Rattle.exam_plan.proofs.Words.{Ordering, Less, Equal, Greater, ordering_then, AllByRecursion, length-map}
use Rattle.exam_plan.proofs.Words.{All-filter, All-from_recursion, recursion_from_All, length-filter}
use Rattle.std.proofs.Common.{◌≡◌, Bool, true, false, cond, List, [], ◌∷◌, length, map, filter, count_by, Contains}
use Rattle.std.proofs.Common.{Option, None, Some, IsSome, IfSome, refl, sym, ap, subst, ◌∙◌}
use Rattle.std.proofs.lemmas.List.Elements.{All-contains_itself, All-weaker}

-- ---- options

pub some_value : {A : Type 0} (o : Option A) → IsSome o → (x : A) × (o ≡ Some x)
some_value None e = absurd (let f : false ≡ true = e in cc)
some_value (Some x) e = (x, refl)

pub value_at : {A : Type 0} (P : A → Type 0) (o : Option A) (x : A) → o ≡ Some x → IfSome o P → P x
value_at {A} P o x e w = let R : Option A → Type 0 = λ t. IfSome t P in subst R e w

-- ---- orders

-- if two orders in turn tie, both do
pub both_tie : (o p : Ordering) → ordering_then o p ≡ Equal → (o ≡ Equal) × (p ≡ Equal)
both_tie Less p e = absurd (let f : Less ≡ Equal = e in cc)
both_tie Equal p e = (refl, e)
both_tie Greater p e = absurd (let f : Greater ≡ Equal = e in cc)

-- ---- lists

-- what holds of the elements that a list has holds of each
pub of_members : {X : Type 0} (Q : X → Type 0) (xs : List X) → ((x : X) → Contains xs x → Q x) → AllByRecursion Q xs
of_members Q xs f = recursion_from_All Q xs (All-weaker (Contains xs) Q f xs (All-contains_itself xs))

pub all_filter : {X : Type 0} (P : X → Type 0) (q : X → Bool) (xs : List X) → AllByRecursion P xs
    → AllByRecursion P (filter q xs)
all_filter P q xs all = recursion_from_All P (filter q xs) (All-filter q P xs (All-from_recursion P xs all))

pub none_kept : {X : Type 0} (p : X → Bool) (xs : List X) → ((x : X) → p x ≡ false) → filter p xs ≡ []
none_kept p [] off = refl
none_kept p (x ∷ xs) off = rw (off x) (none_kept p xs off)

-- a test and what it is of other names: what passes, and how many
pub filter_same : {X Y : Type 0} (P : X → Bool) (Q : Y → Bool) (f : Y → X) (ys : List Y)
    → AllByRecursion (λ y. P (f y) ≡ Q y) ys → filter P (map f ys) ≡ map f (filter Q ys)
filter_same P Q f [] h = refl
filter_same {X} {Y} P Q f (y ∷ ys) h = inner (Q y) h.0 (filter_same P Q f ys h.1)
  where
    inner : (b : Bool) → P (f y) ≡ b → filter P (map f ys) ≡ map f (filter Q ys)
        → cond (P (f y)) (f y ∷ filter P (map f ys)) (filter P (map f ys))
        ≡ map f (cond b (y ∷ filter Q ys) (filter Q ys))
    inner true e rest = rw e (ap (λ t. f y ∷ t) rest)
    inner false e rest = rw e rest

pub count_same : {X Y : Type 0} (P : X → Bool) (Q : Y → Bool) (f : Y → X) (ys : List Y)
    → AllByRecursion (λ y. P (f y) ≡ Q y) ys → count_by P (map f ys) ≡ count_by Q ys
count_same P Q f ys h =
    sym (length-filter P (map f ys)) ∙ ap length (filter_same P Q f ys h) ∙ length-map (filter Q ys) f
    ∙ length-filter Q ys
