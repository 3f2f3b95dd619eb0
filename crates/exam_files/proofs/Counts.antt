-- A text has only so many records, so a larger count of turns finds no more.
use Rattle.std.proofs.Common.{◌≡◌, ◌+◌, ◌<◌, ◌≤◌, ℕ, zero, suc, List, [], ◌∷◌, ◌++◌, length, Bool, true, false, Option}
use Rattle.std.proofs.Common.{Some, None, cond, refl, ap, arith}
use Rattle.std.specs.Prelude.{◌==◌, ◌||◌}
use Rattle.csv.specs.Machine.{Read, ends_at_end, field_after, fields_after, in_field, is_end, next_record, start_field}
use Rattle.csv.specs.Machine.{start_record, step}
use Rattle.csv.specs.Reading.{default_config, is_bom, records, records_from, records_next, strip_bom}
use Rattle.csv.specs.declared.parser.State.{State}
use Rattle.csv.specs.declared.parser.State.TheVariants as st
use Rattle.csv.specs.declared.parser.Action.{Action}
use Rattle.csv.specs.declared.parser.Action.TheVariants as act
use Rattle.exam_files.specs.Left.{most, records_left}

-- no record is open behind this step where it ended one
pub record Closes (x : State × Action) : Type 0 where
  pub closes : is_end x.1 ≡ true → ends_at_end x.0 ≡ false

no : (x : State × Action) → is_end x.1 ≡ false → Closes x
no x n = record { closes = λ e. cc (n, e) }

-- a byte in a field
plain : (a b d : Bool)
    → Closes (cond a (st.StartField, act.EndField)
    (cond b (cond d st.AfterCr st.StartRecord, act.EndRecord) (st.InField, act.Copy)))
plain true b d = no _ refl
plain false true true = record { closes = λ e. refl }
plain false true false = record { closes = λ e. refl }
plain false false d = no _ refl

-- a byte that may be special
either : (q : Bool) (x y : State × Action) → Closes x → Closes y → Closes (cond q x y)
either true x y n h = n
either false x y n h = h

closes_in_field : (c : ℕ) → Closes (in_field default_config c)
closes_in_field c = plain (c == 44) ((c == 13) || (c == 10)) (c == 13)

closes_start_field : (c : ℕ) → Closes (start_field default_config c)
closes_start_field c =
    either (c == 34) (st.InQuoted, act.Skip) (in_field default_config c) (no _ refl) (closes_in_field c)

closes_start_record : (c : ℕ) → Closes (start_record default_config c)
closes_start_record c =
    either ((c == 13) || (c == 10)) (st.StartRecord, act.Skip) (start_field default_config c) (no _ refl)
    (closes_start_field c)

pub ended : (s : State) (c : ℕ) → Closes (step default_config s c)
ended st.StartRecord c = closes_start_record c
ended st.StartField c = closes_start_field c
ended st.InField c = closes_in_field c
ended st.InQuoted c = either (c == 34) (st.AfterQuote, act.Skip) (st.InQuoted, act.Copy) (no _ refl) (no _ refl)
ended st.InEscape c = no _ refl
ended st.AfterQuote c =
    either (c == 34) (st.InQuoted, act.Copy) (in_field default_config c) (no _ refl) (closes_in_field c)
ended st.InComment c = either (c == 10) (st.StartRecord, act.Skip) (st.InComment, act.Skip) (no _ refl) (no _ refl)
ended st.AfterCr c =
    either (c == 10) (st.StartRecord, act.Skip) (start_record default_config c) (no _ refl) (closes_start_record c)

pub at_most_one : (s : State) → cond (ends_at_end s) 1 0 ≤ 1
at_most_one s = elim (ends_at_end s) as (λ b. cond b 1 0 ≤ 1) [ true ↦ omega arith | false ↦ omega arith ]

-- each record takes something
pub shrinks : (s : State) (fields : List (List ℕ)) (field ys : List ℕ) (p : Read)
    → next_record default_config s fields field ys ≡ Some p → most p.1 p.2 < most s ys
unfolding next_record
shrinks s fields field [] p e = last (ends_at_end s) e
  where
    last : (b : Bool) → cond b (Some (fields ++ (field ∷ []), st.StartRecord, [])) None ≡ Some p
        → most p.1 p.2 < 0 + cond b 1 0
    last true e = let q : p ≡ (fields ++ (field ∷ []), st.StartRecord, []) = cc in rw q (omega arith)
    last false e = cc e
shrinks s fields field (c ∷ rest) p e =
    one (is_end (step default_config s c).1) refl e (shrinks (step default_config s c).0 _ _ rest p)
  where
    one : (b : Bool) → is_end (step default_config s c).1 ≡ b
        → cond b (Some (fields_after (step default_config s c).1 fields field, (step default_config s c).0, rest))
        (next_record default_config (step default_config s c).0 (fields_after (step default_config s c).1 fields field)
        (field_after (step default_config s c).1 c field) rest) ≡ Some p
        → (next_record default_config (step default_config s c).0
        (fields_after (step default_config s c).1 fields field)
        (field_after (step default_config s c).1 c field) rest ≡ Some p
        → most p.1 p.2 < most (step default_config s c).0 rest)
        → most p.1 p.2 < length (c ∷ rest) + cond (ends_at_end s) 1 0
    one true h e more =
        let q : p ≡ (fields_after (step default_config s c).1 fields field, (step default_config s c).0, rest) = cc in
        rw (q, (ended s c).closes h) (omega arith)
    one false h e more =
        let less = more e in
        let bound = at_most_one (step default_config s c).0 in
        omega arith

-- with turns enough, the count of turns does not matter
pub enough : (n m : ℕ) (s : State) (ys : List ℕ) → most s ys ≤ n → most s ys ≤ m
    → records_from default_config n s ys ≡ records_from default_config m s ys
unfolding records_from
enough zero zero s ys a b = refl
enough zero (suc m) s ys a b = none (next_record default_config s [] [] ys) refl
  where
    none : (o : Option Read) → next_record default_config s [] [] ys ≡ o
        → [] ≡ records_next (records_from default_config m) o
    none None e = refl
    none (Some p) e = let h = shrinks s [] [] ys p e in absurd (omega arith)
enough (suc n) zero s ys a b = none (next_record default_config s [] [] ys) refl
  where
    none : (o : Option Read) → next_record default_config s [] [] ys ≡ o
        → records_next (records_from default_config n) o ≡ []
    none None e = refl
    none (Some p) e = let h = shrinks s [] [] ys p e in absurd (omega arith)
enough (suc n) (suc m) s ys a b = both (next_record default_config s [] [] ys) refl (λ p. enough n m p.1 p.2)
  where
    both : (o : Option Read) → next_record default_config s [] [] ys ≡ o
        → ((p : Read) → most p.1 p.2 ≤ n → most p.1 p.2 ≤ m
        → records_from default_config n p.1 p.2 ≡ records_from default_config m p.1 p.2)
        → records_next (records_from default_config n) o ≡ records_next (records_from default_config m) o
    both None e more = refl
    both (Some p) e more =
        let h = shrinks s [] [] ys p e in
        ap (λ rs. p.0 ∷ rs) (more p (omega arith) (omega arith))

some-turns : (n : ℕ) (s : State) (ys : List ℕ) (p : Read) → next_record default_config s [] [] ys ≡ Some p
    → most s ys ≤ n → records_from default_config n s ys ≡ p.0 ∷ records_left p.1 p.2
unfolding records_from
some-turns zero s ys p e h = let less = shrinks s [] [] ys p e in absurd (omega arith)
some-turns (suc n) s ys p e h = let less =
    shrinks s [] [] ys p e in rw e (ap (λ rs. p.0 ∷ rs) (enough n (most p.1 p.2) p.1 p.2 (omega arith) (omega arith)))

no-turns : (n : ℕ) (s : State) (ys : List ℕ) → next_record default_config s [] [] ys ≡ None
    → records_from default_config n s ys ≡ []
unfolding records_from
no-turns zero s ys e = refl
no-turns (suc n) s ys e = rw e refl

-- the first of the records left, and those after it
pub left-some : (s : State) (ys : List ℕ) (p : Read) → next_record default_config s [] [] ys ≡ Some p
    → records_left s ys ≡ p.0 ∷ records_left p.1 p.2
left-some s ys p e = some-turns (most s ys) s ys p e (omega arith)

pub left-none : (s : State) (ys : List ℕ) → next_record default_config s [] [] ys ≡ None → records_left s ys ≡ []
left-none s ys e = no-turns (most s ys) s ys e

-- the records of a text are those left at its start
pub all_left : (xs : List ℕ) → records default_config xs ≡ records_left st.StartRecord xs
all_left xs = enough (length xs + 1) (most st.StartRecord xs) st.StartRecord xs (omega arith) (omega arith)

-- there are no more records than turns
pub few : (n : ℕ) (s : State) (ys : List ℕ) → length (records_from default_config n s ys) ≤ n
unfolding records_from
few zero s ys = omega arith
few (suc n) s ys = turn (next_record default_config s [] [] ys) (few n)
  where
    turn : (o : Option Read) → ((t : State) (zs : List ℕ) → length (records_from default_config n t zs) ≤ n)
        → length (records_next (records_from default_config n) o) ≤ suc n
    turn None more = omega arith
    turn (Some p) more = let h = more p.1 p.2 in omega arith

pub no_longer : (xs : List ℕ) → length (strip_bom xs) ≤ length xs
unfolding strip_bom
no_longer [] = omega arith
no_longer (a ∷ []) = omega arith
no_longer (a ∷ b ∷ []) = omega arith
no_longer (a ∷ b ∷ c ∷ rest) =
    elim (is_bom a b c) as
    (λ t. length (cond t rest (a ∷ b ∷ c ∷ rest)) ≤ length (a ∷ b ∷ c ∷ rest))
    [ true ↦ omega arith | false ↦ omega arith ]

-- a file has no more records than bytes
pub records_few : (xs : List ℕ) → length (records default_config (strip_bom xs)) ≤ length xs
records_few xs =
    let a = all_left (strip_bom xs) in
    let b = few (most st.StartRecord (strip_bom xs)) st.StartRecord (strip_bom xs) in
    let c = no_longer xs in
    let d : length (records default_config (strip_bom xs)) ≤ length (strip_bom xs) + 0 = rw a b in
    omega arith
