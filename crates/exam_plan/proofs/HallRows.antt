-- The rows of a problem, kept as sets.
use Rattle.exam_plan.proofs.Words.{range_with_len, list_any, IsDistinct, IsStrictlySortedBy, nat_cmp, cases_lt}
use Rattle.exam_plan.proofs.Words.{get_or-map, length-map, All-get_or, All-from_get_or, All-filter, most_halls, holds}
use Rattle.exam_plan.proofs.Words.{halls_below, IsProblem, AreMasks}
use Rattle.std.proofs.Common.{◌≡◌, ℕ, ◌+◌, ◌<◌, ◌≤◌, ◌^◌, true, false, List, [], ◌∷◌, ◌++◌, map, length, get_or, take}
use Rattle.std.proofs.Common.{nat_eq, sym, ap, ◌∙◌, inl, inr, subst, arith, Vec, Global}
use Rattle.std.specs.Prelude.{All}
use Rattle.std.proofs.lemmas.List.{map-append, take_more, take_all}
use Rattle.std.proofs.lemmas.List.Elements.{All-push}
use Rattle.exam_plan.specs.Problems.{most_members}
use Rattle.exam_plan.proofs.HallBits.{holds_past}
use Rattle.exam_plan.proofs.Seatings.{listed_below}
use Rattle.exam_plan.proofs.Rising.{filter_sorted, range_below, any_passing, row_again}

-- the row of a candidate, read from the sets
pub row_read : (desks rows rank : List ℕ) (c set h : ℕ) → AreMasks desks rows rank
    → c < length (map (halls_below (length desks)) rows) → set ≡ get_or rows c set
    → holds set h ≡ list_any (nat_eq h) (get_or (map (halls_below (length desks)) rows) c [])
row_read desks rows rank c set h are below read =
    let long : length (map (halls_below (length desks)) rows) ≡ length rows =
    length-map rows (halls_below (length desks)) in
    let at : get_or (map (halls_below (length desks)) rows) c [] ≡ halls_below (length desks) (get_or rows c set) =
    get_or-map (halls_below (length desks)) rows c set [] (omega arith) in
    let within = All-get_or (λ row. (k : ℕ) → holds row k ≡ true → k < length desks) rows c set
    (omega arith) are.within in
    let here : (k : ℕ) → holds set k ≡ true → k < length desks =
    subst (λ (z : ℕ). (k : ℕ) → holds z k ≡ true → k < length desks) (sym read) within in
    sym (any_passing (holds set) (length desks) h (here h))
    ∙ ap (λ z. list_any (nat_eq h) (halls_below (length desks) z)) read ∙ ap (list_any (nat_eq h)) (sym at)

-- ---- rows that come as masks

-- a set below a power of two has no hall past it
pub within_masks : (n : ℕ) (rows : List ℕ) → All (λ mask. mask < 2 ^ n) rows
    → All (λ row. (h : ℕ) → holds row h ≡ true → h < n) rows
within_masks n rows all =
    All-from_get_or (λ row. (h : ℕ) → holds row h ≡ true → h < n) rows 0 (λ i l h held. elim (cases_lt h n) [
      | inl k ↦ k
      | inr g ↦ absurd (let f = holds_past n (get_or rows i 0) h (All-get_or (λ mask. mask < 2 ^ n) rows i 0 l all) g in
          let z : false ≡ true = sym f ∙ held in cc)
    ])

rows_rise : (n : ℕ) (rows : List ℕ) → All (IsStrictlySortedBy nat_cmp) (map (halls_below n) rows)
rows_rise n rows = All-from_get_or (IsStrictlySortedBy nat_cmp) (map (halls_below n) rows) []
    (λ i l. let long : length (map (halls_below n) rows) ≡ length rows = length-map rows (halls_below n) in
    subst (IsStrictlySortedBy nat_cmp) (sym (get_or-map (halls_below n) rows i 0 [] (omega arith)))
    (filter_sorted (holds (get_or rows i 0)) n))

rows_exist : (n : ℕ) (rows : List ℕ) → All (All (λ h. h < n)) (map (halls_below n) rows)
rows_exist n rows = All-from_get_or (λ hs. All (λ h. h < n) hs) (map (halls_below n) rows) []
    (λ i l. let long : length (map (halls_below n) rows) ≡ length rows = length-map rows (halls_below n) in
    subst (λ hs. All (λ h. h < n) hs) (sym (get_or-map (halls_below n) rows i 0 [] (omega arith)))
    (All-filter (holds (get_or rows i 0)) (λ h. h < n) (range_with_len 0 n) (range_below n)))

pub are_masks : (desks rows rank : List ℕ) → length desks ≤ most_halls → length rows ≤ most_members
    → length rank ≡ length rows → IsDistinct nat_eq rank
    → All (λ row. (h : ℕ) → holds row h ≡ true → h < length desks) rows → AreMasks desks rows rank
are_masks desks rows rank few_halls few ranked distinct exist =
    let long : length (map (halls_below (length desks)) rows) ≡ length rows =
    length-map rows (halls_below (length desks)) in
    record {
      problem = record {
        few = omega arith;
        ranked = omega arith;
        distinct = distinct;
        rising = rows_rise (length desks) rows;
        exist = rows_exist (length desks) rows;
      };
      few_halls = few_halls;
      within = exist;
    }

-- ---- rows that come as lists

-- the sets of the rows so far
pub record AreSets (n : ℕ) (rows : List (List ℕ)) (sets : List ℕ) : Type 0 where
  pub rows_are : map (halls_below n) sets ≡ rows
  pub within : All (λ row. (h : ℕ) → holds row h ≡ true → h < n) sets

-- what holds of each row holds of the row that was read
pub row_at : (Q : List ℕ → Type 0) (fits : List (Vec ℕ Global)) (i : ℕ) (row : Vec ℕ Global)
    → All Q (map (λ (r : Vec ℕ Global). r.items) fits) → i < length fits → row ≡ get_or fits i row → Q row.items
row_at Q fits i row good below read =
    let long : length (map (λ (r : Vec ℕ Global). r.items) fits) ≡ length fits =
    length-map fits (λ (r : Vec ℕ Global). r.items) in
    let at : get_or (map (λ (r : Vec ℕ Global). r.items) fits) i [] ≡ (get_or fits i row).items =
    get_or-map (λ (r : Vec ℕ Global). r.items) fits i row [] below in
    subst Q (at ∙ ap (λ (r : Vec ℕ Global). r.items) (sym read))
    (All-get_or Q (map (λ (r : Vec ℕ Global). r.items) fits) i [] (omega arith) good)

pub row_known : (Q : List ℕ → Type 0) (fits shown : List (Vec ℕ Global)) (i : ℕ) (row : Vec ℕ Global) → shown ≡ fits
    → All Q (map (λ (r : Vec ℕ Global). r.items) fits) → i < length shown → row ≡ get_or shown i row → Q row.items
row_known Q fits shown i row same good below read =
    let P : List (Vec ℕ Global) → Type 0 =
    λ rows. All Q (map (λ (r : Vec ℕ Global). r.items) rows) in
    row_at Q shown i row (subst P (sym same) good) below read

pub sets_more : (n i : ℕ) (fits : List (Vec ℕ Global)) (row : Vec ℕ Global) (sets : List ℕ) (set : ℕ)
    → AreSets n (take i (map (λ (r : Vec ℕ Global). r.items) fits)) sets
    → i < length fits → row ≡ get_or fits i row → IsStrictlySortedBy nat_cmp row.items → All (λ h. h < n) row.items
    → ((h : ℕ) → holds set h ≡ list_any (nat_eq h) row.items)
    → AreSets n (take (i + 1) (map (λ (r : Vec ℕ Global). r.items) fits)) (sets ++ set ∷ [])
sets_more n i fits row sets set are below read sorted exist tests =
    let long : length (map (λ (r : Vec ℕ Global). r.items) fits) ≡ length fits =
    length-map fits (λ (r : Vec ℕ Global). r.items) in
    let at : get_or (map (λ (r : Vec ℕ Global). r.items) fits) i [] ≡ (get_or fits i row).items =
    get_or-map (λ (r : Vec ℕ Global). r.items) fits i row [] below in
    let here : halls_below n set ≡ get_or (map (λ (r : Vec ℕ Global). r.items) fits) i [] =
    row_again (holds set) n row.items sorted exist tests ∙ ap (λ (r : Vec ℕ Global). r.items) read ∙ sym at in
    record {
      rows_are = map-append (halls_below n) sets (set ∷ []) ∙ ap (λ rs. rs ++ halls_below n set ∷ []) are.rows_are
          ∙ ap (λ r. take i (map (λ (r : Vec ℕ Global). r.items) fits) ++ r ∷ []) here
          ∙ sym (take_more (map (λ (r : Vec ℕ Global). r.items) fits) i [] (omega arith));
      within = All-push (λ row. (h : ℕ) → holds row h ≡ true → h < n) sets set are.within
          (λ h held. listed_below n row.items h exist (sym (tests h) ∙ held));
    }

pub sets_done : (desks rank sets : List ℕ) (n : ℕ) (fits : List (Vec ℕ Global))
    → IsProblem (record { desk_counts = desks; fit = map (λ (r : Vec ℕ Global). r.items) fits; rank = rank })
    → length desks ≤ most_halls
    → length fits ≤ n → AreSets (length desks) (take n (map (λ (r : Vec ℕ Global). r.items) fits)) sets
    → AreMasks desks sets rank × (map (halls_below (length desks)) sets ≡ map (λ (r : Vec ℕ Global). r.items) fits)
sets_done desks rank sets n fits good few all are =
    let long : length (map (λ (r : Vec ℕ Global). r.items) fits) ≡ length fits =
    length-map fits (λ (r : Vec ℕ Global). r.items) in
    let same : map (halls_below (length desks)) sets ≡ map (λ (r : Vec ℕ Global). r.items) fits =
    are.rows_are ∙ take_all n (map (λ (r : Vec ℕ Global). r.items) fits) (omega arith) in (
      record {
        problem = subst (λ (rows : List (List ℕ)). IsProblem (record { desk_counts = desks; fit = rows; rank = rank }))
            (sym same) good;
        few_halls = few;
        within = are.within;
      },
      same,
    )
