-- Feature sets: what they hold, their texts and their sums.
use Rattle.std.specs.Prelude.{ℕ, ◌+◌, ◌-◌, ◌*◌, ◌/◌, ◌%◌, ◌^◌, ◌==◌, nat_eq, Bool, true, false, not, ◌&&◌, ◌||◌}
use Rattle.std.specs.Prelude.{List, [], ◌∷◌, ◌++◌, length, if◌then◌else◌, codes, bytes_eq, Option, Some, None}
use Rattle.std.specs.List.{list_any, slice_split}
use Rattle.std.specs.Cmp.Lexicographic.{pointwise}

-- the names of the features. In a sum the first counts 1, and each further one twice as much as the one before
-- it. Texts list them in this order. Files hold sums and texts, so a new feature comes last.
abbrev pub feature_names : List (List ℕ)
feature_names =
    codes "step-free"
    ∷ codes "screen"
    ∷ codes "reader"
    ∷ codes "small-room"
    ∷ codes "computer"
    ∷ codes "quiet"
    ∷ []

-- for each name, whether it is in the set
abbrev pub Flags : List (List ℕ) → Type 0
Flags [] = Unit {0}
Flags (name ∷ names) = Bool × Flags names

abbrev pub Features : Type 0
Features = Flags feature_names

-- appends a wanted name, after a + if there is text before it
abbrev pub after_plus : List ℕ → List ℕ → List ℕ
after_plus [] name = name
after_plus (b ∷ text) name = (b ∷ text) ++ 43 ∷ name

abbrev pub add_name : List ℕ → Bool → List ℕ → List ℕ
add_name text wanted name = if wanted then after_plus text name else text

abbrev pub add_names : (names : List (List ℕ)) → Flags names → List ℕ → List ℕ
add_names [] flags text = text
add_names (name ∷ names) flags text = add_names names flags.1 (add_name text flags.0 name)

-- the most bytes that the names take, each after a +
abbrev pub room_of : List (List ℕ) → ℕ
room_of [] = 0
room_of (name ∷ names) = length name + 1 + room_of names

abbrev pub dash_if_empty : List ℕ → List ℕ
dash_if_empty [] = codes "-"
dash_if_empty (b ∷ text) = b ∷ text

-- the names in their order, joined by +, or - for the empty set
abbrev pub features_text : Features → List ℕ
features_text f = dash_if_empty (add_names feature_names f [])

abbrev pub has_part : List ℕ → List ℕ → Bool
has_part bytes name = list_any (λ part. pointwise nat_eq part name) (slice_split (λ b. b == 43) bytes)

abbrev pub named_among : (names : List (List ℕ)) → List ℕ → Flags names
named_among [] bytes = tt
named_among (name ∷ names) bytes = (has_part bytes name, named_among names bytes)

-- the features that the parts of a text name
abbrev pub named_features : List ℕ → Features
named_features bytes = named_among feature_names bytes

-- the set that a text is: the set that its parts name, if that set has this text
unfoldable pub features_in : List ℕ → Option Features
features_in bytes =
    if bytes_eq (features_text (named_features bytes)) bytes then Some (named_features bytes) else None

abbrev pub none_among : (names : List (List ℕ)) → Flags names
none_among [] = tt
none_among (name ∷ names) = (false, none_among names)

-- the empty set
abbrev pub no_features : Features
no_features = none_among feature_names

-- a feature is there, or it is not wanted
abbrev pub is_met : Bool → Bool → Bool
is_met wanted there = not wanted || there

abbrev pub all_met : (names : List (List ℕ)) → Flags names → Flags names → Bool
all_met [] has wants = true
all_met (name ∷ names) has wants = is_met wants.0 has.0 && all_met names has.1 wants.1

-- each wanted feature is there
abbrev pub holds_features : Features → Features → Bool
holds_features has wants = all_met feature_names has wants

abbrev pub part : Bool → ℕ → ℕ
part wanted value = if wanted then value else 0

abbrev pub sum_among : (names : List (List ℕ)) → Flags names → ℕ
sum_among [] flags = 0
sum_among (name ∷ names) flags = part flags.0 1 + 2 * sum_among names flags.1

-- the k-th feature, counted from 0, adds 2 to the power of k
abbrev pub features_sum : Features → ℕ
features_sum f = sum_among feature_names f

-- the sum of the set of all features
abbrev pub greatest_sum : ℕ
greatest_sum = 2 ^ length feature_names - 1

-- both have equal features
abbrev pub same_features : Features → Features → Bool
same_features a b = features_sum a == features_sum b

abbrev pub summed_among : (names : List (List ℕ)) → ℕ → Flags names
summed_among [] sum = tt
summed_among (name ∷ names) sum = (sum % 2 == 1, summed_among names (sum / 2))

-- the features whose powers are in a sum
abbrev pub summed_features : ℕ → Features
summed_features sum = summed_among feature_names sum
