-- Which appeals a grant supersedes: at most one, and after it no other appeal has the key of the granted one.
use Rattle.std.proofs.Common.{◌≡◌, ℕ, ◌==◌, ◌&&◌, ◌⊎◌, inl, inr, Bool, true, false, cond, List, [], ◌∷◌, map, Option}
use Rattle.std.proofs.Common.{None, Some, refl, ap, sym, ◌∙◌}
use Rattle.std.specs.List.{IsDistinct, filter_map, find}
use Rattle.std.specs.Option.{option_map}
use Rattle.std.proofs.lemmas.Bool.{and_parts, and_from, eqb-true, eq-eqb}
use Rattle.exam_rules.specs.declared.rows.Appeal.{Appeal}
use Rattle.exam_rules.specs.declared.rows.Status.{Status}
use Rattle.exam_rules.specs.declared.rows.Status.TheVariants as status
use Rattle.exam_rules.specs.declared.rows.Subject.{Subject}
use Rattle.exam_rules.specs.declared.rows.Subject.TheVariants as subject
use Rattle.exam_rules.specs.Orders.{KeysRise}
use Rattle.exam_rules.specs.Relations.{Code, appeal_cmp, put_row, same_code}
use Rattle.exam_rules.specs.Sessions.{is_granted}
use Rattle.exam_rules.proofs.Naming.{same_code_exact, same_code_itself}
use Rattle.exam_commands.proofs.KeyedRows.{appeals_total}
use Rattle.exam_commands.specs.declared.single.Single.{Single}
use Rattle.exam_commands.specs.declared.single.Single.TheVariants as single
use Rattle.exam_commands.specs.Appeals.{superseded, supersedes}
use Rattle.exam_commands.specs.Decisions.{gives_way, giving_way, is_earlier}
use Rattle.exam_commands.specs.Singles.{SingleKey, same_single, same_single_key, single_as, single_key}
use Rattle.exam_commands.proofs.PutRows.{IsApartFrom, mapped_apart, mapped_distinct, none_changed, one_changed}

-- ---- keys of appeals that a candidate may have only once

single_exact : (a b : Single) → same_single a b ≡ true → a ≡ b
single_exact single.GrantedClash single.GrantedClash e = refl
single_exact single.GrantedArrangement single.GrantedArrangement e = refl
single_exact single.OpenHall single.OpenHall e = refl
single_exact single.OpenClash single.OpenClash e = refl
single_exact single.OpenArrangement single.OpenArrangement e = refl
single_exact a b e = cc

single_itself : (a : Single) → same_single a a ≡ true
single_itself single.GrantedClash = refl
single_itself single.GrantedArrangement = refl
single_itself single.OpenHall = refl
single_itself single.OpenClash = refl
single_itself single.OpenArrangement = refl

key_exact : (x y : SingleKey) → same_single_key x y ≡ true → x ≡ y
key_exact x y e =
    let w = and_parts (same_code x.0 y.0) ((x.1 == y.1) && same_single x.2 y.2) e in
    let v = and_parts (x.1 == y.1) (same_single x.2 y.2) w.1 in
    let alike : SingleKey → SingleKey → Type 0 = λ a b. a ≡ b in
    let session : alike x (y.0, x.1, x.2) = ap (λ (s : Code). (s, x.1, x.2)) (same_code_exact x.0 y.0 w.0) in
    let number : alike (y.0, x.1, x.2) (y.0, y.1, x.2) = ap (λ (c : ℕ). (y.0, c, x.2)) (eqb-true x.1 y.1 v.0) in
    let kind : alike (y.0, y.1, x.2) y = ap (λ (k : Single). (y.0, y.1, k)) (single_exact x.2 y.2 v.1) in
    session ∙ number ∙ kind

key_itself : (x : SingleKey) → same_single_key x x ≡ true
key_itself x = and_from (same_code x.0 x.0) ((x.1 == x.1) && same_single x.2 x.2) (same_code_itself x.0)
    (and_from (x.1 == x.1) (same_single x.2 x.2) (eq-eqb x.1 x.1 refl) (single_itself x.2))

-- ---- the key of a granted appeal

pub superseded_ungranted : (st : Status) → is_granted (superseded st) ≡ false
superseded_ungranted status.Pending = refl
superseded_ungranted (status.Granted answer) = refl
superseded_ungranted (status.Refused answer) = refl
superseded_ungranted status.Retracted = refl
superseded_ungranted (status.Superseded answer) = refl

superseded_same : (st : Status) → is_granted st ≡ false → superseded st ≡ st
superseded_same status.Pending e = refl
superseded_same (status.Granted answer) e = cc
superseded_same (status.Refused answer) e = refl
superseded_same status.Retracted e = refl
superseded_same (status.Superseded answer) e = refl

same_place : (t : Code) (asked other : Subject) (st : Status) (kind : Single) → supersedes asked other ≡ true
    → is_granted st ≡ true → single_as (status.Granted t) asked ≡ Some kind → single_as st other ≡ Some kind
same_place t (subject.Hall h) other st kind way granted is = cc
same_place t (subject.Clash p) (subject.Clash q) (status.Granted u) kind way granted is = is
same_place t (subject.Arrangement a) (subject.Arrangement b) (status.Granted u) kind way granted is = is
same_place t asked other st kind way granted is = cc

placed_granted : (t : Code) (asked other : Subject) (st : Status) (kind : Single)
    → single_as (status.Granted t) asked ≡ Some kind → single_as st other ≡ Some kind → is_granted st ≡ true
placed_granted t (subject.Hall h) other st kind is at = absurd (let differ : None ≡ Some kind = is in cc)
placed_granted t (subject.Clash p) (subject.Clash q) (status.Granted u) kind is at = refl
placed_granted t (subject.Clash p) (subject.Hall h) (status.Granted u) kind is at = cc
placed_granted t (subject.Clash p) (subject.Arrangement b) (status.Granted u) kind is at = cc
placed_granted t (subject.Arrangement a) (subject.Arrangement b) (status.Granted u) kind is at = refl
placed_granted t (subject.Arrangement a) (subject.Hall h) (status.Granted u) kind is at = cc
placed_granted t (subject.Arrangement a) (subject.Clash q) (status.Granted u) kind is at = cc
placed_granted t asked other st kind is at = cc

placed_way : (t : Code) (asked other : Subject) (st : Status) (kind : Single)
    → single_as (status.Granted t) asked ≡ Some kind → single_as st other ≡ Some kind → supersedes asked other ≡ true
placed_way t (subject.Hall h) other st kind is at = absurd (let differ : None ≡ Some kind = is in cc)
placed_way t (subject.Clash p) (subject.Clash q) (status.Granted u) kind is at = refl
placed_way t (subject.Clash p) (subject.Hall h) (status.Granted u) kind is at = cc
placed_way t (subject.Clash p) (subject.Arrangement b) (status.Granted u) kind is at = cc
placed_way t (subject.Arrangement a) (subject.Arrangement b) (status.Granted u) kind is at = refl
placed_way t (subject.Arrangement a) (subject.Hall h) (status.Granted u) kind is at = cc
placed_way t (subject.Arrangement a) (subject.Clash q) (status.Granted u) kind is at = cc
placed_way t asked other st kind is at = cc

key_parts : (s t : Code) (c d : ℕ) (o : Option Single) (kind : Single)
    → option_map {U = SingleKey} (λ k. (s, c, k)) o ≡ Some (t, d, kind) → (s ≡ t) × (c ≡ d) × (o ≡ Some kind)
key_parts s t c d None kind e =
    absurd (let whole : SingleKey = (t, d, kind) in let differ : None ≡ Some whole = e in cc)
key_parts s t c d (Some k) kind e = let one : SingleKey = (s, c, k) in let two : SingleKey =
    (t, d, kind) in let same : one ≡ two = cc in
    (ap (λ (x : SingleKey). x.0) same, ap (λ (x : SingleKey). x.1) same, ap (λ (x : SingleKey). Some x.2) same)

module _ (c : ℕ) (s : Code) (asked : Subject) where
  abbrev given : (ℕ × Code) × Appeal → (ℕ × Code) × Appeal
  given row = giving_way c s asked row

  given_kept : (row : (ℕ × Code) × Appeal) → is_earlier c s asked row ≡ false → given row ≡ row
  given_kept row away = inner (gives_way c s asked row) away
    where
      inner : (b : Bool) → (b && is_granted row.1.status) ≡ false
          → cond b (row.0, record row.1 { status = superseded row.1.status }) row ≡ row
      inner true ungranted =
          ap (λ (st : Status). (row.0, record row.1 { status = st })) (superseded_same row.1.status ungranted)
      inner false e = refl

  given_now : (row : (ℕ × Code) × Appeal) → is_earlier c s asked row ≡ true
      → given row ≡ (row.0, record row.1 { status = superseded row.1.status })
  given_now row here =
      ap (λ b. cond b (row.0, record row.1 { status = superseded row.1.status }) row)
      (and_parts (gives_way c s asked row) (is_granted row.1.status) here).0

  -- an appeal with a key of its own keeps it, or has none
  given_fewer : (row : (ℕ × Code) × Appeal)
      → (single_key (given row) ≡ None) ⊎ (single_key (given row) ≡ single_key row)
  given_fewer row = inner (gives_way c s asked row)
    where
      at : (st : Status) →
          (option_map {U = SingleKey} (λ kind. (row.1.session, row.0.0, kind))
          (single_as (superseded st) row.1.subject) ≡ None)
          ⊎ (option_map {U = SingleKey} (λ kind. (row.1.session, row.0.0, kind))
          (single_as (superseded st) row.1.subject)
          ≡ option_map {U = SingleKey} (λ kind. (row.1.session, row.0.0, kind)) (single_as st row.1.subject))
      at status.Pending = inr refl
      at (status.Granted answer) = inl refl
      at (status.Refused answer) = inr refl
      at status.Retracted = inr refl
      at (status.Superseded answer) = inr refl

      inner : (b : Bool) → (single_key (cond b (row.0, record row.1 { status = superseded row.1.status }) row) ≡ None)
          ⊎ (single_key (cond b (row.0, record row.1 { status = superseded row.1.status }) row) ≡ single_key row)
      inner true = at row.1.status
      inner false = inr refl

  pub given_distinct : (rows : List ((ℕ × Code) × Appeal)) → IsDistinct same_single_key (filter_map single_key rows)
      → IsDistinct same_single_key (filter_map single_key (map given rows))
  given_distinct = mapped_distinct single_key same_single_key given given_fewer

  module _ (t : Code) (kind : Single) (is : single_as (status.Granted t) asked ≡ Some kind) where
    abbrev place : SingleKey
    place = (s, c, kind)

    earlier_stands : (row : (ℕ × Code) × Appeal) → is_earlier c s asked row ≡ true → single_key row ≡ Some place
    earlier_stands row here =
        let w = and_parts (gives_way c s asked row) (is_granted row.1.status) here in
        let v = and_parts (row.0.0 == c) (same_code row.1.session s && supersedes asked row.1.subject) w.0 in
        let u = and_parts (same_code row.1.session s) (supersedes asked row.1.subject) v.1 in
        ap (option_map {U = SingleKey} (λ k. (row.1.session, row.0.0, k)))
        (same_place t asked row.1.subject row.1.status kind u.1 w.1 is)
        ∙ ap (λ (q : Code). Some (q, row.0.0, kind)) (same_code_exact row.1.session s u.0)
        ∙ ap (λ (n : ℕ). Some (s, n, kind)) (eqb-true row.0.0 c v.0)

    -- no appeal has this key once the earlier ones are superseded
    given_apart : (row : (ℕ × Code) × Appeal) (y : SingleKey) → single_key (given row) ≡ Some y
        → same_single_key place y ≡ false
    given_apart row y at = inner (same_single_key place y) refl
      where
        by_way : (b : Bool) → gives_way c s asked row ≡ b
            → single_key (cond b (row.0, record row.1 { status = superseded row.1.status }) row) ≡ Some place → ⊥
        by_way true way here =
            let parts = key_parts row.1.session s row.0.0 c
            (single_as (superseded row.1.status) row.1.subject) kind here in
            let granted = placed_granted t asked row.1.subject (superseded row.1.status) kind is parts.2 in
            let both : true ≡ false = sym granted ∙ superseded_ungranted row.1.status in cc
        by_way false away here =
            let parts = key_parts row.1.session s row.0.0 c (single_as row.1.status row.1.subject) kind here in
            let super = placed_way t asked row.1.subject row.1.status kind is parts.2 in
            let way : gives_way c s asked row ≡ true =
            and_from (row.0.0 == c) (same_code row.1.session s && supersedes asked row.1.subject)
            (eq-eqb row.0.0 c parts.1)
            (and_from (same_code row.1.session s) (supersedes asked row.1.subject)
            (ap (λ (q : Code). same_code q s) parts.0 ∙ same_code_itself s) super) in
            let both : true ≡ false = sym way ∙ away in cc

        inner : (b : Bool) → same_single_key place y ≡ b → b ≡ false
        inner true e = absurd (by_way (gives_way c s asked row) refl (at ∙ ap Some (sym (key_exact place y e))))
        inner false e = refl

    pub places_apart : (rows : List ((ℕ × Code) × Appeal))
        → IsApartFrom same_single_key place (filter_map single_key (map given rows))
    places_apart = mapped_apart single_key same_single_key given place given_apart

    earlier_given : (rows : List ((ℕ × Code) × Appeal)) (e : (ℕ × Code) × Appeal) → KeysRise appeal_cmp rows
        → IsDistinct same_single_key (filter_map single_key rows) → find (is_earlier c s asked) rows ≡ Some e
        → is_earlier c s asked e ≡ true
        → map given rows ≡ put_row appeal_cmp rows e.0 (record e.1 { status = superseded e.1.status })
    earlier_given rows e up distinct found here =
        one_changed appeal_cmp appeals_total (is_earlier c s asked) given given_kept single_key same_single_key place
        (key_itself place) earlier_stands rows e (record e.1 { status = superseded e.1.status }) up distinct found
        (given_now e here)

found_passes : {A : Type 0} (p : A → Bool) (xs : List A) (e : A) → find p xs ≡ Some e → p e ≡ true
found_passes p [] e is = absurd (let differ : None ≡ Some e = is in cc)
found_passes {A} p (x ∷ xs) e is = inner (p x) refl is (found_passes p xs e)
  where
    inner : (b : Bool) → p x ≡ b → cond b (Some x) (find p xs) ≡ Some e → (find p xs ≡ Some e → p e ≡ true) → p e ≡ true
    inner true here at rest = let one : x ≡ e = cc in ap p (sym one) ∙ here
    inner false away at rest = rest at

-- if no earlier grant is found, all appeals stay
pub none_given : (c : ℕ) (s : Code) (asked : Subject) (rows : List ((ℕ × Code) × Appeal))
    → find (is_earlier c s asked) rows ≡ None → map (giving_way c s asked) rows ≡ rows
none_given c s asked =
    none_changed appeal_cmp appeals_total (is_earlier c s asked) (giving_way c s asked) (given_kept c s asked)

-- if one is found, only this one is superseded
pub one_given : (c : ℕ) (s : Code) (asked : Subject) (rows : List ((ℕ × Code) × Appeal)) (e : (ℕ × Code) × Appeal)
    → KeysRise appeal_cmp rows → IsDistinct same_single_key (filter_map single_key rows)
    → find (is_earlier c s asked) rows ≡ Some e
    → map (giving_way c s asked) rows ≡ put_row appeal_cmp rows e.0 (record e.1 { status = superseded e.1.status })
one_given c s (subject.Clash p) rows e up distinct found =
    earlier_given c s (subject.Clash p) [] single.GrantedClash refl rows e up distinct found
    (found_passes (is_earlier c s (subject.Clash p)) rows e found)
one_given c s (subject.Arrangement a) rows e up distinct found =
    earlier_given c s (subject.Arrangement a) [] single.GrantedArrangement refl rows e up distinct found
    (found_passes (is_earlier c s (subject.Arrangement a)) rows e found)
one_given c s (subject.Hall h) rows e up distinct found =
    let here = found_passes (is_earlier c s (subject.Hall h)) rows e found in
    let way = and_parts (gives_way c s (subject.Hall h) e) (is_granted e.1.status) here in
    let v = and_parts (e.0.0 == c) (same_code e.1.session s && false) way.0 in
    absurd (let differ : false ≡ true = (and_parts (same_code e.1.session s) false v.1).1 in cc)
