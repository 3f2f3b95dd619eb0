-- Which appeals bear a mark, as appeals are put: one that was open bears none.
use Rattle.std.proofs.Common.{◌≡◌, ℕ, ◌&&◌, not, Bool, true, false, cond, List, [], ◌∷◌, Option, None, Some, is_some}
use Rattle.std.proofs.Common.{refl, ap, sym, ◌∙◌}
use Rattle.std.specs.List.{list_all}
use Rattle.std.specs.Option.{option_map_or}
use Rattle.std.specs.BTreeMap.{is_at}
use Rattle.std.specs.Cmp.{Equal-is, tied_itself}
use Rattle.std.specs.Ordering.{is_eq}
use Rattle.std.proofs.lemmas.Bool.{and_parts}
use Rattle.exam_rules.specs.declared.rows.Appeal.{Appeal}
use Rattle.exam_rules.specs.declared.rows.Status.{Status}
use Rattle.exam_rules.specs.declared.rows.Status.TheVariants as status
use Rattle.exam_rules.specs.Relations.{Code, appeal_cmp, has_row, put_row, row_at}
use Rattle.exam_rules.specs.Sessions.{asked_arrangement}
use Rattle.exam_commands.proofs.KeyedRows.{all_at_row, appeals_exact, appeals_total, put_elsewhere}
use Rattle.exam_commands.specs.Appeals.{is_open, is_retracted}
use Rattle.exam_commands.specs.Decisions.{without_mark}
use Rattle.exam_commands.specs.Good as good
use Rattle.exam_commands.proofs.Alike.{found_among}

abbrev pub Rows : Type 0
Rows = List ((ℕ × Code) × Appeal)

abbrev pub Borne : Type 0
Borne = List ((ℕ × Code) × Unit {0})

-- the appeal of the mark is there and may bear it
abbrev pub borne_in : Rows → (ℕ × Code) × Unit {0} → Bool
borne_in appeals m = option_map_or good.may_bear (row_at appeal_cmp appeals m.0) false

-- a different key stays when one is put
pub key_elsewhere : (k q : ℕ × Code) → (q ≡ k → ⊥) → is_at (appeal_cmp q) k ≡ false
key_elsewhere k q apart = inner (is_at (appeal_cmp q) k) refl
  where
    inner : (b : Bool) → is_at (appeal_cmp q) k ≡ b → b ≡ false
    inner true at = absurd (apart (appeals_exact q k ((Equal-is (appeal_cmp q k)).0 at)))
    inner false at = refl

-- an open appeal bears no mark
pub open_unborne : (a : Appeal) → is_open a.status ≡ true → good.may_bear a ≡ false
open_unborne a open_yet = inner a.status open_yet (is_some (asked_arrangement a.subject))
  where
    off : (b : Bool) → (b && false) ≡ false
    off true = refl
    off false = refl

    inner : (st : Status) → is_open st ≡ true → (b : Bool) → (b && good.was_granted st) ≡ false
    inner status.Pending is b = off b
    inner (status.Granted answer) is b = absurd (let differ : false ≡ true = is in cc)
    inner (status.Refused answer) is b = absurd (let differ : false ≡ true = is in cc)
    inner status.Retracted is b = absurd (let differ : false ≡ true = is in cc)
    inner (status.Superseded answer) is b = absurd (let differ : false ≡ true = is in cc)

-- nor does one that may be retracted
pub closed_unborne : (st : Status) (b : Bool) → (not (is_open st) && not (is_retracted st)) ≡ false
    → (b && good.was_granted st) ≡ false
closed_unborne status.Pending b ok = never b
  where
    never : (b : Bool) → (b && false) ≡ false
    never true = refl
    never false = refl
closed_unborne (status.Granted answer) b ok = absurd (let differ : true ≡ false = ok in cc)
closed_unborne (status.Refused answer) b ok = absurd (let differ : true ≡ false = ok in cc)
closed_unborne status.Retracted b ok = never b
  where
    never : (b : Bool) → (b && false) ≡ false
    never true = refl
    never false = refl
closed_unborne (status.Superseded answer) b ok = absurd (let differ : true ≡ false = ok in cc)

-- no appeal has a mark that it may not bear
pub unborne : (appeals : Rows) (marks : Borne) (k : ℕ × Code) → list_all (borne_in appeals) marks ≡ true
    → option_map_or good.may_bear (row_at appeal_cmp appeals k) false ≡ false
    → has_row appeal_cmp marks k ≡ false
unborne appeals marks k every not_borne = inner (row_at appeal_cmp marks k) refl
  where
    inner : (o : Option (Unit {0})) → row_at appeal_cmp marks k ≡ o → is_some o ≡ false
    inner None is = refl
    inner (Some m) is = absurd
        (let differ : true ≡ false = sym (all_at_row appeal_cmp appeals_exact (borne_in appeals) marks k m every is)
        ∙ not_borne in cc)

-- an appeal without a mark may be put
pub put_borne : (appeals : Rows) (k : ℕ × Code) (v : Appeal) (marks : Borne) → has_row appeal_cmp marks k ≡ false
    → list_all (borne_in appeals) marks ≡ true
    → list_all (borne_in (put_row appeal_cmp appeals k v)) marks ≡ true
put_borne appeals k v [] none every = refl
put_borne appeals k v (m ∷ ms) none every =
    let both = and_parts (borne_in appeals m) (list_all (borne_in appeals) ms) every in
    let parts = split (is_at (appeal_cmp k) m.0) refl none in
    ap (λ b. b && list_all (borne_in (put_row appeal_cmp appeals k v)) ms)
    (ap (λ o. option_map_or good.may_bear o false)
    (put_elsewhere appeal_cmp appeals_total appeals k m.0 v (key_elsewhere k m.0 parts.0)) ∙ both.0)
    ∙ put_borne appeals k v ms parts.1 both.1
  where
    split : (b : Bool) → is_at (appeal_cmp k) m.0 ≡ b → is_some (cond b (Some m.1) (row_at appeal_cmp ms k)) ≡ false
        → (m.0 ≡ k → ⊥) × (has_row appeal_cmp ms k ≡ false)
    split true at off = absurd (let differ : true ≡ false = off in cc)
    split false at off = (
      λ same. let differ : true ≡ false =
          sym (ap is_eq (tied_itself appeals_total k)) ∙ ap (λ q. is_at (appeal_cmp k) q) (sym same) ∙ at in cc,
      off,
    )

-- ---- without a mark

abbrev pub is_other : ℕ × Code → (ℕ × Code) × Unit {0} → Bool
is_other k m = not (is_eq (appeal_cmp k m.0))

pub other_mark_kept : (marks : Borne) (k q : ℕ × Code) → (q ≡ k → ⊥)
    → row_at appeal_cmp (without_mark k marks) q ≡ row_at appeal_cmp marks q
other_mark_kept marks k q apart =
    found_among appeal_cmp appeals_exact (is_other k) marks q
    (λ m. ap not (key_elsewhere q k (λ same. apart (sym same))))

pub mark_gone : (marks : Borne) (k : ℕ × Code) → has_row appeal_cmp (without_mark k marks) k ≡ false
mark_gone [] k = refl
mark_gone (m ∷ ms) k = inner (is_at (appeal_cmp k) m.0) refl (mark_gone ms k)
  where
    inner : (b : Bool) → is_at (appeal_cmp k) m.0 ≡ b → has_row appeal_cmp (without_mark k ms) k ≡ false
        → has_row appeal_cmp (cond (not b) (m ∷ without_mark k ms) (without_mark k ms)) k ≡ false
    inner true at rest = rest
    inner false at rest = ap (λ b. is_some (cond b (Some m.1) (row_at appeal_cmp (without_mark k ms) k))) at ∙ rest

pub unmarked_same : (marks : Borne) (k : ℕ × Code) → has_row appeal_cmp marks k ≡ false → without_mark k marks ≡ marks
unmarked_same [] k none = refl
unmarked_same (m ∷ ms) k none = inner (is_at (appeal_cmp k) m.0) refl none (unmarked_same ms k)
  where
    inner : (b : Bool) → is_at (appeal_cmp k) m.0 ≡ b → is_some (cond b (Some m.1) (row_at appeal_cmp ms k)) ≡ false
        → (has_row appeal_cmp ms k ≡ false → without_mark k ms ≡ ms)
        → cond (not b) (m ∷ without_mark k ms) (without_mark k ms) ≡ m ∷ ms
    inner true at off rest = absurd (let differ : true ≡ false = off in cc)
    inner false at off rest = ap (λ t. m ∷ t) (rest off)
