-- What passes only among the rows of a candidate is looked for among these alone.
use Rattle.std.proofs.Common.{◌≡◌, ℕ, ◌&&◌, ◌||◌, not, Bool, true, false, cond, List, [], ◌∷◌, filter, Some, refl, ap}
use Rattle.std.proofs.Common.{sym, ◌∙◌}
use Rattle.std.specs.List.{find, list_any}
use Rattle.exam_rules.specs.declared.rows.Appeal.{Appeal}
use Rattle.exam_rules.specs.declared.rows.Subject.{Subject}
use Rattle.exam_rules.specs.Relations.{Code, Relations, is_row_of, same_code}
use Rattle.exam_rules.specs.Sessions.{is_granted, is_marked}
use Rattle.exam_commands.specs.Appeals.{is_open, is_open_appeal, same_kind, supersedes}
use Rattle.exam_commands.specs.declared.command.Decision.{Decision}
use Rattle.exam_commands.specs.Decisions.{is_earlier}
use Rattle.exam_commands.specs.Touched.{is_ended}

module _ {A : Type 0} (p q : A → Bool) (only : (x : A) → q x ≡ false → p x ≡ false) where
  any_among : (xs : List A) → list_any p (filter q xs) ≡ list_any p xs
  any_among [] = refl
  any_among (x ∷ xs) = inner (q x) refl (any_among xs)
    where
      inner : (b : Bool) → q x ≡ b → list_any p (filter q xs) ≡ list_any p xs
          → list_any p (cond b (x ∷ filter q xs) (filter q xs)) ≡ list_any p (x ∷ xs)
      inner true here rest = ap (λ t. p x || t) rest
      inner false away rest = rest ∙ sym (ap (λ b. b || list_any p xs) (only x away))

  find_among : (xs : List A) → find p (filter q xs) ≡ find p xs
  find_among [] = refl
  find_among (x ∷ xs) = inner (q x) refl (find_among xs)
    where
      inner : (b : Bool) → q x ≡ b → find p (filter q xs) ≡ find p xs
          → find p (cond b (x ∷ filter q xs) (filter q xs)) ≡ find p (x ∷ xs)
      inner true here rest = ap (λ t. cond (p x) (Some x) t) rest
      inner false away rest = rest ∙ sym (ap (λ b. cond b (Some x) (find p xs)) (only x away))

module _ (c : ℕ) (s : Code) (asked : Subject) where
  pub open_among : (rows : List ((ℕ × Code) × Appeal))
      → list_any (is_open_appeal c s asked) (filter (is_row_of c) rows) ≡ list_any (is_open_appeal c s asked) rows
  open_among = any_among (is_open_appeal c s asked) (is_row_of c)
      (λ a away. ap (λ b. b && (same_code a.1.session s && (same_kind a.1.subject asked && is_open a.1.status))) away)

  pub earlier_among : (rows : List ((ℕ × Code) × Appeal))
      → find (is_earlier c s asked) (filter (is_row_of c) rows) ≡ find (is_earlier c s asked) rows
  earlier_among = find_among (is_earlier c s asked) (is_row_of c)
      (λ a away. ap (λ b. (b && (same_code a.1.session s && supersedes asked a.1.subject)) && is_granted a.1.status)
      away)

-- the standing grants that a decision ends are among the appellant's own appeals
pub ended_among : (r : Relations) (d : Decision) (a : Appeal) (rows : List ((ℕ × Code) × Appeal))
    → list_any (is_ended r d a) (filter (is_row_of d.number) rows) ≡ list_any (is_ended r d a) rows
ended_among r d a = any_among (is_ended r d a) (is_row_of d.number)
    (λ e away. ap (λ b. (((b && (same_code e.1.session a.session && supersedes a.subject e.1.subject))
    && is_granted e.1.status) && is_marked r e.0) && not (same_code e.0.1 d.reference)) away)
