-- A hall is barred exactly if some granted appeal asks for another hall.
use Rattle.exam_rules.proofs.Words.{list_any, Appeal, Code, same_code, head_of}
use Rattle.std.proofs.Common.{◌≡◌, ℕ, List, [], ◌∷◌, Bool, true, false, refl, is_some}
use Rattle.std.specs.Prelude.{filter_map}
use Rattle.exam_rules.specs.declared.rows.Subject.TheVariants as subject
use Rattle.exam_rules.specs.Granted.{Subject, barred_by, first_made}
use Rattle.exam_rules.specs.Sessions.{asked_hall, barred_halls_in, granted_subjects}

any_of : (h : Code) (asked : List Subject)
    → list_any (same_code h) (filter_map asked_hall asked) ≡ is_some (head_of (filter_map (barred_by h) asked))
any_of h [] = refl
any_of h (subject.Hall k ∷ asked) = step (same_code h k) refl (any_of h asked)
  where
    step : (b : Bool) → same_code h k ≡ b
        → list_any (same_code h) (filter_map asked_hall asked) ≡ is_some (head_of (filter_map (barred_by h) asked))
        → list_any (same_code h) (filter_map asked_hall (subject.Hall k ∷ asked))
        ≡ is_some (head_of (filter_map (barred_by h) (subject.Hall k ∷ asked)))
    step true e more = rw e refl
    step false e more = rw e more
any_of h (subject.Clash p ∷ asked) = any_of h asked
any_of h (subject.Arrangement a ∷ asked) = any_of h asked

pub any_barred : (h : Code) (appeals : List ((ℕ × Code) × Appeal)) (s : Code) (c : ℕ)
    → list_any (same_code h) (barred_halls_in appeals s c) ≡ is_some (first_made (barred_by h) appeals s c)
any_barred h appeals s c = any_of h (granted_subjects appeals s c)
