-- The repair of chosen sessions, one after the other.
use Rattle.std.proofs.Common.{◌≡◌, ℕ, ◌||◌, Bool, true, false, List, [], ◌∷◌, Contains, Option, None, refl, ap, sym}
use Rattle.std.proofs.Common.{subst, ◌∙◌}
use Rattle.std.specs.List.Sorted.{IsStrictlySortedBy}
use Rattle.std.specs.Map.{keys_of}
use Rattle.std.proofs.Math.Path.{fun_ext}
use Rattle.std.specs.Cmp.Lexicographic.{nat_list_cmp_total}
use Rattle.std.proofs.lemmas.Cmp.{eq_by_cmp_equiv}
use Rattle.std.proofs.lemmas.Map.Keys.{sorted_head, sorted_tail}
use Rattle.std.proofs.lemmas.Map.Lookups.{exact_bytes}
use Rattle.std.proofs.lemmas.Map.Views.{Contains-keys_from_lookup, IsSome-lookup_from_Contains, tells_apart}
use Rattle.exam_plan.specs.Matching.{IsBest}
use Rattle.exam_plan.specs.Repair.{IsRepair}
use Rattle.exam_rules.specs.Relations.{Code, Relations, code_cmp, has_row, same_code}
use Rattle.exam_rules.specs.Seatings.{plan_of, seating}
use Rattle.exam_rules.proofs.Naming.{same_code_exact, same_code_itself}
use Rattle.exam_commands.specs.NextPlans.{AreRepaired}
use Rattle.exam_commands.specs.Repairs.{IsRepaired}
use Rattle.exam_commands.specs.State.{Seats}
use Rattle.exam_commands.proofs.AllSessions.{is_among, known_among, none_later, unknown_repaired}

-- what holds of the chosen sessions while these are left
pub record IsRepairedAmong {X : Type 0} (chosen : List Code) (r : Relations) (first : Option ℕ) (before after : Seats)
    (rest : List (Code × X)) : Type 0 where
  pub rising : IsStrictlySortedBy code_cmp (keys_of rest)
  pub waiting : (s : Code) (c : ℕ) → is_among s rest ≡ true → plan_of after s c ≡ None
  pub settled : (s : Code) → is_among s rest ≡ false → Contains chosen s → IsRepaired r first before after s
  pub aside : (s : Code) (c : ℕ) → (Contains chosen s → ⊥) → plan_of after s c ≡ None

pub none_chosen : (chosen : List Code) (r : Relations) (first : Option ℕ) (before : Seats)
    → IsStrictlySortedBy code_cmp (keys_of r.sessions) → IsRepairedAmong chosen r first before [] r.sessions
none_chosen chosen r first before up = record {
  rising = up;
  waiting = λ s c among. refl;
  settled = λ s not_among among. unknown_repaired r first before [] s (known_among s r.sessions ∙ not_among)
      (λ c. refl);
  aside = λ s c out. refl;
}

or_true : (b : Bool) → (b || true) ≡ true
or_true true = refl
or_true false = refl

flipped : (s t : Code) → same_code s t ≡ false → same_code t s ≡ false
flipped s t e = by (same_code t s) refl
  where
    by : (b : Bool) → same_code t s ≡ b → b ≡ false
    by true k = let both : true ≡ false =
        sym (same_code_itself s) ∙ ap (same_code s) (sym (same_code_exact t s k)) ∙ e in cc
    by false k = refl

module _ {X : Type 0} (chosen : List Code) (r : Relations) (first : Option ℕ) (before old : Seats) (s : Code) (x : X)
    (rest : List (Code × X)) (so_far : IsRepairedAmong chosen r first before old ((s, x) ∷ rest)) where
  apart : (t : Code) → is_among t rest ≡ true → same_code s t ≡ false
  apart t among = by (same_code s t) refl
    where
      by : (b : Bool) → same_code s t ≡ b → b ≡ false
      by true e =
          let here : is_among s rest ≡ true = ap (λ u. is_among u rest) (same_code_exact s t e) ∙ among in
          let later : is_among s rest ≡ false =
          none_later s (keys_of rest) (sorted_head code_cmp s (keys_of rest) so_far.rising) in
          let both : true ≡ false = sym here ∙ later in cc
      by false e = refl

  -- nobody of the next session is seated yet
  pub chosen_waits : (c : ℕ) → plan_of old s c ≡ None
  chosen_waits c = so_far.waiting s c (ap (λ b. b || is_among s rest) (same_code_itself s))

  still_waits : (t : Code) (c : ℕ) → is_among t rest ≡ true → plan_of old t c ≡ None
  still_waits t c among = so_far.waiting t c (ap (λ b. same_code t s || b) among ∙ or_true (same_code t s))

  was : (t : Code) → is_among t rest ≡ false → same_code s t ≡ false → Contains chosen t
      → IsRepaired r first before old t
  was t left e among = so_far.settled t (ap (λ b. b || is_among t rest) (flipped s t e) ∙ left) among

  -- it is repaired
  pub one_chosen : (new : Seats) → Contains chosen s → IsRepaired r first before new s
      → ((t : Code) (c : ℕ) → same_code s t ≡ false → plan_of new t c ≡ plan_of old t c)
      → IsRepairedAmong chosen r first before new rest
  one_chosen new here done others = record {
    rising = sorted_tail code_cmp s (keys_of rest) so_far.rising;
    waiting = λ t c among. others t c (apart t among) ∙ still_waits t c among;
    settled = λ t left among. inner t left among (same_code s t) refl;
    aside = λ t c out. still_aside t c out (same_code s t) refl;
  }
    where
      still_aside : (t : Code) (c : ℕ) → (Contains chosen t → ⊥) → (b : Bool) → same_code s t ≡ b
          → plan_of new t c ≡ None
      still_aside t c out true e = absurd (out (subst (Contains chosen) (same_code_exact s t e) here))
      still_aside t c out false e = others t c e ∙ so_far.aside t c out

      inner : (t : Code) → is_among t rest ≡ false → Contains chosen t → (b : Bool) → same_code s t ≡ b
          → IsRepaired r first before new t
      inner t left among true e = subst (IsRepaired r first before new) (same_code_exact s t e) done
      inner t left among false e =
          let then = was t left e among in
          let same : plan_of old t ≡ plan_of new t = sym (fun_ext (λ c. others t c e)) in
          record {
            repair = subst (IsRepair (seating r t) first (plan_of before t)) same then.repair;
            best = subst (IsBest (seating r t)) same then.best;
          }

  -- it is passed over
  pub one_passed : (Contains chosen s → ⊥) → IsRepairedAmong chosen r first before old rest
  one_passed out = record {
    rising = sorted_tail code_cmp s (keys_of rest) so_far.rising;
    waiting = still_waits;
    settled = λ t left among. inner t left among (same_code s t) refl;
    aside = so_far.aside;
  }
    where
      inner : (t : Code) → is_among t rest ≡ false → Contains chosen t → (b : Bool) → same_code s t ≡ b
          → IsRepaired r first before old t
      inner t left among true e = absurd (out (subst (Contains chosen) (sym (same_code_exact s t e)) among))
      inner t left among false e = was t left e among

-- if all sessions are chosen, each is repaired
pub all_chosen : (r : Relations) (first : Option ℕ) (before after : Seats) (chosen : List Code)
    → chosen ≡ keys_of r.sessions → AreRepaired r first chosen before after → (s : Code)
    → IsRepaired r first before after s
all_chosen r first before after chosen all done s = inner (has_row code_cmp r.sessions s) refl
  where
    inner : (b : Bool) → has_row code_cmp r.sessions s ≡ b → IsRepaired r first before after s
    inner true e = done.repaired s
        (subst (λ codes. Contains codes s) (sym all)
        (Contains-keys_from_lookup (tells_apart exact_bytes) s r.sessions e))
    inner false e = unknown_repaired r first before after s e (λ c. done.others s c (λ here.
        let known : true ≡ false =
        sym (IsSome-lookup_from_Contains (eq_by_cmp_equiv nat_list_cmp_total) s r.sessions
        (subst (λ codes. Contains codes s) all here)) ∙ e in cc))
