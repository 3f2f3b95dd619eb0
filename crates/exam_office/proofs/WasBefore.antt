-- What the tables and the plans were before a command, shown by what takes the command back.
use Rattle.std.proofs.Common.{◌≡◌, ℕ, ◌&&◌, ◌||◌, not, Bool, true, false, cond, Option, None, Some, is_some, refl, ap}
use Rattle.std.proofs.Common.{sym, ◌∙◌}
use Rattle.exam_rules.specs.Orders.{KeysRise}
use Rattle.exam_rules.specs.Relations.{Code, has_row, row_at, seat_cmp}
use Rattle.exam_commands.proofs.KeyedRows.{seats_exact, seats_total}
use Rattle.exam_office.specs.Drafts.{MixesPlans}
use Rattle.exam_commands.specs.State.{Seats}
use Rattle.exam_commands.specs.Exchanges.{taken_back, without_old}
use Rattle.exam_changes.specs.TablesBefore.{AreOf}
use Rattle.exam_changes.proofs.Exchanges.{taken_back_at, without_old_at}

none_if : {A : Type 0} (o : Option A) → is_some o ≡ false → o ≡ None
none_if None away = refl
none_if (Some x) away = absurd (let differ : true ≡ false = away in cc)

module _ (old new seats : Seats) (mixed : MixesPlans old new seats) (up : KeysRise seat_cmp seats) where
  abbrev were : Seats
  were = taken_back seat_cmp seats old new

  abbrev are : Seats
  are = without_old seat_cmp seats old new

  was_at : (k : Code × ℕ) (b : Bool) → has_row seat_cmp new k ≡ b → (has_row seat_cmp old k || b) ≡ true
      → row_at seat_cmp were k ≡ row_at seat_cmp old k
  was_at k true here known =
      taken_back_at seat_cmp seats_total seats_exact old new seats k up
      ∙ ap (λ b. cond b (row_at seat_cmp old k) (row_at seat_cmp seats k)) here
  was_at k false away known =
      taken_back_at seat_cmp seats_total seats_exact old new seats k up
      ∙ ap (λ b. cond b (row_at seat_cmp old k) (row_at seat_cmp seats k)) away
      ∙ mixed.kept k away (only_old (has_row seat_cmp old k) known)
    where
      only_old : (b : Bool) → (b || false) ≡ true → b ≡ true
      only_old true is = refl
      only_old false is = is

  is_at : (k : Code × ℕ) (b : Bool) → has_row seat_cmp new k ≡ b → (a : Bool) → has_row seat_cmp old k ≡ a
      → (a || b) ≡ true → row_at seat_cmp are k ≡ row_at seat_cmp new k
  is_at k true here a was known =
      without_old_at seat_cmp seats_total seats_exact old new seats k up
      ∙ ap (λ b. cond (has_row seat_cmp old k && not b) None (row_at seat_cmp seats k)) here
      ∙ never (has_row seat_cmp old k) ∙ mixed.put k here
    where
      never : (a : Bool) → cond (a && false) None (row_at seat_cmp seats k) ≡ row_at seat_cmp seats k
      never true = refl
      never false = refl
  is_at k false away true was known =
      without_old_at seat_cmp seats_total seats_exact old new seats k up
      ∙ ap (λ b. cond (has_row seat_cmp old k && not b) None (row_at seat_cmp seats k)) away
      ∙ ap (λ a. cond (a && true) None (row_at seat_cmp seats k)) was
      ∙ sym (none_if (row_at seat_cmp new k) away)
  is_at k false away false was known = absurd (let differ : false ≡ true = known in cc)

  elsewhere : (k : Code × ℕ) (b : Bool) → has_row seat_cmp new k ≡ b → (a : Bool) → has_row seat_cmp old k ≡ a
      → (a || b) ≡ false → row_at seat_cmp are k ≡ row_at seat_cmp were k
  elsewhere k true here true was out = absurd (let differ : true ≡ false = out in cc)
  elsewhere k true here false was out = absurd (let differ : true ≡ false = out in cc)
  elsewhere k false away true was out = absurd (let differ : true ≡ false = out in cc)
  elsewhere k false away false was out =
      without_old_at seat_cmp seats_total seats_exact old new seats k up
      ∙ ap (λ a. cond (a && not (has_row seat_cmp new k)) None (row_at seat_cmp seats k)) was
      ∙ sym (taken_back_at seat_cmp seats_total seats_exact old new seats k up
      ∙ ap (λ b. cond b (row_at seat_cmp old k) (row_at seat_cmp seats k)) away)

  pub were_of : AreOf old new were are
  were_of = record {
    told_before = λ k known. was_at k (has_row seat_cmp new k) refl known;
    told_after = λ k known. is_at k (has_row seat_cmp new k) refl (has_row seat_cmp old k) refl known;
    others = λ k out. elsewhere k (has_row seat_cmp new k) refl (has_row seat_cmp old k) refl out;
  }
