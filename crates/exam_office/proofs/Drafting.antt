-- The seats of a draft: finished they are the plans put back, taken back they are those of the office.
use Rattle.std.proofs.Common.{◌≡◌, ℕ, ◌&&◌, not, Bool, true, false, cond, IsTrue, Option, None, Some, Ok, is_some, refl}
use Rattle.std.proofs.Common.{ap, sym, subst, ◌∙◌}
use Rattle.std.specs.Option.{option_or}
use Rattle.exam_rules.specs.Lists.{AreListsOf}
use Rattle.exam_rules.specs.Orders.{AreInOrder, KeysRise}
use Rattle.exam_rules.specs.Relations.{Code, Relations, has_row, relations_of, row_at, seat_cmp}
use Rattle.exam_rules.specs.Seatings.{plan_of}
use Rattle.exam_commands.proofs.KeyedRows.{seats_exact, seats_total}
use Rattle.exam_commands.specs.declared.command.Command.{Command}
use Rattle.exam_commands.specs.declared.command.Reply.{Reply}
use Rattle.exam_office.specs.declared.part.Part.{Part}
use Rattle.exam_office.specs.Drafts.{AreMixed, HasOld, IsDraftOf, seats_after, seats_before, state_after, state_before}
use Rattle.exam_commands.specs.Exchanges.{all_put, taken_back, without_old}
use Rattle.exam_commands.specs.FactsMade.{WasMade}
use Rattle.exam_commands.specs.Good.{IsGood, marks_were_granted, refers}
use Rattle.exam_commands.specs.Limits.{within_limits}
use Rattle.exam_commands.specs.NextPlans.{Plans, PlansBack}
use Rattle.exam_commands.specs.Orders.{IsInOrder}
use Rattle.exam_commands.specs.Parts.{Agrees, IsPutBack, reads}
use Rattle.exam_office.specs.HeldParts.{IsStep, part_state}
use Rattle.exam_commands.specs.Singles.{AreSingle}
use Rattle.exam_commands.specs.State.{Seats, State}
use Rattle.exam_commands.specs.Steps.{Step, StepTo}
use Rattle.exam_commands.specs.Touched.{touches}
use Rattle.exam_changes.proofs.Exchanges.{all_put_at, all_put_rises, back_again, without_old_at, without_old_rises}
use Rattle.exam_laws.proofs.FactsMade.{made_marks, made_refers, made_single}
use Rattle.exam_laws.proofs.Lasting.{new_facts}
use Rattle.exam_laws.proofs.Parting.{made_back, touched_read}

-- the seats once the new plans are put: those of the office if there are no new plans
abbrev pub seats_put : Option Plans → Seats → Seats → Seats
seats_put None seats new = seats
seats_put (Some old) seats new = all_put seat_cmp seats new

module _ (done : Command) (office part : State) (up : IsInOrder office) (agrees : Agrees done office part)
    (t : Relations) (new : Seats) (rises : KeysRise seat_cmp new) where
  some_none : (o : Option Code) → o ≡ None → is_some o ≡ true → ⊥
  some_none o none some = let differ : true ≡ false = sym some ∙ ap is_some none in cc

  -- a seat of the new plans is in a session that the command reads
  read_if_new : ((s : Code) (c : ℕ) → touches part.relations done s ≡ false → plan_of new s c ≡ None) → (k : Code × ℕ)
      → has_row seat_cmp new k ≡ true → reads office.relations done k.0 ≡ true
  read_if_new aside k here = inner (touches office.relations done k.0) refl
    where
      inner : (b : Bool) → touches office.relations done k.0 ≡ b → reads office.relations done k.0 ≡ true
      inner true touched = touched_read done office.relations k.0 touched
      inner false away = absurd
          (some_none (row_at seat_cmp new k)
          (aside k.0 k.1 (ap (λ (r : Relations). touches r done k.0) agrees.facts ∙ away)) here)

  -- of a row or none put over another
  put_wins : (o p : Option Code) → is_some o ≡ true → option_or o p ≡ o
  put_wins None p here = absurd (let differ : false ≡ true = here in cc)
  put_wins (Some h) p here = refl

  put_leaves : (o p : Option Code) → is_some o ≡ false → option_or o p ≡ p
  put_leaves None p away = refl
  put_leaves (Some h) p away = absurd (let differ : true ≡ false = away in cc)

  -- Taken back, the seats are those of the office, even if only some of the new ones were put.
  pub seats_again : (old : Plans) → PlansBack done part.relations (Some old) new part.seats → (seats : Seats)
      → KeysRise seat_cmp seats
      → ((k : Code × ℕ) → has_row seat_cmp new k ≡ false → row_at seat_cmp seats k ≡ row_at seat_cmp office.seats k)
      → taken_back seat_cmp seats old.entries new ≡ office.seats
  seats_again old back seats up_seats elsewhere =
      back_again seat_cmp seats_total seats_exact old.entries new office.seats seats up.seats up_seats
      (λ k here. ap (λ (q : Seats). row_at seat_cmp q k) back.0 ∙ agrees.read k.0 (read_if_new back.1 k here) k.1)
      elsewhere

  pub seats_back : (o : Option Plans) (old : Plans) → o ≡ Some old → PlansBack done part.relations o new part.seats
      → (seats : Seats) → KeysRise seat_cmp seats
      → ((k : Code × ℕ) → has_row seat_cmp new k ≡ false → row_at seat_cmp seats k ≡ row_at seat_cmp office.seats k)
      → seats_before o new seats ≡ office.seats
  seats_back o old is back seats up_seats elsewhere =
      subst (λ (p : Option Plans). seats_before p new seats ≡ office.seats) (sym is)
      (seats_again old (subst (λ (p : Option Plans). PlansBack done part.relations p new part.seats) is back) seats
      up_seats elsewhere)

  pub seats_were : (o : Option Plans) → PlansBack done part.relations o new part.seats
      → seats_before o new (seats_put o office.seats new) ≡ office.seats
  seats_were None back = refl
  seats_were (Some old) back =
      seats_again old back (all_put seat_cmp office.seats new)
      (all_put_rises seat_cmp seats_total seats_exact new office.seats up.seats)
      (λ k away. all_put_at seat_cmp seats_total seats_exact new office.seats k rises
      ∙ put_leaves (row_at seat_cmp new k) (row_at seat_cmp office.seats k) away)

  -- a seat of the old plans is one of the office
  old_at : (old : Plans) → old.entries ≡ part.seats → (k : Code × ℕ) → has_row seat_cmp old.entries k ≡ true
      → row_at seat_cmp office.seats k ≡ row_at seat_cmp old.entries k
  old_at old same k here = inner (reads office.relations done k.0) refl
    where
      inner : (b : Bool) → reads office.relations done k.0 ≡ b
          → row_at seat_cmp office.seats k ≡ row_at seat_cmp old.entries k
      inner true is = sym (ap (λ (seats : Seats). row_at seat_cmp seats k) same ∙ agrees.read k.0 is k.1)
      inner false out = absurd
          (some_none (row_at seat_cmp old.entries k)
          (ap (λ (seats : Seats). row_at seat_cmp seats k) same ∙ agrees.others k.0 out k.1) here)

  pub old_in_office : (o : Option Plans) → PlansBack done part.relations o new part.seats → HasOld o office.seats
  old_in_office None back = tt
  old_in_office (Some old) back = λ k here. ap is_some (old_at old back.0 k here) ∙ here

  -- with the new plans put the seats are mixed
  pub mixed_put : (o : Option Plans) → PlansBack done part.relations o new part.seats
      → AreMixed o new (seats_put o office.seats new)
  mixed_put None back = tt
  mixed_put (Some old) back = record {
    put = λ k here. all_put_at seat_cmp seats_total seats_exact new office.seats k rises
        ∙ put_wins (row_at seat_cmp new k) (row_at seat_cmp office.seats k) here;
    kept = λ k away was.
        all_put_at seat_cmp seats_total seats_exact new office.seats k rises
        ∙ put_leaves (row_at seat_cmp new k) (row_at seat_cmp office.seats k) away
        ∙ old_at old back.0 k was;
  }

  module _ (order : AreInOrder t) where
    -- the office with the new plans put back
    abbrev pub after_of : Option Plans → State
    after_of o = record { relations = t; seats = seats_after o new (seats_put o office.seats new) }

    rise : (o : Option Plans) → KeysRise seat_cmp (seats_after o new (seats_put o office.seats new))
    rise None = up.seats
    rise (Some old) = without_old_rises seat_cmp seats_total seats_exact old.entries new
        (all_put seat_cmp office.seats new) (all_put_rises seat_cmp seats_total seats_exact new office.seats up.seats)

    seat_after : (old : Plans) (k : Code × ℕ)
        → row_at seat_cmp (without_old seat_cmp (all_put seat_cmp office.seats new) old.entries new) k
        ≡ cond (has_row seat_cmp old.entries k && not (has_row seat_cmp new k)) None
        (option_or (row_at seat_cmp new k) (row_at seat_cmp office.seats k))
    seat_after old k =
        without_old_at seat_cmp seats_total seats_exact old.entries new (all_put seat_cmp office.seats new) k
        (all_put_rises seat_cmp seats_total seats_exact new office.seats up.seats)
        ∙ ap (cond (has_row seat_cmp old.entries k && not (has_row seat_cmp new k)) None)
        (all_put_at seat_cmp seats_total seats_exact new office.seats k rises)

    read_at : (a b : Option Code) → cond (is_some a && not (is_some b)) None (option_or b a) ≡ b
    read_at None None = refl
    read_at None (Some h) = refl
    read_at (Some x) None = refl
    read_at (Some x) (Some h) = refl

    pub put_back : (o : Option Plans) → PlansBack done part.relations o new part.seats
        → IsPutBack done office (record { relations = t; seats = new }) (after_of o)
    put_back None back = record {
      facts = refl;
      read = λ s here c. sym (agrees.read s here c) ∙ ap (λ (seats : Seats). plan_of seats s c) (sym back.0);
      others = λ s out c. refl;
      order = record { tables = order; seats = rise None };
    }
    put_back (Some old) back = record {
      facts = refl;
      read = λ s here c.
          seat_after old (s, c)
          ∙ ap (λ (o : Option Code). cond (is_some o && not (has_row seat_cmp new (s, c))) None
          (option_or (row_at seat_cmp new (s, c)) (row_at seat_cmp office.seats (s, c))))
          (ap (λ (seats : Seats). row_at seat_cmp seats (s, c)) back.0)
          ∙ ap (λ (o : Option Code). cond
          (is_some (row_at seat_cmp part.seats (s, c)) && not (has_row seat_cmp new (s, c))) None
          (option_or (row_at seat_cmp new (s, c)) o)) (sym (agrees.read s here c))
          ∙ read_at (row_at seat_cmp part.seats (s, c)) (row_at seat_cmp new (s, c));
      others = λ s out c.
          let none_old : row_at seat_cmp old.entries (s, c) ≡ None =
          ap (λ (seats : Seats). row_at seat_cmp seats (s, c)) back.0 ∙ agrees.others s out c in
          let none_new : row_at seat_cmp new (s, c) ≡ None =
          back.1 s c (untouched s out (touches part.relations done s) refl) in
          seat_after old (s, c)
          ∙ ap (λ (o : Option Code). cond (is_some o && not (has_row seat_cmp new (s, c))) None
          (option_or (row_at seat_cmp new (s, c)) (row_at seat_cmp office.seats (s, c)))) none_old
          ∙ ap (λ (o : Option Code). option_or o (row_at seat_cmp office.seats (s, c))) none_new;
      order = record { tables = order; seats = rise (Some old) };
    }
      where
        untouched : (s : Code) → reads office.relations done s ≡ false → (b : Bool) → touches part.relations done s ≡ b
            → b ≡ false
        untouched s out true touched =
            absurd (let differ : true ≡ false =
            sym (touched_read done office.relations s
            (ap (λ (r : Relations). touches r done s) (sym agrees.facts) ∙ touched)) ∙ out in cc)
        untouched s out false away = refl

-- old seats stay if every seat does
pub old_stay : (o : Option Plans) (seats later : Seats) → HasOld o seats
    → ((k : Code × ℕ) → has_row seat_cmp seats k ≡ true → has_row seat_cmp later k ≡ true) → HasOld o later
old_stay None seats later has stays = tt
old_stay (Some old) seats later has stays = λ k was. stays k (has k was)

-- an accepted command leaves a good office
pub good_after : (done : Command) (today : ℕ) (office after : State) (told : Reply) (old : Relations)
    → WasMade done old after.relations → IsTrue (within_limits after.relations)
    → Step done today office (Ok told) after → IsGood after
good_after done today office after told old was within step = record {
  refer = ap refers was.made ∙ made_refers was.today was.office was.good order done was.early;
  limits = within;
  single = subst AreSingle (sym was.made) (made_single was.today was.office was.good order done was.early);
  marks = ap marks_were_granted was.made ∙ made_marks was.today was.office was.good order done was.early;
  best = λ s. (to.1 s).best;
}
  where
    order : AreInOrder was.office.relations
    order = subst AreInOrder (sym was.facts) was.order

    to : StepTo done office (Ok told) after (Ok after.relations)
    to = subst (StepTo done office (Ok told) after) (new_facts done today office told after step) step

-- carried out on the office, the command may still be taken back
pub drafted : (done : Command) (today : ℕ) (office : State) (old part : Part) (seats : Seats) (told : Reply)
    → IsGood office → IsInOrder office → Agrees done office (part_state old) → KeysRise seat_cmp old.plans.entries
    → KeysRise seat_cmp part.plans.entries → AreInOrder (relations_of part.facts)
    → IsStep done today (part_state old) part told → seats ≡ seats_put part.undo.plans office.seats part.plans.entries
    → IsDraftOf done today office part seats told
drafted done today office old part seats told good up agrees ordered rises order is put = record {
  draft = record {
    good = good_after done today office after told (relations_of old.facts) is.change is.limits step;
    listed_now = is.lists;
    was_good = subst IsGood (sym before) good;
    were_lists = λ was were. subst (λ (r : Relations). AreListsOf r was) (sym is.facts_back.1) (is.lists_back was were);
    there = (is.facts_back.0, is.lists_there);
    mixed = subst (AreMixed part.undo.plans new) (sym put)
        (mixed_put done office (part_state old) up agrees t new rises part.undo.plans is.plans_back);
    order = (subst (StepTo done office (Ok told) after) (new_facts done today office told after step) step).3;
    was_order = subst IsInOrder (sym before) up;
  };
  before = before;
  step = step;
}
  where
    t : Relations
    t = relations_of part.facts

    new : Seats
    new = part.plans.entries

    after : State
    after = state_after part seats

    before : state_before part seats ≡ office
    before =
        ap (λ (r : Relations). let x : State =
        record { relations = r; seats = seats_before part.undo.plans new seats } in x)
        (is.facts_back.1 ∙ agrees.facts)
        ∙ ap (λ (q : Seats). let x : State = record { relations = office.relations; seats = q } in x)
        (ap (seats_before part.undo.plans new) put
        ∙ seats_were done office (part_state old) up agrees t new rises part.undo.plans is.plans_back)

    step : Step done today office (Ok told) after
    step =
        made_back today office (part_state old) after good up (part_state part) ordered done told agrees
        (subst (λ (q : Seats). IsPutBack done office (part_state part)
        (record { relations = t; seats = seats_after part.undo.plans new q })) (sym put)
        (put_back done office (part_state old) up agrees t new rises order part.undo.plans is.plans_back)) is.made
