-- A lodging or a retraction, carried out on a whole office: it moves nobody, and may still be taken back.
use Rattle.std.proofs.Common.{◌≡◌, ℕ, true, false, None, Ok, refl, ap, sym, subst, ◌∙◌}
use Rattle.std.proofs.Common.{inr}
use Rattle.exam_types.specs.declared.refusal.Refusal.TheVariants as refusal
use Rattle.exam_plan.specs.Matching.{IsBest}
use Rattle.exam_rules.specs.declared.listing.SessionLists.{SessionLists}
use Rattle.exam_rules.specs.Lists.{AreListsOf}
use Rattle.exam_rules.specs.Orders.{AreInOrder}
use Rattle.exam_rules.specs.Relations.{Code, Relations, relations_of}
use Rattle.exam_rules.specs.Seatings.{plan_of, seating}
use Rattle.exam_rules.proofs.InOrder.{lists_rise}
use Rattle.exam_commands.specs.declared.command.Command.{Command}
use Rattle.exam_commands.specs.declared.command.Command.TheVariants as command
use Rattle.exam_commands.specs.declared.command.Reply.{Reply}
use Rattle.exam_commands.specs.FactsMade.{WasMade, early_refusal, facts_made}
use Rattle.exam_commands.specs.Good.{IsGood}
use Rattle.exam_commands.specs.Limits.{within_limits}
use Rattle.exam_commands.specs.NextPlans.{first_reply, keeps_plans}
use Rattle.exam_commands.specs.Orders.{IsInOrder}
use Rattle.exam_commands.specs.Parts.{IsRefusedIn}
use Rattle.exam_commands.specs.Repairs.{IsRepaired}
use Rattle.exam_commands.specs.Replies.{reply_of}
use Rattle.exam_commands.specs.State.{Seats, State}
use Rattle.exam_commands.specs.Steps.{SeatsOn, Step, change, first_seated}
use Rattle.exam_commands.proofs.Staying.{best_is_repaired}
use Rattle.exam_laws.proofs.FactsMade.{made_is_change, past_limit}
use Rattle.exam_laws.proofs.MadeWithin.{past_may}
use Rattle.exam_laws.proofs.Making.{none_touched}
use Rattle.exam_laws.proofs.Stepping.{accepted_step, same_seating}
use Rattle.exam_laws.proofs.Untouched.{spared}
use Rattle.exam_changes.specs.declared.undo.Undo.{Undo}
use Rattle.exam_changes.specs.Undoing.{TakesBack}
use Rattle.exam_office.specs.declared.part.Part.{Part}
use Rattle.exam_office.specs.declared.relisting.ListUndo.TheVariants as lists_undo
use Rattle.exam_office.specs.Drafts.{IsDraftOf, moves_nobody, state_before}
use Rattle.exam_office.proofs.Drafting.{good_after}
use Rattle.exam_office.proofs.KeptLists.{keeps_lists, kept_lists}
use Rattle.exam_office.proofs.SteppedParts.{lists_were}

-- it changes no plan, and no list
plans_kept : (done : Command) → moves_nobody done ≡ true → keeps_plans done ≡ true
plans_kept (command.Import import) alone = alone
plans_kept (command.Withdraw c p) alone = alone
plans_kept (command.Reinstate c p) alone = alone
plans_kept (command.CloseHall s h) alone = alone
plans_kept (command.Lodge l) alone = refl
plans_kept (command.Retract c reference) alone = refl
plans_kept (command.Decide d) alone = absurd (let differ : false ≡ true = alone in cc)

lists_kept : (done : Command) → moves_nobody done ≡ true → keeps_lists done ≡ true
lists_kept (command.Import import) alone = alone
lists_kept (command.Withdraw c p) alone = alone
lists_kept (command.Reinstate c p) alone = alone
lists_kept (command.CloseHall s h) alone = alone
lists_kept (command.Lodge l) alone = refl
lists_kept (command.Retract c reference) alone = refl
lists_kept (command.Decide d) alone = refl

-- who has a desk keeps it
seated_on : (done : Command) → moves_nobody done ≡ true → (t : Relations) (seats : Seats) (s : Code)
    → SeatsOn done (seating t s) (plan_of seats s) (plan_of seats s)
seated_on (command.Import import) alone t seats s = absurd (let differ : false ≡ true = alone in cc)
seated_on (command.Withdraw c p) alone t seats s = absurd (let differ : false ≡ true = alone in cc)
seated_on (command.Reinstate c p) alone t seats s = absurd (let differ : false ≡ true = alone in cc)
seated_on (command.CloseHall named h) alone t seats s = absurd (let differ : false ≡ true = alone in cc)
seated_on (command.Lodge l) alone t seats s = λ c has member other. has
seated_on (command.Retract c reference) alone t seats s = λ n has member other. has
seated_on (command.Decide d) alone t seats s = absurd (let differ : false ≡ true = alone in cc)

reply_made : (done : Command) → moves_nobody done ≡ true → (old new : State)
    → first_reply done old.relations new.relations ≡ reply_of done old new
reply_made (command.Import import) alone old new = refl
reply_made (command.Withdraw c p) alone old new = refl
reply_made (command.Reinstate c p) alone old new = refl
reply_made (command.CloseHall s h) alone old new = refl
reply_made (command.Lodge l) alone old new = refl
reply_made (command.Retract c reference) alone old new = refl
reply_made (command.Decide d) alone old new = absurd (let differ : false ≡ true = alone in cc)

module _ (done : Command) (alone : moves_nobody done ≡ true) (today : ℕ) (office : State) (good : IsGood office)
    (up : IsInOrder office) where
  module _ (t : Relations) (early : early_refusal done today office ≡ None) (is : t ≡ facts_made done today office)
    where
      pub was_made : WasMade done office.relations t
      was_made = record {
        today = today;
        office = office;
        good = good;
        order = up.tables;
        facts = refl;
        early = early;
        made = is;
      }

      pub lists_stay : (lists : SessionLists) → AreListsOf office.relations lists → AreListsOf t lists
      lists_stay lists = kept_lists done office.relations t lists was_made (lists_kept done alone)

      pub refused_past : within_limits t ≡ false → IsRefusedIn done today office refusal.TooMany
      refused_past past =
          inr (past_limit today office good up.tables done (past_may done office.relations t was_made past) early
          (ap within_limits (sym is) ∙ past))

  module _ (base : Part) (early : early_refusal done today office ≡ None)
      (is : relations_of base.facts ≡ facts_made done today office)
      (within : within_limits (relations_of base.facts) ≡ true) (order : AreInOrder (relations_of base.facts)) where
    abbrev t : Relations
    t = relations_of base.facts

    abbrev after : State
    after = record { relations = t; seats = office.seats }

    changed : change done today office ≡ Ok t
    changed =
        made_is_change today office good up.tables done early (ap within_limits (sym is) ∙ within) ∙ ap Ok (sym is)

    stays : (s : Code) → IsRepaired t (first_seated done) office.seats office.seats s
    stays s =
        let best : IsBest (seating t s) (plan_of office.seats s) =
        subst (λ g. IsBest g (plan_of office.seats s))
        (same_seating office.relations t s
        (spared office good up today s done t changed (none_touched done office.relations s (plans_kept done alone))))
        (good.best s) in
        record {
          repair = best_is_repaired t s (lists_rise t s order) (first_seated done) (plan_of office.seats s) best;
          best = best;
        }

    pub appeal_step : (told : Reply) → told ≡ first_reply done office.relations t
        → Step done today office (Ok told) after
    appeal_step told says =
        subst (λ answer. Step done today office (Ok answer) after) (sym (says ∙ reply_made done alone office after))
        (accepted_step done today office after t changed refl (record { tables = order; seats = up.seats })
        (λ s. lists_rise t s order) good stays (seated_on done alone t office.seats))

    module _ (u : Undo) (back : TakesBack u t office.relations) (are : AreListsOf office.relations base.lists) where
      -- with no plans and no lists to be put back
      abbrev pub alone_part : Part
      alone_part = record base { undo = record { facts = u; lists = lists_undo.Nothing; plans = None } }

      before : state_before alone_part office.seats ≡ office
      before = ap (λ (r : Relations). let x : State = record { relations = r; seats = office.seats } in x) back.1

      pub appeal_draft : (told : Reply) → told ≡ first_reply done office.relations t
          → IsDraftOf done today office alone_part office.seats told
      appeal_draft told says = record {
        draft = record {
          good = good_after done today office after told office.relations (was_made t early is) within
              (appeal_step told says);
          listed_now = lists_stay t early is base.lists are;
          was_good = subst IsGood (sym before) good;
          were_lists = λ was were. subst (λ (r : Relations). AreListsOf r was) (sym back.1)
              (lists_were office.relations lists_undo.Nothing base.lists base.lists are
              (record { there = tt; members = λ s. refl; halls = λ s. refl }) was were);
          there = (back.0, tt);
          mixed = tt;
          order = record { tables = order; seats = up.seats };
          was_order = subst IsInOrder (sym before) up;
        };
        before = before;
        step = appeal_step told says;
      }
