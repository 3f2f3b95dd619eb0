-- What a command makes of a part, step by step, is what an accepted command makes of it.
use Rattle.exam_laws.proofs.Words.{option_and_then, option_map_or, Refusal, Appeal, AreInOrder, Code, Relations}
use Rattle.exam_laws.proofs.Words.{code_cmp, has_row, same_code, is_member, plan_of, Command, Decision, Outcome}
use Rattle.exam_laws.proofs.Words.{appeal_at, bears_mark, is_grant, stored_state, rows_refusal, with_live, with_rows}
use Rattle.exam_laws.proofs.Words.{without_opening, decision_refusal, with_decision, early_refusal, facts_made, IsGood}
use Rattle.exam_laws.proofs.Words.{within_limits, moved, IsInOrder, IsRepaired, reply_of, reply_to, Seats, State, Step}
use Rattle.exam_laws.proofs.Words.{change, first_seated, ends_standing, grant_reaches, is_appeal_for, touches}
use Rattle.exam_laws.proofs.Words.{same_code_itself}
use Rattle.std.proofs.Common.{◌≡◌, ◌↔◌, ◌⊎◌, ◌&&◌, ◌||◌, ℕ, Bool, true, false, cond, IsTrue, List, Contains, Option}
use Rattle.std.proofs.Common.{arith, true≢false, None, Some, Ok, Err, refl, ap, sym, subst, ◌∙◌, inl, inr}
use Rattle.exam_types.specs.declared.refusal.Refusal.TheVariants.{NoMemory}
use Rattle.exam_commands.specs.declared.command.Command.TheVariants as command
use Rattle.exam_commands.specs.declared.command.Outcome.TheVariants as outcome
use Rattle.exam_commands.specs.declared.command.Reply.TheVariants as reply
use Rattle.exam_commands.specs.Changes.{closing_refusal, revival_refusal, withdrawal_refusal}
use Rattle.exam_commands.specs.Decisions as decisions
use Rattle.exam_commands.specs.FactsMade.{WasMade}
use Rattle.exam_commands.specs.Lodgings as lodgings
use Rattle.exam_commands.specs.NextPlans.{AreNext, ArePut, IsLimitRefusal, Plans, PlansBack, after_plans}
use Rattle.exam_commands.specs.NextPlans.{decided_session, first_reply, keeps_plans, last_reply, newly_decided, refuses}
use Rattle.exam_commands.specs.NextPlans.{reply_unless_repeated}
use Rattle.exam_commands.specs.Parts.{Agrees, IsMadeIn, IsRefusedIn, reads}
use Rattle.exam_laws.proofs.FactsMade.{early_is_change, made_is_change, past_limit}
use Rattle.exam_laws.proofs.Reaching.{and_none}
use Rattle.exam_laws.proofs.Parting.{change_same, lodging_refusal_same}
use Rattle.exam_laws.proofs.Stepping.{refused_step}

-- ---- the part and the office

early_same : (done : Command) (today : ℕ) (office part : State) → Agrees done office part
    → early_refusal done today part ≡ early_refusal done today office
early_same (command.Import import) today office part agrees =
    ap (λ (r : Relations). rows_refusal r import.rows) agrees.facts
early_same (command.Withdraw c p) today office part agrees =
    ap (λ (r : Relations). withdrawal_refusal r c p) agrees.facts
early_same (command.Reinstate c p) today office part agrees = ap (λ (r : Relations). revival_refusal r c p) agrees.facts
early_same (command.CloseHall s h) today office part agrees = ap (λ (r : Relations). closing_refusal r s h) agrees.facts
early_same (command.Lodge l) today office part agrees =
    ap (λ (r : Relations). lodgings.lodging_refusal_but_limits r part.seats today l) agrees.facts
    ∙ lodging_refusal_same office.relations part.seats office.seats today l
    (agrees.read l.session (same_code_itself l.session) l.number)
early_same (command.Retract c reference) today office part agrees =
    ap (λ (r : Relations). lodgings.retraction_refusal r c reference) agrees.facts
early_same (command.Decide d) today office part agrees = ap (λ (r : Relations). decision_refusal r today d) agrees.facts

made_same : (done : Command) (today : ℕ) (office part : State) → part.relations ≡ office.relations
    → facts_made done today part ≡ facts_made done today office
made_same (command.Import import) today office part same = ap (λ (r : Relations). with_rows r import.rows) same
made_same (command.Withdraw c p) today office part same = ap (λ (r : Relations). with_live r c p false) same
made_same (command.Reinstate c p) today office part same = ap (λ (r : Relations). with_live r c p true) same
made_same (command.CloseHall s h) today office part same = ap (λ (r : Relations). without_opening r s h) same
made_same (command.Lodge l) today office part same = ap (λ (r : Relations). lodgings.with_lodging r today l) same
made_same (command.Retract c reference) today office part same =
    ap (λ (r : Relations). lodgings.with_retraction r c reference) same
made_same (command.Decide d) today office part same = ap (λ (r : Relations). with_decision r d) same

-- ---- the sessions

-- a command that changes no plan touches no session
pub none_touched : (done : Command) (r : Relations) (s : Code) → keeps_plans done ≡ true → touches r done s ≡ false
none_touched (command.Lodge l) r s keeps = and_none (has_row code_cmp r.sessions s)
none_touched (command.Retract c reference) r s keeps = and_none (has_row code_cmp r.sessions s)
none_touched (command.Decide d) r s keeps =
    ap (λ b. has_row code_cmp r.sessions s && b) (inner d.outcome keeps) ∙ and_none (has_row code_cmp r.sessions s)
  where
    inner : (o : Outcome) → refuses o ≡ true
        → (is_grant o && option_map_or (λ (a : Appeal). grant_reaches r d a s)
        (appeal_at r d.number d.reference) false) ≡ false
    inner outcome.Refuse refusing = refl
    inner _ refusing = absurd cc
none_touched _ r s keeps = absurd cc

among : (a e b : Bool) → ((a && e) || (e && (a || b))) ≡ (e && (a || b))
among a e b = grind arith

-- a grant touches the session of the appeal, if that exists
pub grant_is_for : (r : Relations) (d : Decision) (s : Code) (o : Option Appeal)
    → (is_appeal_for r o s ||
    (has_row code_cmp r.sessions s && option_map_or (λ (a : Appeal). grant_reaches r d a s) o false))
    ≡ (has_row code_cmp r.sessions s && option_map_or (λ (a : Appeal). grant_reaches r d a s) o false)
grant_is_for r d s None = refl
grant_is_for r d s (Some a) =
    among (same_code a.session s) (has_row code_cmp r.sessions s)
    ((bears_mark d.outcome || ends_standing r d a) && is_member r s d.number)

-- any other reads those that it touches
read_touched : (done : Command) (r : Relations) (s : Code) → keeps_plans done ≡ false
    → reads r done s ≡ touches r done s
read_touched (command.Lodge l) r s changes = absurd cc
read_touched (command.Decide d) r s changes = inner d.outcome changes
  where
    inner : (o : Outcome) → refuses o ≡ false
        → (is_appeal_for r (appeal_at r d.number d.reference) s ||
        (has_row code_cmp r.sessions s
        && (is_grant o && option_map_or (λ (a : Appeal). grant_reaches r d a s)
        (appeal_at r d.number d.reference) false)))
        ≡ (has_row code_cmp r.sessions s
        && (is_grant o && option_map_or (λ (a : Appeal). grant_reaches r d a s)
        (appeal_at r d.number d.reference) false))
    inner outcome.Refuse grants = absurd cc
    inner _ grants = grant_is_for r d s (appeal_at r d.number d.reference)
read_touched _ r s changes = refl

-- ---- the reply

replied : (done : Command) (part new : State)
    → last_reply done (newly_decided part.relations done)
    (first_reply done part.relations new.relations) new.relations part.seats new.seats ≡ reply_of done part new
replied (command.Decide d) part new = inner (appeal_at part.relations d.number d.reference)
  where
    by : (a : Appeal) (b : Bool)
        → reply_unless_repeated d (cond b None (Some a.session)) reply.Unchanged new.relations part.seats new.seats
        ≡ cond b reply.Unchanged
        (reply.Decided (stored_state new.relations d.number d.reference) (plan_of new.seats a.session d.number)
        (moved part.seats new.seats d.number))
    by a b = grind arith

    inner : (o : Option Appeal)
        → reply_unless_repeated d
        (option_and_then (decided_session part.relations d) o) reply.Unchanged new.relations part.seats new.seats
        ≡ reply_to part new d o
    inner None = refl
    inner (Some a) = by a (decisions.is_made part.relations d a)
replied _ part new = refl

-- ---- the command over the part

module _ (done : Command) (today : ℕ) (office part : State) (good : IsGood office) (up : IsInOrder office)
    (agrees : Agrees done office part) where
  pub was_made : (t : Relations) → early_refusal done today part ≡ None → t ≡ facts_made done today part
      → WasMade done part.relations t
  was_made t early is = record {
    today = today;
    office = office;
    good = good;
    order = subst AreInOrder (sym agrees.facts) up.tables;
    facts = sym agrees.facts;
    early = sym (early_same done today office part agrees) ∙ early;
    made = is ∙ made_same done today office part agrees.facts;
  }

  module _ (new : State) (early : early_refusal done today part ≡ None)
      (facts : new.relations ≡ facts_made done today part) where
    here_early : early_refusal done today office ≡ None
    here_early = sym (early_same done today office part agrees) ∙ early

    here_facts : new.relations ≡ facts_made done today office
    here_facts = facts ∙ made_same done today office part agrees.facts

    module _ (within : within_limits new.relations ≡ true) (sessions : List Code)
        (exact : (s : Code) → Contains sessions s ↔ IsTrue (touches part.relations done s)) where
      changed : change done today part ≡ Ok new.relations
      changed =
          change_same done today office part agrees
          ∙ made_is_change today office good up.tables done here_early (ap within_limits (sym here_facts) ∙ within)
          ∙ ap Ok (sym here_facts)

      pub is_made : (o : Option Plans) → AreNext done new.relations sessions part.seats o
          → new.seats ≡ after_plans o part.seats
          → IsMadeIn done today part new
          (last_reply done (newly_decided part.relations done)
          (first_reply done part.relations new.relations) new.relations part.seats new.seats)
      is_made None keeps stay = record {
        changed = changed;
        repaired = λ s touched. absurd (cc (none_touched done part.relations s keeps));
        stays = λ s away read c. ap (λ (seats : Seats). plan_of seats s c) stay;
        told = replied done part new;
      }
      is_made (Some next) found put = record {
        changed = changed;
        repaired = λ s touched. subst
            (λ (seats : Seats). IsRepaired new.relations (first_seated done) part.seats seats s) (sym put)
            (found.1.repaired s ((exact s).1 touched));
        stays = λ s away read. absurd (cc (read_touched done part.relations s found.0));
        told = replied done part new;
      }

    pub refused_late : (e : Refusal) → IsLimitRefusal done new.relations e → IsRefusedIn done today part e
    refused_late e (inl memory) = inl memory
    refused_late e (inr past) =
        inr (change_same done today office part agrees
        ∙ past_limit today office good up.tables done past.1 here_early (ap within_limits (sym here_facts) ∙ past.2)
        ∙ ap Err (sym past.0))

pub refused_early : (done : Command) (today : ℕ) (part : State) (e : Refusal)
    → (e ≡ NoMemory) ⊎ (early_refusal done today part ≡ Some e) → IsRefusedIn done today part e
refused_early done today part e (inl memory) = inl memory
refused_early done today part e (inr is) = inr (early_is_change today part done e is)

-- ---- the plans put in the place of the old ones

pub put_after : (o : Option Plans) (old new : Seats) (given : Option Plans) → ArePut o old new given
    → new ≡ after_plans o old
put_after None old new given put = put.0
put_after (Some next) old new given put = put.0

pub plans_back : (done : Command) (r t : Relations) (sessions : List Code) (old new : Seats)
    → ((s : Code) → Contains sessions s ↔ IsTrue (touches r done s)) → (o : Option Plans)
    → AreNext done t sessions old o
    → (given : Option Plans) → ArePut o old new given → PlansBack done r given new old
plans_back done r t sessions old new exact None keeps given put =
    subst (λ (g : Option Plans). PlansBack done r g new old) (sym put.1) (put.0, keeps)
plans_back done r t sessions old new exact (Some next) found None put = absurd put.1
plans_back done r t sessions old new exact (Some next) found (Some kept) put = (
  put.1,
  λ s c away.
      ap (λ (seats : Seats). plan_of seats s c) put.0
      ∙ found.1.others s c (λ among. true≢false (sym ((exact s).0 among) ∙ away)),
)

-- ---- a refusal, of the office

pub refused_office : (done : Command) (today : ℕ) (office part : State) (e : Refusal) → Agrees done office part
    → IsRefusedIn done today part e → (e ≡ NoMemory) ⊎ Step done today office (Err e) office
refused_office done today office part e agrees (inl memory) = inl memory
refused_office done today office part e agrees (inr is) =
    inr (refused_step done today office e (sym (change_same done today office part agrees) ∙ is))
