-- A command over a part, put back, is the command over the office.
use Rattle.exam_laws.proofs.Words.{option_map_or, option_or, keys_of, is_at, Equal-is, AllByRecursion, Less, Ordering}
use Rattle.exam_laws.proofs.Words.{fun_ext, sorted_head, sorted_tail, Refusal, IsBest, SamePlan, Appeal, Subject}
use Rattle.exam_laws.proofs.Words.{KeysRise, Code, Relations, code_cmp, has_row, row_at, same_code, seat_cmp, ListsRise}
use Rattle.exam_laws.proofs.Words.{plan_of, seating, option_filter, same_code_itself, same_rows, seats_exact}
use Rattle.exam_laws.proofs.Words.{seats_total, Command, Lodging, Reply, appeal_at, stored_state, first_refusal}
use Rattle.exam_laws.proofs.Words.{imported, unless, with_live, is_made, with_decision, IsGood, moved, IsInOrder}
use Rattle.exam_laws.proofs.Words.{IsRepaired, reply_of, reply_to, Seats, State, MayStep, SeatsOn, Step, change}
use Rattle.exam_laws.proofs.Words.{first_seated, is_appeal_for, touches}
use Rattle.std.proofs.Common.{◌≡◌, ℕ, ◌==◌, ◌&&◌, ◌||◌, not, Bool, true, false, cond, List, [], ◌∷◌, ◌++◌, filter}
use Rattle.std.proofs.Common.{length, Option, None, Some, Ok, Err, refl, ap, sym, subst, ◌∙◌, inl, inr}
use Rattle.std.specs.Cmp.{IsTotalOrder}
use Rattle.std.proofs.lemmas.Bool.{and_right, or_right}
use Rattle.std.proofs.lemmas.List.Sums.{length-filter}
use Rattle.std.proofs.lemmas.Map.Lookups.{CmpEqualImpliesEq}
use Rattle.exam_types.specs.declared.refusal.Refusal.TheVariants as refusal
use Rattle.exam_plan.specs.Matching.{Plan}
use Rattle.exam_plan.specs.Repair.{IsRepair}
use Rattle.exam_rules.specs.declared.rows.Subject.TheVariants as subject
use Rattle.exam_rules.proofs.InOrder.{lists_rise}
use Rattle.exam_commands.proofs.KeyedRows.{past_all, sorted_from}
use Rattle.exam_commands.specs.declared.command.Command.TheVariants as command
use Rattle.exam_commands.specs.declared.command.Reply.TheVariants as reply
use Rattle.exam_commands.specs.Changes.{closed, no_candidate, reinstated}
use Rattle.exam_commands.specs.Changes.{withdrawn}
use Rattle.exam_commands.specs.Decisions.{decision_made, granted_number}
use Rattle.exam_commands.specs.Lodgings as lodgings
use Rattle.exam_commands.specs.Moves.{is_elsewhere, is_move}
use Rattle.exam_commands.specs.Parts.{Agrees, IsMadeIn, IsPutBack, IsRefusedIn, reads}
use Rattle.exam_commands.specs.Replies.{import_reply}
use Rattle.exam_laws.proofs.Reaching.{and_none, appeal_is_for}
use Rattle.exam_laws.proofs.AppealSteps.{all_stay}
use Rattle.exam_laws.proofs.Commanding.{ArePlansRepaired, DoListsRise, others_seated}
use Rattle.exam_laws.proofs.DecisionSteps as decisions
use Rattle.exam_laws.proofs.Accepted.{change_made}
use Rattle.exam_commands.proofs.Staying.{best_is_repaired, kept_stays}
use Rattle.exam_laws.proofs.Stepping.{accepted_step, refused_step, same_seating}
use Rattle.exam_laws.proofs.Untouched.{spared}

-- ---- rows that pass

module _ {K X : Type 0} (cmp : K → K → Ordering) (total : IsTotalOrder cmp) (exact : CmpEqualImpliesEq cmp) where
  -- among rows that pass, a key has its row if that row passes
  passing_at : (p : K × X → Bool) (rows : List (K × X)) (k : K) → KeysRise cmp rows
      → row_at cmp (filter p rows) k ≡ option_filter (λ x. p (k, x)) (row_at cmp rows k)
  passing_at p [] k up = refl
  passing_at p (e ∷ es) k up =
      inner (is_at (cmp k) e.0) refl (p e) refl (passing_at p es k (sorted_tail cmp e.0 (keys_of es) up))
    where
      inner : (a : Bool) → is_at (cmp k) e.0 ≡ a → (b : Bool) → p e ≡ b
          → row_at cmp (filter p es) k ≡ option_filter (λ x. p (k, x)) (row_at cmp es k)
          → row_at cmp (cond b (e ∷ filter p es) (filter p es)) k
          ≡ option_filter (λ x. p (k, x)) (cond a (Some e.1) (row_at cmp es k))
      inner true at true is rest =
          let same : k ≡ e.0 = exact k e.0 ((Equal-is (cmp k e.0)).0 at) in
          ap (λ c. cond c (Some e.1) (row_at cmp (filter p es) k)) at
          ∙ sym (ap (λ c. cond c (Some e.1) None) (ap (λ z. p (z, e.1)) same ∙ is))
      inner true at false is rest =
          let same : k ≡ e.0 = exact k e.0 ((Equal-is (cmp k e.0)).0 at) in
          let none : row_at cmp es k ≡ None =
          past_all cmp total e.0 k es ((Equal-is (cmp k e.0)).0 at) (sorted_head cmp e.0 (keys_of es) up) in
          rest ∙ ap (option_filter (λ x. p (k, x))) none
          ∙ sym (ap (λ c. cond c (Some e.1) None) (ap (λ z. p (z, e.1)) same ∙ is))
      inner false at true is rest = ap (λ c. cond c (Some e.1) (row_at cmp (filter p es) k)) at ∙ rest
      inner false at false is rest = rest

  all_passing : (P : K → Type 0) (p : K × X → Bool) (es : List (K × X)) → AllByRecursion P (keys_of es)
      → AllByRecursion P (keys_of (filter p es))
  all_passing P p [] every = tt
  all_passing P p (e ∷ es) every = inner (p e) (all_passing P p es every.1)
    where
      inner : (b : Bool) → AllByRecursion P (keys_of (filter p es))
          → AllByRecursion P (keys_of (cond b (e ∷ filter p es) (filter p es)))
      inner true rest = (every.0, rest)
      inner false rest = rest

  passing_rises : (p : K × X → Bool) (rows : List (K × X)) → KeysRise cmp rows → KeysRise cmp (filter p rows)
  passing_rises p [] up = up
  passing_rises p (e ∷ es) up = inner (p e) (passing_rises p es (sorted_tail cmp e.0 (keys_of es) up))
    where
      inner : (b : Bool) → KeysRise cmp (filter p es) → KeysRise cmp (cond b (e ∷ filter p es) (filter p es))
      inner true rest = sorted_from cmp e.0 (keys_of (filter p es))
          (all_passing (λ y. cmp e.0 y ≡ Less) p es (sorted_head cmp e.0 (keys_of es) up)) rest
      inner false rest = rest

-- ---- who moves

module _ (p : Code → Bool) (n : ℕ) (one other after then : Seats) (up : KeysRise seat_cmp one)
    (upper : KeysRise seat_cmp other)
    (same : (s : Code) → p s ≡ true → SamePlan (plan_of one s) (plan_of other s))
    (same_then : (s : Code) → p s ≡ true → SamePlan (plan_of after s) (plan_of then s))
    (stays : (s : Code) → p s ≡ false → SamePlan (plan_of after s) (plan_of one s))
    (nobody : (s : Code) → p s ≡ false → SamePlan (plan_of other s) (λ c. None)) where
  same_moves : (k : Code × ℕ)
      → row_at seat_cmp (filter (is_move after n) one) k ≡ row_at seat_cmp (filter (is_move then n) other) k
  same_moves k =
      passing_at seat_cmp seats_total seats_exact (is_move after n) one k up
      ∙ inner (p k.0) refl
      ∙ sym (passing_at seat_cmp seats_total seats_exact (is_move then n) other k upper)
    where
      none_moves : p k.0 ≡ false → (o : Option Code) → row_at seat_cmp one k ≡ o
          → option_filter (λ x. is_move after n (k, x)) o ≡ None
      none_moves out None is = refl
      none_moves out (Some h) is =
          let still : is_elsewhere after (k, h) ≡ false =
          ap (λ o. option_map_or (λ j. not (same_code j h)) o false) (stays k.0 out k.1 ∙ is)
          ∙ ap not (same_code_itself h) in
          ap (λ b. cond b (Some h) None) (and_right (not (k.1 == n)) _ still)

      inner : (b : Bool) → p k.0 ≡ b
          → option_filter (λ x. is_move after n (k, x)) (row_at seat_cmp one k)
          ≡ option_filter (λ x. is_move then n (k, x)) (row_at seat_cmp other k)
      inner true is =
          ap (option_filter (λ x. is_move after n (k, x))) (same k.0 is k.1)
          ∙ ap (λ (o : Option Code). option_filter
          (λ x. not (k.1 == n) && option_map_or (λ h. not (same_code h x)) o false) (row_at seat_cmp other k))
          (same_then k.0 is k.1)
      inner false out = none_moves out (row_at seat_cmp one k) refl
          ∙ sym (ap (option_filter (λ x. is_move then n (k, x))) (nobody k.0 out k.1))

  moved_same : moved one after n ≡ moved other then n
  moved_same =
      sym (length-filter (is_move after n) one)
      ∙ ap (λ (rows : Seats). length rows)
      (same_rows seat_cmp seats_total seats_exact (filter (is_move after n) one) (filter (is_move then n) other)
      (passing_rises seat_cmp seats_total seats_exact (is_move after n) one up)
      (passing_rises seat_cmp seats_total seats_exact (is_move then n) other upper) same_moves)
      ∙ length-filter (is_move then n) other

-- ---- what the command does to the part it does to the office

asked_same : (r : Relations) (a b : Seats) (s : Code) (c : ℕ) → plan_of a s c ≡ plan_of b s c → (asked : Subject)
    → lodgings.subject_checks r a s c asked ≡ lodgings.subject_checks r b s c asked
asked_same r a b s c same (subject.Hall h) =
    ap (λ (o : Option Code). (not (option_map_or (same_code h) o false), refusal.NotSeatedThere) ∷ []) same
asked_same r a b s c same _ = refl

pub lodging_refusal_same : (r : Relations) (a b : Seats) (today : ℕ) (l : Lodging)
    → plan_of a l.session l.number ≡ plan_of b l.session l.number
    → lodgings.lodging_refusal_but_limits r a today l ≡ lodgings.lodging_refusal_but_limits r b today l
lodging_refusal_same r a b today l same =
    ap (λ checks. first_refusal (no_candidate r l.number ∷ checks)) (checks_same (appeal_at r l.number l.reference))
  where
    checks_same : (o : Option Appeal) → lodgings.lodging_checks r a today l o ≡ lodgings.lodging_checks r b today l o
    checks_same None = ap
        (λ checks. lodgings.not_member r l.session l.number ∷ lodgings.past_closing r l.session l.subject today
        ∷ checks ++ lodgings.appeal_is_open r l ∷ []) (asked_same r a b l.session l.number same l.subject)
    checks_same (Some x) = refl

lodged_same : (r : Relations) (a b : Seats) (today : ℕ) (l : Lodging)
    → plan_of a l.session l.number ≡ plan_of b l.session l.number
    → lodgings.lodged r a today l ≡ lodgings.lodged r b today l
lodged_same r a b today l same =
    ap (λ o. unless (option_or o (first_refusal (lodgings.one_too_many r today l ∷ [])))
    (lodgings.with_lodging r today l)) (lodging_refusal_same r a b today l same)

pub change_same : (done : Command) (today : ℕ) (office part : State) → Agrees done office part
    → change done today part ≡ change done today office
change_same (command.Import import) today office part agrees =
    ap (λ (r : Relations). imported r import.rows) agrees.facts
change_same (command.Withdraw c p) today office part agrees = ap (λ (r : Relations). withdrawn r c p) agrees.facts
change_same (command.Reinstate c p) today office part agrees = ap (λ (r : Relations). reinstated r c p) agrees.facts
change_same (command.CloseHall s h) today office part agrees = ap (λ (r : Relations). closed r s h) agrees.facts
change_same (command.Lodge l) today office part agrees =
    ap (λ (r : Relations). lodgings.lodged r part.seats today l) agrees.facts
    ∙ lodged_same office.relations part.seats office.seats today l
    (agrees.read l.session (same_code_itself l.session) l.number)
change_same (command.Retract c reference) today office part agrees =
    ap (λ (r : Relations). lodgings.retracted r c reference) agrees.facts
change_same (command.Decide d) today office part agrees = ap (λ (r : Relations). decision_made r today d) agrees.facts

pub touched_read : (done : Command) (r : Relations) (s : Code) → touches r done s ≡ true → reads r done s ≡ true
touched_read (command.Lodge l) r s is = absurd (cc (and_none (has_row code_cmp r.sessions s)))
touched_read (command.Decide d) r s is = or_right (is_appeal_for r (appeal_at r d.number d.reference) s) _ is
touched_read _ r s is = is

-- who the new plans seat for certain
kept_on : (done : Command) (today : ℕ) (office after : State) (t : Relations) → IsGood office → IsInOrder office
    → change done today office ≡ Ok t → DoListsRise t
    → ((s : Code) → IsRepaired t (first_seated done) office.seats after.seats s) → (s : Code)
    → SeatsOn done (seating t s) (plan_of office.seats s) (plan_of after.seats s)
kept_on (command.Import import) today office after t good up is rising plans s =
    kept_stays (seating t s) None (plan_of office.seats s) (plan_of after.seats s) (plans s).repair
kept_on (command.Withdraw c p) today office after t good up is rising plans s =
    let r = office.relations in
    let new : with_live r c p false ≡ t = sym (change_made (command.Withdraw c p) today office t is).0 in
    subst (λ (u : Relations). SeatsOn (command.Withdraw c p) (seating u s) (plan_of office.seats s)
    (plan_of after.seats s)) new
    (others_seated office good c p false after
    (subst (λ (u : Relations). ArePlansRepaired u office after) (sym new) plans) s)
kept_on (command.Reinstate c p) today office after t good up is rising plans s =
    let r = office.relations in
    let new : with_live r c p true ≡ t = sym (change_made (command.Reinstate c p) today office t is).0 in
    subst (λ (u : Relations). SeatsOn (command.Reinstate c p) (seating u s) (plan_of office.seats s)
    (plan_of after.seats s)) new
    (others_seated office good c p true after
    (subst (λ (u : Relations). ArePlansRepaired u office after) (sym new) plans) s)
kept_on (command.CloseHall named h) today office after t good up is rising plans s =
    kept_stays (seating t s) None (plan_of office.seats s) (plan_of after.seats s) (plans s).repair
kept_on (command.Lodge l) today office after t good up is rising plans s =
    all_stay office after good t
    (λ q. spared office good up today q (command.Lodge l) t is
    (and_none (has_row code_cmp office.relations.sessions q))) rising plans (λ c. l.number ≡ c) s
kept_on (command.Retract c reference) today office after t good up is rising plans s =
    all_stay office after good t
    (λ q. spared office good up today q (command.Retract c reference) t is
    (and_none (has_row code_cmp office.relations.sessions q))) rising plans (λ d. c ≡ d) s
kept_on (command.Decide d) today office after t good up is rising plans s =
    let r = office.relations in
    let new : with_decision r d ≡ t = sym (change_made (command.Decide d) today office t is).0 in
    subst (λ (u : Relations). SeatsOn (command.Decide d) (seating u s) (plan_of office.seats s)
    (plan_of after.seats s)) new
    (decisions.others_seated_by_decision office good d after
    (subst (λ (u : Relations). (q : Code) → IsRepaired u (granted_number d d.outcome) office.seats after.seats q)
    (sym new) plans) s)

-- ---- the part put back

module _ (today : ℕ) (office part after : State) (good : IsGood office) (up : IsInOrder office) where
  -- unchanged, it leaves the office as it was
  same_back : (done : Command) → Agrees done office part → IsPutBack done office part after → after ≡ office
  same_back done agrees put =
      ap (λ (r : Relations). let x : State = record { relations = r; seats = after.seats } in x)
      (put.facts ∙ agrees.facts)
      ∙ ap (λ (q : Seats). let x : State = record { relations = office.relations; seats = q } in x)
      (same_rows seat_cmp seats_total seats_exact after.seats office.seats put.order.seats up.seats
      (λ k. inner k (reads office.relations done k.0) refl))
    where
      inner : (k : Code × ℕ) (b : Bool) → reads office.relations done k.0 ≡ b
          → row_at seat_cmp after.seats k ≡ row_at seat_cmp office.seats k
      inner k true is = put.read k.0 is k.1 ∙ agrees.read k.0 is k.1
      inner k false out = put.others k.0 out k.1

  pub refused_back : (done : Command) (e : Refusal) → Agrees done office part → IsPutBack done office part after
      → IsRefusedIn done today part e → MayStep done today office (Err e) after
  refused_back done e agrees put (inl memory) = inl (ap Err memory, same_back done agrees put)
  refused_back done e agrees put (inr is) =
      inr (subst (Step done today office (Err e)) (sym (same_back done agrees put))
      (refused_step done today office e (sym (change_same done today office part agrees) ∙ is)))

  module _ (new : State) (ordered : KeysRise seat_cmp part.seats) where
    reply_same : (done : Command) → Agrees done office part → IsPutBack done office new after
        → reply_of done part new ≡ reply_of done office after
    reply_same (command.Import import) agrees put = ap (λ (r : Relations). import_reply r import.rows) agrees.facts
    reply_same (command.Lodge l) agrees put =
        ap (λ (r : Relations). reply.Lodged (stored_state r l.number l.reference)) (sym put.facts)
    reply_same (command.Decide d) agrees put =
        ap (λ (r : Relations). reply_to part new d (appeal_at r d.number d.reference)) agrees.facts
        ∙ inner (appeal_at office.relations d.number d.reference) refl
      where
        moves : moved office.seats after.seats d.number ≡ moved part.seats new.seats d.number
        moves = moved_same (reads office.relations (command.Decide d)) d.number office.seats part.seats after.seats
            new.seats up.seats ordered
            (λ s is c. sym (agrees.read s is c)) put.read put.others agrees.others

        inner : (o : Option Appeal) → appeal_at office.relations d.number d.reference ≡ o
            → reply_to part new d o ≡ reply_to office after d o
        inner None none = refl
        inner (Some a) at =
            let here : reads office.relations (command.Decide d) a.session ≡ true =
            ap (λ b. b || touches office.relations (command.Decide d) a.session)
            (ap (λ o. is_appeal_for office.relations o a.session) at
            ∙ appeal_is_for office.relations good.refer (d.number, d.reference) a at (same_code_itself a.session))
            in
            ap (λ (r : Relations). cond (is_made r d a) reply.Unchanged
            (reply.Decided (stored_state new.relations d.number d.reference) (plan_of new.seats a.session d.number)
            (moved part.seats new.seats d.number))) agrees.facts
            ∙ ap (λ (r : Relations). cond (is_made office.relations d a) reply.Unchanged
            (reply.Decided (stored_state r d.number d.reference) (plan_of new.seats a.session d.number)
            (moved part.seats new.seats d.number))) (sym put.facts)
            ∙ ap (λ (o : Option Code). cond (is_made office.relations d a) reply.Unchanged
            (reply.Decided (stored_state after.relations d.number d.reference) o
            (moved part.seats new.seats d.number))) (sym (put.read a.session here d.number))
            ∙ ap (λ (n : ℕ). cond (is_made office.relations d a) reply.Unchanged
            (reply.Decided (stored_state after.relations d.number d.reference)
            (plan_of after.seats a.session d.number) n)) (sym moves)
    reply_same _ agrees put = refl

    -- changed, it leaves the office after the command
    pub made_back : (done : Command) (told : Reply) → Agrees done office part → IsPutBack done office new after
        → IsMadeIn done today part new told → Step done today office (Ok told) after
    made_back done told agrees put is =
        subst (λ answer. Step done today office (Ok answer) after) (sym (is.told ∙ reply_same done agrees put))
        (accepted_step done today office after t changed put.facts put.order rising good plans
        (kept_on done today office after t good up changed rising plans))
      where
        t : Relations
        t = new.relations

        changed : change done today office ≡ Ok t
        changed = sym (change_same done today office part agrees) ∙ is.changed

        rising : (s : Code) → ListsRise t s
        rising s = subst (λ (r : Relations). ListsRise r s) put.facts (lists_rise after.relations s put.order.tables)

        stays : (s : Code) → touches office.relations done s ≡ false → (b : Bool) → reads office.relations done s ≡ b
            → SamePlan (plan_of after.seats s) (plan_of office.seats s)
        stays s away true here =
            λ c. put.read s here c
            ∙ is.stays s (ap (λ (r : Relations). touches r done s) agrees.facts ∙ away)
            (ap (λ (r : Relations). reads r done s) agrees.facts ∙ here) c
            ∙ agrees.read s here c
        stays s away false out = put.others s out

        by : (s : Code) (b : Bool) → touches office.relations done s ≡ b
            → IsRepaired t (first_seated done) office.seats after.seats s
        by s true here =
            let read = touched_read done office.relations s here in
            let before : plan_of part.seats s ≡ plan_of office.seats s = fun_ext (agrees.read s read) in
            let then : plan_of new.seats s ≡ plan_of after.seats s = sym (fun_ext (put.read s read)) in
            let repaired = is.repaired s (ap (λ (r : Relations). touches r done s) agrees.facts ∙ here) in
            record {
              repair = subst (λ (plan : Plan ℕ Code). IsRepair (seating t s) (first_seated done) plan
                  (plan_of after.seats s)) before
                  (subst (IsRepair (seating t s) (first_seated done) (plan_of part.seats s)) then repaired.repair);
              best = subst (IsBest (seating t s)) then repaired.best;
            }
        by s false away =
            let same : plan_of office.seats s ≡ plan_of after.seats s =
            sym (fun_ext (stays s away (reads office.relations done s) refl)) in
            let best : IsBest (seating t s) (plan_of office.seats s) =
            subst (λ g. IsBest g (plan_of office.seats s))
            (same_seating office.relations t s (spared office good up today s done t changed away)) (good.best s) in
            record {
              repair = subst (IsRepair (seating t s) (first_seated done) (plan_of office.seats s)) same
                  (best_is_repaired t s (rising s) (first_seated done) (plan_of office.seats s) best);
              best = subst (IsBest (seating t s)) same best;
            }

        plans : (s : Code) → IsRepaired t (first_seated done) office.seats after.seats s
        plans s = by s (touches office.relations done s) refl
