-- The plans that a command reads, copied seat by seat.
use Rattle.std.proofs.Common.{◌≡◌, ◌≤◌, ℕ, zero, suc, ◌&&◌, ◌||◌, Bool, true, false, cond, IsTrue, List, [], ◌∷◌, ◌++◌}
use Rattle.std.proofs.Common.{map, length, take, nat_eq, Contains, Option, None, Some, IsSome, refl, ap, sym, subst}
use Rattle.std.proofs.Common.{◌∙◌, arith}
use Rattle.std.specs.Prelude.{◌↔◌}
use Rattle.std.specs.List.{list_any}
use Rattle.std.specs.Option.{option_map_or, option_or}
use Rattle.std.proofs.lemmas.List.Folds.{list_any-append}
use Rattle.exam_rules.specs.declared.listing.Entrant.{Entrant}
use Rattle.exam_rules.specs.declared.rows.Appeal.{Appeal}
use Rattle.std.specs.Bool.{Decides}
use Rattle.std.proofs.lemmas.Bool.Decides.{Decides-eqb}
use Rattle.std.proofs.lemmas.Map.Made.{is_member-Decides}
use Rattle.exam_rules.specs.declared.listing.SessionLists.{SessionLists}
use Rattle.exam_rules.specs.Lists.{AreListsOf, listed}
use Rattle.exam_rules.specs.Relations.{Code, Relations, code_cmp, has_row, same_code}
use Rattle.exam_rules.specs.Seatings.{plan_of}
use Rattle.exam_rules.specs.Sessions.{members}
use Rattle.exam_rules.proofs.Naming.{same_code_exact}
use Rattle.exam_commands.specs.declared.command.Command.{Command}
use Rattle.exam_commands.specs.declared.command.Command.TheVariants as command
use Rattle.exam_commands.specs.declared.command.Decision.{Decision}
use Rattle.exam_commands.specs.declared.command.Lodging.{Lodging}
use Rattle.exam_commands.specs.Good.{IsGood}
use Rattle.exam_commands.specs.Appeals.{appeal_at, is_grant}
use Rattle.exam_commands.specs.Touched.{grant_reaches, is_appeal_for, touches}
use Rattle.exam_commands.specs.Parts.{Agrees, is_listed, reads}
use Rattle.exam_commands.specs.State.{Seats, State}
use Rattle.exam_commands.proofs.ImportKeys.{number_flips}
use Rattle.exam_laws.proofs.Making.{grant_is_for}
use Rattle.exam_commands.proofs.SameSeats.{codes_decide}

or_false : (b : Bool) → (b || false) ≡ b
or_false true = refl
or_false false = refl

-- whether one of a list passes, once it is longer by one
pub any_more : {A : Type 0} (p : A → Bool) (xs ys : List A) (x : A) → ys ≡ xs ++ x ∷ []
    → list_any p ys ≡ (list_any p xs || p x)
any_more p xs ys x is =
    ap (list_any p) is ∙ list_any-append p xs (x ∷ []) ∙ ap (λ b. list_any p xs || b) (or_false (p x))

-- the members of a session so far are copied, and one more is
pub copied_step : (here now before : Bool) (mine first old new : Option Code)
    → old ≡ cond (here && before) (option_or mine first) first
    → new ≡ cond (here && now) (option_or mine old) old
    → new ≡ cond (here && (before || now)) (option_or mine first) first
copied_step true true true None first old new was is = is ∙ was
copied_step true true true (Some h) first old new was is = is
copied_step true true false mine first old new was is = is ∙ ap (option_or mine) was
copied_step true false true mine first old new was is = is ∙ was
copied_step true false false mine first old new was is = is ∙ was
copied_step false now before mine first old new was is = is ∙ was

-- the plans of the sessions so far, and that of one more
pub plans_step : (here listed before : Bool) (mine old new : Option Code) → old ≡ cond before mine None
    → (here ≡ true → listed ≡ false → mine ≡ None)
    → new ≡ cond (here && listed) (option_or mine old) old → new ≡ cond (before || here) mine None
plans_step true true true None old new was none is = is ∙ was
plans_step true true true (Some h) old new was none is = is
plans_step true true false None old new was none is = is ∙ was
plans_step true true false (Some h) old new was none is = is
plans_step true false true mine old new was none is = is ∙ was
plans_step true false false mine old new was none is = is ∙ was ∙ sym (none refl refl)
plans_step false listed true mine old new was none is = is ∙ was
plans_step false listed false mine old new was none is = is ∙ was

pub take_whole : {A : Type 0} (xs : List A) (i : ℕ) → length xs ≤ i → take i xs ≡ xs
take_whole [] zero long = refl
take_whole [] (suc i) long = refl
take_whole (x ∷ xs) zero long = absurd (omega (arith, long))
take_whole (x ∷ xs) (suc i) long = ap (λ t. x ∷ t) (take_whole xs i (omega (arith, long)))

-- ---- the plans copied are those that the part has

names_decide : (s t : Code) → Decides (same_code t s) (s ≡ t)
names_decide s t = let same = codes_decide t s in (λ e. sym (same.0 e), λ e. same.1 (sym e))

any_named : (sessions : List Code) (s : Code) → Decides (list_any (λ t. same_code t s) sessions) (Contains sessions s)
any_named sessions s = is_member-Decides names_decide sessions s

pub plans_agree : (done : Command) (office : State) (plans : Seats) (sessions : List Code)
    → ((s : Code) → Contains sessions s ↔ IsTrue (reads office.relations done s))
    → ((s : Code) (c : ℕ)
    → plan_of plans s c ≡ cond (list_any (λ t. same_code t s) sessions) (plan_of office.seats s c) None)
    → Agrees done office (record { relations = office.relations; seats = plans })
plans_agree done office plans sessions exact copied = record {
  facts = refl;
  read = λ s here c. copied s c
      ∙ ap (λ b. cond b (plan_of office.seats s c) None) ((any_named sessions s).1 ((exact s).1 here));
  others = λ s out c. copied s c
      ∙ ap (λ b. cond b (plan_of office.seats s c) None) (none s out (list_any (λ t. same_code t s) sessions) refl);
}
  where
    none : (s : Code) → reads office.relations done s ≡ false → (b : Bool) → list_any (λ t. same_code t s) sessions ≡ b
        → b ≡ false
    none s out true any =
        absurd (let differ : true ≡ false = sym ((exact s).0 ((any_named sessions s).0 any)) ∙ out in cc)
    none s out false any = refl

-- who is not listed among the members does not sit
pub unlisted : (office : State) (lists : SessionLists) → IsGood office → AreListsOf office.relations lists
    → (t s : Code) (c : ℕ) → same_code t s ≡ true → is_listed lists t c ≡ false → plan_of office.seats s c ≡ None
unlisted office lists good are t s c same away = inner (plan_of office.seats s c) refl
  where
    numbers : map (λ (e : Entrant). e.number) (listed lists.members.entries s) ≡ members office.relations s
    numbers = ap (map (λ (e : Entrant). e.number)) (are.members s) ∙ are.numbers s

    here : is_listed lists s c ≡ false
    here = ap (λ q. is_listed lists q c) (sym (same_code_exact t s same)) ∙ away

    listed_if : (es : List Entrant) → Contains (map (λ (e : Entrant). e.number) es) c
        → list_any (λ (e : Entrant). nat_eq e.number c) es ≡ true
    listed_if es among =
        any_number es (is_member-Decides (λ a b. Decides-eqb a b) (map (λ (e : Entrant). e.number) es) c) among
      where
        any_number : (xs : List Entrant)
            → Decides (list_any (nat_eq c) (map (λ (e : Entrant). e.number) xs))
            (Contains (map (λ (e : Entrant). e.number) xs) c) → Contains (map (λ (e : Entrant). e.number) xs) c
            → list_any (λ (e : Entrant). nat_eq e.number c) xs ≡ true
        any_number xs decides among = sym (mapped xs) ∙ decides.1 among
          where
            mapped : (ys : List Entrant)
                → list_any (nat_eq c) (map (λ (e : Entrant). e.number) ys)
                ≡ list_any (λ (e : Entrant). nat_eq e.number c) ys
            mapped [] = refl
            mapped (y ∷ ys) = ap (λ b. b || list_any (nat_eq c) (map (λ (e : Entrant). e.number) ys))
                (number_flips c y.number) ∙ ap (λ b. nat_eq y.number c || b) (mapped ys)

    inner : (o : Option Code) → plan_of office.seats s c ≡ o → o ≡ None
    inner None is = refl
    inner (Some h) is =
        let some : IsSome (plan_of office.seats s c) = subst (λ (o : Option Code). IsSome o) (sym is) refl in
        let among : Contains (map (λ (e : Entrant). e.number) (listed lists.members.entries s)) c =
        subst (λ (ns : List ℕ). Contains ns c) (sym numbers) ((good.best s).lawful.members c some) in
        absurd (let differ : true ≡ false = sym (listed_if (listed lists.members.entries s) among) ∙ here in cc)

-- but for a lodging and a decision, a command reads what it touches
pub reads_touched : (done : Command) → ((l : Lodging) → done ≡ command.Lodge l → ⊥)
    → ((d : Decision) → done ≡ command.Decide d → ⊥) → (r : Relations) (s : Code) → reads r done s ≡ touches r done s
reads_touched (command.Import import) no_lodging no_decision r s = refl
reads_touched (command.Withdraw c p) no_lodging no_decision r s = refl
reads_touched (command.Reinstate c p) no_lodging no_decision r s = refl
reads_touched (command.CloseHall named h) no_lodging no_decision r s = refl
reads_touched (command.Lodge l) no_lodging no_decision r s = absurd (no_lodging l refl)
reads_touched (command.Retract c reference) no_lodging no_decision r s = refl
reads_touched (command.Decide d) no_lodging no_decision r s = absurd (no_decision d refl)

-- a decision that grants reads what it touches
pub grant_reads : (r : Relations) (d : Decision) (s : Code) → is_grant d.outcome ≡ true
    → reads r (command.Decide d) s ≡ touches r (command.Decide d) s
grant_reads r d s grants = inner (is_grant d.outcome) grants (appeal_at r d.number d.reference)
  where
    inner : (b : Bool) → b ≡ true → (o : Option Appeal)
        → (is_appeal_for r o s ||
        (has_row code_cmp r.sessions s && (b && option_map_or (λ a. grant_reaches r d a s) o false)))
        ≡ (has_row code_cmp r.sessions s && (b && option_map_or (λ a. grant_reaches r d a s) o false))
    inner true is o = grant_is_for r d s o
    inner false is o = absurd (let differ : false ≡ true = is in cc)
