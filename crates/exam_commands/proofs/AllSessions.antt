-- Sessions that are there, and sessions that are not there: in these nobody sits, before a repair and after it.
use Rattle.std.proofs.Common.{◌≡◌, ℕ, ◌≤◌, ◌&&◌, ◌||◌, not, Bool, true, false, IsTrue, cond, List, [], ◌∷◌, length}
use Rattle.std.proofs.Common.{filter, Option, None, Some, IfSome, is_some, refl, ap, sym, subst, ◌∙◌, inr, arith}
use Rattle.std.specs.List.{list_any, AllByRecursion}
use Rattle.std.specs.Map.{keys_of}
use Rattle.std.specs.Option.{option_and_then, option_map}
use Rattle.std.specs.Ordering.{is_eq}
use Rattle.std.specs.BTreeMap.{is_at}
use Rattle.std.specs.declared.cmp.Ordering.TheVariants.{Less}
use Rattle.std.specs.Cmp.Lexicographic.{texts_ties}
use Rattle.std.proofs.Math.Path.{fun_ext}
use Rattle.exam_plan.specs.Matching.{Seating, Plan, IsLawful, IsBest, is_hall, size}
use Rattle.exam_plan.specs.Chains.{Chain, IsChain, Leads}
use Rattle.exam_plan.specs.Repair.{is_member as is_member_of, kept_part, where_fitting, where_room, fitting_part}
use Rattle.exam_plan.specs.Repair.{Sweeps, IsRepair, sweep_order}
use Rattle.exam_rules.specs.declared.rows.Session.{Session}
use Rattle.exam_rules.specs.Relations.{Code, Relations, code_cmp, same_code, row_at, has_row}
use Rattle.exam_rules.specs.declared.fit.Terms.{Terms}
use Rattle.exam_rules.specs.Sessions.{has_live_entry, barred_halls, sitting_row, arrangement_in_force}
use Rattle.exam_rules.specs.Seatings.{seating, plan_of, fits, suits_opened, sitting_terms, terms_of, opened_room}
use Rattle.exam_commands.specs.State.{Seats}
use Rattle.exam_commands.specs.Repairs.{IsRepaired}

-- ---- if nothing fits

module _ {C H : Type 0} (g : Seating C H) (nothing : (c : C) (h : H) → g.fits c h ≡ false) where
  no_fit : (c : C) (h : H) → IsTrue (g.fits c h) → ⊥
  no_fit c h fit = let e : true ≡ false = sym fit ∙ nothing c h in cc

  no_occupants : (h : H) (cs : List C) → length (filter (λ c. is_hall g h None) cs) ≤ g.desks h
  no_occupants h [] = omega arith
  no_occupants h (c ∷ cs) = no_occupants h cs

  empty : (other : Plan C H) → IsLawful g other → other ≡ λ c. None
  empty other lawful = fun_ext (λ c. inner c (other c) (lawful.fitting c))
    where
      inner : (c : C) (o : Option H) → IfSome o (λ h. IsTrue (g.fits c h)) → o ≡ None
      inner c None fit = refl
      inner c (Some h) fit = absurd (no_fit c h fit)

  best_empty : IsBest g (λ c. None)
  best_empty = record {
    lawful = record {
      members = λ c some. absurd (let e : false ≡ true = some in cc);
      fitting = λ c. tt;
      within_desks = λ h. no_occupants h g.members;
    };
    greatest = λ other lawful. subst (λ q. size g q ≤ size g (λ c. None)) (sym (empty other lawful)) (omega arith);
  }

  no_chain : (p : Plan C H) (c : C) (chain : Chain C H) → IsChain g p c chain → ⊥
  no_chain p c chain is = inner chain.hops chain.last is.leads
    where
      inner : (hops : List (H × C)) (last : H) → Leads g p c hops last → ⊥
      inner [] last leads = no_fit c last leads.0
      inner (hop ∷ hops) last leads = no_fit c hop.0 leads.0

  kept_empty : (before : Plan C H) → kept_part g before ≡ λ c. None
  kept_empty before = fun_ext (λ c. inner c (before c))
    where
      unfit : (c : C) (o : Option H) → where_fitting g c o ≡ None
      unfit c None = refl
      unfit c (Some h) = ap (λ b. cond (is_member_of g c && b) (Some h) None) (nothing c h)
          ∙ no_place (is_member_of g c)
        where
          no_place : (b : Bool) → cond (b && false) (Some h) None ≡ None
          no_place true = refl
          no_place false = refl

      inner : (c : C) (o : Option H) → where_room g (fitting_part g before) c (where_fitting g c o) ≡ None
      inner c o = ap (where_room g (fitting_part g before) c) (unfit c o)

  sweeps_empty : (cs : List C) → Sweeps g (λ c. None) cs (λ c. None)
  sweeps_empty [] = λ c. refl
  sweeps_empty (c ∷ cs) = (λ d. None, inr (no_chain (λ d. None) c, λ d. refl), sweeps_empty cs)

  pub repair_empty : (first : Option C) (before : Plan C H) → IsRepair g first before (λ c. None)
  repair_empty first before =
      subst (λ q. Sweeps g q (sweep_order g first) (λ c. None)) (sym (kept_empty before))
      (sweeps_empty (sweep_order g first))

-- ---- a session that is not there has no seats

pub unknown_fits : (r : Relations) (s : Code) → has_row code_cmp r.sessions s ≡ false → (c : ℕ) (h : Code)
    → fits r s c h ≡ false
unknown_fits r s unknown c h =
    none (has_live_entry r s c) (not (list_any (same_code h) (barred_halls r s c))) (sitting_terms r s c)
    (terms (row_at code_cmp r.sessions s) unknown)
  where
    terms : (o : Option Session) → is_some o ≡ false
        → option_and_then (λ session. option_map (λ paper. terms_of session paper (arrangement_in_force r s c))
        (sitting_row r s c)) o ≡ None
    terms None e = refl
    terms (Some x) e = cc

    none : (a b : Bool) (t : Option Terms) → t ≡ None → (a && (suits_opened t (opened_room r s h) && b)) ≡ false
    none true b t e = ap (λ t. suits_opened t (opened_room r s h) && b) e
    none false b t e = refl

pub unknown_repaired : (r : Relations) (first : Option ℕ) (before after : Seats) (s : Code)
    → has_row code_cmp r.sessions s ≡ false → ((c : ℕ) → plan_of after s c ≡ None) → IsRepaired r first before after s
unknown_repaired r first before after s unknown none =
    let same : (λ c. None) ≡ plan_of after s = sym (fun_ext none) in
    record {
      repair = subst (IsRepair (seating r s) first (plan_of before s)) same
          (repair_empty (seating r s) (unknown_fits r s unknown) first (plan_of before s));
      best = subst (IsBest (seating r s)) same (best_empty (seating r s) (unknown_fits r s unknown));
    }

-- ---- a session that is there is among them

-- the session is among these
abbrev pub is_among : {X : Type 0} → Code → List (Code × X) → Bool
is_among s rows = list_any (same_code s) (keys_of rows)

pub known_among : {X : Type 0} (s : Code) (rows : List (Code × X)) → has_row code_cmp rows s ≡ is_among s rows
known_among s [] = refl
known_among {X} s (row ∷ rows) =
    inner (is_at (code_cmp s) row.0) (same_code s row.0) (sym (texts_ties s row.0)) (known_among s rows)
  where
    inner : (a b : Bool) → a ≡ b → has_row code_cmp rows s ≡ is_among s rows
        → is_some (cond a (Some row.1) (row_at code_cmp rows s)) ≡ (b || is_among s rows)
    inner true true e rest = refl
    inner false false e rest = rest
    inner true false e rest = cc
    inner false true e rest = cc

pub none_later : (s : Code) (keys : List Code) → AllByRecursion (λ y. code_cmp s y ≡ Less) keys
    → list_any (same_code s) keys ≡ false
none_later s [] less = refl
none_later s (k ∷ keys) less =
    ap (λ b. b || list_any (same_code s) keys) (texts_ties s k ∙ ap is_eq less.0) ∙ none_later s keys less.1
