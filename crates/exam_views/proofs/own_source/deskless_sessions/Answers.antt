-- The sessions that the entries name are walked by code, and are those with a live entry. Those walked so far give the
-- sessions of the definition up to there.
use Rattle.std.proofs.Common.{◌≡◌, ◌++◌, ◌∙◌, ◌⊎◌, inl, inr, List, ◌∷◌, None, Vec, ap, map, rules, subst, sym}
use Rattle.std.specs.Global.{Global}
use Rattle.std.specs.Map.{keys_of}
use Rattle.std.specs.Option.{option_map}
use Rattle.std.specs.Prelude.{Some, false}
use Rattle.exam_rules.specs.Orders.{KeysRise}
use Rattle.exam_rules.specs.Relations.{Code, code_cmp, relations_of, row_at}
use Rattle.exam_rules.specs.Sessions.{is_member}
use Rattle.exam_rules.specs.Tables as table
use Rattle.exam_commands.specs.Own.{own_session, shown_session}
use Rattle.exam_commands.specs.State.{State}
use Rattle.exam_views.specs.Desks.{session_without_desk}
use Rattle.exam_views.proofs.OwnEntered.{AreEntered, are_entered, is_absent, is_present, known_row, rows_of}
use Rattle.exam_views.proofs.OwnRows.{absent_turn, all_left, member_turn, sessions_left}
use Rattle.exam_views.proofs.own_source.deskless_sessions.Goals as goal

pub loop-session-init : goal.loop-session-init
loop-session-init c =
    let r = relations_of c.args.facts.now in
    let held = c.in_ok-items.items.entries in
    let is : c.into_iter-session-iterator.result ≡ held = c.into_iter-session-iterator.ensures.into_iter_gives.0 in
    let up : KeysRise code_cmp held = c.into_iter-session-iterator.ensures.into_iter_gives.5 in (
      tt,
      tt,
      subst (AreEntered r c.args.number) (sym is)
          (are_entered r c.args.number held up (λ s there. c.in_ok-items.ensures.ok s)),
      rw (c.new-list.ensures.items, is)
          (all_left (record { relations = r; seats = c.args.seats.now.entries }) c.args.number held
          c.in_ok-items.ensures.ok up (c.show_order.ensures table.Sessions)),
    )

pub loop-session-preserved-in_ok-push : goal.loop-session-preserved-in_ok-push
loop-session-preserved-in_ok-push c =
    let r = relations_of c.args.facts.now in
    let office : State = record { relations = r; seats = c.args.seats.now.entries } in
    let row = c.in-Some-membership_of.held.row.now in
    let it = c.in-Some-membership_of.ensures.some in
    let left : AreEntered r c.args.number ((c.in-Some.session, c.in-Some.papers) ∷ c.next.new.self) =
    subst (AreEntered r c.args.number) c.in-Some.ensures.steps c.loop-session.invariant.2 in (
      tt,
      tt,
      left.1,
      member_turn office c.args.number (c.in-Some.session, row) c.in_ok-deskless_session.field-0
          (rows_of r (keys_of c.loop-session.session-iterator)) (rows_of r (keys_of c.next.new.self))
          c.loop-session.list.items c.push.new.self.items _
          (is_present r c.in-Some.session c.args.number c.in-Some.papers.items c.requires.candidate left.0 it.2)
          (subst (λ s. option_map session_without_desk (own_session office c.args.number (s, row))
          ≡ Some (shown_session c.in_ok-deskless_session.field-0)) it.0 c.in_ok-deskless_session.ensures.ok)
          (ap (λ (rows : List (Code × Vec Code Global)). rows_of r (keys_of rows)) c.in-Some.ensures.steps
          ∙ known_row r c.in-Some.session (keys_of c.next.new.self) row it.3)
          c.in_ok-push.ensures.items c.loop-session.invariant.3,
    )

pub loop-session-preserved : goal.loop-session-preserved
loop-session-preserved c =
    let r = relations_of c.args.facts.now in
    let office : State = record { relations = r; seats = c.args.seats.now.entries } in
    let left : AreEntered r c.args.number ((c.in-Some.session, c.in-Some.papers) ∷ c.next.new.self) =
    subst (AreEntered r c.args.number) c.in-Some.ensures.steps c.loop-session.invariant.2 in
    let why : (is_member r c.in-Some.session c.args.number ≡ false)
    ⊎ (row_at code_cmp r.sessions c.in-Some.session ≡ None) =
    elim (c.membership_of.ensures.none (search rules)) [
      | inl none ↦ inl (is_absent r c.in-Some.session c.args.number c.in-Some.papers.items left.0 none)
      | inr missing ↦ inr missing
    ] in (
      tt,
      tt,
      left.1,
      absent_turn office c.args.number c.in-Some.session (keys_of c.next.new.self)
          (map shown_session c.loop-session.list.items) _ why
          (ap (λ (rows : List (Code × Vec Code Global)). map shown_session c.loop-session.list.items
          ++ sessions_left office c.args.number (rows_of r (keys_of rows))) (sym c.in-Some.ensures.steps)
          ∙ c.loop-session.invariant.3),
    )
