-- The lists of the sessions walked so far are back, all others are as they were; each session is kept once.
use Rattle.std.proofs.Common.{◌≡◌, ◌∷◌, true, List, Vec, sym, subst, ◌∙◌}
use Rattle.std.specs.Cmp.Lexicographic.{nat_list_cmp_total}
use Rattle.std.specs.Global.{Global}
use Rattle.std.specs.Map.{keys_of}
use Rattle.std.proofs.lemmas.Map.Keys.{sorted_tail}
use Rattle.std.proofs.lemmas.Map.Lookups.{exact_bytes}
use Rattle.exam_rules.specs.declared.listing.Entrant.{Entrant}
use Rattle.exam_rules.specs.Orders.{KeysRise}
use Rattle.exam_rules.specs.Relations.{Code, code_cmp, has_row}
use Rattle.exam_office.specs.Relisting.{list_before}
use Rattle.exam_changes.proofs.Exchanges.{has_first, has_later}
use Rattle.exam_office.proofs.ListsPutBack.{back_more}
use Rattle.exam_office.proofs.relisting.put_back.Goals as goal

pub put_members-requires : goal.put_members-requires
put_members-requires c =
    c.loop-session.invariant.there c.in-Some.session
    (subst (λ (rows : List (Code × Vec Entrant Global)). has_row code_cmp rows c.in-Some.session ≡ true)
    (sym c.in-Some.ensures.steps)
    (has_first code_cmp nat_list_cmp_total exact_bytes (c.in-Some.session, c.in-Some.list) c.next.new.self))

pub loop-session-preserved : goal.loop-session-preserved
loop-session-preserved c =
    let turn : Code × Vec Entrant Global = (c.in-Some.session, c.in-Some.list) in
    let rest : List (Code × Vec Entrant Global) = c.next.new.self in
    let up : KeysRise code_cmp (turn ∷ rest) =
    subst (KeysRise code_cmp) c.in-Some.ensures.steps c.loop-session.invariant.rises in
    record {
      there = λ s has.
          c.put_members.ensures.stay s
          (c.loop-session.invariant.there s
          (subst (λ (rows : List (Code × Vec Entrant Global)). has_row code_cmp rows s ≡ true)
          (sym c.in-Some.ensures.steps) (has_later code_cmp nat_list_cmp_total exact_bytes turn rest s has)));
      rises = sorted_tail code_cmp c.in-Some.session (keys_of rest) up;
      so_far = λ s.
          back_more rest c.in-Some.session c.in-Some.list c.loop-session.lists c.put_members.new.self up
          c.put_members.ensures.members s
          ∙ subst (λ (rows : List (Code × Vec Entrant Global)). list_before rows c.loop-session.lists s
          ≡ list_before c.args.before.entries c.args.lists.now s) c.in-Some.ensures.steps
          (c.loop-session.invariant.so_far s);
      halls = c.put_members.ensures.halls ∙ c.loop-session.invariant.halls;
    }
