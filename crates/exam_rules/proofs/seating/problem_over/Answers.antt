-- Desks, fits and ranks are made of the same members and halls, so they have one length each; put together they are
-- the seating problem of the rules.
use Rattle.exam_rules.proofs.Words.{length-map, holds, halls_below, sets_of, most_members, Code, Relations}
use Rattle.exam_rules.proofs.Words.{relations_of, members, desks, open_halls, fitting_places, desk_key, rank}
use Rattle.std.proofs.Common.{◌≡◌, ◌≤◌, ◌<◌, nat_eq, true, ℕ, List, Option, length, map, ap, sym, subst, ◌∙◌, arith}
use Rattle.std.specs.Prelude.{All}
use Rattle.std.specs.List.{IsDistinct}
use Rattle.exam_plan.specs.HallSets.{most_halls, set_of_mask}
use Rattle.exam_rules.specs.Seatings.{ranks_of}
use Rattle.exam_rules.proofs.Ranking.{ranks_distinct, parts_are, ranks_of_members}
use Rattle.exam_rules.proofs.seating.problem_over.Goals as goal

-- fit rows over the members, if the halls are the open ones
fit_of_halls : (r : Relations) (s : Code) (halls : List Code) → halls ≡ open_halls r s
    → map (λ n. fitting_places r s n halls) (members r s)
    ≡ map (λ n. fitting_places r s n (open_halls r s)) (members r s)
fit_of_halls r s halls h = ap (λ (t : List Code). map (λ n. fitting_places r s n t) (members r s)) h

-- their ranks
ranks_of_keys : (r : Relations) (s : Code) (keys : List (Option Code × ℕ)) → keys ≡ map (desk_key r s) (members r s)
    → ranks_of keys ≡ map (rank r s) (members r s)
ranks_of_keys r s keys k = ap ranks_of k ∙ ranks_of_members r s

pub ranks-requires : goal.ranks-requires
ranks-requires c =
    let long : length c.args.keys.now ≡ length (members (relations_of c.args.facts.now) c.args.session.now) =
    ap length c.requires.keys
    ∙ length-map (members (relations_of c.args.facts.now) c.args.session.now)
    (desk_key (relations_of c.args.facts.now) c.args.session.now) in
    let same : length c.args.numbers.items ≡ length (members (relations_of c.args.facts.now) c.args.session.now) =
    ap length c.requires.numbers in
    omega arith

-- the desks are as many as the halls
desks_long : (r : Relations) (s : Code) (counts : List ℕ) (halls : List Code) → counts ≡ map (desks r s) halls
    → length counts ≡ length halls
desks_long r s counts halls e = ap length e ∙ length-map halls (desks r s)

pub fit_table-requires : goal.fit_table-requires
fit_table-requires c = record {
  keys = c.requires.keys;
  few = subst (λ (halls : List Code). length halls ≤ most_halls) (sym c.deref-2.ensures.value) c.requires.few_halls;
}

-- the rows of the problem
rows_are : (r : Relations) (s : Code) (counts sets : List ℕ) (halls : List Code) → halls ≡ open_halls r s
    → counts ≡ map (desks r s) halls
    → map (halls_below (length halls)) sets ≡ map (λ n. fitting_places r s n halls) (members r s)
    → map (halls_below (length counts)) sets ≡ map (λ n. fitting_places r s n (open_halls r s)) (members r s)
rows_are r s counts sets halls h d m =
    ap (λ n. map (halls_below n) sets) (desks_long r s counts halls d) ∙ m ∙ fit_of_halls r s halls h

-- there is a row of each member
rows_long : (r : Relations) (s : Code) (n : ℕ) (sets : List ℕ) (halls : List Code)
    → map (halls_below n) sets ≡ map (λ m. fitting_places r s m halls) (members r s)
    → length sets ≡ length (members r s)
rows_long r s n sets halls e =
    sym (length-map sets (halls_below n)) ∙ ap length e ∙ length-map (members r s) (λ m. fitting_places r s m halls)

pub from_masks-requires : goal.from_masks-requires
from_masks-requires c =
    let r = relations_of c.args.facts.now in
    let s = c.args.session.now in
    let long : length c.in_ok-desks.desks.items ≡ length c.deref-2.result.now =
    desks_long r s c.in_ok-desks.desks.items c.deref-2.result.now
    (c.in_ok-desks.ensures.ok ∙ ap (map (desks r s)) (c.deref.ensures.value ∙ sym c.deref-2.ensures.value)) in
    let halls : length c.deref-2.result.now ≡ length c.args.halls.items = ap length c.deref-2.ensures.value in
    let rows : length c.in_ok-fit.fit.items ≡ length (members r s) =
    sym (length-map c.in_ok-fit.fit.items set_of_mask)
    ∙ rows_long r s (length c.deref-2.result.now)
    (sets_of c.in_ok-fit.fit.items) c.deref-2.result.now c.in_ok-fit.ensures.ok in
    let same : length c.args.numbers.items ≡ length (members r s) = ap length c.requires.numbers in
    let ranked : c.in_ok-rank.rank.items ≡ map (rank r s) (members r s) =
    c.in_ok-rank.ensures.ok ∙ ranks_of_keys r s c.args.keys.now c.requires.keys in record {
      few_halls = subst (λ n. n ≤ most_halls) (sym (long ∙ halls)) c.requires.few_halls;
      few = subst (λ n. n ≤ most_members) (same ∙ sym rows) c.requires.few;
      ranked = ap length ranked ∙ length-map (members r s) (rank r s) ∙ sym rows;
      distinct = subst (IsDistinct nat_eq) (sym ranked) (ranks_distinct r s c.requires.rising);
      exist = subst (λ n. All (λ set. (h : ℕ) → holds set h ≡ true → h < n) (sets_of c.in_ok-fit.fit.items))
          (sym long) c.in_ok-fit.ensures.exist;
    }

pub returns-clause-ok : goal.returns-clause-ok
returns-clause-ok c =
    let r = relations_of c.args.facts.now in
    let s = c.args.session.now in
    c.in_ok-problem.ensures.problem
    ∙ parts_are r s c.in_ok-desks.desks.items
    (map (halls_below (length c.in_ok-desks.desks.items)) (sets_of c.in_ok-fit.fit.items)) c.in_ok-rank.rank.items
    (c.in_ok-desks.ensures.ok ∙ ap (map (desks r s)) (c.deref.ensures.value ∙ c.requires.halls))
    (rows_are r s c.in_ok-desks.desks.items (sets_of c.in_ok-fit.fit.items) c.deref-2.result.now
    (c.deref-2.ensures.value ∙ c.requires.halls)
    (c.in_ok-desks.ensures.ok ∙ ap (map (desks r s)) (c.deref.ensures.value ∙ sym c.deref-2.ensures.value))
    c.in_ok-fit.ensures.ok)
    (c.in_ok-rank.ensures.ok ∙ ranks_of_keys r s c.args.keys.now c.requires.keys)
