-- The codes are those that the command reaches and that exist, and those that it imports. A set lists each code once,
-- rising.
use Rattle.std.proofs.Common.{rules, ◌≡◌, ◌&&◌, ◌||◌, Bool, Contains, List, ap, sym, subst, ◌∙◌}
use Rattle.std.specs.BTreeMap.{is_at}
use Rattle.std.specs.BTreeSet.{contains}
use Rattle.std.specs.List.{list_any}
use Rattle.std.specs.Cmp.Lexicographic.{nat_list_cmp_total}
use Rattle.std.proofs.lemmas.Map.Lookups.{exact_bytes}
use Rattle.std.proofs.lemmas.Map.Views.{btree_set_contains_iff}
use Rattle.exam_rules.specs.Relations.{Code, code_cmp, has_row, relations_of}
use Rattle.exam_commands.specs.Touched as spec
use Rattle.exam_repair.proofs.Gathering.{or_none}
use Rattle.exam_repair.proofs.touching.touched.Goals as goal

pub returns-clause-exact : goal.returns-clause-exact
returns-clause-exact c =
    let listed : c.in_ok-list.list.items ≡ c.add_set.new.codes.keys = search rules in
    λ s.
    let reached : Bool = spec.reaches (relations_of c.args.facts.now) c.args.command.now s in
    let exists : Bool = has_row code_cmp c.args.facts.now.sessions.entries s in
    let found : contains code_cmp c.add_reached.new.codes s ≡ reached =
    c.in_ok-add_reached.ensures.ok s
    ∙ ap (λ (ks : List Code). reached || list_any (is_at (code_cmp s)) ks) c.new-reached.ensures.empty
    ∙ or_none reached in
    let known : contains code_cmp c.add_existing.new.codes s ≡ (exists && reached) =
    c.in_ok-add_existing.ensures.ok s
    ∙ ap (λ (ks : List Code). (exists && contains code_cmp c.add_reached.new.codes s) || list_any
    (is_at (code_cmp s)) ks) c.new-codes.ensures.empty
    ∙ or_none (exists && contains code_cmp c.add_reached.new.codes s)
    ∙ ap (λ b. exists && b) found in
    let is : contains code_cmp c.add_set.new.codes s
    ≡ spec.touches (relations_of c.args.facts.now) c.args.command.now s =
    c.in_ok-add_set.ensures.ok s ∙ ap (λ b. spec.is_set_by c.args.command.now s || b) known in
    let both = btree_set_contains_iff nat_list_cmp_total exact_bytes c.add_set.new.codes s in (
      λ held. sym is ∙ both.1 (subst (λ (ks : List Code). Contains ks s) listed held),
      λ touched. subst (λ (ks : List Code). Contains ks s) (sym listed) (both.0 (is ∙ touched)),
    )
