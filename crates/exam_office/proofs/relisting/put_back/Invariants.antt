use Rattle.std.proofs.Common.{◌≡◌, IsTrue}
use Rattle.exam_rules.specs.Orders.{KeysRise}
use Rattle.exam_rules.specs.Relations.{Code, code_cmp, has_row}
use Rattle.exam_office.specs.Relisting.{list_before}
use Rattle.exam_office.proofs.relisting.put_back.Given as goal

-- the lists with those that are left put back are the lists with all put back
abbrev pub invariant-loop-session : goal.invariant-loop-session
invariant-loop-session l = record {
  there : (s : Code) → IsTrue (has_row code_cmp l.session-iterator s)
      → IsTrue (has_row code_cmp l.lists.members.entries s);
  rises : KeysRise code_cmp l.session-iterator;
  so_far : (s : Code) → list_before l.session-iterator l.lists s ≡ list_before l.fn.before.entries l.fn.lists s;
  halls : l.lists.halls.entries ≡ l.fn.lists.halls.entries;
}
