-- The first bad table, of those that could be read and those that could not.
use Rattle.std.proofs.Common.{◌≡◌, List, [], ◌∷◌, Option, Some, inl, inr, sym, subst}
use Rattle.sqlite_trees.specs.Tree.{Trees}
use Rattle.exam_commands.specs.Good.{IsFirstBadOf, IsTableGood}
use Rattle.exam_commands.specs.State.{State}
use Rattle.exam_commands.specs.declared.table.Table.{Table}
use Rattle.exam_check.specs.FirstBad.{HoldsNoTable, IsFirstBadIn, IsFirstOf, IsFirstUnread}

same_table : (a b : Table) → ◌≡◌ {A = Option Table} (Some a) (Some b) → a ≡ b
same_table a b is = cc

-- the table that is found bad is not good
found_bad : (o : State) (b : Table) (ts : List Table) → IsFirstBadOf o ts (Some b) → IsTableGood o b → ⊥
found_bad o b [] none good = absurd cc
found_bad o b (t ∷ ts) (inl (bad, is)) good = bad (subst (IsTableGood o) (same_table b t is) good)
found_bad o b (t ∷ ts) (inr (before, more)) good = found_bad o b ts more good

-- and no office has the rows of the unread one
found_unread : (all : Trees) (o : State) (u : Table) (ts : List Table) → IsFirstUnread all o ts (Some u)
    → HoldsNoTable all u
found_unread all o u [] none = absurd cc
found_unread all o u (t ∷ ts) (inl (none, is)) = subst (HoldsNoTable all) (sym (same_table u t is)) none
found_unread all o u (t ∷ ts) (inr (held, more)) = found_unread all o u ts more

-- The first of the bad table that is found among what was read, and of the first that could not be read, is the first
-- bad one of the tables.
pub first_in : (all : Trees) (o : State) (bad unread found : Option Table) (ts : List Table)
    → IsFirstUnread all o ts unread → IsFirstBadOf o ts bad → IsFirstOf ts bad unread found
    → IsFirstBadIn all o ts found
first_in all o bad unread found [] read judged first = first
first_in all o bad unread found (t ∷ ts) (inl (none, is)) judged (inl (one, first)) = inl (inl none, first)
first_in all o bad unread found (t ∷ ts) (inl (none, is)) judged (inr (not_bad, not_unread, more)) =
    absurd (not_unread is)
first_in all o bad unread found (t ∷ ts) (inr (held, read)) (inl (wrong, is)) (inl (one, first)) =
    inl (inr (held, wrong), first)
first_in all o bad unread found (t ∷ ts) (inr (held, read)) (inl (wrong, is)) (inr (not_bad, not_unread, more)) =
    absurd (not_bad is)
first_in all o bad unread found (t ∷ ts) (inr (held, read)) (inr (good, judged)) (inl (inl is, first)) =
    absurd (found_bad o t ts (subst (IsFirstBadOf o ts) is judged) good)
first_in all o bad unread found (t ∷ ts) (inr (held, read)) (inr (good, judged)) (inl (inr is, first)) =
    absurd (found_unread all o t ts (subst (IsFirstUnread all o ts) is read) o held)
first_in all o bad unread found (t ∷ ts) (inr (held, read)) (inr (good, judged)) (inr (not_bad, not_unread, more)) =
    inr (held, good, first_in all o bad unread found ts read judged more)
