-- The first bad one of some tables, and of these with more behind them.
use Rattle.std.proofs.Common.{◌≡◌, List, [], ◌∷◌, ◌++◌, Option, None, Some, Result, Ok, Err, IfOk, inl, inr}
use Rattle.exam_types.specs.declared.refusal.Refusal.{Refusal}
use Rattle.exam_commands.specs.Good.{IsFirstBadOf}
use Rattle.exam_commands.specs.State.{State}
use Rattle.exam_commands.specs.declared.table.Table.{Table}
use Rattle.exam_commands.specs.declared.table.Table.TheVariants as table

-- those that imports fill
abbrev pub of_imports : List Table
of_imports = table.Sessions ∷ table.Papers ∷ table.Halls ∷ table.Openings ∷ table.Candidates ∷ table.Entries
    ∷ table.Arrangements ∷ []

abbrev pub others : List Table
others = table.Appeals ∷ table.Standing ∷ table.Seats ∷ []

some_is_none : (t : Table) → Some t ≡ None → ⊥
some_is_none t e = cc

none_is_some : (t : Table) → None ≡ Some t → ⊥
none_is_some t e = cc

pub stops : (office : State) (ts us : List Table) (t : Table) → IsFirstBadOf office ts (Some t)
    → IsFirstBadOf office (ts ++ us) (Some t)
stops office [] us t none = absurd (some_is_none t none)
stops office (u ∷ ts) us t (inl bad) = inl bad
stops office (u ∷ ts) us t (inr (good, more)) = inr (good, stops office ts us t more)

goes_on : (office : State) (ts us : List Table) (found : Option Table) → IsFirstBadOf office ts None
    → IsFirstBadOf office us found → IsFirstBadOf office (ts ++ us) found
goes_on office [] us found none rest = rest
goes_on office (u ∷ ts) us found (inl (bad, e)) rest = absurd (none_is_some u e)
goes_on office (u ∷ ts) us found (inr (good, more)) rest = inr (good, goes_on office ts us found more rest)

pub goes_on_ok : (office : State) (ts us : List Table) (r : Result (Option Table) Refusal)
    → IsFirstBadOf office ts None → IfOk r (λ found. IsFirstBadOf office us found)
    → IfOk r (λ found. IsFirstBadOf office (ts ++ us) found)
goes_on_ok office ts us (Ok found) none rest = goes_on office ts us found none rest
goes_on_ok office ts us (Err e) none rest = tt
