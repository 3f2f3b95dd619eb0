-- The eleven tables are made one after the other; the table of marks over tables with rows too.
use Rattle.exam_sql.proofs.Words.{first_schema, made, store_schema}
use Rattle.std.proofs.Common.{◌≡◌, ◌+◌, ◌<◌, ℕ, zero, suc, get_or, true, false, refl, subst, arith}
use Rattle.sqlite_schema.specs.Names.{same_name}
use Rattle.exam_sql.specs.Made.{lists_marks}
use Rattle.exam_sql.specs.Tables.{first_tables}
use Rattle.exam_sql.specs.Tables as tables
use Rattle.exam_sql.proofs.OfOffice as office
use Rattle.exam_sql.proofs.EachTable.{adds}
use Rattle.exam_sql.proofs.Making.{AddsTable}
use Rattle.exam_sql.proofs.Names.{Session, Paper, Hall, Candidate, Opening, Entry, Arrangement, Appeal, Seat, Standing}

-- each of the first tables is added to those before it
pub each_added : (k : ℕ) → k < 10 → AddsTable (made k) (made (k + 1)) (get_or first_tables k tables.office)
each_added zero below = office.adds
each_added (suc zero) below = adds Session
each_added (suc (suc zero)) below = adds Paper
each_added (suc (suc (suc zero))) below = adds Hall
each_added (suc (suc (suc (suc zero)))) below = adds Candidate
each_added (suc (suc (suc (suc (suc zero))))) below = adds Opening
each_added (suc (suc (suc (suc (suc (suc zero)))))) below = adds Entry
each_added (suc (suc (suc (suc (suc (suc (suc zero))))))) below = adds Arrangement
each_added (suc (suc (suc (suc (suc (suc (suc (suc zero)))))))) below = adds Appeal
each_added (suc (suc (suc (suc (suc (suc (suc (suc (suc zero))))))))) below = adds Seat
each_added (suc (suc (suc (suc (suc (suc (suc (suc (suc (suc k)))))))))) below = absurd (omega arith)

pub first_is : made 10 ≡ first_schema
unfolding made first_schema
first_is = refl

last_is : made 11 ≡ store_schema
unfolding made store_schema
last_is = refl

-- The table of marks is added to the ten tables of version 1, whatever rows they have: they keep them, and it has none.
pub standing_added : AddsTable first_schema store_schema tables.standing
standing_added = subst (λ s. AddsTable s store_schema tables.standing) first_is
    (subst (λ s. AddsTable (made 10) s tables.standing) last_is (adds Standing))

pub marks_listed : (lists_marks store_schema ≡ true) × (lists_marks first_schema ≡ false)
unfolding store_schema first_schema same_name
marks_listed = (refl, refl)
