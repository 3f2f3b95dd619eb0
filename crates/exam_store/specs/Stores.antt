-- An office and the connection to the database that keeps it.
use Rattle.std.specs.Prelude.{refl}
use Rattle.std.specs.Coded.{Coded, code_by, coded×}
use Rattle.sqlite.specs.Held.{Held, held_code}
use Rattle.exam_commands.specs.State.{State}
use Rattle.exam_office.specs.contracts.office.Office as office

pub record OfficeIn (S : Type 0) : Type 0 where
  pub office : State
  pub database : Held S

-- a pair of its fields represents it
abbrev pub office_code : {S : Type 0} → Coded S → Coded (OfficeIn S)
office_code {S} store =
    code_by (State × Held S) (coded× office.the_row.coded (held_code store))
    (λ s. (s.office, s.database)) (λ p. record { office = p.0; database = p.1 }) (λ _. refl)
