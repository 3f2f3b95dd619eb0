-- The day on which a line's command is applied.
use Rattle.std.specs.Prelude.{◌≡◌, ℕ}
use Rattle.exam_line.specs.declared.line.Job as coded
use Rattle.exam_line.specs.declared.line.Job.TheVariants.{Apply}

-- the day beside a command of the office, and this day for any other job
abbrev pub day_beside : ℕ → coded.Job → ℕ
day_beside today (Apply dated) = dated.1
day_beside today other = today

-- a command of the office is applied on this day
abbrev pub IsOn : ℕ → coded.Job → Type 0
IsOn today job = day_beside today job ≡ today
