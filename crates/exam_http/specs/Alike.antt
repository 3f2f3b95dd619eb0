-- Answers that say the same.
use Rattle.std.specs.Prelude.{◌≡◌, ◌⊎◌, Option, Some, None, if◌then◌else◌}
use Rattle.exam_types.specs.declared.refusal.Refusal.TheVariants.{NoMemory, UnknownCandidate, Store, BadStore}
use Rattle.exam_request.specs.Answer.{Told, error_told, method_told, refusal_told}
use Rattle.exam_request.specs.Asked.{Request}
use Rattle.exam_request.specs.Faults.{fault_number}
use Rattle.exam_request.specs.Methods.{is_allowed}
use Rattle.exam_request.specs.Targets.{Target, reading}
use Rattle.exam_request.specs.declared.fault.Fault.TheVariants.{Route}

-- memory ran out, the database failed, or it holds no office
abbrev pub IsFailure : Told → Type 0
IsFailure told =
    (told ≡ refusal_told NoMemory) ⊎ ((told ≡ refusal_told Store) ⊎ (told ≡ refusal_told BadStore))

-- both answers are the same, unless one is that of a failure
abbrev pub AreAlike : Told → Told → Type 0
AreAlike first second = IsFailure first ⊎ (IsFailure second ⊎ (first ≡ second))

-- both answers are the same, unless memory ran out for one of them
abbrev pub AreSame : Told → Told → Type 0
AreSame first second =
    (first ≡ refusal_told NoMemory) ⊎ ((second ≡ refusal_told NoMemory) ⊎ (first ≡ second))

-- the answer to a stranger whose target says this: no such route, no such method, or no such candidate
abbrev pub stranger_told_at : Request → Option Target → Told
stranger_told_at request None = error_told (fault_number Route)
stranger_told_at request (Some target) =
    if is_allowed target.route request.method then refusal_told UnknownCandidate else method_told target.route

-- the answer to a stranger
abbrev pub stranger_told : Request → Told
stranger_told request = stranger_told_at request (reading request.target)
