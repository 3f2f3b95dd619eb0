-- The numbers by which refusals are printed, and the commonest clause about them.
use Rattle.std.specs.Prelude.{◌≡◌, ℕ, Result, IfErr}
use Rattle.exam_types.specs.declared.refusal.Refusal.{Refusal}
use Rattle.exam_types.specs.declared.refusal.Refusal.TheVariants.{BadRow, BadHeader, RowConflict}
use Rattle.exam_types.specs.declared.refusal.Refusal.TheVariants.{UnknownSession, UnknownPaper}
use Rattle.exam_types.specs.declared.refusal.Refusal.TheVariants.{UnknownCandidate, UnknownHall, NoEntry}
use Rattle.exam_types.specs.declared.refusal.Refusal.TheVariants.{AlreadyWithdrawn, NotWithdrawn}
use Rattle.exam_types.specs.declared.refusal.Refusal.TheVariants.{NotSeatedThere, NotInSession, PastClosing}
use Rattle.exam_types.specs.declared.refusal.Refusal.TheVariants.{RefTaken, UnknownAppeal, NotOpenAppeal}
use Rattle.exam_types.specs.declared.refusal.Refusal.TheVariants.{TooLate, NoClash, NothingToChange, TooMany}
use Rattle.exam_types.specs.declared.refusal.Refusal.TheVariants.{AppealStands, NoMemory, Store, BadStore}
use Rattle.exam_types.specs.declared.refusal.Refusal.TheVariants.{HallNotOpened, NotArrangement, OldSchema}

abbrev pub refusal_number : Refusal → ℕ
refusal_number (BadRow row column) = 1
refusal_number BadHeader = 2
refusal_number (RowConflict row) = 3
refusal_number UnknownSession = 4
refusal_number UnknownPaper = 5
refusal_number UnknownCandidate = 6
refusal_number UnknownHall = 7
refusal_number NoEntry = 8
refusal_number AlreadyWithdrawn = 9
refusal_number NotWithdrawn = 10
refusal_number NotSeatedThere = 11
refusal_number NotInSession = 12
refusal_number (PastClosing day) = 13
refusal_number RefTaken = 14
refusal_number UnknownAppeal = 15
refusal_number NotOpenAppeal = 16
refusal_number TooLate = 17
refusal_number NoClash = 18
refusal_number NothingToChange = 19
refusal_number TooMany = 20
refusal_number AppealStands = 21
refusal_number NoMemory = 22
refusal_number Store = 23
refusal_number BadStore = 24
refusal_number HallNotOpened = 25
refusal_number NotArrangement = 26
refusal_number OldSchema = 27

-- the call refuses only where memory runs out
abbrev pub OnlyMemory : {A : Type 0} → Result A Refusal → Type 0
OnlyMemory result = IfErr result (λ e. e ≡ NoMemory)
