-- The line that a call reads, or none.
use Rattle.exam_theorem.proofs.Words.{Text, Refusal, Command, State, Answers, Said, Line, FollowsCommand, FollowsLine}
use Rattle.exam_theorem.proofs.Words.{LineEnd, command_of, line_of}
use Rattle.std.proofs.Common.{◌≡◌, ◌⊎◌, ◌∙◌, ℕ, List, [], ◌∷◌, Option, None, Some, refl, ap, subst, sym, inl, inr}
use Rattle.std.specs.Prelude.{Result, Ok, Err}
use Rattle.clap.specs.Words.{IsAmong, fault_of}
use Rattle.clap.specs.declared.error.kind.ErrorKind.{ErrorKind}
use Rattle.exam_line.specs.Grammar.{grammar}
use Rattle.exam_line.specs.Lines as lines
use Rattle.exam_line.specs.Lines.{said}
use Rattle.exam_line.specs.declared.line.LineFault.{LineFault}
use Rattle.exam_line.specs.declared.line.LineFault.TheVariants.{Help, NoMemory, NotUnderstood, Version}
use Rattle.exam_theorem.specs.Following.{FollowsWords}
use Rattle.exam_theorem.specs.Orders.{said_unless}
use Rattle.exam_theorem.specs.declared.orders.LineStop.TheVariants as stop

pub line_is : (words : List Text) (l : Line) → Answers (Ok l) words → line_of words ≡ Some (lines.shown l)
unfolding line_of
line_is words l h = ap (λ faults. said_unless faults (said words)) h.0 ∙ h.1

-- where something is wrong with the words, they say nothing
nothing_said : (faults : List ErrorKind) (k : ErrorKind) (s : Option Said) → IsAmong k faults
    → said_unless faults s ≡ None
nothing_said [] k s among = absurd among
nothing_said (f ∷ faults) k s among = refl

pub no_line : (words : List Text) (f : LineFault) → Answers (Err f) words → (f ≡ NoMemory) ⊎ (line_of words ≡ None)
unfolding line_of
no_line words NoMemory h = inl refl
no_line words (Help text) h = inr (nothing_said (fault_of grammar words) _ (said words) h)
no_line words Version h = inr (nothing_said (fault_of grammar words) _ (said words) h)
no_line words NotUnderstood (inl h) = inr (ap (λ faults. said_unless faults (said words)) h.0 ∙ h.1)
no_line words NotUnderstood (inr h) = inr (nothing_said (fault_of grammar words) h.0 (said words) h.1)

-- memory runs out before anything is done
short : (asked : Option (Result Command Refusal)) (today : ℕ) (office : State)
    → FollowsCommand asked today office (Err (stop.NoLine NoMemory)) office
short None today office = refl
short (Some (Ok done)) today office = inr (refl, refl)
short (Some (Err refusal)) today office = inr (refl, refl)

short_line : (line : Option Said) (words : List Text) (file : List ℕ) (office : State)
    → FollowsLine line words file office (Err (stop.NoLine NoMemory)) office
short_line None words file office = (NoMemory, refl, tt, refl)
short_line (Some s) words file office = short (command_of s.job file) s.today office

pub unread : (words : List Text) (file : List ℕ) (f : LineFault) (office : State) → Answers (Err f) words
    → FollowsWords words file office (Err (stop.NoLine f)) office
unread words file f office h = by (no_line words f h)
  where
    by : (f ≡ NoMemory) ⊎ (line_of words ≡ None) → FollowsWords words file office (Err (stop.NoLine f)) office
    by (inl is) = subst (λ g. FollowsWords words file office (Err (stop.NoLine g)) office) (sym is)
        (short_line (line_of words) words file office)
    by (inr is) = subst (λ l. FollowsLine l words file office (Err (stop.NoLine f)) office) (sym is) (f, refl, h, refl)

-- a line that was read is followed
pub followed : (words : List Text) (file : List ℕ) (l : Line) (before after : State) (end : LineEnd)
    → Answers (Ok l) words
    → FollowsCommand (command_of (lines.job_shown l.job) file) l.today before end after
    → FollowsWords words file before end after
followed words file l before after end h follows =
    subst (λ line. FollowsLine line words file before end after) (sym (line_is words l h)) follows
