-- Which commands between two equal imports leave what the first one wrote.
use Rattle.std.specs.Prelude.{◌≡◌, ℕ, All, Bool, true, false, List}
use Rattle.exam_commands.specs.declared.command.Command.{Command}
use Rattle.exam_commands.specs.declared.command.Command.TheVariants as command

-- an import, or the closing of a hall
abbrev pub imports_or_closes : Command → Bool
imports_or_closes (command.Import import) = true
imports_or_closes (command.Withdraw c p) = false
imports_or_closes (command.Reinstate c p) = false
imports_or_closes (command.CloseHall s h) = true
imports_or_closes (command.Lodge l) = false
imports_or_closes (command.Retract c reference) = false
imports_or_closes (command.Decide d) = false

-- none of the commands, each with its day, is an import or the closing of a hall
abbrev pub NoneImportsOrCloses : List (Command × ℕ) → Type 0
NoneImportsOrCloses done = All (λ (d : Command × ℕ). imports_or_closes d.0 ≡ false) done
