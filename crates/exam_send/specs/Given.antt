-- What a reader gave.
use Rattle.std.specs.Prelude.{◌≤◌, ℕ, List, length, Option, IfSome}
use Rattle.std.specs.Io.KnownBytes.{Consumes}

-- The reader gave at most `most` bytes. `Says` holds of them, and of the reader's whole input if that is known.
pub record Gave (most : ℕ) (old new : Option (List ℕ)) (Says : List ℕ → Type 0) : Type 0 where
  pub given : List ℕ
  pub few : length given ≤ most
  pub consumed : Consumes old new given
  pub says : Says given
  pub known : IfSome old Says
