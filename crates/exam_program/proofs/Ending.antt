-- Connections that end one after the other, and what they leave on standard error.
use Rattle.std.proofs.Common.{◌≡◌, ℕ, List, [], ◌∷◌, ◌++◌, refl, subst}
use Rattle.std.specs.Prelude.{Result}
use Rattle.sqlite_trees.specs.declared.store.Store.{Ghosts}
use Rattle.exam_store.specs.Stores.{OfficeIn}
use Rattle.exam_http.specs.Serving.{ServedOn}
use Rattle.exam_http.specs.declared.serving.HttpFault.{HttpFault}
use Rattle.exam_job.specs.Printed.{Contents}
use Rattle.exam_program.specs.Running.{AreEnded, EndInTurn, EndsOne, TellsEnd}

module _ {S E : Type 0} (g : Ghosts S) (errors : Contents E) (today : ℕ) where
  in_turn : (old : OfficeIn S) (untold : E) (first : List (Result (Unit {0}) HttpFault)) (between : OfficeIn S)
      (mid : E) (end : Result (Unit {0}) HttpFault) (new : OfficeIn S) (told : E)
      → EndInTurn g errors today old untold first between mid → ServedOn g today between new
      → TellsEnd errors end mid told
      → EndInTurn g errors today old untold (first ++ end ∷ []) new told
  in_turn old untold [] between mid end new told same served tells = (
    new,
    told,
    subst (λ (o : OfficeIn S). ServedOn g today o new) same.0 served,
    subst (λ (m : E). TellsEnd errors end m told) same.1 tells,
    (refl, refl),
  )
  in_turn old untold (one ∷ first) between mid end new told (next, said, change, line, rest) served tells =
      (next, said, change, line, in_turn next said first between mid end new told rest served tells)

  -- one more connection ends
  pub ended_next : (old : OfficeIn S) (untold : E) (between : OfficeIn S) (mid : E) (new : OfficeIn S) (told : E)
      → AreEnded g errors today old untold between mid
      → EndsOne g errors today between mid new told → AreEnded g errors today old untold new told
  ended_next old untold between mid new told first one =
      (first.0 ++ one.0 ∷ [], in_turn old untold first.0 between mid one.0 new told first.1 one.1 one.2)
