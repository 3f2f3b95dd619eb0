-- A text that every database understands, whatever its schema.
use Rattle.exam_sql.proofs.Words.{Compiled, CompileError, Schema, everything, Error, understood, State, IsNotRun}
use Rattle.std.proofs.Common.{◌≡◌, ℕ, length, codes, List, [], ◌∷◌, inl, inr, Result, Ok, Err, arith, refl, ap, sym}
use Rattle.std.proofs.Common.{◌∙◌}
use Rattle.sqlite.specs.State.{Fails}

abbrev pub one : List ℕ
one = codes "SELECT 1"

tail_of : Result Compiled CompileError → ℕ
tail_of (Ok c) = c.tail
tail_of (Err e) = 0

names_of : Result Compiled CompileError → ℕ
names_of (Ok c) = length c.names
names_of (Err e) = 0

formats_of : Result Compiled CompileError → ℕ
formats_of (Ok c) = length c.formats
formats_of (Err e) = 0

none : (formats : List (List ℕ)) → length formats ≡ 0 → formats ≡ []
none [] is = refl
none (f ∷ fs) is = absurd (omega arith)

no_fault : (schema : Schema) (fault : CompileError) → understood schema one ≡ Err fault → ⊥
unfolding understood everything
no_fault schema fault is = absurd cc

its_tail : (schema : Schema) → tail_of (understood schema one) ≡ 8
unfolding understood everything tail_of
its_tail schema = refl

its_names : (schema : Schema) → names_of (understood schema one) ≡ 0
unfolding understood everything names_of
its_names schema = refl

its_formats : (schema : Schema) → formats_of (understood schema one) ≡ 0
unfolding understood everything formats_of
its_formats schema = refl

-- it fails only where every text does
pub only_fails : (old new : State) (e : Error) → IsNotRun old new one [] e → Fails old new ⊥ e
unfolding IsNotRun tail_of names_of formats_of
only_fails old new e (inl (inl (fault, is, told), same)) = absurd (no_fault old.now.schema fault is)
only_fails old new e (inl (inr (c, is, inl (more, told)), same)) =
    absurd (more (omega (arith, its_tail old.now.schema, ap tail_of is)))
only_fails old new e (inl (inr (c, is, inr (inl (other, told))), same)) =
    absurd (other (sym (its_names old.now.schema) ∙ ap names_of is))
only_fails old new e (inl (inr (c, is, inr (inr (timed, told))), same)) =
    absurd (timed (none c.formats (sym (ap formats_of is) ∙ its_formats old.now.schema)))
only_fails old new e (inr fails) = fails
