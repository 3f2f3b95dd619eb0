-- What a reader of a column or of a whole row answers.
use Rattle.std.specs.Prelude.{Bool, ℕ, List, ◌≡◌, ◌⊎◌, Result, Ok, Err, IsTrue, IfErr}
use Rattle.sqlite_value.specs.declared.value.Value.{Value}
use Rattle.sqlite_value.specs.declared.value.Value.TheVariants.{Text}
use Rattle.sqlite_value.specs.Order.{Row, column}
use Rattle.exam_types.specs.Texts.{is_name, is_reason}
use Rattle.exam_types.specs.declared.refusal.Refusal.{Refusal}
use Rattle.exam_types.specs.declared.refusal.Refusal.TheVariants.{NoMemory, BadStore}

-- a value of the kind whose stored form is shown, or a refusal if no value has that form
abbrev pub Reads : {V W : Type 0} → (V → Type 0) → (V → W) → W → Result V Refusal → Type 0
Reads IsOne stored shown (Ok value) = IsOne value × (shown ≡ stored value)
Reads IsOne stored shown (Err e) = (e ≡ BadStore) × ((value : _) → IsOne value → shown ≡ stored value → ⊥)

-- what `Reads` says, or memory ran out
abbrev pub MayRead : {V W : Type 0} → (V → Type 0) → (V → W) → W → Result V Refusal → Type 0
MayRead IsOne stored shown result = (result ≡ Err NoMemory) ⊎ Reads IsOne stored shown result

-- memory runs out only for a text of the form, which the reader must copy
abbrev pub WantsMemoryOf : {V : Type 0} → (List ℕ → Bool) → Value → Result V Refusal → Type 0
WantsMemoryOf has_form shown result =
    IfErr result (λ e. e ≡ NoMemory → (text : List ℕ) × IsTrue (has_form text) × (shown ≡ Text text))

-- memory runs out only for a row with a column that is a name or a reason, which the reader must copy
abbrev pub WantsMemoryOfRow : {V : Type 0} → Row → Result V Refusal → Type 0
WantsMemoryOfRow row result = IfErr result (λ e. e ≡ NoMemory
    → (at : ℕ) × (text : List ℕ) × (IsTrue (is_name text) ⊎ IsTrue (is_reason text)) × (column row at ≡ Text text))
