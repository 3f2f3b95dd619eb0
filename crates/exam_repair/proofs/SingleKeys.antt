-- The keys of appeals that a candidate may have only once are the same exactly if they compare as equal.
use Rattle.std.proofs.Common.{◌≡◌, ◌∙◌, Bool, true, false, refl, ap}
use Rattle.std.proofs.Math.Path.{fun_ext}
use Rattle.std.specs.Prelude.{◌&&◌, nat_eq}
use Rattle.std.specs.Ordering.{eq_by_cmp, is_eq, nat_cmp, ordering_then}
use Rattle.std.specs.declared.cmp.Ordering.{Ordering}
use Rattle.exam_rules.specs.Relations.{code_cmp, same_code}
use Rattle.exam_commands.specs.contracts.single.SingleOrd.TheImpl as singles
use Rattle.exam_commands.specs.declared.single.Single.{Single}
use Rattle.exam_commands.specs.declared.single.Single.TheVariants as single
use Rattle.exam_commands.specs.Singles.{SingleKey, same_single, same_single_key}
use Rattle.exam_commands.proofs.ImportKeys.{both, number_cmp, text_cmp}

-- as the code compares them
abbrev pub single_cmp : SingleKey → SingleKey → Ordering
single_cmp x y = ordering_then (ordering_then (code_cmp x.0 y.0) (nat_cmp x.1 y.1)) (singles.ghosts.cmp x.2 y.2)

kind_cmp : (a b : Single) → is_eq (singles.ghosts.cmp a b) ≡ same_single a b
kind_cmp single.GrantedClash single.GrantedClash = refl
kind_cmp single.GrantedArrangement single.GrantedArrangement = refl
kind_cmp single.OpenHall single.OpenHall = refl
kind_cmp single.OpenClash single.OpenClash = refl
kind_cmp single.OpenArrangement single.OpenArrangement = refl
kind_cmp a b = refl

from_right : (a b c : Bool) → ((a && b) && c) ≡ (a && (b && c))
from_right true b c = refl
from_right false b c = refl

key_cmp : (x y : SingleKey) → eq_by_cmp single_cmp x y ≡ same_single_key x y
key_cmp x y =
    both (ordering_then (code_cmp x.0 y.0) (nat_cmp x.1 y.1)) (singles.ghosts.cmp x.2 y.2)
    ∙ ap (λ b. b && is_eq (singles.ghosts.cmp x.2 y.2))
    (both (code_cmp x.0 y.0) (nat_cmp x.1 y.1) ∙ ap (λ b. b && is_eq (nat_cmp x.1 y.1)) (text_cmp x.0 y.0)
    ∙ ap (λ b. same_code x.0 y.0 && b) (number_cmp x.1 y.1))
    ∙ ap (λ b. (same_code x.0 y.0 && nat_eq x.1 y.1) && b) (kind_cmp x.2 y.2)
    ∙ from_right (same_code x.0 y.0) (nat_eq x.1 y.1) (same_single x.2 y.2)

pub compared_same : eq_by_cmp single_cmp ≡ same_single_key
compared_same = fun_ext (λ x. fun_ext (λ y. key_cmp x y))
