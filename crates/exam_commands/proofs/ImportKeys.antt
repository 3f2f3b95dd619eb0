-- Keys are equal exactly if `same_key` says so, and exactly if they compare as equal.
use Rattle.std.proofs.Common.{◌≡◌, ◌∙◌, true, refl, sym, ap, ℕ, List}
use Rattle.std.specs.Prelude.{nat_eq, ◌&&◌}
use Rattle.std.specs.declared.cmp.Ordering.{Ordering}
use Rattle.std.specs.declared.cmp.Ordering.TheVariants.{Less, Equal, Greater}
use Rattle.std.specs.Cmp.{tied_itself, unsigned_ties}
use Rattle.std.specs.Cmp.Lexicographic.{pointwise, slice_cmp, texts_ties}
use Rattle.std.specs.Ordering.{is_eq, nat_cmp, ordering_then}
use Rattle.exam_commands.specs.declared.import_row.Key.{Key}
use Rattle.exam_commands.specs.declared.import_row.Key.TheVariants as key
use Rattle.exam_commands.specs.contracts.import_row.KeyOrd.TheImpl as keys
use Rattle.exam_commands.specs.contracts.import_row.KeyOrd.TheImpl.Laws as key_laws
use Rattle.exam_commands.specs.Imports.{same_key}
use Rattle.exam_commands.proofs.ImportRowsEqual.{never, numbers, texts}
use Rattle.exam_rules.specs.Relations.{Code, same_code}
use Rattle.exam_commands.proofs.KeyedRows.{flips}
use Rattle.std.proofs.lemmas.Bool.{and_parts}

two_texts : (a b s t : List ℕ) → (pointwise nat_eq a b && pointwise nat_eq s t) ≡ true
    → key.OfOpening a s ≡ key.OfOpening b t
two_texts a b s t e =
    ap (λ k. key.OfOpening k s) (texts a b (and_parts _ _ e).0) ∙ ap (key.OfOpening b) (texts s t (and_parts _ _ e).1)

number_and_text : (a b : ℕ) (s t : List ℕ) → (nat_eq a b && pointwise nat_eq s t) ≡ true
    → key.OfEntry a s ≡ key.OfEntry b t
number_and_text a b s t e =
    ap (λ k. key.OfEntry k s) (numbers a b (and_parts _ _ e).0) ∙ ap (key.OfEntry b) (texts s t (and_parts _ _ e).1)

pub key_exact : (a b : Key) → same_key a b ≡ true → a ≡ b
key_exact (key.OfSession a) (key.OfSession b) e = ap key.OfSession (texts a b e)
key_exact (key.OfPaper a) (key.OfPaper b) e = ap key.OfPaper (texts a b e)
key_exact (key.OfHall a) (key.OfHall b) e = ap key.OfHall (texts a b e)
key_exact (key.OfOpening a s) (key.OfOpening b t) e = two_texts a b s t e
key_exact (key.OfCandidate a) (key.OfCandidate b) e = ap key.OfCandidate (numbers a b e)
key_exact (key.OfEntry a s) (key.OfEntry b t) e = number_and_text a b s t e
key_exact (key.OfArrangement a) (key.OfArrangement b) e = ap key.OfArrangement (numbers a b e)
key_exact a b e = never e

pub both : (o p : Ordering) → is_eq (ordering_then o p) ≡ (is_eq o && is_eq p)
both Less p = refl
both Equal p = refl
both Greater p = refl

pub text_cmp : (a b : List ℕ) → is_eq (slice_cmp nat_cmp a b) ≡ pointwise nat_eq a b
text_cmp a b = sym (texts_ties a b)

pub number_cmp : (a b : ℕ) → is_eq (nat_cmp a b) ≡ nat_eq a b
number_cmp a b = sym (unsigned_ties a b)

pub cmp_same : (a b : Key) → is_eq (keys.ghosts.cmp a b) ≡ same_key a b
cmp_same (key.OfSession a) (key.OfSession b) = text_cmp a b
cmp_same (key.OfPaper a) (key.OfPaper b) = text_cmp a b
cmp_same (key.OfHall a) (key.OfHall b) = text_cmp a b
cmp_same (key.OfOpening a s) (key.OfOpening b t) =
    both (slice_cmp nat_cmp a b) (slice_cmp nat_cmp s t)
    ∙ ap (λ x. x && is_eq (slice_cmp nat_cmp s t)) (text_cmp a b) ∙ ap (λ x. pointwise nat_eq a b && x) (text_cmp s t)
cmp_same (key.OfCandidate a) (key.OfCandidate b) = number_cmp a b
cmp_same (key.OfEntry a s) (key.OfEntry b t) =
    both (nat_cmp a b) (slice_cmp nat_cmp s t)
    ∙ ap (λ x. x && is_eq (slice_cmp nat_cmp s t)) (number_cmp a b) ∙ ap (λ x. nat_eq a b && x) (text_cmp s t)
cmp_same (key.OfArrangement a) (key.OfArrangement b) = number_cmp a b
cmp_same a b = refl

pub key_itself : (k : Key) → same_key k k ≡ true
key_itself k = sym (cmp_same k k) ∙ ap is_eq (tied_itself key_laws.total-law k)

pub key_flips : (a b : Key) → same_key a b ≡ same_key b a
key_flips a b = sym (cmp_same a b) ∙ flips keys.ghosts.cmp key_laws.total-law a b ∙ cmp_same b a

pub number_flips : (c d : ℕ) → nat_eq c d ≡ nat_eq d c
number_flips c d = key_flips (key.OfCandidate c) (key.OfCandidate d)

pub code_flips : (s t : Code) → same_code s t ≡ same_code t s
code_flips s t = key_flips (key.OfSession s) (key.OfSession t)
