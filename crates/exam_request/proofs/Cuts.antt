-- The segment of a path, and the parts around its first slash.
use Rattle.std.proofs.Common.{◌≡◌, ◌⊎◌, inl, inr, ℕ, zero, suc, ◌-◌, List, [], ◌∷◌, ◌++◌, length, drop, Some, None}
use Rattle.std.proofs.Common.{Bool, true, false, cond, refl, ap, ◌∙◌, arith, nat_eq, ◌==◌, true≢false, length-append}
use Rattle.std.specs.Cmp.Lexicographic.{pointwise, bytes_decides}
use Rattle.std.proofs.Math.Seq.{drop-append_seam}
use Rattle.std.proofs.lemmas.Bool.Decides.{nat_tests}
use Rattle.matchit.specs.Seek.{cuts, has_slash, segment}
use Rattle.exam_request.specs.Targets.{behind, part}

-- a path without a slash
pub record IsWhole (path : List ℕ) : Type 0 where
  pub behind_is : behind path ≡ None
  pub part_is : part path ≡ path
  pub segment_is : segment path ≡ path
  pub slash : has_slash path ≡ false

-- a path with a slash, and the bytes behind the first
pub record IsCut (path rest : List ℕ) : Type 0 where
  pub behind_is : behind path ≡ Some rest
  pub text : path ≡ part path ++ 47 ∷ rest
  pub segment_is : segment path ≡ part path ++ 47 ∷ []
  pub slash : has_slash path ≡ true

abbrev pub Cut : List ℕ → Type 0
Cut path = IsWhole path ⊎ ((rest : List ℕ) × IsCut path rest)

pub cut : (path : List ℕ) → Cut path
cut [] = inl (record { behind_is = refl; part_is = refl; segment_is = refl; slash = refl })
cut (b ∷ path) = by (b == 47) refl (cut path)
  where
    by : (v : Bool) → (b == 47) ≡ v → Cut path → Cut (b ∷ path)
    by true e c =
        let is : b ≡ 47 = grind (arith, nat_tests) in
        inr (
          path,
          record {
            behind_is = rw e refl;
            text = rw (e, is) refl;
            segment_is = rw (e, is) refl;
            slash = rw e refl;
          },
        )
    by false e (inl w) =
        inl (record {
          behind_is = rw e w.behind_is;
          part_is = rw e (ap (λ x. b ∷ x) w.part_is);
          segment_is = rw e (ap (λ x. b ∷ x) w.segment_is);
          slash = rw e w.slash;
        })
    by false e (inr (rest, w)) =
        inr (
          rest,
          record {
            behind_is = rw e w.behind_is;
            text = rw e (ap (λ x. b ∷ x) w.text);
            segment_is = rw e (ap (λ x. b ∷ x) w.segment_is);
            slash = rw e w.slash;
          },
        )

no_slash_later : (n : ℕ) (path : List ℕ) → has_slash path ≡ false → has_slash (drop n path) ≡ false
no_slash_later zero path h = h
no_slash_later (suc n) [] h = refl
no_slash_later (suc n) (b ∷ path) h = by (b == 47) h (no_slash_later n path)
  where
    by : (v : Bool) → cond v true (has_slash path) ≡ false → (has_slash path ≡ false → has_slash (drop n path) ≡ false)
        → has_slash (drop n path) ≡ false
    by true h later = absurd (true≢false h)
    by false h later = later h

-- a parameter before a slash leaves the slash if some byte precedes it
pub cuts_none : (path : List ℕ) → has_slash path ≡ false → cuts path (47 ∷ []) ≡ false
cuts_none path h = by (pointwise nat_eq (47 ∷ []) (drop (length path - 1) path)) refl
  where
    by : (v : Bool) → pointwise nat_eq (47 ∷ []) (drop (length path - 1) path) ≡ v → cuts path (47 ∷ []) ≡ false
    by true e =
        let ends : 47 ∷ [] ≡ drop (length path - 1) path =
        (bytes_decides (47 ∷ []) (drop (length path - 1) path)).0 e in
        let none = no_slash_later (length path - 1) path h in
        absurd (true≢false (rw (← ends) at none))
    by false e = rw e (grind (arith, nat_tests))

pub cuts_slash : (x : ℕ) (q : List ℕ) → cuts ((x ∷ q) ++ 47 ∷ []) (47 ∷ []) ≡ true
cuts_slash x q =
    let size : length (q ++ 47 ∷ []) ≡ length (x ∷ q) = length-append q (47 ∷ []) ∙ omega arith in
    let start : suc (length (x ∷ q)) - 1 ≡ length (x ∷ q) = omega arith in
    rw (size, start, drop-append_seam (x ∷ q) (47 ∷ [])) (grind (arith, nat_tests))
