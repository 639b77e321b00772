-- The kind of a record, and what it says of the record's length.
--     known-kind, kind-some                which numbers stand for a kind
--     plain-bytes, floored-bytes           how many bytes a record of kind 1 or 2 has besides its corners
--     kind-bytes                           a record of another kind counts as one of kind 1
--     fixed-least, fixed-most              how many bytes a record has besides its corners
--     floored-if, plain-if, fixed-floored  which tells the kind
--     judged-valid, valid-judged           judging answers exactly if the list is a shape
--     good→facts, facts→good               what a record is that is not bad
use Rattle.std.specs.Prelude.{◌≡◌, Option, None, Some, IsSome, MatchOption, unwrap_or, Bool, ◌||◌, ◌⊎◌, List, ℕ, ◌-◌, ◌/◌, ◌%◌, ◌≤◌}
use Rattle.std.specs.Prelude.{◌<◌, eqb, ltb, ℤ}
use Rattle.std.proofs.Math.Path.{refl, ap, ap₂}
use Rattle.std.proofs.Common.{sym, ◌∙◌, true≢false, inl, inr}
use Rattle.std.proofs.Math.Bool.{true, false, not, cond}
use native.Mathlib.Omega.{arith}
use borrow.Author.Tests.{ltb-false, le-ltb, eqb-true, eq-eqb, not-true, not-false}
use Rattle.plane.specs.Reply.{Reply, answered, refused}
use Rattle.plane.specs.Refusal.{Valid}
use Rattle.plane.specs.Floor.{on}
use Rattle.plane.specs.Question.{ask_judge}
use Rattle.plane.proofs.theory.refusals.Asked.{asked-shapes, asked-none, rest-none}
use Rattle.plane.proofs.theory.lists.Sought.{either-false}
use Rattle.journal.specs.Format.{fixed_bytes, size, kind, list, judged, is_answer, wrong_length, other_kind, bad}
use Rattle.journal.specs.Kind.{number}
use Rattle.journal.specs.Facts.{Good}
use Rattle.journal.specs.declared.kind.Kind.{Kind}
use Rattle.journal.specs.declared.kind.Kind.TheVariants.{Plain, Floored}

-- ---- the kinds

pub known-kind : (k : Kind) → other_kind (number k) ≡ false
unfolding other_kind
known-kind Plain = refl
known-kind Floored = refl

-- a number that a record may have stands for a kind
pub kind-some : (n : ℕ) (o : Option Kind) → MatchOption o (other_kind n ≡ true) (λ k. n ≡ number k) → other_kind n ≡ false → IsSome o
kind-some n None h known = absurd (true≢false (sym h ∙ known))
kind-some n (Some k) h known = refl

-- ---- the bytes besides the corners

pub plain-bytes : fixed_bytes 1 ≡ 5
unfolding fixed_bytes
plain-bytes = refl

pub floored-bytes : fixed_bytes 2 ≡ 7
unfolding fixed_bytes
floored-bytes = refl

pub kind-bytes : (n : ℕ) (o : Option Kind) → MatchOption o (other_kind n ≡ true) (λ k. n ≡ number k)
    → fixed_bytes (number (unwrap_or o Plain)) ≡ fixed_bytes n
unfolding fixed_bytes other_kind
kind-bytes n None h = sym (ap (λ (t : Bool). cond t 7 5) (either-false (eqb n 1) (eqb n 2) (not-true _ h)).1)
kind-bytes n (Some k) h = ap fixed_bytes (sym h)

module _ (k : ℕ) where
  pub fixed-least : 5 ≤ fixed_bytes k
  unfolding fixed_bytes
  fixed-least = go (eqb k 2)
    where
      go : (t : Bool) → 5 ≤ cond t 7 5
      go true = omega arith
      go false = omega arith

  pub fixed-most : fixed_bytes k ≤ 7
  unfolding fixed_bytes
  fixed-most = go (eqb k 2)
    where
      go : (t : Bool) → cond t 7 5 ≤ 7
      go true = omega arith
      go false = omega arith

  pub floored-if : 7 ≤ fixed_bytes k → eqb k 2 ≡ true
  unfolding fixed_bytes
  floored-if h = go (eqb k 2) h
    where
      go : (t : Bool) → 7 ≤ cond t 7 5 → t ≡ true
      go true g = refl
      go false g = absurd (omega (arith, g))

  pub plain-if : fixed_bytes k < 7 → eqb k 2 ≡ false
  unfolding fixed_bytes
  plain-if h = go (eqb k 2) h
    where
      go : (t : Bool) → cond t 7 5 < 7 → t ≡ false
      go true g = absurd (omega (arith, g))
      go false g = refl

  pub fixed-floored : eqb k 2 ≡ true → fixed_bytes k ≡ 7
  unfolding fixed_bytes
  fixed-floored e = ap (λ (t : Bool). cond t 7 5) e

-- ---- not bad

-- what judging answers is a shape
module _ (l : List ℤ) where
  pub judged-valid : is_answer (judged l) ≡ true → Valid l
  judged-valid h = go (judged l) refl
    where
      go : (r : Reply) → judged l ≡ r → Valid l
      go (answered v) e = asked-shapes (ask_judge (on l 0)) v e
      go (refused n c) e = absurd (true≢false (sym h ∙ ap is_answer e))

  pub valid-judged : Valid l → is_answer (judged l) ≡ true
  valid-judged v = ap is_answer (asked-none (ask_judge (on l 0)) (rest-none (ask_judge (on l 0)) v tt))

-- the kinds that a record may have
one-or-two : (k : ℕ) → other_kind k ≡ false → (k ≡ 1) ⊎ (k ≡ 2)
unfolding other_kind
one-or-two k h = go (eqb k 1) refl (not-false _ h)
  where
    go : (t : Bool) → eqb k 1 ≡ t → (t || eqb k 2) ≡ true → (k ≡ 1) ⊎ (k ≡ 2)
    go true e g = inl (eqb-true k 1 e)
    go false e g = inr (eqb-true k 2 g)

pub no_other : (k : ℕ) → (k ≡ 1) ⊎ (k ≡ 2) → other_kind k ≡ false
unfolding other_kind
no_other k (inl e) = ap (λ (i : ℕ). not (eqb i 1 || eqb i 2)) e
no_other k (inr e) = ap (λ (i : ℕ). not (eqb i 1 || eqb i 2)) e

module _ (r : List ℕ) where
  abbrev fixed : ℕ
  fixed = fixed_bytes (kind r)

  pub good→facts : bad r ≡ false → Good r
  unfolding bad wrong_length
  good→facts h =
      let parts = either-false (wrong_length r) (other_kind (kind r) || not (is_answer (judged (list r)))) h in
      let lengths = either-false (ltb (size r) fixed) (not (eqb ((size r - fixed) % 8) 0)) parts.0 in
      let fits = ltb-false (size r) fixed lengths.0 in
      let even = eqb-true ((size r - fixed) % 8) 0 (not-false _ lengths.1) in
      let rest = either-false (other_kind (kind r)) (not (is_answer (judged (list r)))) parts.1 in record {
        kind-is = one-or-two (kind r) rest.0;
        corners = (size r - fixed) / 8;
        length-is = omega arith;
        shape = judged-valid (list r) (not-false (is_answer (judged (list r))) rest.1);
      }

  pub facts→good : Good r → bad r ≡ false
  unfolding bad wrong_length
  facts→good g =
      ap₂ (λ (a b : Bool). a || b)
      (ap₂ (λ (a b : Bool). a || not b) (le-ltb (size r) fixed (omega (arith, g.length-is)))
      (eq-eqb ((size r - fixed) % 8) 0 (omega (arith, g.length-is))))
      (ap₂ (λ (a b : Bool). a || not b) (no_other (kind r) g.kind-is) (valid-judged (list r) g.shape))
