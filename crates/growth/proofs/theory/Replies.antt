-- What relation and clearance reply of lists whose corners relate alike.
--     relation-answered      of valid shapes on one floor, relation answers its number and their floor
--     relation-replies       and of pairs that relate alike the same
--     rounded-le             the root of the smaller of two fractions, rounded down, is not above that of the other
--     clearance-fractions    where both are answered, the clearances are the same fraction
--     clearance-rounded      and the same distance rounded down, which is the number before the floor
use Rattle.std.specs.Prelude.{◌≡◌, refl, Bool, true, false, List, [], ◌∷◌, ◌++◌, ℕ, ℤ, pos, ◌+ℤ◌, ◌*ℤ◌, ◌≤ℤ◌, ◌<ℤ◌}
use Rattle.std.proofs.Common.{sym, ◌∙◌, ap, ap₂, subst, append_assoc, arith}
use Rattle.integer.specs.Linear.{linear, lia, ◌&◌}
use Rattle.integer.specs.Order.{◌<×<◌, ◌<×≤◌, ◌≤×≤◌, contra≤, le_of_eq, le_antisym}
use Rattle.plane.specs.Point.{Point}
use Rattle.plane.specs.Reply.{answered}
use Rattle.plane.specs.Separation.{apart, relation_number}
use Rattle.plane.specs.Clearance.{top, bottom, nearest}
use Rattle.plane.specs.Floor.{Floored, corners, Same}
use Rattle.plane.specs.Question.{reply, ask_relation, ask_clearance}
use Rattle.plane.proofs.theory.refusals.Asked.{asked-none, asked-shapes, rest-none}
use Rattle.clearance.specs.theory.Nearest.{nearest-is-whole}
use Rattle.clearance.specs.theory.Rounding.{Bounded, nearest-rounded}
use Rattle.clearance.specs.theory.Replies.{clearance-values}
use Rattle.clearance.specs.theory.Means.{size-nonneg}
use Rattle.strips.specs.OwnDirection.{answer_top, answer_bottom}
use Rattle.strips.proofs.theory.Answers.{top-is, bottom-is}
use Rattle.growth.specs.Grown.{EndsIn}
use Rattle.growth.proofs.theory.Alike.{Alike, alike-apart, alike-relation, alike-clearance}

-- ---- relation

pub relation-answered : (a b : Floored) → Same a b
    → reply (ask_relation a b) ≡ answered (relation_number (corners a) (corners b) ∷ pos a.floor ∷ [])
relation-answered a b s = asked-none (ask_relation a b) (rest-none (ask_relation a b) s tt)

pub relation-replies : (a b c d : Floored) → Alike (corners a) (corners b) (corners c) (corners d) → a.floor ≡ c.floor → Same a b
    → Same c d → reply (ask_relation a b) ≡ reply (ask_relation c d)
relation-replies a b c d k f s t = relation-answered a b s ∙ ap₂ (λ n g. answered (n ∷ pos g ∷ []))
    (alike-relation (corners a) (corners b) (corners c) (corners d) k) f ∙ sym (relation-answered c d t)

-- ---- clearance

-- w and x, the roots of n/d and m/e rounded down
root-le : (w x n d m e : ℤ) → pos 0 ≤ℤ x → pos 0 <ℤ d → pos 0 <ℤ e → (n *ℤ e) ≤ℤ (m *ℤ d) → (w *ℤ w *ℤ d) ≤ℤ n
    → m <ℤ ((x +ℤ pos 1) *ℤ (x +ℤ pos 1) *ℤ e) → w ≤ℤ x
root-le w x n d m e start some other same low high =
    contra≤ (λ g. lia (w ∷ x ∷ n ∷ d ∷ m ∷ e ∷ []) (some <×< high & other <×≤ low & same & both ≤×≤ squares g)
    (search linear depth 40) (omega arith))
  where
    squares : x <ℤ w → ((x +ℤ pos 1) *ℤ (x +ℤ pos 1)) ≤ℤ (w *ℤ w)
    squares g = lia (w ∷ x ∷ []) (g & more g ≤×≤ start & more g ≤×≤ more g) (search linear depth 40) (omega arith)
      where
        more : x <ℤ w → (x +ℤ pos 1) ≤ℤ w
        more g = lia (w ∷ x ∷ []) g (search linear depth 40) (omega arith)

    both : pos 0 ≤ℤ (d *ℤ e)
    both = lia (d ∷ e ∷ []) (some <×< other) (search linear depth 40) (omega arith)

pub rounded-le : {w x : ℕ} {n d m e : ℤ} → pos 0 <ℤ d → pos 0 <ℤ e → (n *ℤ e) ≤ℤ (m *ℤ d) → Bounded n d w → Bounded m e x
    → pos w ≤ℤ pos x
rounded-le {w} {x} {n} {d} {m} {e} some other same r s =
    root-le (pos w) (pos x) n d m e (size-nonneg x) some other same r.low s.high

-- what ends in a number ends in it and the floor, once that is put after it
ends : {v u : List ℤ} (before : List ℤ) (last : ℤ) (f : ℕ) → v ≡ u ++ (pos f ∷ []) → u ≡ before ++ (last ∷ [])
    → EndsIn (last ∷ pos f ∷ []) v
ends before last f p q = (before, p ∙ ap (λ u. u ++ (pos f ∷ [])) q ∙ append_assoc before (last ∷ []) (pos f ∷ []))

module _ (a b c d : Floored) (k : Alike (corners a) (corners b) (corners c) (corners d)) (v w : List ℤ)
    (h : reply (ask_clearance a b) ≡ answered v) (l : reply (ask_clearance c d) ≡ answered w) where
  abbrev A : List Point
  A = corners a

  abbrev B : List Point
  B = corners b

  abbrev C : List Point
  C = corners c

  abbrev D : List Point
  D = corners d

  one : Same a b
  one = asked-shapes (ask_clearance a b) v h

  other : Same c d
  other = asked-shapes (ask_clearance c d) w l

  apart-too : {t : Bool} → apart A B ≡ t → apart C D ≡ t
  apart-too e = sym (alike-apart A B C D k) ∙ e

  same : apart A B ≡ true → top A B (nearest A B) *ℤ bottom C D (nearest C D) ≡ top C D (nearest C D) *ℤ bottom A B (nearest A B)
  same e = alike-clearance A B C D k one.first-valid.shape one.second-valid.shape other.first-valid.shape
      other.second-valid.shape e

  pub clearance-fractions : answer_top v *ℤ answer_bottom w ≡ answer_top w *ℤ answer_bottom v
  clearance-fractions = go (apart A B) refl
    where
      go : (t : Bool) → apart A B ≡ t → answer_top v *ℤ answer_bottom w ≡ answer_top w *ℤ answer_bottom v
      go true e = rw (
        clearance-values a b v h true e,
        clearance-values c d w l true (apart-too e),
        top-is A B (pos a.floor ∷ []) (nearest A B),
        bottom-is A B (pos a.floor ∷ []) (nearest A B),
        top-is C D (pos c.floor ∷ []) (nearest C D),
        bottom-is C D (pos c.floor ∷ []) (nearest C D),
      ) (same e)
      go false e = rw (clearance-values a b v h false e, clearance-values c d w l false (apart-too e)) refl

  pub clearance-rounded : (rounded : ℤ) × EndsIn (rounded ∷ pos a.floor ∷ []) v × EndsIn (rounded ∷ pos c.floor ∷ []) w
  clearance-rounded = go (apart A B) refl
    where
      go : (t : Bool) → apart A B ≡ t
          → (rounded : ℤ) × EndsIn (rounded ∷ pos a.floor ∷ []) v × EndsIn (rounded ∷ pos c.floor ∷ []) w
      go true e =
          let r = nearest-rounded A B one.first-valid.shape one.second-valid.shape e in
          let s = nearest-rounded C D other.first-valid.shape other.second-valid.shape (apart-too e) in
          let x = nearest-is-whole A B one.first-valid.shape one.second-valid.shape e in
          let y = nearest-is-whole C D other.first-valid.shape other.second-valid.shape (apart-too e) in
          let equal = le_antisym (rounded-le y x (le_of_eq (sym (same e))) s.bounded r.bounded)
          (rounded-le x y (le_of_eq (same e)) r.bounded s.bounded) in (
            pos r.rounded,
            ends r.before _ a.floor (clearance-values a b v h true e) r.last,
            subst (λ z. EndsIn (z ∷ pos c.floor ∷ []) w) equal
                (ends s.before _ c.floor (clearance-values c d w l true (apart-too e)) s.last),
          )
      go false e = (pos 0, ([], clearance-values a b v h false e), ([], clearance-values c d w l false (apart-too e)))
