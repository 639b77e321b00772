-- Answers in whole millimetres: the clearance rounded down, and the excess rounded up.
--     ends_same             an answer ends in one number before its floor
--     one_number            and a question has one
--     Answered a b v        the number that clearance answers (`clearance-number`)
--     clearance-has, excess-has      good shapes have such a number
--     number-le             the numbers of four answers, as those of ℕ
--     changed, change-is    what excess answers is how far the shape moved
--     both-answered         of shapes that both changed, the clearance answered is less by no more than the answered excesses
--     first-answered, second-answered      of shapes of which one changed
--     still-apart           if more was answered than it changed by, they are apart
use Rattle.std.specs.Prelude.{◌≡◌, refl, Bool, true, false, List, [], ◌∷◌, ◌++◌, ℕ, ◌+◌, ◌≤◌, ◌<◌, ltb, ℤ, pos, ◌+ℤ◌, ◌-ℤ◌, ◌≤ℤ◌, ◌<ℤ◌}
use Rattle.std.proofs.Common.{sym, ◌∙◌, ap, subst, true≢false, append_assoc, arith, ltb-true, ltb-false, ltb→lt}
use Rattle.integer.specs.Linear.{linear, lia}
use Rattle.plane.specs.Point.{Point}
use Rattle.plane.specs.Reply.{answered}
use Rattle.plane.specs.Separation.{apart}
use Rattle.plane.specs.Clearance.{top, bottom, nearest}
use Rattle.plane.specs.Floor.{Floored, corners, Same}
use Rattle.plane.specs.Question.{Question, reply, ask_clearance}
use Rattle.plane.proofs.theory.refusals.Asked.{asked-none, asked-shapes, rest-none}
use Rattle.clearance.specs.theory.Nearest.{nearest-is-whole}
use Rattle.clearance.specs.theory.Rounding.{Bounded, nearest-rounded}
use Rattle.clearance.specs.theory.Replies.{clearance-values}
use Rattle.growth.specs.Grown.{EndsIn}
use Rattle.passage.proofs.theory.Smaller.{sizes-le}
use Rattle.excess.specs.Excess.{up, ask_excess}
use Rattle.excess.specs.Settled.{ApartBy, Millimetres}
use Rattle.excess.proofs.theory.Lengths.{pos-le, put_back}
use Rattle.excess.proofs.theory.Rounded.{bounded-above}
use Rattle.excess.proofs.theory.Moved.{Moved, up-moved}
use Rattle.excess.proofs.theory.Promises.{one-moved, both-moved, unmoved}
use Rattle.excess.proofs.theory.Replies.{excess-same, excess-answers, excess-ends}

-- ---- the number before the floor

-- the last number but one; 0 where there is none
abbrev last_but_one : List ℤ → ℤ
last_but_one [] = pos 0
last_but_one (a ∷ []) = pos 0
last_but_one (a ∷ (b ∷ [])) = a
last_but_one (a ∷ (b ∷ (c ∷ l))) = last_but_one (b ∷ (c ∷ l))

last-is : (l : List ℤ) (a b : ℤ) → last_but_one (l ++ (a ∷ b ∷ [])) ≡ a
last-is [] a b = refl
last-is (x ∷ []) a b = refl
last-is (x ∷ (y ∷ [])) a b = refl
last-is (x ∷ (y ∷ (z ∷ l))) a b = last-is (y ∷ (z ∷ l)) a b

pub ends_same : {a b c d : ℤ} {v : List ℤ} → EndsIn (a ∷ b ∷ []) v → EndsIn (c ∷ d ∷ []) v → a ≡ c
ends_same {a} {b} {c} {d} (x, p) (y, q) = sym (last-is x a b) ∙ ap last_but_one (sym p ∙ q) ∙ last-is y c d

-- ---- the clearance

-- the number that is answered: of shapes apart the distance rounded down, else 0
pub record Answered (a b : Floored) (v : List ℤ) : Type 0 where
  pub number : ℕ
  pub ends : EndsIn (pos number ∷ pos a.floor ∷ []) v
  pub rounded : apart (corners a) (corners b) ≡ true
      → Bounded (top (corners a) (corners b) (nearest (corners a) (corners b)))
      (bottom (corners a) (corners b) (nearest (corners a) (corners b))) number
  pub none : apart (corners a) (corners b) ≡ false → number ≡ 0

pub clearance-number : (a b : Floored) (v : List ℤ) → reply (ask_clearance a b) ≡ answered v → Answered a b v
clearance-number a b v h = go (apart A B) refl
  where
    A : List Point
    A = corners a

    B : List Point
    B = corners b

    s : Same a b
    s = asked-shapes (ask_clearance a b) v h

    go : (t : Bool) → apart A B ≡ t → Answered a b v
    go true e =
        let r = nearest-rounded A B s.first-valid.shape s.second-valid.shape e in
        record {
          number = r.rounded;
          ends = (
            r.before,
            clearance-values a b v h true e ∙ ap (λ u. u ++ (pos a.floor ∷ [])) r.last
                ∙ append_assoc r.before (pos r.rounded ∷ []) (pos a.floor ∷ []),
          );
          rounded = λ x. r.bounded;
          none = λ x. absurd (true≢false (sym e ∙ x));
        }
    go false e = record {
      number = 0;
      ends = ([], clearance-values a b v h false e);
      rounded = λ x. absurd (true≢false (sym x ∙ e));
      none = λ x. refl;
    }

-- ---- settled

-- a and b are the old shapes, c and d the new ones
module _ (a b c d : Floored) {e f : ℕ} (m : Moved (pos e) (corners c) (corners a)) (k : Moved (pos f) (corners d) (corners b))
    (v w : List ℤ) (h : reply (ask_clearance a b) ≡ answered v) (l : reply (ask_clearance c d) ≡ answered w) where
  abbrev earlier : Answered a b v
  earlier = clearance-number a b v h

  abbrev later : Answered c d w
  later = clearance-number c d w l

  one : Same a b
  one = asked-shapes (ask_clearance a b) v h

  other : Same c d
  other = asked-shapes (ask_clearance c d) w l

  -- where no more was answered than they moved, there is nothing to show; else they were apart
  settled-numbers : earlier.number ≤ later.number + (e + f)
  settled-numbers = go (ltb (e + f) earlier.number) refl (apart (corners a) (corners b)) refl
    where
      go : (t : Bool) → ltb (e + f) earlier.number ≡ t → (p : Bool) → apart (corners a) (corners b) ≡ p
          → earlier.number ≤ later.number + (e + f)
      go false q p r = omega (arith, ltb-false (e + f) earlier.number q)
      go true q false r = absurd (omega (arith, ltb-true (e + f) earlier.number q, earlier.none r))
      go true q true r =
          let was : ApartBy (pos earlier.number) (corners a) (corners b) =
          record { are-apart = r; so-clear = (earlier.rounded r).low } in
          let still = both-moved (corners a) (corners b) (corners c) (corners d) one.first-valid.shape one.second-valid.shape
          other.first-valid.shape other.second-valid.shape m k (ltb-true (e + f) earlier.number q) was in
          let whole = nearest-is-whole (corners c) (corners d) other.first-valid.shape other.second-valid.shape
          still.are-apart in
          sizes-le (put_back (pos earlier.number) (pos e) (pos f) (pos later.number)
          (bounded-above whole still.so-clear (later.rounded still.are-apart)))

-- ---- in the answers' own numbers

-- w and x end the old answer and the new one, e and f those of how far the shapes changed
pub number-le : {w x e f : ℤ} {i j k m : ℕ} → w ≡ pos i → x ≡ pos j → e ≡ pos k → f ≡ pos m → i ≤ j + (k + m)
    → (w -ℤ e -ℤ f) ≤ℤ x
number-le {w} {x} {e} {f} {i} {j} {k} {m} p q r s h = rw (p, q, r, s) (take-away (pos i) (pos k) (pos m) (pos j) (pos-le h))
  where
    take-away : (w e f x : ℤ) → w ≤ℤ (x +ℤ (e +ℤ f)) → (w -ℤ e -ℤ f) ≤ℤ x
    take-away w e f x h = lia (w ∷ e ∷ f ∷ x ∷ []) h (search linear depth 40) (omega arith)

pub one_number : {q : Question} {w x : ℤ} → Millimetres q w → Millimetres q x → w ≡ x
one_number {q} {w} {x} i j = ends_same i.ends
    (subst (EndsIn (x ∷ j.floor ∷ [])) (answered-same (sym j.is-answered ∙ i.is-answered)) j.ends)
  where
    answered-same : {v u : List ℤ} → answered v ≡ answered u → v ≡ u
    answered-same e = cc e

-- good shapes have one
pub clearance-has : (a b : Floored) → Same a b → (w : ℕ) × Millimetres (ask_clearance a b) (pos w)
clearance-has a b s =
    let h = asked-none (ask_clearance a b) (rest-none (ask_clearance a b) s tt) in
    let r = clearance-number a b _ h in
    (r.number, record { numbers = _; floor = pos a.floor; is-answered = h; ends = r.ends })

pub excess-has : (new old : Floored) → Same new old → Millimetres (ask_excess new old) (pos (up (corners new) (corners old)))
excess-has new old s =
    let h = excess-answers new old s in
    record { numbers = _; floor = pos new.floor; is-answered = h; ends = excess-ends new old _ h }

-- the excess, and how far the shape moved
module _ {new old : Floored} {e : ℤ} (i : Millimetres (ask_excess new old) e) where
  change : Same new old
  change = excess-same new old i.numbers i.is-answered

  pub changed : Moved (pos (up (corners new) (corners old))) (corners new) (corners old)
  changed = up-moved (corners new) (corners old) change.first-valid.shape.some change.second-valid.shape

  pub change-is : e ≡ pos (up (corners new) (corners old))
  change-is = ends_same i.ends (excess-ends new old i.numbers i.is-answered)

-- the clearance
module _ {a b : Floored} {w : ℤ} (i : Millimetres (ask_clearance a b) w) where
  abbrev clearance : Answered a b i.numbers
  clearance = clearance-number a b i.numbers i.is-answered

  clearance-is : w ≡ pos clearance.number
  clearance-is = ends_same i.ends clearance.ends

  shapes : Same a b
  shapes = asked-shapes (ask_clearance a b) i.numbers i.is-answered

-- both shapes changed, a to c and b to d
module _ (a b c d : Floored) {w x : ℤ} (i : Millimetres (ask_clearance a b) w) (j : Millimetres (ask_clearance c d) x) where
  pub both-answered : {e f : ℤ} → Millimetres (ask_excess c a) e → Millimetres (ask_excess d b) f → (w -ℤ e -ℤ f) ≤ℤ x
  both-answered m k = number-le (clearance-is i) (clearance-is j) (change-is m) (change-is k)
      (settled-numbers a b c d (changed m) (changed k) i.numbers j.numbers i.is-answered j.is-answered)

-- the first of them, or the second
module _ (a b c : Floored) {w e : ℤ} (m : Millimetres (ask_excess c a) e) where
  pub first-answered : {x : ℤ} → Millimetres (ask_clearance a b) w → Millimetres (ask_clearance c b) x → (w -ℤ e) ≤ℤ x
  first-answered {x} i j = lia (w ∷ e ∷ x ∷ []) (number-le {f = pos 0} (clearance-is i) (clearance-is j) (change-is m) refl
      (settled-numbers a b c b (changed m) (unmoved (corners b) (shapes i).second-valid.shape.some) i.numbers j.numbers
      i.is-answered j.is-answered)) (search linear depth 40) (omega arith)

  pub second-answered : {x : ℤ} → Millimetres (ask_clearance b a) w → Millimetres (ask_clearance b c) x → (w -ℤ e) ≤ℤ x
  second-answered {x} i j = lia (w ∷ e ∷ x ∷ []) (number-le {e = pos 0} (clearance-is i) (clearance-is j) refl (change-is m)
      (settled-numbers b a b c (unmoved (corners b) (shapes i).first-valid.shape.some) (changed m) i.numbers j.numbers
      i.is-answered j.is-answered)) (search linear depth 40) (omega arith)

  -- more was answered than the shape changed by
  pub still-apart : Millimetres (ask_clearance a b) w → e <ℤ w → apart (corners c) (corners b) ≡ true
  still-apart i less = go (apart (corners a) (corners b)) refl
    where
      more : up (corners c) (corners a) < (clearance i).number
      more = ltb→lt _ _ (rw (clearance-is i, change-is m) at less).lt

      go : (t : Bool) → apart (corners a) (corners b) ≡ t → apart (corners c) (corners b) ≡ true
      go false r = absurd (omega (arith, more, (clearance i).none r))
      go true r = (one-moved (corners a) (corners b) (corners c) (shapes i).first-valid.shape (shapes i).second-valid.shape
          (change m).first-valid.shape (changed m) more (record { are-apart = r; so-clear = ((clearance i).rounded r).low })).are-apart
