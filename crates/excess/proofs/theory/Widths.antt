-- The free width that passage answers, and obstacles that changed.
--     passage-has           passage answers a number of millimetres, which is the free width
--     passage-answered      of obstacles that both changed, it is less by no more than the answered excesses
use Rattle.std.specs.Prelude.{◌≡◌, refl, Bool, true, false, cond, List, [], ◌∷◌, ◌++◌, ℕ, ◌+◌, ◌≤◌, ◌<◌, ltb, ℤ, pos, ◌-ℤ◌, length, ◌≤ℤ◌}
use Rattle.std.proofs.Common.{sym, ◌∙◌, ap, true≢false, arith, ltb-true, ltb-false}
use Rattle.plane.specs.Point.{Point}
use Rattle.plane.specs.Reply.{answered}
use Rattle.plane.specs.Floor.{Floored, corners}
use Rattle.plane.specs.Question.{reply}
use Rattle.plane.proofs.theory.refusals.Asked.{asked-values}
use Rattle.growth.specs.Grown.{EndsIn}
use Rattle.admission.specs.Three.{SameThree}
use Rattle.passage.specs.Passage.{passable, across, low_line, high_line, free_width, ask_passage}
use Rattle.passage.proofs.theory.Replies.{passage-three}
use Rattle.excess.specs.Excess.{ask_excess}
use Rattle.excess.specs.Settled.{Millimetres}
use Rattle.excess.proofs.theory.Moved.{Moved}
use Rattle.excess.proofs.theory.Passages.{moved-passage}
use Rattle.excess.proofs.theory.Promises.{unmoved}
use Rattle.excess.proofs.theory.Answers.{ends_same, number-le, changed, change-is}

-- the number that is answered: the free width, or 0 if the cart may not pass
record Width (l r c : Floored) (v : List ℤ) : Type 0 where
  number : ℕ
  ends : EndsIn (pos number ∷ pos l.floor ∷ []) v
  free : passable (corners l) (corners r) (corners c) ≡ true → number ≡ free_width (corners l) (corners r) (corners c)
  none : passable (corners l) (corners r) (corners c) ≡ false → number ≡ 0

width-answered : (l r c : Floored) (v : List ℤ) → reply (ask_passage l r c) ≡ answered v → Width l r c v
width-answered l r c v h = go (passable L R A) refl (asked-values (ask_passage l r c) v h)
  where
    L : List Point
    L = corners l

    R : List Point
    R = corners r

    A : List Point
    A = corners c

    told : Bool → List ℤ
    told t =
        let n = across L R A in
        cond t (pos 1 ∷ n.x ∷ n.y ∷ low_line n R A ∷ high_line n L A ∷ pos (free_width L R A) ∷ []) (pos 0 ∷ []) ++ (pos l.floor ∷ [])

    go : (t : Bool) → passable L R A ≡ t → v ≡ told (passable L R A) → Width l r c v
    go true e k = record {
      number = free_width L R A;
      ends = (_ ∷ _ ∷ _ ∷ _ ∷ _ ∷ [], k ∙ ap told e);
      free = λ x. refl;
      none = λ x. absurd (true≢false (sym e ∙ x));
    }
    go false e k = record {
      number = 0;
      ends = ([], k ∙ ap told e);
      free = λ x. absurd (true≢false (sym x ∙ e));
      none = λ x. refl;
    }

pub passage-has : (l r c : Floored) (v : List ℤ) → reply (ask_passage l r c) ≡ answered v
    → (w : ℕ) × Millimetres (ask_passage l r c) (pos w) × (passable (corners l) (corners r) (corners c) ≡ true
    → w ≡ free_width (corners l) (corners r) (corners c))
passage-has l r c v h =
    let r = width-answered l r c v h in
    (r.number, record { numbers = v; floor = pos l.floor; is-answered = h; ends = r.ends }, r.free)

-- l and r are the old obstacles, m and s the new ones, c is the cart
module _ (l r c m s : Floored) {e f : ℕ} (left : Moved (pos e) (corners m) (corners l)) (right : Moved (pos f) (corners s) (corners r))
    (v y : List ℤ) (h : reply (ask_passage l r c) ≡ answered v) (k : reply (ask_passage m s c) ≡ answered y) where
  abbrev earlier : Width l r c v
  earlier = width-answered l r c v h

  abbrev later : Width m s c y
  later = width-answered m s c y k

  old-three : SameThree l r c
  old-three = (passage-three l r c v h).0

  new-three : SameThree m s c
  new-three = (passage-three m s c y k).0

  settled-widths : earlier.number ≤ later.number + (e + f)
  settled-widths = go (ltb (e + f) earlier.number) refl (passable (corners l) (corners r) (corners c)) refl
    where
      cart-some : 0 < length (corners c)
      cart-some = old-three.third-valid.shape.some

      go : (t : Bool) → ltb (e + f) earlier.number ≡ t → (p : Bool) → passable (corners l) (corners r) (corners c) ≡ p
          → earlier.number ≤ later.number + (e + f)
      go false q p x = omega (arith, ltb-false (e + f) earlier.number q)
      go true q false x = absurd (omega (arith, ltb-true (e + f) earlier.number q, earlier.none x))
      go true q true x =
          let still = moved-passage (corners l) (corners r) (corners c) (corners m) (corners s) (corners c)
          old-three.first-valid.shape.some old-three.second-valid.shape.some cart-some new-three.first-valid.shape.some
          new-three.second-valid.shape.some cart-some left right (unmoved (corners c) cart-some) x
          (omega (arith, ltb-true (e + f) earlier.number q, earlier.free x)) in
          omega (arith, earlier.free x, later.free still.0, still.1)

pub passage-answered : (l r c m s : Floored) {w x e f : ℤ} → Millimetres (ask_passage l r c) w → Millimetres (ask_passage m s c) x
    → Millimetres (ask_excess m l) e → Millimetres (ask_excess s r) f → (w -ℤ e -ℤ f) ≤ℤ x
passage-answered l r c m s i j p q =
    number-le (ends_same i.ends (width-answered l r c i.numbers i.is-answered).ends)
    (ends_same j.ends (width-answered m s c j.numbers j.is-answered).ends) (change-is p) (change-is q)
    (settled-widths l r c m s (changed p) (changed q) i.numbers j.numbers i.is-answered j.is-answered)
