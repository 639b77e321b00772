-- Numbers compared with multiples of a direction's length, by squares: D is the direction's squared length.
--     Shorter x e D      x is at most e times the length, or not above 0
--     shorter-less       so is what is less; `shorter-more`: so it is with a greater e
--     shorter-add        two such numbers together
--     Longer g w D       g is at least w times the length
--     longer-more        so is what is more; `longer-minus`: what is left when a shorter one is taken away
--     root-le            numbers compare as their squares
-- Also `pos-le`: numbers of ℕ among those of ℤ; `put_back`: w - e - f ≤ x in its other form.
use Rattle.std.specs.Prelude.{[], ◌∷◌, ◌⊎◌, ℕ, ◌≤◌, ℤ, pos, ◌+ℤ◌, ◌-ℤ◌, ◌*ℤ◌, ◌≤ℤ◌, ◌<ℤ◌}
use Rattle.std.proofs.Common.{inl, inr, arith, le→leb}
use Rattle.integer.specs.Linear.{linear, lia, ◌&◌}
use Rattle.integer.specs.Order.{◌<×<◌, ◌≤×≤◌, lt-or-le, contra≤, cancel-le, weaken, le_trans}

pub record Shorter (x e D : ℤ) : Type 0 where
  pub squares : pos 0 <ℤ x → (x *ℤ x) ≤ℤ (e *ℤ e *ℤ D)

pub record Longer (g w D : ℤ) : Type 0 where
  pub ahead : pos 0 ≤ℤ g
  pub squares : (w *ℤ w *ℤ D) ≤ℤ (g *ℤ g)

-- ---- numbers

pub pos-le : {m n : ℕ} → m ≤ n → pos m ≤ℤ pos n
pos-le h = record { le = le→leb _ _ h }

-- what was taken away is put back
pub put_back : (w e f x : ℤ) → (w -ℤ e -ℤ f) ≤ℤ x → w ≤ℤ (x +ℤ (e +ℤ f))
put_back w e f x h = lia (w ∷ e ∷ f ∷ x ∷ []) h (search linear depth 40) (omega arith)

-- ---- squares

square_le : (x y : ℤ) → pos 0 ≤ℤ x → x ≤ℤ y → (x *ℤ x) ≤ℤ (y *ℤ y)
square_le x y low more = lia (x ∷ y ∷ []) (more ≤×≤ more & low ≤×≤ more) (search linear depth 40) (omega arith)

pub root-le : (x y : ℤ) → pos 0 ≤ℤ y → (x *ℤ x) ≤ℤ (y *ℤ y) → x ≤ℤ y
root-le x y low more = contra≤ (λ g. lia (x ∷ y ∷ []) (more & g <×< g & low ≤×≤ weaken g) (search linear depth 40) (omega arith))

-- x·x ≤ p·P and y·y ≤ q·Q give (x·y)·(x·y) ≤ p·P·(q·Q)
product_le : (x y p q : ℤ) → pos 0 ≤ℤ x → pos 0 ≤ℤ y → (x *ℤ x) ≤ℤ p → (y *ℤ y) ≤ℤ q → (x *ℤ y *ℤ (x *ℤ y)) ≤ℤ (p *ℤ q)
product_le x y p q low also h k =
    let square : pos 0 ≤ℤ (x *ℤ x) = lia (x ∷ []) (low ≤×≤ low) (search linear depth 40) (omega arith) in
    let other : pos 0 ≤ℤ q = lia (y ∷ q ∷ []) (also ≤×≤ also & k) (search linear depth 40) (omega arith) in
    lia (x ∷ y ∷ p ∷ q ∷ []) (square ≤×≤ k & h ≤×≤ other) (search linear depth 40) (omega arith)

-- ---- shorter

pub shorter-less : {x y e D : ℤ} → x ≤ℤ y → Shorter y e D → Shorter x e D
shorter-less {x} {y} {e} {D} less s = record {
  squares = λ some.
      let far : pos 0 <ℤ y = lia (x ∷ y ∷ []) (less & some) (search linear depth 40) (omega arith) in
      le_trans (square_le x y (weaken some) less) (s.squares far);
}

pub shorter-more : {x e f D : ℤ} → pos 0 ≤ℤ e → e ≤ℤ f → pos 0 ≤ℤ D → Shorter x e D → Shorter x f D
shorter-more {x} {e} {f} {D} low more long s = record {
  squares = λ some. lia (x ∷ e ∷ f ∷ D ∷ []) (s.squares some & square_le e f low more ≤×≤ long) (search linear depth 40) (omega arith);
}

-- x·y is at most e·f·D, since its square is
pub shorter-add : (x y e f D : ℤ) → pos 0 ≤ℤ e → pos 0 ≤ℤ f → pos 0 ≤ℤ D → Shorter x e D → Shorter y f D
    → Shorter (x +ℤ y) (e +ℤ f) D
shorter-add x y e f D low also long s t = go (lt-or-le (pos 0) x) (lt-or-le (pos 0) y)
  where
    first-only : y ≤ℤ pos 0 → Shorter (x +ℤ y) (e +ℤ f) D
    first-only k = shorter-less (lia (x ∷ y ∷ []) k (search linear depth 40) (omega arith))
        (shorter-more low (lia (e ∷ f ∷ []) also (search linear depth 40) (omega arith)) long s)

    second-only : x ≤ℤ pos 0 → Shorter (x +ℤ y) (e +ℤ f) D
    second-only h = shorter-less (lia (x ∷ y ∷ []) h (search linear depth 40) (omega arith))
        (shorter-more also (lia (e ∷ f ∷ []) low (search linear depth 40) (omega arith)) long t)

    go : (pos 0 <ℤ x) ⊎ (x ≤ℤ pos 0) → (pos 0 <ℤ y) ⊎ (y ≤ℤ pos 0) → Shorter (x +ℤ y) (e +ℤ f) D
    go (inl h) (inr k) = first-only k
    go (inr h) (inr k) = first-only k
    go (inr h) (inl k) = second-only h
    go (inl h) (inl k) =
        let both : pos 0 ≤ℤ (e *ℤ f) = lia (e ∷ f ∷ []) (low ≤×≤ also) (search linear depth 40) (omega arith) in
        let start : pos 0 ≤ℤ (e *ℤ f *ℤ D) = lia (e ∷ f ∷ D ∷ []) (both ≤×≤ long) (search linear depth 40) (omega arith) in
        let squared : (x *ℤ y *ℤ (x *ℤ y)) ≤ℤ (e *ℤ f *ℤ D *ℤ (e *ℤ f *ℤ D)) = lia (x ∷ y ∷ e ∷ f ∷ D ∷ [])
        (product_le x y (e *ℤ e *ℤ D) (f *ℤ f *ℤ D) (weaken h) (weaken k) (s.squares h) (t.squares k))
        (search linear depth 40) (omega arith) in
        let crossed : (x *ℤ y) ≤ℤ (e *ℤ f *ℤ D) = root-le (x *ℤ y) (e *ℤ f *ℤ D) start squared in
        record {
          squares = λ some. lia (x ∷ y ∷ e ∷ f ∷ D ∷ []) (s.squares h & t.squares k & crossed) (search linear depth 40) (omega arith);
        }

-- ---- longer

pub longer-more : {g h w D : ℤ} → g ≤ℤ h → Longer g w D → Longer h w D
longer-more {g} {h} {w} {D} more l = record {
  ahead = le_trans l.ahead more;
  squares = le_trans l.squares (square_le g h l.ahead more);
}

longer-less : {g v w D : ℤ} → pos 0 ≤ℤ v → v ≤ℤ w → pos 0 ≤ℤ D → Longer g w D → Longer g v D
longer-less {g} {v} {w} {D} low more long l = record {
  ahead = l.ahead;
  squares = lia (g ∷ v ∷ w ∷ D ∷ []) (l.squares & square_le v w low more ≤×≤ long) (search linear depth 40) (omega arith);
}

-- w·s is at most g·e, since its square is; so w·(g-s) is at least g·(w-e), and its square at least w·w·D·(w-e)·(w-e)
pub longer-minus : (g s w e D : ℤ) → pos 0 <ℤ w → pos 0 ≤ℤ e → e ≤ℤ w → pos 0 ≤ℤ D → Longer g w D → Shorter s e D
    → Longer (g -ℤ s) (w -ℤ e) D
longer-minus g s w e D some low less long l t = go (lt-or-le (pos 0) s)
  where
    go : (pos 0 <ℤ s) ⊎ (s ≤ℤ pos 0) → Longer (g -ℤ s) (w -ℤ e) D
    go (inr h) = longer-more (lia (g ∷ s ∷ []) h (search linear depth 40) (omega arith))
        (longer-less (lia (w ∷ e ∷ []) less (search linear depth 40) (omega arith)) (lia (w ∷ e ∷ []) low (search linear depth 40)
        (omega arith)) long l)
    go (inl h) =
        let square : pos 0 <ℤ (w *ℤ w) = lia (w ∷ []) (some <×< some) (search linear depth 40) (omega arith) in
        let thin : pos 0 ≤ℤ (e *ℤ e) = lia (e ∷ []) (low ≤×≤ low) (search linear depth 40) (omega arith) in
        let start : pos 0 ≤ℤ (g *ℤ e) = lia (g ∷ e ∷ []) (l.ahead ≤×≤ low) (search linear depth 40) (omega arith) in
        let squared : (w *ℤ s *ℤ (w *ℤ s)) ≤ℤ (g *ℤ e *ℤ (g *ℤ e)) = lia (g ∷ s ∷ w ∷ e ∷ D ∷ [])
        (weaken square ≤×≤ t.squares h & thin ≤×≤ l.squares) (search linear depth 40) (omega arith) in
        let crossed : (w *ℤ s) ≤ℤ (g *ℤ e) = root-le (w *ℤ s) (g *ℤ e) start squared in
        let left : pos 0 ≤ℤ (g *ℤ (w -ℤ e)) = lia (g ∷ w ∷ e ∷ []) (l.ahead ≤×≤ less) (search linear depth 40) (omega arith) in
        let more : (g *ℤ (w -ℤ e)) ≤ℤ (w *ℤ (g -ℤ s)) = lia (g ∷ s ∷ w ∷ e ∷ []) crossed (search linear depth 40) (omega arith) in
        let rest : pos 0 ≤ℤ ((w -ℤ e) *ℤ (w -ℤ e)) = lia (w ∷ e ∷ []) (less ≤×≤ less) (search linear depth 40) (omega arith) in
        record {
          ahead = cancel-le {k = w} {x = pos 0} {y = g -ℤ s} some (lia (g ∷ s ∷ w ∷ e ∷ []) (left & more) (search linear depth 40)
              (omega arith));
          squares = cancel-le {k = w *ℤ w} square (lia (g ∷ s ∷ w ∷ e ∷ D ∷ [])
              (square_le (g *ℤ (w -ℤ e)) (w *ℤ (g -ℤ s)) left more & rest ≤×≤ l.squares) (search linear depth 40) (omega arith));
        }
