-- What is replied.
--     excess-answers         two valid shapes on one floor are answered; `excess-same`: and only they
--     excess-floors          two on different floors are refused 13
--     inside-reply           0 is answered exactly if the new shape is inside the old one
--     one_told, two-told     what the numbers of an answer that begins with 1 or 2 are
--     answer-kinds           every answer begins with 0, 1 or 2
--     excess-ends            the last number before the floor is `up`
use Rattle.std.specs.Prelude.{◌≡◌, Bool, true, false, cond, List, [], ◌∷◌, ◌++◌, ◌⊎◌, ◌↔◌, ℕ, ◌<◌, ℤ, pos, nat_abs, ◌*ℤ◌, length}
use Rattle.std.proofs.Math.Path.{refl, ap}
use Rattle.std.proofs.Common.{sym, ◌∙◌, ap₂, subst, inl, inr, arith}
use Rattle.integer.specs.Bound.{size-square}
use Rattle.plane.specs.Point.{Point, corner}
use Rattle.plane.specs.Shape.{IsShape}
use Rattle.plane.specs.Reply.{answered, refused}
use Rattle.plane.specs.Refusal.{Valid}
use Rattle.plane.specs.Measure.{squared, edge_squared}
use Rattle.plane.specs.Separation.{inside}
use Rattle.plane.specs.Clearance.{Candidate, falls_on, turn_on, top, bottom, nearest}
use Rattle.plane.specs.Floor.{Floored, corners as corners_of, Same}
use Rattle.plane.specs.Question.{reply}
use Rattle.plane.proofs.theory.refusals.Asked.{asked-none, asked-values, asked-shapes, asked-floors, rest-none}
use Rattle.growth.specs.Grown.{EndsIn}
use Rattle.plane.specs.Distance.{over}
use Rattle.excess.specs.Excess.{outermost, excess, up, corner_numbers, excess_numbers, ask_excess}
use Rattle.excess.specs.Settled.{Told}
use Rattle.excess.proofs.theory.Beyond.{beyond-apart}
use Rattle.excess.proofs.theory.Reach.{outermost-apart}
use Rattle.excess.proofs.theory.Promises.{up-inside}
use Rattle.excess.proofs.theory.Kinds.{Kind, at-corner, at_edge, point-kind}

-- an answer's first number is not another's
other-kind : {A : Type 0} (m n : ℕ) {x y : List ℤ} → pos m ∷ x ≡ pos n ∷ y → (m ≡ n → ⊥) → A
other-kind m n e k = absurd (k (cc e))

module _ (new old : Floored) where
  abbrev N : List Point
  N = corners_of new

  abbrev O : List Point
  O = corners_of old

  abbrev c : ℕ
  c = outermost N O

  abbrev floor : List ℤ
  floor = pos new.floor ∷ []

  -- what is answered where `inside` says t, and the nearest is s
  abbrev told : Bool → Candidate → List ℤ
  told t s = cond t (pos 0 ∷ []) (corner_numbers N O c s) ++ floor

  pub excess-same : (v : List ℤ) → reply (ask_excess new old) ≡ answered v → Same new old
  excess-same v h = asked-shapes (ask_excess new old) v h

  pub excess-answers : Same new old → reply (ask_excess new old) ≡ answered (excess_numbers N O ++ floor)
  excess-answers s = asked-none (ask_excess new old) (rest-none (ask_excess new old) s tt)

  pub excess-floors : Valid new.list → Valid old.list → (new.floor ≡ old.floor → ⊥) → reply (ask_excess new old) ≡ refused 13 []
  excess-floors v w f = asked-floors (ask_excess new old) new old refl v w f

  -- by whether the new shape is inside the old one
  answer-told : {v : List ℤ} {t : Bool} → reply (ask_excess new old) ≡ answered v → inside N O ≡ t
      → v ≡ told t (nearest (corner N c ∷ []) O)
  answer-told {v} h e = asked-values (ask_excess new old) v h ∙ ap (λ t. told t (nearest (corner N c ∷ []) O)) e

  module _ (s : Same new old) where
    new-some : 0 < length N
    new-some = s.first-valid.shape.some

    old-shape : IsShape O
    old-shape = s.second-valid.shape

    kind : inside N O ≡ false → Kind (corner N c) O (nearest (corner N c ∷ []) O)
    kind e = point-kind (corner N c) O old-shape (outermost-apart N O new-some old-shape e)

    -- the distance, by the nearest
    distance : {k : Candidate} → inside N O ≡ false → nearest (corner N c ∷ []) O ≡ k
        → excess N O ≡ over (top (corner N c ∷ []) O k) (bottom (corner N c ∷ []) O k)
    unfolding excess
    distance e n = beyond-apart (corner N c) O old-shape (outermost-apart N O new-some old-shape e)
        ∙ ap (λ k. over (top (corner N c ∷ []) O k) (bottom (corner N c ∷ []) O k)) n

  pub inside-reply : Same new old → (reply (ask_excess new old) ≡ answered (pos 0 ∷ floor)) ↔ (inside N O ≡ true)
  inside-reply s = (
    λ h. go (inside N O) refl h,
    λ e. excess-answers s ∙ ap (λ t. answered (told t (nearest (corner N c ∷ []) O))) e,
  )
    where
      other : (k : Candidate) → Kind (corner N c) O k → pos 0 ∷ floor ≡ told false k → ⊥
      other k (at-corner j l) e = other-kind 0 1 e (λ z. omega arith)
      other k (at_edge j l f) e = other-kind 0 2 e (λ z. omega arith)

      go : (t : Bool) → inside N O ≡ t → reply (ask_excess new old) ≡ answered (pos 0 ∷ floor) → t ≡ true
      go true e h = refl
      go false e h = absurd (other _ (kind s e) (answer-told h e))

  -- ---- an answer that begins with 1, with 2

  pub one_told : (j m u f : ℕ) (d : ℤ)
      → reply (ask_excess new old) ≡ answered (pos 1 ∷ pos m ∷ pos j ∷ d ∷ pos u ∷ pos f ∷ [])
      → Told new old m (over d (pos 1)) u f × (j < length O) × (d ≡ squared (corner N m) (corner O j))
  unfolding top bottom
  one_told j m u f d h = go (inside N O) refl
    where
      s : Same new old
      s = excess-same _ h

      by_kind : inside N O ≡ false → (k : Candidate) → Kind (corner N c) O k → nearest (corner N c ∷ []) O ≡ k
          → pos 1 ∷ pos m ∷ pos j ∷ d ∷ pos u ∷ pos f ∷ [] ≡ told false k
          → Told new old m (over d (pos 1)) u f × (j < length O) × (d ≡ squared (corner N m) (corner O j))
      by_kind e k (at_edge i l x) n v = other-kind 1 2 v (λ z. omega arith)
      by_kind e k (at-corner i l) n v =
          let at : m ≡ c = cc v in
          let place : j ≡ i = cc v in
          let far : d ≡ squared (corner N c) (corner O i) = cc v in (
            record {
              not-inside = e;
              corner-is = at;
              distance_is = ap (λ z. over z (pos 1)) far ∙ sym (distance s e n);
              up_is = cc v;
              floor-is = cc v;
            },
            subst (λ i. i < length O) (sym place) l,
            far ∙ ap₂ (λ x y. squared (corner N x) (corner O y)) (sym at) (sym place),
          )

      go : (t : Bool) → inside N O ≡ t → Told new old m (over d (pos 1)) u f × (j < length O) × (d ≡ squared (corner N m) (corner O j))
      go true e = other-kind 1 0 (answer-told h e) (λ z. omega arith)
      go false e = by_kind e _ (kind s e) refl (answer-told h e)

  pub two-told : (i m u f : ℕ) (t q : ℤ)
      → reply (ask_excess new old) ≡ answered (pos 2 ∷ pos m ∷ pos i ∷ t ∷ q ∷ pos u ∷ pos f ∷ [])
      → Told new old m (over (t *ℤ t) q) u f × (i < length O) × (falls_on O i (corner N m) ≡ true)
      × (t ≡ pos (nat_abs (turn_on O i (corner N m)))) × (q ≡ edge_squared O i)
  unfolding top bottom
  two-told i m u f t q h = go (inside N O) refl
    where
      s : Same new old
      s = excess-same _ h

      Says : Type 0
      Says = Told new old m (over (t *ℤ t) q) u f × (i < length O) × (falls_on O i (corner N m) ≡ true)
          × (t ≡ pos (nat_abs (turn_on O i (corner N m)))) × (q ≡ edge_squared O i)

      by_kind : inside N O ≡ false → (k : Candidate) → Kind (corner N c) O k → nearest (corner N c ∷ []) O ≡ k
          → pos 2 ∷ pos m ∷ pos i ∷ t ∷ q ∷ pos u ∷ pos f ∷ [] ≡ told false k → Says
      by_kind e k (at-corner j l) n v = other-kind 2 1 v (λ z. omega arith)
      by_kind e k (at_edge j l x) n v =
          let at : m ≡ c = cc v in
          let place : i ≡ j = cc v in
          let turn : t ≡ pos (nat_abs (turn_on O j (corner N c))) = cc v in
          let long : q ≡ edge_squared O j = cc v in (
            record {
              not-inside = e;
              corner-is = at;
              distance_is = ap₂ (λ y z. over (y *ℤ y) z) turn long
                  ∙ ap (λ z. over z (edge_squared O j)) (size-square (turn_on O j (corner N c))) ∙ sym (distance s e n);
              up_is = cc v;
              floor-is = cc v;
            },
            subst (λ k. k < length O) (sym place) l,
            ap₂ (λ y z. falls_on O y (corner N z)) place at ∙ x,
            turn ∙ ap₂ (λ y z. pos (nat_abs (turn_on O y (corner N z)))) (sym place) (sym at),
            long ∙ ap (edge_squared O) (sym place),
          )

      go : (b : Bool) → inside N O ≡ b → Says
      go true e = other-kind 2 0 (answer-told h e) (λ z. omega arith)
      go false e = by_kind e _ (kind s e) refl (answer-told h e)

  -- ---- any answer

  module _ (v : List ℤ) (h : reply (ask_excess new old) ≡ answered v) where
    same : Same new old
    same = excess-same v h

    pub answer-kinds : (v ≡ pos 0 ∷ floor)
        ⊎ (((m : ℕ) × (j : ℕ) × (d : ℤ) × (u : ℕ) × (v ≡ pos 1 ∷ pos m ∷ pos j ∷ d ∷ pos u ∷ floor))
        ⊎ ((m : ℕ) × (i : ℕ) × (t : ℤ) × (q : ℤ) × (u : ℕ) × (v ≡ pos 2 ∷ pos m ∷ pos i ∷ t ∷ q ∷ pos u ∷ floor)))
    answer-kinds = go (inside N O) refl
      where
        Kinds : Type 0
        Kinds = (v ≡ pos 0 ∷ floor)
            ⊎ (((m : ℕ) × (j : ℕ) × (d : ℤ) × (u : ℕ) × (v ≡ pos 1 ∷ pos m ∷ pos j ∷ d ∷ pos u ∷ floor))
            ⊎ ((m : ℕ) × (i : ℕ) × (t : ℤ) × (q : ℤ) × (u : ℕ) × (v ≡ pos 2 ∷ pos m ∷ pos i ∷ t ∷ q ∷ pos u ∷ floor)))

        by_kind : (k : Candidate) → Kind (corner N c) O k → v ≡ told false k → Kinds
        by_kind k (at-corner j l) e = inr (inl (_, _, _, _, e))
        by_kind k (at_edge j l x) e = inr (inr (_, _, _, _, _, e))

        go : (t : Bool) → inside N O ≡ t → Kinds
        go true e = inl (answer-told h e)
        go false e = by_kind _ (kind same e) (answer-told h e)

    pub excess-ends : EndsIn (pos (up N O) ∷ floor) v
    excess-ends = go (inside N O) refl
      where
        by_kind : (k : Candidate) → Kind (corner N c) O k → v ≡ told false k → EndsIn (pos (up N O) ∷ floor) v
        by_kind k (at-corner j l) e = (_ ∷ _ ∷ _ ∷ _ ∷ [], e)
        by_kind k (at_edge j l x) e = (_ ∷ _ ∷ _ ∷ _ ∷ _ ∷ [], e)

        go : (t : Bool) → inside N O ≡ t → EndsIn (pos (up N O) ∷ floor) v
        go true e = ([], answer-told h e ∙ ap (λ u. pos u ∷ floor) (sym ((up-inside N O (new-some same) (old-shape same)).0 e)))
        go false e = by_kind _ (kind same e) (answer-told h e)
