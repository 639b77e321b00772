-- A grouping has one result exactly if none of its calls is refused.
--     result-unique             it has at most one
--     refused→no-result         none where some call is refused
--     unrefused→result          of calls whose answers give a shape, one where none is: the shape that every result is
use Rattle.std.specs.Prelude.{◌≡◌, refl, ◌⊎◌, List, ℕ, ℤ}
use Rattle.std.proofs.Common.{sym, ◌∙◌, ap₂, subst, inl, inr, arith}
use Rattle.plane.specs.Reply.{Reply, answered, refused}
use Rattle.plane.specs.Floor.{Floored}
use Rattle.laws.specs.Grouping.{Call, Gives, Grouping, alone, split, Result, Refused}
use Rattle.laws.proofs.theory.Answer.{gives-unique}

module _ (call : Call) where
  pub result-unique : {L : List Floored} (g : Grouping L) (l m : Floored) → Result call g l → Result call g m → l ≡ m
  result-unique (alone a) l m r s = r ∙ sym s
  result-unique (split order g h out) l m r s =
      let same = ap₂ (λ a b. call a b out) (result-unique g _ _ r.2 s.2) (result-unique h _ _ r.3 s.3) in
      gives-unique (subst (λ w. Gives w l) same r.4) s.4

  pub refused→no-result : {L : List Floored} (g : Grouping L) (l : Floored) → Refused call g → Result call g l → ⊥
  refused→no-result (alone a) l f r = f
  refused→no-result (split order g h out) l (inl f) r = refused→no-result g r.0 f r.2
  refused→no-result (split order g h out) l (inr (inl f)) r = refused→no-result h r.1 f r.3
  refused→no-result (split order g h out) l (inr (inr f)) r =
      let same = ap₂ (λ a b. (call a b out).reply) (result-unique g _ _ f.2 r.2) (result-unique h _ _ f.3 r.3) in
      let z : ◌≡◌ {A = ℕ} 0 1 = cc (same, f.6, r.4.answer) in omega arith

  module _ (answers : (a b : Floored) (out v : List ℤ) → (call a b out).reply ≡ answered v → (l : Floored) × Gives (call a b out) l) where
    result-or-refused : {L : List Floored} (g : Grouping L) → ((l : Floored) × Result call g l) ⊎ Refused call g
    result-or-refused (alone a) = inl (a, refl)
    result-or-refused (split order g h out) = go (result-or-refused g) (result-or-refused h)
      where
        last : (a b : Floored) → Result call g a → Result call h b → (reply : Reply) → (call a b out).reply ≡ reply
            → ((l : Floored) × Result call (split order g h out) l) ⊎ Refused call (split order g h out)
        last a b r s (answered v) e = let given = answers a b out v e in inl (given.0, (a, b, r, s, given.1))
        last a b r s (refused n carried) e = inr (inr (inr (a, b, r, s, n, carried, e)))

        go : ((a : Floored) × Result call g a) ⊎ Refused call g → ((b : Floored) × Result call h b) ⊎ Refused call h
            → ((l : Floored) × Result call (split order g h out) l) ⊎ Refused call (split order g h out)
        go (inr f) k = inr (inl f)
        go (inl r) (inr f) = inr (inr (inl f))
        go (inl r) (inl s) = last r.0 s.0 r.1 s.1 (call r.0 s.0 out).reply refl

    pub unrefused→result : {L : List Floored} (g : Grouping L) (s : Floored) → ((l : Floored) → Result call g l → l ≡ s)
        → (Refused call g → ⊥) → Result call g s
    unrefused→result g s known f = go (result-or-refused g)
      where
        go : ((l : Floored) × Result call g l) ⊎ Refused call g → Result call g s
        go (inl r) = subst (Result call g) (known r.0 r.1) r.1
        go (inr r) = absurd (f r)
