-- What the records of a floor are, if no record of the log is bad.
--     keep-in, in-keep          the members of those that pass a test
--     keep-split                where in the list one of those is
--     floor-valid, floor-on     a record of the floor holds a shape's numbers, and says that floor
--     sized-in                  6 and 7 let its grown shape pass, if they let all
use Rattle.std.specs.Prelude.{◌≡◌, refl, Bool, true, false, cond, ℕ, eqb}
use Rattle.std.proofs.Common.{sym, ◌∙◌, ap, subst, arith}
use Rattle.std.proofs.Math.Bool.{and-eq-true_iff}
use mathlib.Core.List.Memᴰ
use mathlib.Core.List.{List, [], ◌∷◌, ◌++◌, Memᴰ}
use borrow.Author.Tests.{eqb-true}
use Rattle.plane.specs.Point.{Point}
use Rattle.plane.specs.Reply.{NoneApply}
use Rattle.plane.specs.Refusal.{Valid}
use Rattle.plane.proofs.theory.lists.Sought.{either-false}
use Rattle.journal.specs.Format.{records, name, floor, list, bad}
use Rattle.journal.specs.Reading.{damaged, held}
use Rattle.journal.specs.Current.{current, keep, is_other, is_around, around}
use Rattle.journal.proofs.theory.Kind.{good→facts}
use Rattle.gaps.specs.Gap.{on_floor, size_rows_of}
use Rattle.gaps.specs.Search.{Fits}
use Rattle.gaps.proofs.theory.Steps.{sized-parts}

-- ---- those that pass a test

module _ {X : Type 0} (p : X → Bool) where
  pub keep-in : (xs : List X) {y : X} → Memᴰ y (keep p xs) → Memᴰ y xs × (p y ≡ true)
  keep-in [] m = absurd (Memᴰ.not-nil m)
  keep-in (x ∷ xs) {y} m = go (p x) refl m (λ k. keep-in xs k)
    where
      go : (t : Bool) → p x ≡ t → Memᴰ y (cond t (x ∷ keep p xs) (keep p xs))
          → (Memᴰ y (keep p xs) → Memᴰ y xs × (p y ≡ true)) → Memᴰ y (x ∷ xs) × (p y ≡ true)
      go true e (Memᴰ.head q) ih = (Memᴰ.head q, ap p q ∙ e)
      go true e (Memᴰ.tail k) ih = (Memᴰ.tail (ih k).0, (ih k).1)
      go false e k ih = (Memᴰ.tail (ih k).0, (ih k).1)

  pub in-keep : (xs : List X) {y : X} → Memᴰ y xs → p y ≡ true → Memᴰ y (keep p xs)
  in-keep [] m e = absurd (Memᴰ.not-nil m)
  in-keep (x ∷ xs) {y} (Memᴰ.head q) e =
      subst (λ (t : Bool). Memᴰ y (cond t (x ∷ keep p xs) (keep p xs))) (sym (sym (ap p q) ∙ e)) (Memᴰ.head q)
  in-keep (x ∷ xs) {y} (Memᴰ.tail m) e = go (p x) (in-keep xs m e)
    where
      go : (t : Bool) → Memᴰ y (keep p xs) → Memᴰ y (cond t (x ∷ keep p xs) (keep p xs))
      go true k = Memᴰ.tail k
      go false k = k

  -- w in the whole list, with those before it that pass the test
  pub record Split (xs bs : List X) (w : X) : Type 0 where
    pub before : List X
    pub after : List X
    pub is : xs ≡ before ++ w ∷ after
    pub kept : keep p before ≡ bs

  pub keep-split : (xs bs : List X) (w : X) (ends : List X) → keep p xs ≡ bs ++ w ∷ ends → Split xs bs w
  keep-split [] [] w ends e = absurd (let z : ◌≡◌ {A = ℕ} 0 1 = cc e in let f : ⊥ = omega arith in f)
  keep-split [] (b ∷ bs) w ends e = absurd (let z : ◌≡◌ {A = ℕ} 0 1 = cc e in let f : ⊥ = omega arith in f)
  keep-split (x ∷ xs) bs w ends e = go (p x) refl bs e (λ cs q. keep-split xs cs w ends q)
    where
      -- one more before it
      further : (t : Bool) → p x ≡ t → (cs : List X) → Split xs cs w → Split (x ∷ xs) (cond t (x ∷ cs) cs) w
      further t k cs r = record {
        before = x ∷ r.before;
        after = r.after;
        is = ap (λ (ys : List X). x ∷ ys) r.is;
        kept = ap (λ (ys : List X). cond (p x) (x ∷ ys) ys) r.kept ∙ ap (λ (s : Bool). cond s (x ∷ cs) cs) k;
      }

      go : (t : Bool) → p x ≡ t → (cs : List X) → cond t (x ∷ keep p xs) (keep p xs) ≡ cs ++ w ∷ ends
          → ((ds : List X) → keep p xs ≡ ds ++ w ∷ ends → Split xs ds w) → Split (x ∷ xs) cs w
      go true k [] q ih =
          let same : x ≡ w = cc q in
          record { before = []; after = xs; is = ap (λ (y : X). y ∷ xs) same; kept = refl }
      go true k (c ∷ cs) q ih =
          let same : x ≡ c = cc q in
          let rest : keep p xs ≡ cs ++ w ∷ ends = cc q in
          subst (λ (y : X). Split (x ∷ xs) (y ∷ cs) w) same (further true k cs (ih cs rest))
      go false k cs q ih = further false k cs (ih cs q)

-- ---- the records of a log

current-in : (rs : List (List ℕ)) {r : List ℕ} → Memᴰ r (current rs) → Memᴰ r rs
current-in [] m = m
current-in (s ∷ rs) {r} m = go (held (name s) rs) m (λ k. current-in rs k)
  where
    go : (t : Bool) → Memᴰ r (cond t (current rs) (s ∷ current rs)) → (Memᴰ r (current rs) → Memᴰ r rs)
        → Memᴰ r (s ∷ rs)
    go true k ih = Memᴰ.tail (ih k)
    go false (Memᴰ.head q) ih = Memᴰ.head q
    go false (Memᴰ.tail k) ih = Memᴰ.tail (ih k)

sound-in : (rs : List (List ℕ)) {r : List ℕ} → damaged rs ≡ false → Memᴰ r rs → bad r ≡ false
sound-in [] d m = absurd (Memᴰ.not-nil m)
sound-in (s ∷ rs) d (Memᴰ.head q) = ap bad q ∙ (either-false (bad s) (damaged rs) d).0
sound-in (s ∷ rs) d (Memᴰ.tail m) = sound-in rs (either-false (bad s) (damaged rs) d).1 m

module _ (b : List ℕ) (f : ℕ) (r : List ℕ) (m : Memᴰ r (on_floor f b)) where
  parts : Memᴰ r (current (records b)) × (is_around f 65536 r ≡ true)
  unfolding around
  parts = keep-in (is_around f 65536) (current (records b)) m

  pub floor-valid : damaged (records b) ≡ false → Valid (list r)
  floor-valid sound = (good→facts r (sound-in (records b) sound (current-in (records b) parts.0))).shape

  pub floor-on : floor r ≡ f
  unfolding is_around
  floor-on = eqb-true (floor r) f ((and-eq-true_iff (eqb (floor r) f) (is_other 65536 r)).0 parts.1).0

pub sized-in : (A : List Point) (rs : List (List ℕ)) {r : List ℕ} → NoneApply (size_rows_of A rs) → Memᴰ r rs → Fits A r
sized-in A [] n m = absurd (Memᴰ.not-nil m)
sized-in A (s ∷ rs) n (Memᴰ.head q) = subst (Fits A) (sym q) (sized-parts A s rs n).0
sized-in A (s ∷ rs) n (Memᴰ.tail m) = sized-in A rs (sized-parts A s rs n).1 m
