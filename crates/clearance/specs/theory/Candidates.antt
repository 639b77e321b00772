-- The candidates, which are in the ticket's order, and the first of those that pass.
--     listed, unlisted                   a candidate is in the list exactly if its positions are and its corner falls on its edge
--     least-listed, least-passes         the least is in the list, and passes if one does
--     least_first                        those that pass are it or come after it
use Rattle.std.specs.Prelude.{◌≡◌, refl, Bool, true, false, cond, ◌⊎◌, List, [], ◌∷◌, ◌++◌, ℕ, zero, suc, ◌<◌, length}
use Rattle.std.proofs.Common.{sym, subst, inl, inr, arith}
use mathlib.Core.List.Memᴰ
use mathlib.Core.List.{Memᴰ}
use Rattle.std.proofs.Math.Decide.{ℕ_discrete}
use Rattle.plane.specs.Point.{Point, corner}
use Rattle.plane.specs.Clearance.{falls_on, Candidate, corners, on_second, on_first, each, candidates, least_of}
use Rattle.clearance.specs.Order.{Sooner, Earlier, AtOrAfter, itself, after, Listed}

-- ---- the ticket's order

-- each is before those that follow it
abbrev InTurn : List Candidate → Type 0
InTurn [] = Unit {0}
InTurn (c ∷ cs) = ((d : Candidate) → Memᴰ d cs → AtOrAfter c d) × InTurn cs

append-in-turn : (cs ds : List Candidate) → InTurn cs → InTurn ds
    → ((c d : Candidate) → Memᴰ c cs → Memᴰ d ds → AtOrAfter c d) → InTurn (cs ++ ds)
append-in-turn [] ds h k f = k
append-in-turn (c ∷ cs) ds h k f =
    ((λ d m. go d (Memᴰ.append_cases cs m)), append-in-turn cs ds h.1 k (λ a d m. f a d (Memᴰ.tail m)))
  where
    go : (d : Candidate) → Memᴰ d cs ⊎ Memᴰ d ds → AtOrAfter c d
    go d (inl m) = h.0 d m
    go d (inr m) = f c d (Memᴰ.head refl) m

-- ---- lists side by side

module _ (f : ℕ → List Candidate) where
  each_member : {c : Candidate} (n i : ℕ) → i < n → Memᴰ c (f i) → Memᴰ c (each f n)
  each_member zero i h m = absurd (omega arith)
  each_member {c} (suc n) i h m = go (ℕ_discrete i n) (each_member n i)
    where
      go : Dec (i ≡ n) → (i < n → Memᴰ c (f i) → Memᴰ c (each f n)) → Memᴰ c (each f n ++ f n)
      go (yes e) earlier = Memᴰ.append_right (each f n) (subst (λ k. Memᴰ c (f k)) e m)
      go (no q) earlier = Memᴰ.append_left (f n) (earlier (omega arith) m)

  member-each : {c : Candidate} (n : ℕ) → Memᴰ c (each f n) → (i : ℕ) × (i < n) × Memᴰ c (f i)
  member-each zero m = absurd (Memᴰ.not-nil m)
  member-each {c} (suc n) m = go (Memᴰ.append_cases (each f n) m) (member-each n)
    where
      go : Memᴰ c (each f n) ⊎ Memᴰ c (f n) → (Memᴰ c (each f n) → (i : ℕ) × (i < n) × Memᴰ c (f i))
          → (i : ℕ) × (i < suc n) × Memᴰ c (f i)
      go (inl k) earlier = let r = earlier k in (r.0, omega (arith, r.1), r.2)
      go (inr k) earlier = (n, omega arith, k)

  each-in-turn : (n : ℕ) → ((i : ℕ) → InTurn (f i))
      → ((i k : ℕ) (c d : Candidate) → i < k → Memᴰ c (f i) → Memᴰ d (f k) → AtOrAfter c d) → InTurn (each f n)
  each-in-turn zero h g = tt
  each-in-turn (suc n) h g = append-in-turn (each f n) (f n) (each-in-turn n h g) (h n)
      (λ c d m k. let r = member-each n m in g r.0 n c d r.1 r.2 k)

-- ---- one kind of candidate: those of all positions i and j that pass a test

module _ (put : ℕ → ℕ → Candidate) (test : ℕ → ℕ → Bool) (n m : ℕ) where
  cell : ℕ → ℕ → List Candidate
  cell i j = cond (test i j) (put i j ∷ []) []

  abbrev block : List Candidate
  block = each (λ i. each (λ j. cond (test i j) (put i j ∷ []) []) m) n

  record Cell (c : Candidate) : Type 0 where
    first : ℕ
    second : ℕ
    first-in : first < n
    second-in : second < m
    passes : test first second ≡ true
    is : c ≡ put first second

  member-cell : (i j : ℕ) {c : Candidate} → Memᴰ c (cond (test i j) (put i j ∷ []) []) → (test i j ≡ true) × (c ≡ put i j)
  member-cell i j {c} k = go (test i j) k
    where
      go : (t : Bool) → Memᴰ c (cond t (put i j ∷ []) []) → (t ≡ true) × (c ≡ put i j)
      go true k = (refl, Memᴰ.eq_of_singleton k)
      go false k = absurd (Memᴰ.not-nil k)

  member-block : {c : Candidate} → Memᴰ c block → Cell c
  member-block k =
      let r = member-each (λ i. each (λ j. cond (test i j) (put i j ∷ []) []) m) n k in
      let s = member-each (λ j. cond (test r.0 j) (put r.0 j ∷ []) []) m r.2 in
      let q = member-cell r.0 s.0 s.2 in
      record { first = r.0; second = s.0; first-in = r.1; second-in = s.1; passes = q.0; is = q.1 }

  block-member : (i j : ℕ) → i < n → j < m → test i j ≡ true → Memᴰ (put i j) block
  block-member i j h k e = each_member (λ i. each (λ j. cond (test i j) (put i j ∷ []) []) m) n i h
      (each_member (λ j. cond (test i j) (put i j ∷ []) []) m j k here)
    where
      here : Memᴰ (put i j) (cond (test i j) (put i j ∷ []) [])
      here = rw e (Memᴰ.head refl)

  module _ (order : (i j k l : ℕ) → Sooner i j k l → Earlier (put i j) (put k l)) where
    cell-order : (i j k l : ℕ) (c d : Candidate) → Sooner i j k l → c ≡ put i j → d ≡ put k l → AtOrAfter c d
    cell-order i j k l c d s e f = after (rw (e, f) (order i j k l s))

    block-in-turn : InTurn block
    block-in-turn = each-in-turn (λ i. each (λ j. cond (test i j) (put i j ∷ []) []) m) n
        (λ i. each-in-turn (λ j. cond (test i j) (put i j ∷ []) []) m (λ j. single i j)
        (λ j l c d h a b. cell-order i j i l c d (inr (refl, h)) (member-cell i j a).1 (member-cell i l b).1))
        (λ i k c d h a b. rows i k c d h a b)
      where
        single : (i j : ℕ) → InTurn (cond (test i j) (put i j ∷ []) [])
        single i j = go (test i j)
          where
            go : (t : Bool) → InTurn (cond t (put i j ∷ []) [])
            go true = ((λ d k. absurd (Memᴰ.not-nil k)), tt)
            go false = tt

        rows : (i k : ℕ) (c d : Candidate) → i < k → Memᴰ c (each (λ j. cond (test i j) (put i j ∷ []) []) m)
            → Memᴰ d (each (λ j. cond (test k j) (put k j ∷ []) []) m) → AtOrAfter c d
        rows i k c d h a b =
            let r = member-each (λ j. cond (test i j) (put i j ∷ []) []) m a in
            let s = member-each (λ j. cond (test k j) (put k j ∷ []) []) m b in
            cell-order i r.0 k s.0 c d (inl h) (member-cell i r.0 r.2).1 (member-cell k s.0 s.2).1

-- ---- all of them

module _ (A B : List Point) where
  abbrev pairs : List Candidate
  pairs = block corners (λ i j. true) (length A) (length B)

  abbrev feet : List Candidate
  feet = block on_second (λ i e. falls_on B e (corner A i)) (length A) (length B)

  abbrev turned : List Candidate
  turned = block on_first (λ j e. falls_on A e (corner B j)) (length B) (length A)

  pub listed : (c : Candidate) → Listed A B c → Memᴰ c (candidates A B)
  listed (corners i j) (h, k) =
      Memᴰ.append_left (feet ++ turned) (block-member corners (λ i j. true) (length A) (length B) i j h k refl)
  listed (on_second i e) (h, k, t) = Memᴰ.append_right pairs (Memᴰ.append_left turned
      (block-member on_second (λ i e. falls_on B e (corner A i)) (length A) (length B) i e h k t))
  listed (on_first j e) (h, k, t) = Memᴰ.append_right pairs (Memᴰ.append_right feet
      (block-member on_first (λ j e. falls_on A e (corner B j)) (length B) (length A) j e h k t))

  pub unlisted : (c : Candidate) → Memᴰ c (candidates A B) → Listed A B c
  unlisted c m = go (Memᴰ.append_cases pairs m)
    where
      rest : Memᴰ c feet ⊎ Memᴰ c turned → Listed A B c
      rest (inl k) =
          let r = member-block on_second (λ i e. falls_on B e (corner A i)) (length A) (length B) k in
          subst (Listed A B) (sym r.is) (r.first-in, r.second-in, r.passes)
      rest (inr k) =
          let r = member-block on_first (λ j e. falls_on A e (corner B j)) (length B) (length A) k in
          subst (Listed A B) (sym r.is) (r.first-in, r.second-in, r.passes)

      go : Memᴰ c pairs ⊎ Memᴰ c (feet ++ turned) → Listed A B c
      go (inl k) =
          let r = member-block corners (λ i j. true) (length A) (length B) k in
          subst (Listed A B) (sym r.is) (r.first-in, r.second-in)
      go (inr k) = rest (Memᴰ.append_cases feet k)

  candidates-in-turn : InTurn (candidates A B)
  candidates-in-turn = append-in-turn pairs (feet ++ turned)
      (block-in-turn corners (λ i j. true) (length A) (length B) (λ i j k l s. s))
      (append-in-turn feet turned (block-in-turn on_second (λ i e. falls_on B e (corner A i)) (length A) (length B) (λ i j k l s. s))
      (block-in-turn on_first (λ j e. falls_on A e (corner B j)) (length B) (length A) (λ i j k l s. s)) late)
      (λ c d m k. early c d (member-block corners (λ i j. true) (length A) (length B) m) (Memᴰ.append_cases feet k))
    where
      late : (c d : Candidate) → Memᴰ c feet → Memᴰ d turned → AtOrAfter c d
      late c d m k =
          let r = member-block on_second (λ i e. falls_on B e (corner A i)) (length A) (length B) m in
          let s = member-block on_first (λ j e. falls_on A e (corner B j)) (length B) (length A) k in
          after (rw (r.is, s.is) tt)

      early : (c d : Candidate) → Cell corners (λ i j. true) (length A) (length B) c → Memᴰ d feet ⊎ Memᴰ d turned → AtOrAfter c d
      early c d r (inl k) =
          let s = member-block on_second (λ i e. falls_on B e (corner A i)) (length A) (length B) k in after (rw (r.is, s.is) tt)
      early c d r (inr k) =
          let s = member-block on_first (λ j e. falls_on A e (corner B j)) (length B) (length A) k in after (rw (r.is, s.is) tt)

-- ---- the first of the least

-- `le` compares; of two candidates, one that passes is no further than any, and only those that pass are no further than one that does
module _ (le : Candidate → Candidate → Bool) (Good P : Candidate → Type 0)
    (keep : (c d : Candidate) → Good c → Good d → P c → le c d ≡ true)
    (lose : (c d : Candidate) → Good c → Good d → P d → le c d ≡ true → P c) where
  abbrev AllGood : Candidate → List Candidate → Type 0
  AllGood c cs = (d : Candidate) → Memᴰ d (c ∷ cs) → Good d

  least_of-member : (c : Candidate) (cs : List Candidate) → Memᴰ (least_of le c cs) (c ∷ cs)
  least_of-member c [] = Memᴰ.head refl
  least_of-member c (d ∷ cs) = go (le c (least_of le d cs)) (least_of-member d cs)
    where
      go : (t : Bool) → Memᴰ (least_of le d cs) (d ∷ cs) → Memᴰ (cond t c (least_of le d cs)) (c ∷ d ∷ cs)
      go true m = Memᴰ.head refl
      go false m = Memᴰ.tail m

  least_of-passes : (c : Candidate) (cs : List Candidate) → AllGood c cs → {d : Candidate} → Memᴰ d (c ∷ cs) → P d → P (least_of le c cs)
  least_of-passes c [] good (Memᴰ.head e) p = subst P e p
  least_of-passes c [] good (Memᴰ.tail m) p = absurd (Memᴰ.not-nil m)
  least_of-passes c (d ∷ cs) good (Memᴰ.head e) p =
      let kept = keep c (least_of le d cs) (good c (Memᴰ.head refl)) (good _ (Memᴰ.tail (least_of-member d cs))) (subst P e p) in
      rw kept (subst P e p)
  least_of-passes c (d ∷ cs) good (Memᴰ.tail m) p =
      go (le c (least_of le d cs)) refl (least_of-passes d cs (λ a k. good a (Memᴰ.tail k)) m p)
    where
      go : (t : Bool) → le c (least_of le d cs) ≡ t → P (least_of le d cs) → P (cond t c (least_of le d cs))
      go true e q = lose c (least_of le d cs) (good c (Memᴰ.head refl)) (good _ (Memᴰ.tail (least_of-member d cs))) q e
      go false e q = q

  least_of-first : (c : Candidate) (cs : List Candidate) → AllGood c cs → InTurn (c ∷ cs) → {z : Candidate} → Memᴰ z (c ∷ cs) → P z
      → AtOrAfter (least_of le c cs) z
  least_of-first c [] good turn (Memᴰ.head e) p = itself e
  least_of-first c [] good turn (Memᴰ.tail m) p = absurd (Memᴰ.not-nil m)
  least_of-first c (d ∷ cs) good turn (Memᴰ.head e) p =
      let kept = keep c (least_of le d cs) (good c (Memᴰ.head refl)) (good _ (Memᴰ.tail (least_of-member d cs))) (subst P e p) in
      rw kept (itself e)
  least_of-first c (d ∷ cs) good turn {z} (Memᴰ.tail m) p =
      go (le c (least_of le d cs)) (least_of-first d cs (λ a k. good a (Memᴰ.tail k)) turn.1 m p)
    where
      go : (t : Bool) → AtOrAfter (least_of le d cs) z → AtOrAfter (cond t c (least_of le d cs)) z
      go true q = turn.0 z m
      go false q = q

  -- ---- of all candidates

  module _ (A B : List Point) (a : 0 < length A) (b : 0 < length B) (good : (c : Candidate) → Listed A B c → Good c) where
    all-good : AllGood (corners 0 0) (candidates A B)
    all-good d (Memᴰ.head e) = good d (subst (Listed A B) (sym e) (a, b))
    all-good d (Memᴰ.tail m) = good d (unlisted A B d m)

    from_start : (c : Candidate) → AtOrAfter (corners 0 0) c
    from_start (corners zero zero) = itself refl
    from_start (corners zero (suc j)) = after (inr (refl, omega arith))
    from_start (corners (suc i) j) = after (inl (omega arith))
    from_start (on_second i e) = after tt
    from_start (on_first j e) = after tt

    pub least-listed : Listed A B (least_of le (corners 0 0) (candidates A B))
    least-listed = go (least_of-member (corners 0 0) (candidates A B))
      where
        go : {d : Candidate} → Memᴰ d (corners 0 0 ∷ candidates A B) → Listed A B d
        go (Memᴰ.head e) = subst (Listed A B) (sym e) (a, b)
        go {d} (Memᴰ.tail m) = unlisted A B d m

    pub least-passes : (c : Candidate) → Listed A B c → P c → P (least_of le (corners 0 0) (candidates A B))
    least-passes c h p = least_of-passes (corners 0 0) (candidates A B) all-good (Memᴰ.tail (listed A B c h)) p

    pub least_first : (c : Candidate) → Listed A B c → P c → AtOrAfter (least_of le (corners 0 0) (candidates A B)) c
    least_first c h p = least_of-first (corners 0 0) (candidates A B) all-good ((λ d m. from_start d), candidates-in-turn A B)
        (Memᴰ.tail (listed A B c h)) p
