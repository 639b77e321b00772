-- How a search goes on: what is kept, once pairs are passed.
--     passed_none, passed-join     no pair changes nothing; one search after another is one
--     passed_over, passed-tried    a pair that is not nearer is left; one that was measured is kept or left
--     passed-left                  the same if the second record may not be one of the floor's
--     told-sized                   what is kept can be compared
--     passed-end                   what is kept at the end is the narrowest
--     answer-nothing, answer-found, answer-numbers     what is answered then
--     along-start, along-next, along-end     the moves of a loop that passes the pairs which are still to come
use Rattle.std.specs.Prelude.{◌≡◌, refl, Bool, true, false, not, cond, List, [], ◌∷◌, ◌++◌, ℕ, ℤ, pos, Option, Some, None}
use Rattle.std.proofs.Common.{sym, ◌∙◌, ap, ap₂, subst, true≢false, append_assoc, append-nil}
use Rattle.std.proofs.lemmas.Bool.{not-true, not-false}
use Rattle.plane.specs.Point.{Point}
use Rattle.plane.specs.Distance.{Fraction, no_more}
use Rattle.clearance.specs.theory.Distance.{no_more-refl, more-no_more, no_more-trans}
use Rattle.journal.specs.Format.{name}
use Rattle.journal.specs.Survey.{record_at, Stated}
use Rattle.journal.specs.declared.head.Head.{Head}
use Rattle.neighbours.specs.Spacing.{fraction_of, spacing_numbers}
use Rattle.clearance.specs.declared.measured.Distance.{Distance}
use Rattle.neighbours.specs.theory.Least.{All, least_of-step}
use Rattle.gaps.specs.Gap.{Pair, the_pair, gap_of, no_wider, narrowest, pair_numbers}
use Rattle.gaps.specs.Search.{pair_at, tried_at, kept_of, since, HasGap, Found, Told, Passed, best, nearer, is_nearer, is_on, KeptSized}
use Rattle.gaps.specs.declared.search.Best.{Best}

module _ (A : List Point) where
  -- of two pairs at the front the narrower is kept, the first on a tie
  since-step : (p q : Pair) (ps : List Pair) → HasGap A p → HasGap A q → All (HasGap A) ps → {t : Bool} → no_wider A p q ≡ t
      → since A (the_pair p) (q ∷ ps) ≡ since A (the_pair (cond t p q)) ps
  since-step p q ps a b c e = ap the_pair (least_of-step (no_wider A) (HasGap A) (λ x h. no_more-refl (gap_of A x))
      (λ x y g h e. more-no_more (gap_of A x) (gap_of A y) e)
      (λ x y z f g h e k. no_more-trans (gap_of A x) (gap_of A y) (gap_of A z) f g h e k) p q ps (a, (b, c)))
      ∙ ap (λ (t : Bool). since A (the_pair (cond t p q)) ps) e

  all_append : (ps qs : List Pair) → All (HasGap A) ps → All (HasGap A) qs → All (HasGap A) (ps ++ qs)
  all_append [] qs a b = b
  all_append (p ∷ ps) qs a b = (a.0, all_append ps qs a.1 b)

  module _ (b : List ℕ) where
    pub passed_none : (s : Option Best) → Told A b s → Passed A b [] s s
    passed_none s t = record { told = t; gaps = tt; still = λ rest a. refl }

    pub passed-join : {ps qs : List Pair} {s r u : Option Best} → Passed A b ps s r → Passed A b qs r u → Passed A b (ps ++ qs) s u
    passed-join {ps} {qs} {s} f g = record {
      told = g.told;
      gaps = all_append ps qs f.gaps g.gaps;
      still = λ rest a. ap (since A (kept_of b s)) (append_assoc ps qs rest) ∙ f.still (qs ++ rest) (all_append qs rest g.gaps a)
          ∙ g.still rest a;
    }

    -- the test of the code is that of the pairs
    test-is : (v : Best) → Found A b v.first v.second v.distance → (x : Pair) {y : Bool}
        → no_more (fraction_of v.distance) (gap_of A x) ≡ y → no_wider A (pair_at b v.first v.second) x ≡ y
    test-is v t x {y} e = subst (λ (f : Fraction). no_more f (gap_of A x) ≡ y) t.fraction-is e

    -- one that is not nearer is left
    pub passed_over : (p q : ℕ) (s : Option Best) → Told A b s → HasGap A (pair_at b p q) → is_nearer (gap_of A (pair_at b p q)) s ≡ false
        → Passed A b (pair_at b p q ∷ []) s s
    passed_over p q None t h e = absurd (true≢false e)
    passed_over p q (Some v) t h e = record {
      told = t;
      gaps = (h, tt);
      still = λ rest a. since-step (pair_at b v.first v.second) (pair_at b p q) rest t.has-gap h a
          (test-is v t (pair_at b p q) (not-false _ e));
    }

    -- one that is nearer is kept
    passed-nearer : (p q : ℕ) (w : Option Distance) → Found A b p q w → (s : Option Best) → Told A b s
        → is_nearer (gap_of A (pair_at b p q)) s ≡ true
        → Passed A b (pair_at b p q ∷ []) s (Some (best p q w))
    passed-nearer p q w f None t e = record { told = f; gaps = (f.has-gap, tt); still = λ rest a. refl }
    passed-nearer p q w f (Some v) t e = record {
      told = f;
      gaps = (f.has-gap, tt);
      still = λ rest a. since-step (pair_at b v.first v.second) (pair_at b p q) rest t.has-gap f.has-gap a
          (test-is v t (pair_at b p q) (not-true _ e));
    }

    -- with a pair that was found, whatever is kept
    pub passed-tried : (p q : ℕ) (w : Option Distance) (s : Option Best) → Told A b s → Found A b p q w → Passed A b (pair_at b p q ∷ []) s
        (nearer p q w s)
    passed-tried p q w None t f = passed-nearer p q w f None t refl
    passed-tried p q w (Some v) t f = go (no_more (fraction_of v.distance) (fraction_of w)) refl
      where
        same : {x : Bool} → no_more (fraction_of v.distance) (fraction_of w) ≡ x → is_nearer (gap_of A (pair_at b p q)) (Some v) ≡ not x
        same e = ap not (ap (no_more (fraction_of v.distance)) (sym f.fraction-is) ∙ e)

        go : (x : Bool) → no_more (fraction_of v.distance) (fraction_of w) ≡ x
            → Passed A b (pair_at b p q ∷ []) (Some v) (cond x (Some v) (Some (best p q w)))
        go true e = passed_over p q (Some v) t f.has-gap (same e)
        go false e = passed-nearer p q w f (Some v) t (same e)

    -- what is kept stays, if the record at q is not one of the floor's or its pair is not nearer
    pub passed-left : (f p q : ℕ) (s : Option Best) → Told A b s → HasGap A (pair_at b p q)
        → (is_on f b q ≡ true → is_nearer (gap_of A (pair_at b p q)) s ≡ false) → Passed A b (tried_at f b p q) s s
    passed-left f p q s t h far = go (is_on f b q) refl
      where
        go : (x : Bool) → is_on f b q ≡ x → Passed A b (cond x (pair_at b p q ∷ []) []) s s
        go true e = passed_over p q s t h (far e)
        go false e = passed_none s t

    pub told-sized : (s : Option Best) → Told A b s → KeptSized s
    told-sized None t = tt
    told-sized (Some v) t = t.sized

    pub passed-end : (ps : List Pair) (r : Option Best) → Passed A b ps None r → kept_of b r ≡ narrowest A ps
    passed-end ps r f = sym (ap (narrowest A) (sym (append-nil ps)) ∙ f.still [] tt ∙ done r)
      where
        done : (x : Option Best) → since A (kept_of b x) [] ≡ kept_of b x
        done None = refl
        done (Some v) = refl

    -- the answer's numbers, by what is kept
    module _ (ps : List Pair) (r : Option Best) (f : Passed A b ps None r) where
      pub answer-nothing : r ≡ None → [] ≡ pair_numbers A (narrowest A ps)
      answer-nothing e = ap (pair_numbers A) (sym (ap (kept_of b) e) ∙ passed-end ps r f)

      module _ (p q : ℕ) (w : Option Distance) (e : r ≡ Some (best p q w)) where
        pub answer-found : Found A b p q w
        answer-found = subst (Told A b) e f.told

        pub answer-numbers : {h k : Head} → Stated b p h → Stated b q k
            → pos h.name ∷ pos k.name ∷ spacing_numbers w ≡ pair_numbers A (narrowest A ps)
        answer-numbers {h} {k} s t =
            ap₂ (λ (n m : ℕ). pos n ∷ pos m ∷ spacing_numbers w) (sym s.name-is) (sym t.name-is)
            ∙ ap (λ (vs : List ℤ). pos (name (record_at b p)) ∷ pos (name (record_at b q)) ∷ vs) answer-found.numbers-are
            ∙ ap (pair_numbers A) (sym (ap (kept_of b) e) ∙ passed-end ps r f)

    -- what is still to come, from a place on
    module _ (ps : ℕ → List Pair) where
      pub record Along (from : ℕ) (s k : Option Best) (p : ℕ) : Type 0 where
        pub told : Told A b k
        pub onward : (r : Option Best) → Passed A b (ps p) k r → Passed A b (ps from) s r

      pub along-start : (p : ℕ) (s : Option Best) → Told A b s → Along p s s p
      along-start p s t = record { told = t; onward = λ r f. f }

      pub along-next : {from p q : ℕ} {here : List Pair} {s k r : Option Best} → Along from s k p → Passed A b here k r
          → ps p ≡ here ++ ps q → Along from s r q
      along-next {from} {p} {q} {here} {s} {k} {r} a f e = record {
        told = f.told;
        onward = λ u g. a.onward u (subst (λ (qs : List Pair). Passed A b qs k u) (sym e) (passed-join f g));
      }

      pub along-end : {from p : ℕ} {s k : Option Best} → Along from s k p → ps p ≡ [] → Passed A b (ps from) s k
      along-end {from} {p} {s} {k} a e = a.onward k (subst (λ (qs : List Pair). Passed A b qs k k) (sym e) (passed_none k a.told))
