-- The search for the outermost corner.
--     Searched N O k r                  r is the first furthest of the first k corners of N, with its distance
--     searched-start, -next, -done      its moves
use mathlib.Core.Path.{◌≡◌, refl, sym, ◌∙◌, subst, ap}
use mathlib.Core.Bool.{Bool, true, false, cond}
use mathlib.Core.List.{List}
use Prim.Native.Nat.{ℕ, suc}
use lib.ListN.{length}
use Rattle.plane.specs.Point.{Point}
use Rattle.plane.specs.Shape.{IsShape}
use Rattle.excess.specs.Excess.{outermost}
use Rattle.excess.specs.Answer.{HasFar, is_further}
use Rattle.excess.specs.declared.outermost.Far.{Far}
use Rattle.excess.proofs.theory.Outermost.{Furthest, furthest-start, furthest-keep, furthest-replace, furthest-done}
use Rattle.excess.proofs.theory.Found.{far-further, far-no-further}

pub record Searched (N O : List Point) (k : ℕ) (r : Far) : Type 0 where
  pub is-far : HasFar N O r.corner r
  pub is-furthest : Furthest N O k r.corner

module _ {N O : List Point} where
  searched : {k i : ℕ} {r : Far} → HasFar N O i r → Furthest N O k i → Searched N O k r
  searched {k} {i} {r} h f = record {
    is-far = subst (λ j. HasFar N O j r) (sym h.corner-is) h;
    is-furthest = subst (Furthest N O k) (sym h.corner-is) f;
  }

  pub searched-start : {r : Far} → HasFar N O 0 r → Searched N O 1 r
  searched-start h = searched h (furthest-start N O)

  pub searched-next : {k : ℕ} {best found r : Far} → IsShape O → Searched N O k best → HasFar N O k found
      → r ≡ cond (is_further best found) found best
      → Searched N O (suc k) r
  searched-next {k} {best} {found} {r} s b h e = go (is_further best found) refl
    where
      go : (t : Bool) → is_further best found ≡ t
          → Searched N O (suc k) r
      go true c = subst (Searched N O (suc k)) (sym (e ∙ ap (λ t. cond t found best) c))
          (searched h (furthest-replace N O s b.is-furthest (far-further N O s b.is-far h c)))
      go false c = subst (Searched N O (suc k)) (sym (e ∙ ap (λ t. cond t found best) c))
          (searched b.is-far (furthest-keep N O s b.is-furthest (far-no-further N O s b.is-far h c)))

  pub searched-done : {r : Far} → Searched N O (length N) r → r.corner ≡ outermost N O
  searched-done b = sym (furthest-done N O b.is-furthest)
