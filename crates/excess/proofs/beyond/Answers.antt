-- `beyond` meets its contract: inside, or the numbers of the outermost corner.
use mathlib.Core.Path.{◌≡◌, sym, ◌∙◌, ap, subst}
use mathlib.Core.List.{List, [], ◌∷◌}
use mathlib.Core.Bool.{Bool, true, cond, true≢false}
use Prim.Native.Nat.{ℕ}
use lib.IntN.{pos}
use Rattle.plane.specs.Point.{Point, points, corner}
use Rattle.plane.specs.Separation.{inside, apart}
use Rattle.plane.specs.Clearance.{nearest}
use Rattle.polygon.specs.Point.{at}
use Rattle.std.specs.Prelude.{Option}
use Rattle.clearance.specs.declared.measured.Distance.{Distance}
use Rattle.clearance.specs.Answer.{Spaced}
use Rattle.excess.specs.Answer.{up_numbers}
use Rattle.excess.specs.Excess.{outermost, corner_numbers, excess_numbers}
use Rattle.excess.proofs.theory.Outermost.{outermost-among}
use Rattle.excess.proofs.theory.Reach.{outermost-apart}
use Rattle.excess.proofs.theory.Found.{corner-valid, point-found, found-rounded, found_up}
use Rattle.excess.proofs.beyond.Goals as goal
use Rattle.excess.proofs.beyond.Goals.{After-corner_at, After-spacing}

-- what is answered where `inside` says t
told : (N O : List Point) {t : Bool} → inside N O ≡ t
    → cond t (pos 0 ∷ []) (corner_numbers N O (outermost N O) (nearest (corner N (outermost N O) ∷ []) O)) ≡ excess_numbers N O
told N O e = ap (λ (t : Bool). cond t (pos 0 ∷ []) (corner_numbers N O (outermost N O) (nearest (corner N (outermost N O) ∷ []) O))) (sym e)

pub returns-then-inside : goal.returns-then-inside
returns-then-inside c = told _ _ (sym c.inside.ensures ∙ c.if-inside.true)

pub corner_at-requires : goal.corner_at-requires
corner_at-requires c =
    let pre = c.requires in
    rw c.outermost-corner.ensures (outermost-among _ _ pre.0.shape.some pre.1.shape)

-- past the first test the outermost corner is at hand, and it is apart from the old shape
place : (c : After-corner_at) → let args = c.args in
    let N = points args.new.now in
    at c.corner_at.result ≡ corner N (outermost N (points args.old.now))
place c = c.corner_at.ensures
    ∙ ap (corner (points c.args.new.now)) c.outermost-corner.ensures

clear : (c : After-corner_at) → let args = c.args in
    let N = points args.new.now in
    let O = points args.old.now in
    apart (corner N (outermost N O) ∷ []) O ≡ true
clear c =
    let pre = c.requires in
    outermost-apart _ _ pre.0.shape.some pre.1.shape (sym c.inside.ensures ∙ c.if-inside.false)

pub spacing-requires : goal.spacing-requires
spacing-requires c = (
  corner-valid _ c.requires.0 _ (outermost-among _ _ c.requires.0.shape.some c.requires.1.shape) (place c),
  c.requires.1,
)

-- what is known of its spacing, where it is told
known : (c : After-spacing) {s : Option Distance} → c.spacing.result ≡ s → let args = c.args in
    let N = points args.new.now in
    let O = points args.old.now in
    Spaced (corner N (outermost N O) ∷ []) O s
known c {s} e = let O = points c.args.old.now in
    subst (λ (p : Point). Spaced (p ∷ []) O s) (place c.before)
    (subst (Spaced (at c.corner_at.result ∷ []) O) e c.spacing.ensures)

pub rounded-requires : goal.rounded-requires
rounded-requires c =
    let w = goal.at.rounded-requires c in
    found-rounded (point-found _ _ c.requires.1.shape (clear w.After-corner_at) c.in_ok-found.found
    (known w.After-spacing c.in_ok-found.was).1)

pub returns-in_err-found : goal.returns-in_err-found
returns-in_err-found c =
    let w = goal.at.returns-in_err-found c in
    absurd (true≢false (sym (clear w.After-corner_at) ∙ known w.After-spacing c.in_err-found.was))

pub returns : goal.returns
returns c =
    let w = goal.at.returns c in
    c.rounded.ensures ∙ ap (λ (k : ℕ). up_numbers k c.in_ok-found.found) c.outermost-corner.ensures
    ∙ found_up (points c.args.new.now) _ c.requires.1.shape (clear w.After-corner_at) c.in_ok-found.found
    (known w.After-spacing c.in_ok-found.was).1
    ∙ told _ _ (sym c.inside.ensures ∙ c.if-inside.false)
