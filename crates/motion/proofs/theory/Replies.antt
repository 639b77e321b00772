-- What contact replies.
--     contact-admitted           an answer is given only of shapes, places and grown obstacles that pass; `contact-answers`: and of all
--     departure-refused, destination-refused     a place out of range is 3
--     never-exactly              0 is answered exactly if the driven cart is apart from the obstacle
--     one_told                   what the numbers of an answer that begins with 1 are
--     told-met, told-first       the cart meets the obstacle at its fraction, and at none before
--     told-clear                 nor on fewer than its safe millimetres
use Rattle.std.specs.Prelude.{◌≡◌, refl, Bool, true, false, not, cond, List, [], ◌∷◌, ◌++◌, ◌↔◌, ℕ, ◌<◌, ℤ, pos, ◌*ℤ◌, length, ◌<ℤ◌}
use Rattle.std.proofs.Common.{sym, ◌∙◌, ap, subst, arith}
use Rattle.plane.specs.Point.{Point}
use Rattle.plane.specs.Reply.{answered, refused, NoneApply, here, later}
use Rattle.plane.specs.Refusal.{some_outside}
use Rattle.plane.specs.Shape.{IsShape}
use Rattle.plane.specs.Measure.{squared}
use Rattle.plane.specs.Separation.{apart}
use Rattle.plane.specs.Distance.{Fraction, over}
use Rattle.plane.specs.Floor.{Floored, corners, Same}
use Rattle.plane.specs.Question.{reply}
use Rattle.plane.proofs.theory.refusals.Asked.{asked-given, asked-none, asked-values, asked-shapes, asked-rest, rest-given, rest-none}
use Rattle.growth.specs.Grown.{grown, driven}
use Rattle.growth.proofs.theory.Alike.{alike-apart}
use Rattle.growth.proofs.theory.Places.{grown-shape, drive-alike}
use Rattle.motion.specs.Contact.{OnWay, NoLater, meets, cart_meets, contact, safe, contact_numbers, contact_rows, ask_contact, Told}
use Rattle.motion.proofs.theory.Meeting.{first-on-way, none-earlier, met-unless-apart}
use Rattle.motion.proofs.theory.Larger.{cart-met}
use Rattle.motion.proofs.theory.Safe.{safe-clear}

module _ (b a : Floored) (t u : Point) where
  abbrev B : List Point
  B = corners b

  abbrev A : List Point
  A = corners a

  abbrev G : List Point
  G = grown B A

  abbrev way : List Point
  way = t ∷ u ∷ []

  -- ---- the reply

  pub contact-admitted : (v : List ℤ) → reply (ask_contact b a t u) ≡ answered v → Same b a × NoneApply (contact_rows b a t u)
  contact-admitted v h = (asked-shapes (ask_contact b a t u) v h, asked-rest (ask_contact b a t u) v h)

  pub contact-answers : Same b a → NoneApply (contact_rows b a t u)
      → reply (ask_contact b a t u) ≡ answered (contact_numbers t u G ++ (pos b.floor ∷ []))
  contact-answers s n = asked-none (ask_contact b a t u) (rest-none (ask_contact b a t u) s n)

  module _ (s : Same b a) where
    pub departure-refused : some_outside (t.x ∷ t.y ∷ []) ≡ true → reply (ask_contact b a t u) ≡ refused 3 (3 ∷ [])
    departure-refused h = asked-given (ask_contact b a t u) (rest-given (ask_contact b a t u) s (here h))

    pub destination-refused : some_outside (t.x ∷ t.y ∷ []) ≡ false → some_outside (u.x ∷ u.y ∷ []) ≡ true
        → reply (ask_contact b a t u) ≡ refused 3 (4 ∷ [])
    destination-refused k h = asked-given (ask_contact b a t u) (rest-given (ask_contact b a t u) s (later k (here h)))

  -- ---- an answer's numbers

  -- by whether the way is apart from the grown obstacle
  abbrev told-by : Bool → List ℤ
  told-by away =
      let c = contact t u G in
      cond away (pos 0 ∷ []) (pos 1 ∷ c.numerator ∷ c.denominator ∷ pos (safe t u G) ∷ []) ++ (pos b.floor ∷ [])

  module _ (s : Same b a) where
    obstacle-some : 0 < length B
    obstacle-some = s.first-valid.shape.some

    cart-some : 0 < length A
    cart-some = s.second-valid.shape.some

    pub grown-is : IsShape G
    grown-is = grown-shape B A obstacle-some cart-some

    pub drive-way : apart (driven A t u) B ≡ apart way G
    drive-way = alike-apart (driven A t u) B way G (drive-alike A B cart-some obstacle-some t u)

    pub never-exactly : NoneApply (contact_rows b a t u)
        → (reply (ask_contact b a t u) ≡ answered (pos 0 ∷ pos b.floor ∷ [])) ↔ (apart (driven A t u) B ≡ true)
    never-exactly n = (
      λ h. drive-way ∙ go (apart way G) (asked-values (ask_contact b a t u) _ h),
      λ h. contact-answers s n ∙ ap (λ c. answered (told-by c)) (sym drive-way ∙ h),
    )
      where
        go : (c : Bool) → pos 0 ∷ pos b.floor ∷ [] ≡ told-by c → c ≡ true
        go true e = refl
        go false e = absurd (let z : ◌≡◌ {A = ℕ} 0 1 = cc e in let x : ⊥ = omega arith in x)

  module _ (n d w f : ℤ) (h : reply (ask_contact b a t u) ≡ answered (pos 1 ∷ n ∷ d ∷ w ∷ f ∷ [])) where
    same : Same b a
    same = (contact-admitted _ h).0

    pub one_told : Told b a t u n d w f
    one_told = go (apart way G) refl (asked-values (ask_contact b a t u) _ h)
      where
        go : (c : Bool) → apart way G ≡ c → pos 1 ∷ n ∷ d ∷ w ∷ f ∷ [] ≡ told-by c → Told b a t u n d w f
        go true k e = absurd (let z : ◌≡◌ {A = ℕ} 0 1 = cc e in let x : ⊥ = omega arith in x)
        go false k e =
            let x : n ≡ (contact t u G).numerator = cc e in
            let y : d ≡ (contact t u G).denominator = cc e in
            record { met = drive-way same ∙ k; fraction-is = rw (x, y) refl; safe-is = cc e; floor-is = cc e }

    abbrev c : Fraction
    c = contact t u G

    told-way : OnWay (over n d)
    told-way = subst OnWay (sym one_told.fraction-is) (first-on-way t u G)

    pub told-met : OnWay (over n d) × (cart_meets A B t u (over n d) ≡ true)
    told-met = (
      told-way,
      cart-met A B (cart-some same) (obstacle-some same) t u (over n d) told-way.whole
          ∙ ap (meets t u G) one_told.fraction-is ∙ met-unless-apart t u G (grown-is same)
          ∙ ap not (sym (drive-way same) ∙ one_told.met),
    )

    module _ (g : Fraction) (on : OnWay g) where
      at_place : cart_meets A B t u g ≡ meets t u G g
      at_place = cart-met A B (cart-some same) (obstacle-some same) t u g on.whole

      pub told-first : cart_meets A B t u g ≡ true → NoLater (over n d) g
      told-first m = subst (λ c. NoLater c g) (sym one_told.fraction-is) (none-earlier t u G (grown-is same) g on (sym at_place ∙ m))

      pub told-clear : (g.numerator *ℤ g.numerator *ℤ squared t u) <ℤ (w *ℤ w *ℤ (g.denominator *ℤ g.denominator))
          → cart_meets A B t u g ≡ false
      told-clear short = at_place ∙ safe-clear t u G (grown-is same) g on (rw one_told.safe-is at short)
