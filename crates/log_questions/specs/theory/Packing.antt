-- Packing: what is answered of what the inner functions find.
--     pack-damaged, pack-full, pack-done     15, 16, or the stores
use Rattle.std.specs.Prelude.{◌≡◌, Err, Bool, false, cond, List, [], ◌∷◌, ℕ, ◌≤◌, ◌<◌, leb, pos, length, take}
use Rattle.std.proofs.Math.Path.{refl, ap}
use Rattle.std.proofs.Common.{sym, ◌∙◌}
use borrow.Author.Tests.{lt-ltb, le-ltb}
use Rattle.plane.specs.Reply.{Reply, answered, refused}
use Rattle.journal.specs.Format.{records}
use Rattle.journal.specs.Reading.{damaged}
use Rattle.journal.specs.Adding.{made, unless_refusal}
use Rattle.journal.specs.Survey.{surveyed}
use Rattle.journal.specs.declared.survey.Damaged.{Damaged}
use Rattle.journal.proofs.theory.Survey.{surveyed-bad}
use Rattle.packing.specs.Packing.{packed, mends_all, pack_reply, remade}

module _ (b : List ℕ) (but : ℕ) (t : List ℕ) (k : ℕ) where
  -- this reply, with this run
  abbrev Packs : Reply → List ℕ → Type 0
  Packs r c = (r ≡ (remade b but t k).reply) × (c ≡ (remade b but t k).log)

  abbrev all : List ℕ
  all = made (take k (mends_all b but t)) t

  -- the run follows from the reply
  follows : (r : Reply) (c : List ℕ) → r ≡ pack_reply b but t k → c ≡ unless_refusal r t all → Packs r c
  unfolding remade
  follows r c h e = (h, e ∙ ap (λ (x : Reply). unless_refusal x t all) h)

  pub pack-damaged : (d : Damaged) → surveyed b ≡ Err d → Packs (refused 15 (d.place ∷ [])) t
  unfolding pack_reply
  pack-damaged d h =
      let s = surveyed-bad b d h in
      follows (refused 15 (d.place ∷ [])) t (rw s.0 (ap (λ (q : ℕ). refused 15 (q ∷ [])) (sym s.1))) refl

  module _ (sound : damaged (records b) ≡ false) where
    pub pack-full : length t < length (packed b but) → Packs (refused 16 []) t
    unfolding pack_reply
    pack-full h = follows (refused 16 []) t (rw (sound, lt-ltb (length t) (length (packed b but)) h)) refl

    pub pack-done : length (packed b but) ≤ length t → {r x : Bool} {c : List ℕ} → r ≡ x → r ≡ leb (length (mends_all b but t)) k → c ≡ all
        → Packs (answered (cond x (pos 1) (pos 0) ∷ [])) c
    unfolding pack_reply
    pack-done h {r} {x} {c} q e w =
        follows (answered (cond x (pos 1) (pos 0) ∷ [])) c
        (rw (sound, le-ltb (length t) (length (packed b but)) h)
        (ap (λ (y : Bool). answered (cond y (pos 1) (pos 0) ∷ [])) (sym q ∙ e))) w
