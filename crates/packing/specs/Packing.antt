-- Packing a log into a second run of bytes (our own, not of document 02: there "Older ones keep their room"). The new run gets the current
-- records, byte for byte and in their order. Stores are single bytes, each only where the byte differs from the wanted one, so what is
-- left to do is a function of the bytes alone: a packing that was cut is called again.
--     packed b but           the current records of the log b, joined, without the name `but`; 65,536 is nobody's
--     wanted b but m         the packed log in m bytes: zeros after it
--     mending p x y          the store that makes the byte x at place p the byte y; none if they are equal
--     mends p t u            the stores that make the bytes t, at place p, the bytes u, from the front
--     remade b but t k       the reply, and the new run t after a packing that may make k stores: 1 finished, 0 cut. A refused one
--                            stores nothing
--     repeated b but ks t    the new run after calls with these allowances, the earliest first; `total ks` is what they allow together
use Rattle.std.specs.Prelude.{cond, List, [], ◌∷◌, ◌++◌, ℕ, ◌+◌, ◌-◌, eqb, leb, ltb, length, take, replicate, pos}
use Rattle.plane.specs.Reply.{Reply, answered, Row, row, first_row}
use Rattle.journal.specs.Format.{records}
use Rattle.journal.specs.Reading.{damage_row}
use Rattle.journal.specs.Current.{current, keep, is_other}
use Rattle.journal.specs.Adding.{Store, store, joined, made, unless_refusal, Added}

unfoldable pub packed : List ℕ → ℕ → List ℕ
packed b but = joined (keep (is_other but) (current (records b)))

unfoldable pub wanted : List ℕ → ℕ → ℕ → List ℕ
wanted b but m = packed b but ++ replicate (m - length (packed b but)) 0

abbrev pub mending : ℕ → ℕ → ℕ → List Store
mending p x y = cond (eqb x y) [] (store p y ∷ [])

abbrev pub mends : ℕ → List ℕ → List ℕ → List Store
mends p [] u = []
mends p (x ∷ t) [] = []
mends p (x ∷ t) (y ∷ u) = mending p x y ++ mends (1 + p) t u

-- all stores of a packing into the run t
unfoldable pub mends_all : List ℕ → ℕ → List ℕ → List Store
mends_all b but t = mends 0 t (wanted b but (length t))

-- 15 of the old log, then 16: the new run is too short for the packed log
abbrev pub pack_rows : List ℕ → ℕ → List ℕ → List Row
pack_rows b but t = damage_row b ∷ row 16 (ltb (length t) (length (packed b but))) [] ∷ []

unfoldable pub pack_reply : List ℕ → ℕ → List ℕ → ℕ → Reply
pack_reply b but t k =
    first_row (pack_rows b but t) (answered (cond (leb (length (mends_all b but t)) k) (pos 1) (pos 0) ∷ []))

unfoldable pub remade : List ℕ → ℕ → List ℕ → ℕ → Added
remade b but t k = record {
  reply = pack_reply b but t k;
  log = unless_refusal (pack_reply b but t k) t (made (take k (mends_all b but t)) t);
}

abbrev pub repeated : List ℕ → ℕ → List ℕ → List ℕ → List ℕ
repeated b but [] t = t
repeated b but (k ∷ ks) t = repeated b but ks (remade b but t k).log

abbrev pub total : List ℕ → ℕ
total [] = 0
total (k ∷ ks) = k + total ks
