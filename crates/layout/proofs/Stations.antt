-- The two numbers of the station list that no definition names are its bounds: the largest allowance that a store takes, and the most writes that one makes, since the slot
-- that it fills is live of no number. Assumes nothing.
use Rattle.std.proofs.Common.{◌≡◌, ℕ, zero, suc, ◌+◌, ◌<◌, ◌≤◌, Bool, true, false, ◌&&◌, eqb, leb, List, ◌∷◌, length, sym, refl, ap, ◌∙◌, true≢false, arith}
use Rattle.rules.specs.Words.{pick, Lent}
use Rattle.stations.specs.Slots.{Shown, slot_count, data_size, those_from, live_of, free_slot}
use Rattle.stations.specs.Calls.{buffers_right, store_right}
use Rattle.stations.specs.Given.{write_count}
use Rattle.stations.proofs.Midway.{free_not_live_of}
use Rattle.layout.specs.Numbers.{polls_most, writes_most}

pub allowed : (reply marks : Lent) (bytes : List ℕ) (allowance : ℕ) → (buffers_right reply marks && eqb (length bytes) data_size) ≡ true → store_right reply marks bytes allowance ≡ leb allowance polls_most
allowed reply marks bytes allowance e = ap (λ (b : Bool). b && leb allowance polls_most) e

those_most : (t : ℕ → Bool) (i n : ℕ) → length (those_from t i n) ≤ n
unfolding those_from
those_most t i zero = omega arith
those_most t i (suc n) = go (t i) (those_most t (suc i) n)
  where
    go : (b : Bool) → length (those_from t (suc i) n) ≤ n → length (pick b (i ∷ those_from t (suc i) n) (those_from t (suc i) n)) ≤ suc n
    go true h = omega arith
    go false h = omega arith

-- a number at which the test fails is none of them
those_fewer : (t : ℕ → Bool) (i n x : ℕ) → i ≤ x → x < i + n → t x ≡ false → length (those_from t i n) < n
unfolding those_from
those_fewer t i zero x a b e = absurd (omega arith)
those_fewer t i (suc n) x a b e = go (t i) refl (those_most t (suc i) n) (λ l. those_fewer t (suc i) n x l (omega arith) e)
  where
    go : (c : Bool) → t i ≡ c → length (those_from t (suc i) n) ≤ n → (suc i ≤ x → length (those_from t (suc i) n) < n)
        → length (pick c (i ∷ those_from t (suc i) n) (those_from t (suc i) n)) < suc n
    go true f m h =
        let other : (i ≡ x → ⊥) = λ q. true≢false (sym f ∙ ap t q ∙ e) in
        let k = h (omega arith) in
        omega arith
    go false f m h = omega arith

pub few_writes : (v : Shown) (n : ℕ) → free_slot v < slot_count → write_count v n ≤ writes_most
few_writes v n room = let h = those_fewer (live_of v n) 0 slot_count (free_slot v) (omega arith) (omega arith) (free_not_live_of v n room n) in omega arith
