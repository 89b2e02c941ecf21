-- What follows a write goes on from where it ends, if it is done. By induction over the polls. Assumes nothing.
use Prim.Native.Nat.{ℕ, zero, suc, ◌+◌}
use mathlib.Core.Path.{◌≡◌, refl, sym, ap}
use mathlib.Core.Bool.{Bool, true, false}
use mathlib.Core.List.{List, [], ◌∷◌}
use lib.Dec.{eqb}
use Rattle.rules.specs.Words.{bit, pick}
use Rattle.rules.specs.Numbers.{State}
use Rattle.rules.specs.Machine.{Outcome, completes, step, left}
use Rattle.stations.specs.Calls.{Script, ends, Ended, ended_of, played, short, on_done, arriving, polling, write}

-- a call that goes on with next where x is done
unfoldable pub continued : Ended → (ℕ → Script) → Ended
continued x next = pick (eqb x.number 0) (played x.state (next x.polls)) x

module _ (s : State) (n : ℕ) (o : Outcome) (now after : Script) (next : ℕ → Script) where
  pub done_then : (eqb o.number 0 ≡ true → played s after ≡ continued (played s now) next) → played s (on_done n o after) ≡ continued (played s (on_done n o now)) next
  unfolding played continued
  done_then f = go (eqb o.number 0) refl
    where
      go : (b : Bool) → eqb o.number 0 ≡ b → played s (pick b after (ends o.number n)) ≡ continued (played s (pick b now (ends o.number n))) next
      go true e = f e
      go false e = sym (ap (λ (b : Bool). pick b (played s (next n)) (ended_of o.number n s)) e)

pub arriving_then : (s : State) (b : Bool) (now after : Script) (next : ℕ → Script)
    → ((t : State) → played t after ≡ continued (played t now) next) → played s (arriving b after) ≡ continued (played s (arriving b now)) next
unfolding played
arriving_then s true now after next f = f (left (step s completes))
arriving_then s false now after next f = f s

pub polling_then : (s : State) (a p e n : ℕ) (next : ℕ → Script) → played s (polling a p e n next) ≡ continued (played s (polling a p e n (ends 0))) next
unfolding polling played continued
polling_then s zero p e n next = refl
polling_then s (suc a) p e n next =
    arriving_then s (eqb (suc p) e) _ _ next (λ t. let o = step t (short (0x05 ∷ [])) in done_then (left o) n o _ _ next (λ d. go (left o) (bit 0 (o.reply.byte 0)) (polling_then (left o) a (suc p) e n next)))
  where
    go : (t : State) (b : Bool) → played t (polling a (suc p) e n next) ≡ continued (played t (polling a (suc p) e n (ends 0))) next
        → played t (pick b (polling a (suc p) e n next) (next (n + suc p)))
        ≡ continued (played t (pick b (polling a (suc p) e n (ends 0)) (ends 0 (n + suc p)))) next
    go t true again = again
    go t false again = refl

pub write_then : (s : State) (a e : ℕ) (frame : List ℕ) (n : ℕ) (next : ℕ → Script)
    → played s (write a e frame n next) ≡ continued (played s (write a e frame n (ends 0))) next
unfolding write played
write_then s a e frame n next =
    let o = step s (short (0x06 ∷ [])) in
    done_then (left o) n o _ _ next (λ d.
    let q = step (left o) (short frame) in
    done_then (left q) n q _ _ next (λ c. polling_then (left q) a 0 e n next))
