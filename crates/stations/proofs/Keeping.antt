-- What a store leaves of the list, done or refused: the list at its end is that of its completed writes, whose lookups are known. Assumes nothing.
use Prim.Native.Nat.{ℕ, ◌+◌, ◌<◌, ◌≤◌}
use mathlib.Core.Path.{◌≡◌, refl, sym, ap, ◌∙◌}
use mathlib.Core.List.{List}
use mathlib.Core.Logic.{◌⊎◌, inl, inr}
use native.Mathlib.Omega.{arith}
use lib.Dec.{ltb}
use lib.ListN.{length}
use Rattle.rules.specs.Words.{pick}
use Rattle.rules.specs.Numbers.{State}
use Rattle.rules.specs.Tears.{OfBytes}
use Rattle.stations.specs.Slots.{Shown, slot_count, data_size, found, bytes_of, free_slot}
use Rattle.stations.specs.Calls.{played, store_call}
use Rattle.stations.specs.Given.{store_account}
use Rattle.stations.specs.Keeping.{shown_at, after_writes, Storable, next_live_lem, OneOfItsOwn, StoreLeaves, Keeps, StoreKeeps, RefusedLeaves, StoreRefused, StoreStays}
use Rattle.stations.proofs.Midway.{lives_of}
use Rattle.stations.proofs.Same.{alike_found}
use Rattle.stations.proofs.Lookups.{after_others, after_before_mark, after_itself, after_all, after_own}
use Rattle.stations.proofs.Own.{own_same, own_alike}
use Rattle.stations.proofs.Stored.{none_written}
use Rattle.stations.proofs.Passing.{Written, store_ends, store_done, store_passes, written_list, written_found, written_stays}

module _ (s t : State) (n : ℕ) (bytes : List ℕ) (w : ℕ) (g : Written s n bytes w t) (small : OfBytes s.array) (right : Storable n bytes) where
  -- nothing written: every lookup is as before
  none_found : w ≡ 0 → (q : ℕ) → found (shown_at t) q ≡ found (shown_at s) q
  none_found z q =
      written_found s t n bytes w g small right q
      ∙ alike_found (shown_at s) (after_writes (shown_at s) n bytes w) q (λ p h. sym (none_written (shown_at s) n bytes p) ∙ ap (λ (w : ℕ). after_writes (shown_at s) n bytes w p) (sym z))

  pub written_others : (q : ℕ) → (q ≡ n → ⊥) → found (shown_at t) q ≡ found (shown_at s) q
  written_others q ne = go g.room
    where
      go : (w ≡ 0) ⊎ ((free_slot (shown_at s) < slot_count) × (length bytes ≡ data_size)) → found (shown_at t) q ≡ found (shown_at s) q
      go (inl z) = none_found z q
      go (inr e) = written_found s t n bytes w g small right q ∙ after_others (shown_at s) n bytes e.0 right e.1 w q ne

  -- the station itself
  pub written_own : OneOfItsOwn (shown_at s) (shown_at t) n bytes
  written_own = own_alike (shown_at s) n bytes after (shown_at t) (λ p h. sym (written_list s t n bytes w g small right p h)) (go g.room)
    where
      after : Shown
      after = after_writes (shown_at s) n bytes w

      go : (w ≡ 0) ⊎ ((free_slot (shown_at s) < slot_count) × (length bytes ≡ data_size)) → OneOfItsOwn (shown_at s) after n bytes
      go (inl z) =
          own_alike (shown_at s) n bytes (shown_at s) after (λ p h. sym (none_written (shown_at s) n bytes p) ∙ ap (λ (w : ℕ). after_writes (shown_at s) n bytes w p) (sym z))
          (own_same (shown_at s) n bytes (shown_at s) refl refl)
      go (inr e) = after_own (shown_at s) n bytes e.0 right e.1 w

  pub written_keeps : w ≡ 2 + length (lives_of (shown_at s) n) → Keeps s t n bytes
  written_keeps z = record { itself = written_found s t n bytes w g small right n ∙ go g.room; others = written_others }
    where
      go : (w ≡ 0) ⊎ ((free_slot (shown_at s) < slot_count) × (length bytes ≡ data_size)) → found (after_writes (shown_at s) n bytes w) n ≡ bytes
      go (inl y) = absurd (omega arith)
      go (inr e) = after_all (shown_at s) n bytes e.0 right e.1 w (omega arith)

  pub written_leaves : RefusedLeaves s t n bytes w
  written_leaves = record { before_mark = λ h q. before g.room h q; others = written_others; itself = λ h. written_found s t n bytes w g small right n ∙ itself g.room h }
    where
      before : (w ≡ 0) ⊎ ((free_slot (shown_at s) < slot_count) × (length bytes ≡ data_size)) → w < 2 → (q : ℕ) → found (shown_at t) q ≡ found (shown_at s) q
      before (inl z) h q = none_found z q
      before (inr e) h q = written_found s t n bytes w g small right q ∙ after_before_mark (shown_at s) n bytes e.0 right e.1 w h q

      itself : (w ≡ 0) ⊎ ((free_slot (shown_at s) < slot_count) × (length bytes ≡ data_size)) → 2 ≤ w
          → found (after_writes (shown_at s) n bytes w) n
          ≡ pick (ltb (free_slot (shown_at s)) (next_live_lem (shown_at s) n w)) bytes (bytes_of (shown_at s) (next_live_lem (shown_at s) n w) 4 data_size)
      itself (inl y) h = absurd (omega arith)
      itself (inr e) h = after_itself (shown_at s) n bytes e.0 right e.1 w h

-- ---- the theorems

pub store_leaves : StoreLeaves
store_leaves s reply marks n bytes allowance list small right p h =
    written_list s (played s (store_call reply marks n bytes allowance list)).state n bytes (store_account s reply marks n bytes allowance list).writes
    (store_ends s reply marks n bytes allowance list) small right p h

pub store_keeps : StoreKeeps
store_keeps s reply marks n bytes allowance list small right e =
    written_keeps s (played s (store_call reply marks n bytes allowance list)).state n bytes (store_account s reply marks n bytes allowance list).writes
    (store_ends s reply marks n bytes allowance list) small right (store_done s reply marks n bytes allowance list e)

pub store_refused : StoreRefused
store_refused s reply marks n bytes allowance list small right =
    written_leaves s (played s (store_call reply marks n bytes allowance list)).state n bytes (store_account s reply marks n bytes allowance list).writes
    (store_ends s reply marks n bytes allowance list) small right

pub store_stays : StoreStays
store_stays s t reply marks n bytes allowance list small among =
    let g = store_passes s reply marks n bytes allowance list t among in
    record { array = written_stays s t n bytes g.writes g.written small; security = g.written.security }
